use Rattle.std.proofs.Common.{ap, ◌∙◌, List, []}
use Rattle.std.proofs.lemmas.Result.{IfOk-weaker}
use Rattle.wh_value.specs.Value.{Row}
use Rattle.wh_meaning.specs.Bag.{Bag, bag_of}
use Rattle.wh_meaning.specs.Listing.{listed}
use Rattle.wh_refresh.proofs.WalkLaws.{bag_expanded, same_excess}
use Rattle.wh_refresh.proofs.rebase.come.Goals as goal

pub returns : goal.returns
returns c =
    let new = c.args.new.now in
    let kept = c.args.kept.now in
    let plus : Bag = c.in_ok-more.more.plus in
    IfOk-weaker c.listed.result _ _ (λ rows is left excess. is
    ∙ ap (λ (l : List Row). listed [] (bag_of l)) c.in_ok-rows.ensures
    ∙ ap (listed []) (bag_expanded plus ∙ same_excess new kept plus left c.in_ok-more.ensures.added excess))
    c.listed.ensures
