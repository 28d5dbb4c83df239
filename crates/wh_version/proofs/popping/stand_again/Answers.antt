use Rattle.std.proofs.Common.{◌≡◌, ◌++◌, ◌∙◌, ap, sym, map, take, drop, set, get_or, append-nil}
use Rattle.std.proofs.lemmas.List.{take_all, drop_all}
use Rattle.wh_version.specs.Lasting.{stands_again}
use Rattle.wh_version.proofs.Popped.{changed_more}
use Rattle.wh_version.proofs.popping.stand_again.Goals as goal

pub loop-one-preserved : goal.loop-one-preserved
loop-one-preserved c =
    let kept = c.args.kept.now in
    let i = c.loop-one.one-index in
    let f = stands_again c.args.place in
    let one = c.one-item.result in
    let before = c.loop-one.invariant in
    let here : one ≡ get_or (map f (take i kept) ++ drop i kept) i one =
    c.one-item.is ∙ ap (λ ks. get_or ks i one) before in
    (λ j. set (before j) i ((c.stand_again.ensures ∙ ap f (sym c.one-item.is)) j))
    ∙ changed_more f kept i one c.loop-one-test.true here

pub returns : goal.returns
returns c =
    let kept = c.args.kept.now in
    let i = c.loop-one.one-index in
    c.loop-one.invariant
    ∙ (λ j. map (stands_again c.args.place) (take_all i kept c.loop-one-test.false j)
    ++ drop_all i kept c.loop-one-test.false j)
    ∙ append-nil _
