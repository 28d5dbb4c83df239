use Rattle.std.proofs.Common.{sym, ap, ◌∙◌}
use Rattle.std.specs.Prelude.{is_some}
use Rattle.wh_delta.proofs.Places.{only_more, only_less}
use Rattle.wh_delta.proofs.moved.sift.Goals as goal

pub returns-in_default : goal.returns-in_default
returns-in_default c = λ seen so. only_more seen _ _ _ c.args.one so
    (sym c.place_of.ensures ∙ ap is_some c.in_default.is) c.in_ok-push.ensures.items

pub returns : goal.returns
returns c = λ seen so. only_less seen _ _ c.args.one so (sym c.place_of.ensures ∙ ap is_some c.in-Some.is)
