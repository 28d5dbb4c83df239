use Rattle.std.proofs.Common.{Option, Err, sym, subst}
use Rattle.std.proofs.lemmas.Result.{err_from_is_err_and}
use Rattle.wh_filed.specs.Filed.{loaded_of}
use Rattle.wh_meaning.specs.Bag.{Bag}
use Rattle.wh_exec.specs.Sink.{Pours}
use Rattle.wh_exec.proofs.PartLaws.{meant, meant-behind}
use Rattle.wh_exec.proofs.SinkLaws.{pours_first, pours_on}
use Rattle.wh_exec.proofs.pouring.pour_at_hand.Goals as goal

pub returns-in_err-pour_loaded : goal.returns-in_err-pour_loaded
returns-in_err-pour_loaded g c =
    let parts = c.args.parts.now in
    let steps = c.args.steps.now in
    let p = err_from_is_err_and c.from_residual.result c.from_residual.ensures.1 in
    rw (p.1, p.2) (subst (λ (found : Option Bag). Pours (Err c.in_err-pour_loaded.field-0.0) c.args.sink.now
    c.pour_loaded.new.sink found)
    (sym (meant-behind steps (loaded_of parts.loaded.now) parts.made.now))
    (pours_first _ _ _ (meant steps parts.made.now) _ c.in_err-pour_loaded.ensures))

pub returns : goal.returns
returns g c =
    let parts = c.args.parts.now in
    let steps = c.args.steps.now in
    subst (λ (found : Option Bag). Pours c.pour_parts.result c.args.sink.now c.pour_parts.new.sink found)
    (sym (meant-behind steps (loaded_of parts.loaded.now) parts.made.now))
    (pours_on _ _ _ _ _ c.pour_parts.result c.in_ok-pour_loaded.ensures c.pour_parts.ensures)
