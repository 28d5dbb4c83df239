use Rattle.std.proofs.Common.{Some, sym, ap, ◌∙◌}
use Rattle.std.specs.Prelude.{option_map}
use Rattle.wh_naming.specs.View.{named_of}
use Rattle.wh_decide.proofs.LookupLaws.{not_named, not_lost, is_named_so}
use Rattle.wh_decide.proofs.names.live_object.Goals as goal

pub returns-in_err-id : goal.returns-in_err-id
returns-in_err-id c =
    ap (option_map named_of) c.from_residual.ensures
    ∙ sym (not_named c.args.catalog.now c.args.name.now (rw c.as_bytes.ensures.value at c.in_err-id.ensures))

pub returns-in_err-object : goal.returns-in_err-object
returns-in_err-object c =
    absurd (not_lost c.args.catalog.now c.args.name.now c.in_ok-id.id
    (rw c.as_bytes.ensures.value at c.in_ok-id.ensures) c.in_err-object.ensures.object)

pub returns : goal.returns
returns c =
    ap Some c.named.ensures
    ∙ sym (is_named_so c.args.catalog.now c.args.name.now c.in_ok-id.id c.in_ok-object.object.now
    (rw c.as_bytes.ensures.value at c.in_ok-id.ensures) c.in_ok-object.ensures.object)
