use Rattle.std.proofs.Common.{◌≡◌, drop}
use Rattle.wh_naming.specs.Changes.{is_set_again}
use Rattle.wh_dml_bind.proofs.assignments.is_set_again.Given as goal

abbrev pub invariant-loop-part : goal.invariant-loop-part
invariant-loop-part l = is_set_again l.name (drop l.part-index l.parts) ≡ is_set_again l.name l.parts
