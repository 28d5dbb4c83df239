use Rattle.std.proofs.Common.{◌≡◌, drop}
use Rattle.wh_naming.specs.Changes.{names_again}
use Rattle.wh_dml_bind.proofs.places.comes_again.Given as goal

abbrev pub invariant-loop-other : goal.invariant-loop-other
invariant-loop-other l = names_again l.name (drop l.other-index l.names) ≡ names_again l.name l.names
