use Rattle.std.proofs.Common.{◌≡◌, take}
use Rattle.wh_naming.specs.Scope.{width}
use Rattle.wh_expr_bind.specs.View.{entries_of}
use Rattle.wh_expr_bind.proofs.entries.width.Given as goal

abbrev pub invariant-loop-entry : goal.invariant-loop-entry
invariant-loop-entry l = l.width ≡ width (entries_of (take l.entry-index l.entries))
