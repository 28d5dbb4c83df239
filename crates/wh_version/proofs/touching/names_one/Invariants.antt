use Rattle.std.proofs.Common.{◌≡◌, is_some, drop}
use Rattle.std.specs.List.{list_any}
use Rattle.std.specs.FinMap.{get}
use Rattle.wh_version.proofs.touching.names_one.Given as goal

abbrev pub invariant-loop-entry : goal.invariant-loop-entry
invariant-loop-entry l = list_any (λ e. is_some (get l.edits e.number)) (drop l.entry-index l.rows)
    ≡ list_any (λ e. is_some (get l.edits e.number)) l.rows
