use Rattle.std.proofs.Common.{◌≡◌, ◌+◌, ◌++◌, drop}
use Rattle.wh_state.specs.Edits.{added_left}
use Rattle.wh_version.proofs.amending.added_left.Given as goal

abbrev pub invariant-loop-place : goal.invariant-loop-place
invariant-loop-place l =
    l.left.items ++ added_left (l.next_row + l.place) l.edits (drop l.place l.added)
    ≡ added_left l.next_row l.edits l.added
