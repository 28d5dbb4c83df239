use Rattle.std.proofs.Common.{◌≡◌, ◌+◌, ◌-◌, ◌++◌, length, take}
use Rattle.wh_state.specs.Edits.{made_of}
use Rattle.wh_version.proofs.ByRows.{turned}
use Rattle.wh_version.proofs.Left.{lefts}
use Rattle.wh_version.proofs.editing.left.Given as goal

abbrev pub invariant-loop-done : goal.invariant-loop-done
invariant-loop-done l = l.left.items ++ made_of (l.next + length l.left.items)
    (lefts l.edits (turned (take (l.count - l.done) l.sorted))) ≡ made_of l.next (lefts l.edits (turned l.sorted))
