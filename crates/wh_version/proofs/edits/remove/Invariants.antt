use Rattle.std.proofs.Common.{◌≡◌, ◌++◌, map, take}
use Rattle.wh_version.specs.RowEdits.{entries_in, removal_of}
use Rattle.wh_version.proofs.edits.remove.Given as goal

abbrev pub invariant-loop-number : goal.invariant-loop-number
invariant-loop-number l = entries_in l.list.items
    ≡ entries_in l.initial.list.items ++ map removal_of (take l.number-index l.removed)
