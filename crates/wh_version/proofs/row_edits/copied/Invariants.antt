use Rattle.std.proofs.Common.{◌≡◌, take}
use Rattle.wh_version.proofs.row_edits.copied.Given as goal

abbrev pub invariant-loop-edit : goal.invariant-loop-edit
invariant-loop-edit l = l.copies.items ≡ take l.edit-index l.list
