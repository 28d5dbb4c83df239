use Rattle.std.proofs.Common.{length}
use Rattle.wh_version.proofs.row_edits.RowEdits.+of.Given as goal

abbrev pub decreases-of : goal.decreases-of
decreases-of a = length a.list.items
