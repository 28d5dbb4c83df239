use Rattle.std.proofs.Common.{◌≡◌, map, take}
use Rattle.wh_net.specs.Stream.{shown_row}
use Rattle.wh_change.specs.RowChange.{row_changes_of}
use Rattle.wh_stream.proofs.rows.shown_rows.Given as goal

abbrev pub invariant-loop-record : goal.invariant-loop-record
invariant-loop-record l = l.rows.items ≡ map (shown_row l.source) (row_changes_of (take l.record-index l.records))
