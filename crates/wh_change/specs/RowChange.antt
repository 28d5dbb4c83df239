-- What a `RowChange` stands for.
use Rattle.std.specs.Prelude.{List, map}
use Rattle.wh_net.specs.Net as streams
use Rattle.wh_change.specs.declared.row_change.RowAction.{RowAction}
use Rattle.wh_change.specs.declared.row_change.RowAction.TheVariants.{Delete, Insert}
use Rattle.wh_change.specs.declared.row_change.RowChange.{RowChange}

abbrev pub action_of : RowAction → streams.RowAction
action_of Delete = streams.Delete
action_of Insert = streams.Insert

abbrev pub row_change_of : RowChange → streams.RowChange
row_change_of r = record {
  number = r.number;
  action = action_of r.action;
  is_update = r.is_update;
  row = r.row.now;
}

abbrev pub row_changes_of : List RowChange → List streams.RowChange
row_changes_of records = map row_change_of records
