use Rattle.wh_version.proofs.EditMaps.{none_when}
use Rattle.wh_version.proofs.row_edits.RowEdits.is_empty.Goals as goal

pub returns : goal.returns
returns c =
    none_when c.self.inside.list.items c.self.inside.list.len c.is_empty.result _ c.self.inside.list.ok.0
    c.is_empty.ensures c.self.view_is
