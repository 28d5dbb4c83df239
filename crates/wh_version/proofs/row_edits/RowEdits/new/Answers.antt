use Rattle.std.proofs.Common.{◌∙◌, ap}
use Rattle.std.specs.FinMap.{from_sorted}
use Rattle.wh_version.specs.RowEdits.{entries_in}
use Rattle.wh_version.proofs.EditMaps.{none_listed}
use Rattle.wh_version.proofs.row_edits.RowEdits.new.Goals as goal

pub returns : goal.returns
returns c = ap (λ l. from_sorted (entries_in l)) c.new.ensures.items ∙ none_listed
