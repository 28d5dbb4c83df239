use Rattle.std.proofs.Common.{◌≡◌, ◌∙◌, ap, subst}
use Rattle.std.specs.FinMap.{entries, entries_sorted}
use Rattle.std.specs.Result.{IfOk}
use Rattle.wh_version.specs.RowEdits.{put_all}
use Rattle.wh_version.proofs.RisingEdits.{is_true}
use Rattle.wh_version.proofs.EditMaps.{put_below}
use Rattle.wh_version.proofs.row_edits.RowEdits.with_later.Goals as goal

pub returns : goal.returns
returns c =
    let later = entries c.args.later in
    let same = ap (put_all c.args.self) c.below.ensures
    ∙ put_below c.args.next_row c.args.self later (is_true _ (entries_sorted c.args.later)) in
    subst (λ m. IfOk c.with_all.result (λ edits. edits ≡ m)) same c.with_all.ensures
