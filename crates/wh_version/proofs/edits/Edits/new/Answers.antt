use Rattle.std.proofs.Common.{◌≡◌, ◌++◌, ◌∙◌, ap, map}
use Rattle.std.specs.FinMap.{empty}
use Rattle.wh_state.specs.Edits.{with_removed, with_changed}
use Rattle.wh_state.specs.Edits.{edits_from}
use Rattle.wh_part.specs.View.{numbered_of}
use Rattle.wh_version.specs.RowEdits.{entries_in, put_all, removal_of, change_of}
use Rattle.wh_version.proofs.EditMaps.{put_in_turn}
use Rattle.wh_version.proofs.edits.Edits.new.Goals as goal

pub returns : goal.returns
unfolding edits_from
returns c =
    let removed = c.args.removed.now in
    let changed = c.args.changed.items in
    let list : entries_in c.change.new.list.items ≡ map removal_of removed ++ map change_of changed =
    c.in_ok-change.ensures ∙ ap (λ l. l ++ map change_of changed)
    (c.in_ok-remove.ensures ∙ ap (λ l. entries_in l ++ map removal_of removed) c.in_ok-list.ensures.items) in
    let rows : c.in_ok-rows.rows ≡ with_changed (with_removed empty removed) (map numbered_of changed) =
    c.in_ok-rows.ensures ∙ ap (put_all empty) list ∙ put_in_turn empty removed changed in
    λ i. record { rows = rows i; added = c.args.added.items }
