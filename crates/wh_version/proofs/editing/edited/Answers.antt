use Rattle.std.proofs.Common.{map, refl}
use Rattle.wh_state.specs.Edits.{edited, edited_row}
use Rattle.wh_part.specs.View.{numbered_of}
use Rattle.wh_version.proofs.Steps.{one_on, all_on}
use Rattle.wh_version.proofs.editing.edited.Goals as goal

pub loop-entry-preserved : goal.loop-entry-preserved
loop-entry-preserved c =
    let edits = c.args.edits.now in
    let rows = c.args.rows.now in
    let at = c.loop-entry in
    one_on (λ e. edited_row edits (numbered_of e)) (λ es. edited edits (map numbered_of es)) (λ e es. refl)
    rows at.entry-index c.entry-item.result
    (map numbered_of at.left.items) (map numbered_of c.add_edited.new.left.items) (edited edits (map numbered_of rows))
    c.loop-entry-test.true c.entry-item.is c.in_ok-add_edited.ensures at.invariant

pub returns : goal.returns
returns c =
    let edits = c.args.edits.now in
    let rows = c.args.rows.now in
    let at = c.loop-entry in
    all_on (λ e. edited_row edits (numbered_of e)) (λ es. edited edits (map numbered_of es)) refl
    rows at.entry-index (map numbered_of at.left.items)
    (edited edits (map numbered_of rows)) c.loop-entry-test.false at.invariant
