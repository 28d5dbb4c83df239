use Rattle.std.proofs.Common.{◌≡◌, ◌++◌, map, drop}
use Rattle.wh_state.specs.Edits.{edited}
use Rattle.wh_part.specs.View.{numbered_of}
use Rattle.wh_version.proofs.editing.edited.Given as goal

abbrev pub invariant-loop-entry : goal.invariant-loop-entry
invariant-loop-entry l = map numbered_of l.left.items ++ edited l.edits (map numbered_of (drop l.entry-index l.rows))
    ≡ edited l.edits (map numbered_of l.rows)
