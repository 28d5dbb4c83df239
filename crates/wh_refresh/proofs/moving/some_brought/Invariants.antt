use Rattle.std.proofs.Common.{◌≡◌, List, drop}
use Rattle.std.specs.Prelude.{is_some}
use Rattle.std.specs.List.{list_any}
use Rattle.wh_state.specs.Stored.{StoredObject}
use Rattle.wh_machine.specs.Refresh.{Brought}
use Rattle.wh_machine.specs.Brought.{edits_sought}
use Rattle.wh_refresh.specs.Brought.{AreBrought}
use Rattle.wh_refresh.proofs.moving.some_brought.Given as goal

abbrev pub invariant-loop-id : goal.invariant-loop-id
invariant-loop-id l = (stored : List StoredObject) (bs : List Brought) → AreBrought stored l.brought bs
    → list_any (λ id. is_some (edits_sought id bs)) (drop l.id-index l.ids)
    ≡ list_any (λ id. is_some (edits_sought id bs)) l.ids
