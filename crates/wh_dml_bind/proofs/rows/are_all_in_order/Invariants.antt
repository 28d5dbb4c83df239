use Rattle.std.proofs.Common.{◌≡◌, drop, length}
use Rattle.wh_dml_bind.specs.View.{places_of}
use Rattle.wh_dml_bind.specs.Steps.{are_in_order}
use Rattle.wh_dml_bind.proofs.rows.are_all_in_order.Given as goal

abbrev pub invariant-loop-index : goal.invariant-loop-index
invariant-loop-index l =
    (are_in_order 0 (places_of l.places) ≡ are_in_order l.index (places_of (drop l.index l.places)))
    × (length l.places ≡ l.count)
