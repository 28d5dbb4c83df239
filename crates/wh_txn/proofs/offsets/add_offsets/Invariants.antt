use Rattle.std.proofs.Common.{◌≡◌, ◌++◌, drop, map}
use Rattle.wh_record.specs.View.{change_of}
use Rattle.wh_machine.specs.Offsets.{offset_moves}
use Rattle.wh_catalog.specs.Catalog.{state_of}
use Rattle.wh_txn.specs.Recording.{offsets_written}
use Rattle.wh_txn.proofs.offsets.add_offsets.Given as goal

abbrev pub invariant-loop-id : goal.invariant-loop-id
invariant-loop-id l =
    map change_of l.changes.items
    ++ offsets_written (offset_moves (state_of l.catalog).objects l.start (drop l.id-index l.streams))
    ≡ map change_of l.initial.changes.items
    ++ offsets_written (offset_moves (state_of l.catalog).objects l.start l.streams)
