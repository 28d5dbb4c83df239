use Rattle.std.proofs.Common.{◌≡◌, ℕ, List, take}
use Rattle.wh_state.specs.Stored.{first_stored, Means}
use Rattle.wh_catalog.specs.Catalog.{stored_of, state_of, filed_of}
use Rattle.wh_engine.specs.Replay.{IsListed, Replays, ShowsListed, OnlyReads}
use Rattle.wh_engine.proofs.replay.replay.Given as goal

abbrev pub invariant-loop-at : goal.invariant-loop-at
invariant-loop-at g l = record {
  replayed : (payloads : List (List ℕ)) → IsListed (g.D.Disk.bytes l.initial.disk) l.journal payloads
      → Replays first_stored (take l.at payloads) (stored_of l.catalog);
  shown : ShowsListed (g.D.Disk.bytes l.initial.disk) l.journal (filed_of l.catalog);
  means : Means (stored_of l.catalog) (state_of l.catalog);
  reads : OnlyReads g.D.Disk l.initial.disk l.disk;
  no_fault : g.D.Disk.faults l.disk ≡ g.D.Disk.faults l.initial.disk;
}
