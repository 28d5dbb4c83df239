use Rattle.std.proofs.Common.{◌≡◌}
use Rattle.std.specs.Vec.Iter.{into_iter_items, into_iter_len}
use Rattle.wh_fetch.specs.DiskFetch.{told_of, damage_of, faults_of, IsRight, GoesOn}
use Rattle.wh_filed.specs.Filed.{AllShown}
use Rattle.wh_catalog.specs.Catalog.{stored_of, state_of, filed_of}
use Rattle.wh_txn.specs.Recording.{AreRead}
use Rattle.wh_txn.proofs.VersionLemmas.{VersionsSoFar}
use Rattle.wh_txn.proofs.recording.versions.Given as goal

abbrev pub invariant-loop-one : goal.invariant-loop-one
invariant-loop-one g l = record {
  right : IsRight g.D.Disk l.fetch;
  versions : VersionsSoFar (AllShown (told_of g.D.Disk l.fn.fetch) (filed_of l.catalog)) l.stamp
      (stored_of l.catalog).objects (state_of l.catalog).objects l.fn.touched.items
      (into_iter_items l.one-iterator) (into_iter_len l.one-iterator) l.changes.items;
  read : AreRead l.changes.items;
  same : told_of g.D.Disk l.fetch ≡ told_of g.D.Disk l.fn.fetch;
  sound : AllShown (told_of g.D.Disk l.fn.fetch) (filed_of l.catalog) → damage_of l.fetch ≡ damage_of l.fn.fetch;
  goes : GoesOn g.D.Disk l.fn.fetch l.fetch;
  counted : faults_of g.D.Disk l.fetch ≡ faults_of g.D.Disk l.fn.fetch;
}
