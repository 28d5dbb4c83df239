use Rattle.std.proofs.Common.{◌≡◌, take}
use Rattle.wh_fetch.specs.DiskFetch.{told_of, faults_of, damage_of, IsRight, GoesOn}
use Rattle.wh_change.specs.Appended.{arrivals_at, arrived_of, EachShown}
use Rattle.wh_change.proofs.arriving.load_each.Given as goal

abbrev pub invariant-loop-arrivals : goal.invariant-loop-arrivals
invariant-loop-arrivals g l = record {
  right : IsRight g.D.Disk l.fetch;
  loaded : EachShown (told_of g.D.Disk l.fn.fetch) l.later
      → arrived_of l.found.items ≡ arrivals_at (take l.arrivals-index l.later);
  sound : EachShown (told_of g.D.Disk l.fn.fetch) l.later → damage_of l.fetch ≡ damage_of l.fn.fetch;
  same : told_of g.D.Disk l.fetch ≡ told_of g.D.Disk l.fn.fetch;
  goes : GoesOn g.D.Disk l.fn.fetch l.fetch;
  counted : faults_of g.D.Disk l.fetch ≡ faults_of g.D.Disk l.fn.fetch;
}
