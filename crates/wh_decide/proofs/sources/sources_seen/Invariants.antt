use Rattle.std.proofs.Common.{◌≡◌, take, map, is_some}
use Rattle.wh_fetch.specs.DiskFetch.{told_of, faults_of, damage_of, IsRight, GoesOn}
use Rattle.wh_filed.specs.Filed.{AreAmong}
use Rattle.wh_state.specs.Objects.{stream_at}
use Rattle.wh_catalog.specs.Catalog.{stored_of, filed_of}
use Rattle.wh_machine.specs.Reading.{instance_read, start_in}
use Rattle.wh_decide.specs.Sight.{machine_in, IsShown}
use Rattle.wh_decide.specs.Sources.{bags_seen, filed_seen, is_stream}
use Rattle.wh_decide.specs.Asked.{AsksForMoved}
use Rattle.wh_decide.proofs.sources.sources_seen.Given as goal

abbrev pub invariant-loop-id : goal.invariant-loop-id
invariant-loop-id g l = record {
  right : IsRight g.D.Disk l.fetch;
  seen : IsShown (told_of g.D.Disk l.fn.fetch) l.sight
      → bags_seen l.seen.items ≡ instance_read (machine_in l.sight) l.sight.session (take l.id-index l.ids);
  among : AreAmong (filed_seen l.seen.items) (filed_of l.sight.catalog.now);
  streams : map is_stream l.seen.items
      ≡ map (λ id. is_some (stream_at (stored_of l.sight.catalog.now).objects id)) (take l.id-index l.ids);
  asks : AsksForMoved l.sight.catalog.now (start_in (machine_in l.sight) l.sight.session) l.ids
      l.fn.fetch.asked.items l.fetch.asked.items;
  sound : IsShown (told_of g.D.Disk l.fn.fetch) l.sight → damage_of l.fetch ≡ damage_of l.fn.fetch;
  same : told_of g.D.Disk l.fetch ≡ told_of g.D.Disk l.fn.fetch;
  goes : GoesOn g.D.Disk l.fn.fetch l.fetch;
  counted : faults_of g.D.Disk l.fetch ≡ faults_of g.D.Disk l.fn.fetch;
}
