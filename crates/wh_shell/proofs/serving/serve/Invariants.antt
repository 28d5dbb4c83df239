use Rattle.std.proofs.Common.{◌≡◌, ◌≤◌, ◌-◌, ◌^◌, None}
use Rattle.std.specs.Prelude.{option_map}
use Rattle.wh_text.specs.Script.{consumed_of, fault_of, Counts}
use Rattle.wh_shell.specs.Events.{events}
use Rattle.wh_shell.specs.Open.{StaysOpen}
use Rattle.wh_shell.specs.Point.{point_of}
use Rattle.wh_shell.specs.Reading.{unread, awaited}
use Rattle.wh_shell.specs.Serving.{Goes}
use Rattle.wh_shell.specs.Ticking.{TakesSoFar}
use Rattle.wh_shell.specs.Timing.{timing_of, timed}
use Rattle.wh_shell.specs.World.{world_of, IsLater}
use Rattle.wh_shell.proofs.serving.serve.Given as goal

abbrev pub invariant-turns : goal.invariant-turns
invariant-turns g l = record {
  goes : Goes g.D.Disk g.K.Sink
      (point_of l.fn.warehouse (timed (timing_of l.fn.system (g.C.Clock.readings l.fn.clock))
      (option_map events (g.S.Source.left l.fn.script))) l.fn.script l.fn.out)
      (point_of l.warehouse (awaited l.fn.system (g.C.Clock.readings l.clock) l.reader (g.S.Source.left l.script))
      l.script l.out) l.refused;
  few : l.refused ≤ consumed_of l.reader.script;
  fault : fault_of l.reader.script ≡ None;
  ready : StaysOpen l.fn.warehouse l.warehouse;
  counts : Counts l.initial.reader.script l.reader.script (g.S.Source.left l.fn.script) (g.S.Source.left l.script);
  later : IsLater g.D.Disk g.S.Source g.K.Sink (world_of l.fn.warehouse.fetch.disk l.fn.script l.fn.out)
      (world_of l.warehouse.fetch.disk l.script l.out);
  clock : TakesSoFar g.C.Clock l.fn.system (option_map events (g.S.Source.left l.fn.script))
      (unread l.reader (g.S.Source.left l.script)) l.fn.clock l.clock;
}

-- each turn that answers uses some byte, and there are at most 2^30 and those of one read
abbrev pub decreases-turns : goal.decreases-turns
decreases-turns g l = 2 ^ 31 - consumed_of l.reader.script
