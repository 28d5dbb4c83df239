use Rattle.std.proofs.Common.{◌≡◌, List, map, take, drop}
use Rattle.wh_reply.specs.View.{refreshed_view}
use Rattle.wh_machine.specs.Refresh.{Brought, told_of}
use Rattle.wh_refresh.specs.Objects.{objects_in, stored_in}
use Rattle.wh_refresh.specs.Brought.{AreBrought, SaidSoFar}
use Rattle.wh_refresh.proofs.writing.lines.Given as goal

abbrev pub invariant-loop-one : goal.invariant-loop-one
invariant-loop-one l = record {
  lines : (bs : List Brought) → AreBrought (stored_in l.objects) l.all bs
      → SaidSoFar (stored_in l.objects) (drop l.one-index l.all) (map refreshed_view l.lines.items)
      (map (told_of (objects_in l.objects) l.moment)) bs;
  actions : map (λ line. line.action) l.lines.items ≡ map (λ one. one.action) (take l.one-index l.all);
}
