use Rattle.std.proofs.Common.{◌≡◌, take}
use Rattle.wh_moment.specs.Upstream.{dynamics_of}
use Rattle.wh_dynamic.specs.View.{dynamics_in}
use Rattle.wh_refresh.specs.Objects.{objects_in}
use Rattle.wh_refresh.proofs.objects.watched.Given as goal

abbrev pub invariant-loop-object : goal.invariant-loop-object
invariant-loop-object l = dynamics_in l.all.items ≡ dynamics_of (objects_in (take l.object-index l.objects))
