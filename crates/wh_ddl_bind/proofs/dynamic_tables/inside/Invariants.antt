use Rattle.std.proofs.Common.{◌≡◌, map, take}
use Rattle.wh_naming.specs.View.{named_of}
use Rattle.wh_ddl_naming.specs.DynamicTables.{inside}
use Rattle.wh_ddl_bind.proofs.dynamic_tables.inside.Given as goal

abbrev pub invariant-loop-object : goal.invariant-loop-object
invariant-loop-object l = map named_of l.seen.items ≡ map inside (map named_of (take l.object-index l.objects))
