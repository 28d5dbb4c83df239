use Rattle.std.proofs.Common.{◌≡◌, map, drop}
use Rattle.wh_ddl_naming.specs.Objects.{root_of}
use Rattle.wh_ddl_bind.specs.View.{root_in}
use Rattle.wh_ddl_bind.proofs.names.root_of.Given as goal

abbrev pub invariant-loop-listed : goal.invariant-loop-listed
invariant-loop-listed l =
    root_of (map root_in (drop l.listed-index l.roots)) l.task ≡ root_of (map root_in l.roots) l.task
