use Rattle.std.proofs.Common.{◌≡◌, ◌++◌, take}
use Rattle.wh_ddl_naming.specs.Names.{names_at}
use Rattle.wh_ddl_naming.proofs.names.add_all.Given as goal

abbrev pub invariant-loop-name : goal.invariant-loop-name
invariant-loop-name l = names_at l.names.items ≡ names_at l.initial.names.items ++ take l.name-index l.more
