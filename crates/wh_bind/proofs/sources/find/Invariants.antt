use Rattle.std.proofs.Common.{◌≡◌, map, drop}
use Rattle.wh_naming.specs.Scope.{named}
use Rattle.wh_naming.specs.View.{named_of}
use Rattle.wh_bind.proofs.sources.find.Given as goal

abbrev pub invariant-loop-object : goal.invariant-loop-object
invariant-loop-object l =
    named (map named_of (drop l.object-index l.names)) l.name ≡ named (map named_of l.names) l.name
