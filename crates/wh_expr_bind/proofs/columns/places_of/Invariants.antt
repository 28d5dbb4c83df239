use Rattle.std.proofs.Common.{◌≡◌, take, map}
use Rattle.wh_naming.specs.Scope.{width, places_of}
use Rattle.wh_expr_bind.specs.View.{entries_of, place_of}
use Rattle.wh_expr_bind.proofs.columns.places_of.Given as goal

abbrev pub invariant-loop-one : goal.invariant-loop-one
invariant-loop-one l = record {
  from : l.from ≡ width (entries_of (take l.one-index l.entries));
  places : map place_of l.places.items ≡ places_of l.entry l.name 0 (entries_of (take l.one-index l.entries));
}
