use Rattle.std.proofs.Common.{◌≡◌}
use Rattle.wh_catalog.specs.Catalog.{objects_of, filed_of}
use Rattle.wh_catalog.proofs.catalog.Catalog.settle.Given as goal

abbrev pub invariant-loop-step : goal.invariant-loop-step
invariant-loop-step l = record {
  objects : objects_of l.self ≡ objects_of l.initial.self;
  filed : filed_of l.self ≡ filed_of l.initial.self;
  last : l.self.last ≡ l.initial.self.last;
  committed : l.self.committed ≡ l.initial.self.committed;
}
