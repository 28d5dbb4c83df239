-- The Group of a query, as the code has it.
use Rattle.wh_algebra.specs.View.{query_of, scalars_of, calls_of}
use Rattle.wh_maintenance.specs.Above as machine
use Rattle.wh_group.specs.declared.grouping.Grouping.{Grouping}

abbrev pub grouping_in : Grouping → machine.Grouping
grouping_in g = record { below = query_of g.below.now; by = scalars_of g.by.now; calls = calls_of g.calls.now }
