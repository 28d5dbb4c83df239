-- SELECT, but for what it reads.
--     table_bag          the rows of a table, each as often as it stands
--     listing_of         its outcome: its rows in the order that it asks for
use Rattle.std.specs.Prelude.{Option, Some, None}
use Rattle.std.specs.FinMap.{values}
use Rattle.wh_meaning.specs.Bag.{Bag, no_rows, bag_of}
use Rattle.wh_meaning.specs.Listing.{listed}
use Rattle.wh_naming.specs.Select.{BoundSelect}
use Rattle.wh_reply.specs.Reply.{NumberOutOfRange, Listing}
use Rattle.wh_state.specs.State.{Table, last_rows}
use Rattle.wh_machine.specs.Outcome.{Machine, Outcome, Refuses, answers}

abbrev pub table_bag : Option Table → Bag
table_bag None = no_rows
table_bag (Some t) = bag_of (values (last_rows t))

abbrev pub listing_of : Machine → BoundSelect → Option Bag → Outcome
listing_of m b None = Refuses NumberOutOfRange
listing_of m b (Some rows) = answers m (Listing b.names (listed b.keys rows))
