-- What evaluation gives.
--     Evaluates       what a fallible evaluation gives: rows of the bag that is meant, or the fault where there is none
--     Adds            the same, where the rows are added to rows that are there
use Rattle.std.specs.Prelude.{◌≡◌, List, Option, Some, Result, Ok, Err, Vec}
use Rattle.std.specs.Global.{Global}
use Rattle.wh_meaning.specs.Bag.{Bag, bag_of, beside}
use Rattle.wh_scalar.specs.declared.fault.EvalFault.{EvalFault}
use Rattle.wh_algebra.specs.declared.tuple.Tuple.{Tuple}
use Rattle.wh_algebra.specs.Tuple.{rows_in}
use Rattle.wh_aggregate.specs.Given.{IsFaultOf}

abbrev pub Evaluates : Result (Vec Tuple Global) EvalFault → Option Bag → Type 0
Evaluates (Ok tuples) meant = meant ≡ Some (bag_of (rows_in tuples.items))
Evaluates (Err fault) meant = IsFaultOf fault meant

abbrev pub Adds : Result (Unit {0}) EvalFault → List Tuple → List Tuple → Option Bag → Type 0
Adds (Ok done) before after meant = beside (Some (bag_of (rows_in before))) meant ≡ Some (bag_of (rows_in after))
Adds (Err fault) before after meant = IsFaultOf fault meant
