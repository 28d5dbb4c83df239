-- Groups that are formed of pieces of rows, and then joined.
--     GroupsPiece     the groups of a piece; out of range only where the groups of more rows have no meaning
--     ArePieces       the groups of pieces that side by side are the rows, in order
use Rattle.std.specs.Prelude.{◌≡◌, List, Result, Ok, Err, None}
use Rattle.std.specs.List.{AllZip, flat_map}
use Rattle.wh_value.specs.Value.{Row}
use Rattle.wh_meaning.specs.Scalar.{Scalar}
use Rattle.wh_meaning.specs.Bag.{bag_of, plus}
use Rattle.wh_meaning.specs.Query.{Call, grouped}
use Rattle.wh_scalar.specs.declared.fault.EvalFault.{EvalFault}
use Rattle.wh_scalar.specs.declared.fault.EvalFault.TheVariants.{NumberOutOfRange, OutOfMemory}
use Rattle.wh_algebra.specs.declared.tuple.Tuple.{Tuple}
use Rattle.wh_algebra.specs.Tuple.{rows_in}
use Rattle.wh_aggregate.specs.declared.groups.Groups.{Groups}
use Rattle.wh_aggregate.specs.Groups.{AreOver}

abbrev pub GroupsPiece : List Scalar → List Call → List Tuple → Result Groups EvalFault → Type 0
GroupsPiece by calls tuples (Ok groups) = AreOver by calls (bag_of (rows_in tuples)) groups
GroupsPiece by calls tuples (Err NumberOutOfRange) = (more : List Row)
    → grouped by calls (plus (bag_of more) (bag_of (rows_in tuples))) ≡ None
GroupsPiece by calls tuples (Err OutOfMemory) = Unit {0}

abbrev pub ArePieces : List Scalar → List Call → List Tuple → List (Result Groups EvalFault) → Type 0
ArePieces by calls tuples found = (pieces : List (List Tuple))
    × (flat_map (λ piece. piece) pieces ≡ tuples) × AllZip (GroupsPiece by calls) pieces found
