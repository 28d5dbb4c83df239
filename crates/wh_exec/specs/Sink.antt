-- What a sink holds and answers, and what pouring rows into it does.
--     Shape, shape_of     of a list of rows nothing, of groups their keys and calls
--     answer              what a sink of a shape answers once rows went into it
--     Has                 rows that went into a sink
--     Takes               rows that are meant went into it too
--     Lacks               rows that are meant are undefined, or so is the answer, whichever rows follow
--     Pours               what pouring rows into it gives
--     FeedsAs, Feeds      the same where None is answered for rows that are undefined, and where rows are read first
use Rattle.std.specs.Prelude.{◌≡◌, List, Option, Some, None, Result, Ok, Err}
use Rattle.wh_meaning.specs.Scalar.{Scalar, of_one}
use Rattle.wh_meaning.specs.Bag.{Bag, bag_of, beside}
use Rattle.wh_meaning.specs.Query.{Call, grouped}
use Rattle.wh_scalar.specs.declared.fault.EvalFault.{EvalFault}
use Rattle.wh_scalar.specs.declared.fault.EvalFault.TheVariants as eval
use Rattle.wh_fetch.specs.declared.fault.FetchFault.{FetchFault}
use Rattle.wh_algebra.specs.View.{scalars_of, calls_of}
use Rattle.wh_algebra.specs.Tuple.{rows_in}
use Rattle.wh_aggregate.specs.Groups.{AreOver}
use Rattle.wh_exec.specs.declared.sink.Sink.{Sink}
use Rattle.wh_exec.specs.declared.sink.Sink.TheVariants.{Rows, Groups}

abbrev pub Shape : Type 0
Shape = Option (List Scalar × List Call)

abbrev pub shape_of : Sink → Shape
shape_of (Rows tuples) = None
shape_of (Groups g) = Some (scalars_of g.by.now, calls_of g.calls.now)

abbrev pub answer : Shape → Option Bag → Option Bag
answer None found = found
answer (Some (by, calls)) found = of_one (grouped by calls) found

abbrev pub Has : Sink → Bag → Type 0
Has (Rows tuples) bag = bag_of (rows_in tuples.items) ≡ bag
Has (Groups g) bag = AreOver (scalars_of g.by.now) (calls_of g.calls.now) bag g.groups

abbrev pub HasSome : Sink → Option Bag → Type 0
HasSome sink None = ⊥
HasSome sink (Some bag) = Has sink bag

pub record Takes (old new : Sink) (meant : Option Bag) : Type 0 where
  pub shape : shape_of new ≡ shape_of old
  pub has : (before : Bag) → Has old before → HasSome new (beside meant (Some before))

pub record Lacks (sink : Sink) (meant : Option Bag) : Type 0 where
  pub lacks : (before : Bag) (more : Option Bag) → Has sink before
      → answer (shape_of sink) (beside more (beside meant (Some before))) ≡ None

abbrev pub Pours : Result (Unit {0}) EvalFault → Sink → Sink → Option Bag → Type 0
Pours (Ok done) old new meant = Takes old new meant
Pours (Err eval.NumberOutOfRange) old new meant = Lacks old meant
Pours (Err eval.OutOfMemory) old new meant = Unit {0}

abbrev pub FeedsAs : Option (Unit {0}) → Sink → Sink → Option Bag → Type 0
FeedsAs (Some done) old new meant = Takes old new meant
FeedsAs None old new meant = Lacks old meant

abbrev pub Feeds : Result (Option (Unit {0})) FetchFault → Sink → Sink → Option Bag → Type 0
Feeds (Ok fed) old new meant = FeedsAs fed old new meant
Feeds (Err fault) old new meant = Unit {0}
