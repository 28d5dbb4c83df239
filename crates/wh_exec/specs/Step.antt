-- What becomes of rows between the scan that gives them and the sink that takes them.
--     gives       what comes of a row by a step
--     through     what comes of rows by steps, which stand from the last one to the first
use Rattle.std.specs.Prelude.{List, [], ◌∷◌, Option}
use Rattle.wh_value.specs.Value.{Row}
use Rattle.wh_meaning.specs.Scalar.{of_one}
use Rattle.wh_meaning.specs.Bag.{Bag, bag_of, gathered}
use Rattle.wh_meaning.specs.Query.{kept_by, image_by, paired_with}
use Rattle.wh_scalar.specs.View.{scalar_of}
use Rattle.wh_algebra.specs.View.{scalars_of}
use Rattle.wh_algebra.specs.Tuple.{rows_in}
use Rattle.wh_exec.specs.declared.step.Step.{Step}
use Rattle.wh_exec.specs.declared.step.Step.TheVariants.{Keep, Make, Pair}

abbrev pub gives : Step → Row → Option Bag
gives (Keep condition) row = kept_by (scalar_of condition.now) row
gives (Make items) row = image_by (scalars_of items.now) row
gives (Pair p) row = paired_with (scalar_of p.on.now) (bag_of (rows_in p.right.items)) row

abbrev pub through : List Step → Option Bag → Option Bag
through [] found = found
through (step ∷ inner) found = of_one (gathered (gives step)) (through inner found)
