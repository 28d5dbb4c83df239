-- What comes of rows by steps.
--     through-push                  a step that is taken before the others
--     through-none, through-no_rows of undefined rows, and of none
--     through-beside                of two parts
use Rattle.std.specs.Prelude.{◌≡◌, List, [], ◌∷◌, ◌++◌, Option, Some, None}
use Rattle.std.proofs.Common.{refl, ap, ◌∙◌}
use Rattle.wh_meaning.specs.Scalar.{of_one}
use Rattle.wh_meaning.specs.Bag.{Bag, no_rows, beside, gathered}
use Rattle.wh_meaning.proofs.Gathered.{gathered-no_rows}
use Rattle.wh_moves.proofs.Gathering.{of_beside}
use Rattle.wh_exec.specs.declared.step.Step.{Step}
use Rattle.wh_exec.specs.Step.{gives, through}

pub through-push : (steps : List Step) (step : Step) (found : Option Bag)
    → through (steps ++ step ∷ []) found ≡ through steps (of_one (gathered (gives step)) found)
through-push [] step found = refl
through-push (last ∷ steps) step found = ap (of_one (gathered (gives last))) (through-push steps step found)

pub through-none : (steps : List Step) → through steps None ≡ None
through-none [] = refl
through-none (last ∷ steps) = ap (of_one (gathered (gives last))) (through-none steps)

pub through-no_rows : (steps : List Step) → through steps (Some no_rows) ≡ Some no_rows
through-no_rows [] = refl
through-no_rows (last ∷ steps) =
    ap (of_one (gathered (gives last))) (through-no_rows steps) ∙ gathered-no_rows (gives last)

pub through-beside : (steps : List Step) (a b : Option Bag)
    → through steps (beside a b) ≡ beside (through steps a) (through steps b)
through-beside [] a b = refl
through-beside (last ∷ steps) a b =
    ap (of_one (gathered (gives last))) (through-beside steps a b)
    ∙ of_beside (gives last) (through steps a) (through steps b)
