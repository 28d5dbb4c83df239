-- What is answered for each of several rows.
--     says_each          what `collect` gives, over what was answered for each row
--     answers_as         the same under what the function's answers mean
--     images_given       the images of rows make the bag that is projected
--     images_meant       a row of which no image could be given
use Rattle.std.proofs.Common.{◌≡◌, ℕ, zero, suc, ◌<◌, List, [], ◌∷◌, length, map, Some, refl, sym, ap, subst, ◌∙◌}
use Rattle.std.proofs.Common.{arith, option_map}
use Rattle.std.specs.Prelude.{Result, Ok, Err, Vec, MatchResult, slice_index_or}
use Rattle.std.specs.List.{AllZip, Contains}
use Rattle.std.specs.Global.{Global}
use Rattle.wh_scalar.specs.declared.fault.EvalFault.{EvalFault}
use Rattle.wh_scalar.specs.declared.fault.EvalFault.TheVariants.{NumberOutOfRange, OutOfMemory}
use Rattle.wh_algebra.specs.declared.tuple.Tuple.{Tuple}
use Rattle.std.specs.Fn.{Shared, FnReturnsAt}
use denote.Ref.{Bor}
use Rattle.wh_value.specs.Value.{Row}
use Rattle.wh_algebra.specs.Tuple.{row_in}
use Rattle.wh_meaning.specs.Scalar.{Scalar}
use Rattle.wh_meaning.specs.Bag.{one_row, bag_of, beside}
use Rattle.wh_meaning.specs.Query.{values_on, image_by, projected}
use Rattle.wh_meaning.proofs.BagLaws.{one_row-plus}
use Rattle.wh_meaning.proofs.Gathered.{gathered-no_rows, gathered-with_row}
use Rattle.wh_algebra.specs.Tuple.{rows_in}
use Rattle.wh_aggregate.specs.Given.{Gives, IsFaultOf}
use Rattle.wh_exec.specs.Each.{SaysEach, AnswersEach, GivesEach}
use Rattle.wh_exec.proofs.Added.{added_fails_at}

-- what stands beside an element
stands_beside : {A B : Type 0} (R : A → B → Type 0) (xs : List A) (ys : List B) (k : ℕ) (d : B) → AllZip R xs ys → k < length ys
    → (x : A) × Contains xs x × R x (slice_index_or ys k d)
stands_beside R [] [] k d zip lt = absurd (omega (arith, lt))
stands_beside R [] (y ∷ ys) k d zip lt = absurd zip
stands_beside R (x ∷ xs) [] k d zip lt = absurd zip
stands_beside R (x ∷ xs) (y ∷ ys) zero d zip lt = (x, (0, omega arith, refl), zip.0)
stands_beside R (x ∷ xs) (y ∷ ys) (suc k) d zip lt =
    let rest = stands_beside R xs ys k d zip.1 (omega (arith, lt)) in
    (rest.0, (suc rest.1.0, omega (arith, rest.1.1), rest.1.2), rest.2)

of_ok : {A B E : Type 0} (R : A → Result B E → Type 0) (xs : List A) (ys : List B) → AllZip R xs (map Ok ys)
    → AllZip (λ x y. R x (Ok y)) xs ys
of_ok R [] [] zip = zip
of_ok R [] (y ∷ ys) zip = absurd zip
of_ok R (x ∷ xs) [] zip = absurd zip
of_ok R (x ∷ xs) (y ∷ ys) zip = (zip.0, of_ok R xs ys zip.1)

zip_as : {A B : Type 0} (R S : A → B → Type 0) (turn : (x : A) (y : B) → R x y → S x y) (xs : List A) (ys : List B)
    → AllZip R xs ys → AllZip S xs ys
zip_as R S turn [] [] zip = zip
zip_as R S turn [] (y ∷ ys) zip = absurd zip
zip_as R S turn (x ∷ xs) [] zip = absurd zip
zip_as R S turn (x ∷ xs) (y ∷ ys) zip = (turn x y zip.0, zip_as R S turn xs ys zip.1)

module _ {T : Type 0} where
  pub says_each : (R : Tuple → Result T EvalFault → Type 0) (tuples : List Tuple) (told : Result (Vec T Global) EvalFault)
      (each : List (Result T EvalFault)) → AllZip R tuples each
      → MatchResult told (λ answers. (ys : List T) × (each ≡ map Ok ys) × (answers.items ≡ ys)) (λ e. Contains each (Err e))
      → SaysEach R tuples told
  says_each R tuples (Ok answers) each zip made =
      of_ok R tuples answers.items (subst (AllZip R tuples) (made.1 ∙ ap (map Ok) (sym made.2)) zip)
  says_each R tuples (Err NumberOutOfRange) each zip made =
      let at = stands_beside R tuples each made.0 (Err NumberOutOfRange) zip made.1 in
      (at.0, at.1, subst (R at.0) made.2 at.2)
  says_each R tuples (Err OutOfMemory) each zip made = tt

  pub says_as : (R S : Tuple → Result T EvalFault → Type 0) (turn : (x : Tuple) (y : Result T EvalFault) → R x y → S x y)
      (tuples : List Tuple) (told : Result (Vec T Global) EvalFault) → SaysEach R tuples told → SaysEach S tuples told
  says_as R S turn tuples (Ok answers) says =
      zip_as (λ x y. R x (Ok y)) (λ x y. S x (Ok y)) (λ x y. turn x (Ok y)) tuples answers.items says
  says_as R S turn tuples (Err NumberOutOfRange) says = (says.0, says.1, turn says.0 (Err NumberOutOfRange) says.2)
  says_as R S turn tuples (Err OutOfMemory) says = tt

pub answers_as : {F T : Type 0} (g : Shared F (Bor Row × Unit {0}) (Result T EvalFault)) (f : F) (tuples : List Tuple)
    (told : Result (Vec T Global) EvalFault) → AnswersEach g f tuples told
    → (S : Row → Result T EvalFault → Type 0) → ((row : Bor Row) (answer : Result T EvalFault) → g.post f (row, tt) answer → S row.now answer)
    → SaysEach (λ tuple answer. S (row_in tuple) answer) tuples told
answers_as g f tuples told says S turn =
    says_as (λ tuple answer. FnReturnsAt g f (row_in tuple) answer) (λ tuple answer. S (row_in tuple) answer)
    (λ tuple answer at. subst (λ row. S row answer) at.shows (turn at.shown answer at.says.met)) tuples told says

-- ---- the rows of scalars' values

abbrev Images : List Scalar → List Tuple → List Row → Type 0
Images items tuples images = AllZip (λ tuple image. Gives (Ok image) (values_on items (row_in tuple))) tuples images

pub images_given : (items : List Scalar) (tuples : List Tuple) (images : List Row) → Images items tuples images
    → projected items (bag_of (rows_in tuples)) ≡ Some (bag_of images)
images_given items [] [] all = gathered-no_rows (image_by items)
images_given items [] (i ∷ images) all = absurd all
images_given items (t ∷ tuples) [] all = absurd all
images_given items (t ∷ tuples) (i ∷ images) all =
    gathered-with_row (image_by items) (row_in t) (bag_of (rows_in tuples))
    ∙ ap (λ o. beside (option_map one_row o) (projected items (bag_of (rows_in tuples)))) all.0
    ∙ ap (beside (Some (one_row i))) (images_given items tuples images all.1)
    ∙ ap Some (one_row-plus i (bag_of images))

pub images_meant : (items : List Scalar) (tuples : List Tuple) (fault : EvalFault) → GivesEach (Err fault) items tuples
    → IsFaultOf fault (projected items (bag_of (rows_in tuples)))
images_meant items tuples NumberOutOfRange says =
    added_fails_at NumberOutOfRange (image_by items) tuples says.1.0 says.0 (row_in says.0) says.1.1 (sym says.1.2) refl
    (ap (option_map one_row) says.2)
images_meant items tuples OutOfMemory says = tt
