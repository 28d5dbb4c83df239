-- Which clause is selected, and what it gives.
--     choice-is              where all conditions are defined, the choice is the clause that is selected
--     Passes, selected-passes     a clause that is selected among those of a kind is of that kind
--     matched-.., inserts-..      whether the selected clause's part is defined, and what it gives
use Rattle.std.specs.Prelude.{◌≡◌, Bool, true, false, ◌&&◌, cond, if◌then◌else◌, List, [], ◌∷◌, map, Option, Some, None}
use Rattle.std.specs.Prelude.{option_map, is_some, refl}
use Rattle.std.specs.List.{list_all, filter}
use Rattle.std.proofs.Common.{sym, ap, ◌∙◌}
use Rattle.std.proofs.lemmas.Bool.{false≢true}
use Rattle.wh_value.specs.Value.{Value, Row}
use Rattle.wh_meaning.specs.Scalar.{val, is_true, holds, gives_true, of_one}
use Rattle.wh_meaning.specs.Query.{values_on}
use Rattle.wh_naming.specs.Changes.{BoundClause, UpdateMatched, DeleteMatched, InsertUnmatched}
use Rattle.wh_effect.specs.Effect.{Turn, Goes, Becomes, becomes, condition_of, is_matched, is_unmatched, selected}
use Rattle.wh_effect.specs.Effect.{is_defined_part, is_defined_on, turn_by, inserted_by}
use Rattle.wh_dml.specs.Steps.{first_of, with_choice, choice, turns_by, matched_turns, inserts_by}
use Rattle.wh_dml.proofs.OptionLaws.{some_map, some_if, given_if}

first_where : (b : Bool) (c : BoundClause) (found : Option BoundClause)
    → first_of (if b then Some c else None) found ≡ (if b then Some c else found)
first_where true c found = refl
first_where false c found = refl

choice_step : (c : BoundClause) (value : Option Value) (all : Bool) (found : Option BoundClause)
    → with_choice c value (if all then Some found else None)
    ≡ (if is_some value && all then Some (if gives_true value then Some c else found) else None)
choice_step c None all found = refl
choice_step c (Some v) true found = ap Some (first_where (is_true v) c found)
choice_step c (Some v) false found = refl

abbrev pub all_defined : List BoundClause → Row → Bool
all_defined clauses row = list_all (λ c. is_some (val (condition_of c) row)) clauses

pub choice-is : (clauses : List BoundClause) (row : Row)
    → choice clauses row ≡ (if all_defined clauses row then Some (selected clauses row) else None)
choice-is [] row = refl
choice-is (c ∷ cs) row = ap (with_choice c (val (condition_of c) row)) (choice-is cs row)
    ∙ choice_step c (val (condition_of c) row) (all_defined cs row) (selected cs row)

-- ---- the kind of the clause that is selected

abbrev pub Passes : (BoundClause → Bool) → Option BoundClause → Type 0
Passes test None = Unit {0}
Passes test (Some c) = test c ≡ true

either : (P : Option BoundClause → Type 0) (b : Bool) (x y : Option BoundClause) → P x → P y → P (if b then x else y)
either P true x y p q = p
either P false x y p q = q

passes_more : (test : BoundClause → Bool) (c : BoundClause) (kept : List BoundClause) (row : Row) (b : Bool)
    → test c ≡ b → Passes test (selected kept row)
    → Passes test (selected (cond b (c ∷ kept) kept) row)
passes_more test c kept row true e rest =
    either (Passes test) (holds (condition_of c) row) (Some c) (selected kept row) e rest
passes_more test c kept row false e rest = rest

pub selected-passes : (test : BoundClause → Bool) (clauses : List BoundClause) (row : Row)
    → Passes test (selected (filter test clauses) row)
selected-passes test [] row = tt
selected-passes test (c ∷ cs) row = passes_more test c (filter test cs) row (test c) refl (selected-passes test cs row)

-- where its part is defined too, the choice is
chosen-defined : {A : Type 0} (taken : Option BoundClause → Option A) (clauses : List BoundClause) (row : Row)
    (part : Bool) → is_some (taken (selected clauses row)) ≡ part
    → is_some (of_one taken (choice clauses row)) ≡ (all_defined clauses row && part)
chosen-defined taken clauses row part is =
    ap (λ c. is_some (of_one taken c)) (choice-is clauses row)
    ∙ some_if (all_defined clauses row) taken (selected clauses row)
    ∙ ap (λ b. all_defined clauses row && b) is

-- ---- after MATCHED

turns_by-defined : (c : Option BoundClause) (pair : Row) → Passes is_matched c
    → is_some (turns_by c pair) ≡ is_defined_part c pair
turns_by-defined None pair kind = refl
turns_by-defined (Some (UpdateMatched condition parts)) pair kind =
    some_map (λ row. Becomes row ∷ []) (values_on parts pair)
turns_by-defined (Some (DeleteMatched condition)) pair kind = refl
turns_by-defined (Some (InsertUnmatched condition parts)) pair kind = absurd (false≢true kind)

pub matched-defined : (clauses : List BoundClause) (pair : Row) → Passes is_matched (selected clauses pair)
    → is_some (matched_turns clauses pair) ≡ is_defined_on clauses pair
matched-defined clauses pair kind =
    chosen-defined (λ found. turns_by found pair) clauses pair (is_defined_part (selected clauses pair) pair)
    (turns_by-defined (selected clauses pair) pair kind)

-- the turn of a clause that is selected, and none where none is
abbrev pub turn_if : Option BoundClause → Row → List (Option Turn)
turn_if c pair = cond (is_some c) (turn_by c pair ∷ []) []

-- what becomes of a target's row by a pair
abbrev pub pair_turn : List BoundClause → Row → Option Turn
pair_turn clauses pair = turn_by (selected clauses pair) pair

changed_turn : (found : Option Row) (turns : List Turn) → option_map (λ row. Becomes row ∷ []) found ≡ Some turns
    → becomes found ∷ [] ≡ map Some turns
changed_turn None turns is = cc
changed_turn (Some row) turns is = let e : Becomes row ∷ [] ≡ turns = cc in ap (map Some) e

turns_by-given : (c : Option BoundClause) (pair : Row) (turns : List Turn) → Passes is_matched c
    → turns_by c pair ≡ Some turns → turn_if c pair ≡ map Some turns
turns_by-given None pair turns kind is = let e : [] ≡ turns = cc in ap (map Some) e
turns_by-given (Some (UpdateMatched condition parts)) pair turns kind is = changed_turn (values_on parts pair) turns is
turns_by-given (Some (DeleteMatched condition)) pair turns kind is = let e : Goes ∷ [] ≡ turns = cc in ap (map Some) e
turns_by-given (Some (InsertUnmatched condition parts)) pair turns kind is = absurd (false≢true kind)

pub matched-given : (clauses : List BoundClause) (pair : Row) (turns : List Turn)
    → Passes is_matched (selected clauses pair) → matched_turns clauses pair ≡ Some turns
    → turn_if (selected clauses pair) pair ≡ map Some turns
matched-given clauses pair turns kind is =
    turns_by-given (selected clauses pair) pair turns kind
    (given_if (all_defined clauses pair) (λ found. turns_by found pair) (selected clauses pair) turns
    (ap (of_one (λ found. turns_by found pair)) (sym (choice-is clauses pair)) ∙ is))

-- ---- after NOT MATCHED

inserted_by-defined : (c : Option BoundClause) (row : Row) → Passes is_unmatched c
    → is_some (inserted_by c row) ≡ is_defined_part c row
inserted_by-defined None row kind = refl
inserted_by-defined (Some (UpdateMatched condition parts)) row kind = absurd (false≢true kind)
inserted_by-defined (Some (DeleteMatched condition)) row kind = absurd (false≢true kind)
inserted_by-defined (Some (InsertUnmatched condition parts)) row kind = some_map (λ new. new ∷ []) (values_on parts row)

pub inserts-defined : (clauses : List BoundClause) (row : Row) → Passes is_unmatched (selected clauses row)
    → is_some (inserts_by clauses row) ≡ is_defined_on clauses row
inserts-defined clauses row kind =
    chosen-defined (λ found. inserted_by found row) clauses row (is_defined_part (selected clauses row) row)
    (inserted_by-defined (selected clauses row) row kind)

pub inserts-given : (clauses : List BoundClause) (row : Row) (rows : List Row) → inserts_by clauses row ≡ Some rows
    → inserted_by (selected clauses row) row ≡ Some rows
inserts-given clauses row rows is =
    given_if (all_defined clauses row) (λ found. inserted_by found row) (selected clauses row) rows
    (ap (of_one (λ found. inserted_by found row)) (sym (choice-is clauses row)) ∙ is)
