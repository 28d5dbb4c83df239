-- Known values of changing statements, worked by hand over a target of two rows, (1, 10) and (2, 20), numbered 1 and 2.
use Rattle.std.specs.Prelude.{◌≡◌, ℕ, true, List, [], ◌∷◌, pos, Some, refl}
use Rattle.wh_value.specs.Value.{Value, Number, Truth, Null, Row}
use Rattle.wh_value.specs.declared.comparison.Comparison.TheVariants as comparisons
use Rattle.wh_meaning.specs.Scalar.{Scalar, Const, Column, Add, Compare, val}
use Rattle.wh_meaning.specs.Query.{values_on}
use Rattle.wh_naming.specs.Changes.{BoundClause, UpdateMatched, DeleteMatched, InsertUnmatched}
use Rattle.wh_naming.specs.Changes.{InsertRows, Update, Delete}
use Rattle.wh_effect.specs.Effect.{EffectResult, Undefined, Ambiguous, Does, effect, merged, inserts_over}

abbrev n : ℕ → Value
n k = Number (pos k)

abbrev pair : ℕ → ℕ → Row
pair a b = n a ∷ n b ∷ []

abbrev target : List (ℕ × Row)
target = (1, pair 1 10) ∷ (2, pair 2 20) ∷ []

abbrev equal : Scalar → Scalar → Scalar
equal a b = Compare comparisons.Equal a b

-- one digit more than a number may have, as soon as 15 or more is added
abbrev near_the_limit : Scalar
near_the_limit = Const (n 999999999999999985)

abbrev does : List ℕ → List (ℕ × Row) → List Row → EffectResult
does removed changed added = Does (record { removed = removed; changed = changed; added = added })

-- UPDATE: SET parts read the old row
update_swaps_columns : effect (Update (equal (Column 0) (Const (n 2))) (Column 1 ∷ Column 0 ∷ [])) target []
    ≡ does [] ((2, pair 20 2) ∷ []) []
unfolding effect values_on val
update_swaps_columns = refl

-- an equal new row is a changed row
update_to_an_equal_row : effect (Update (equal (Column 0) (Const (n 1))) (Column 0 ∷ Column 1 ∷ [])) target []
    ≡ does [] ((1, pair 1 10) ∷ []) []
unfolding effect values_on val
update_to_an_equal_row = refl

-- DELETE: no row on which the condition is NULL goes
delete_spares_null : effect (Delete (equal (Column 0) (Const Null))) target [] ≡ does [] [] []
unfolding effect values_on val
delete_spares_null = refl

delete_by_a_value : effect (Delete (equal (Column 1) (Const (n 10)))) target [] ≡ does (1 ∷ []) [] []
unfolding effect values_on val
delete_by_a_value = refl

-- a condition that is undefined on some row leaves the statement undefined
undefined_on_one_row : effect (Delete (equal (Add (Column 1) near_the_limit) (Const (n 0)))) target [] ≡ Undefined
unfolding effect values_on val
undefined_on_one_row = refl

-- a part is computed on the rows that are selected alone
parts_of_selected_rows : effect
    (Update (equal (Column 0) (Const (n 1))) (Column 0 ∷ Add (Column 1) near_the_limit ∷ [])) target []
    ≡ does [] ((1, pair 1 999999999999999995) ∷ []) []
unfolding effect values_on val
parts_of_selected_rows = refl

-- INSERT: in the order in which rows are written, equal ones too
insert_in_written_order : effect (InsertRows ((Const (n 2) ∷ Const (n 5) ∷ []) ∷ (Const (n 1) ∷ Const Null ∷ [])
    ∷ (Const (n 2) ∷ Const (n 5) ∷ []) ∷ [])) target []
    ≡ does [] [] (pair 2 5 ∷ (n 1 ∷ Null ∷ []) ∷ pair 2 5 ∷ [])
unfolding effect values_on val
insert_in_written_order = refl

-- ---- MERGE

abbrev on : Scalar
on = equal (Column 0) (Column 2)

abbrev yes : Scalar
yes = Const (Truth true)

abbrev upsert : List BoundClause
upsert = UpdateMatched yes (Column 0 ∷ Column 3 ∷ []) ∷ InsertUnmatched yes (Column 0 ∷ Column 1 ∷ []) ∷ []

upsert_changes_and_adds : merged on upsert target (Some (pair 1 11 ∷ pair 3 30 ∷ []))
    ≡ does [] ((1, pair 1 11) ∷ []) (pair 3 30 ∷ [])
unfolding values_on val
upsert_changes_and_adds = refl

-- equal source rows count each
equal_rows_are_inserted_each : merged on upsert target (Some (pair 3 30 ∷ pair 3 30 ∷ []))
    ≡ does [] [] (pair 3 30 ∷ pair 3 30 ∷ [])
unfolding values_on val
equal_rows_are_inserted_each = refl

two_sources_of_a_row : merged on upsert target (Some (pair 1 11 ∷ pair 1 12 ∷ [])) ≡ Ambiguous (pair 1 10)
unfolding values_on val
two_sources_of_a_row = refl

-- also where both would delete
two_deletes_of_a_row : merged on (DeleteMatched yes ∷ []) target (Some (pair 2 7 ∷ pair 2 7 ∷ []))
    ≡ Ambiguous (pair 2 20)
unfolding values_on val
two_deletes_of_a_row = refl

-- the first clause whose condition is TRUE is selected
abbrev choosy : List BoundClause
choosy = DeleteMatched (equal (Column 3) (Const (n 0))) ∷ UpdateMatched (equal (Column 3) (Const (n 7)))
    (Column 0 ∷ Column 3 ∷ []) ∷ InsertUnmatched yes (Column 0 ∷ Column 1 ∷ []) ∷ []

first_clause_that_holds : merged on choosy target (Some (pair 1 0 ∷ pair 2 7 ∷ pair 2 8 ∷ []))
    ≡ does (1 ∷ []) ((2, pair 2 7) ∷ []) []
unfolding values_on val
first_clause_that_holds = refl

-- a row that is matched without a clause is not inserted
matched_without_a_clause : merged on choosy target (Some (pair 2 8 ∷ [])) ≡ does [] [] []
unfolding values_on val
matched_without_a_clause = refl

-- undefined comes before ambiguous
undefined_before_ambiguous : merged (equal (Column 0) (Add (Column 2) (Column 3))) upsert target
    (Some (pair 1 0 ∷ pair 1 0 ∷ pair 1 999999999999999999 ∷ [])) ≡ Undefined
unfolding values_on val
undefined_before_ambiguous = refl

-- the condition of a later clause is evaluated too
undefined_in_a_later_clause : merged on
    (DeleteMatched yes ∷ DeleteMatched (equal (Add (Column 1) near_the_limit) (Const (n 0))) ∷ []) target
    (Some (pair 2 7 ∷ [])) ≡ Undefined
unfolding values_on val
undefined_in_a_later_clause = refl

-- SET parts of a selecting pair are evaluated also where the row is ambiguous
undefined_part_of_an_ambiguous_row : merged on (UpdateMatched yes (Column 0 ∷ Add (Column 3) near_the_limit ∷ []) ∷ [])
    target (Some (pair 1 1 ∷ pair 1 99 ∷ [])) ≡ Undefined
unfolding values_on val
undefined_part_of_an_ambiguous_row = refl

-- rows that are matched with nothing are inserted in the order of the source
inserted_in_source_order : merged on upsert target (Some (pair 3 30 ∷ pair 4 40 ∷ []))
    ≡ does [] [] (pair 3 30 ∷ pair 4 40 ∷ [])
unfolding values_on val
inserted_in_source_order = refl

-- of two ambiguous rows the one with the lower number is named
first_ambiguous_row : merged on upsert target (Some (pair 2 21 ∷ pair 2 22 ∷ pair 1 11 ∷ pair 1 12 ∷ []))
    ≡ Ambiguous (pair 1 10)
unfolding values_on val
first_ambiguous_row = refl

-- a MATCHED condition is not evaluated on a pair on which ON isn't TRUE: 20 would pass 18 digits, 10 doesn't
matched_conditions_on_matched_pairs : merged on (DeleteMatched (equal (Add (Column 1) near_the_limit) (Const (n 0)))
    ∷ []) ((1, pair 1 10) ∷ (2, pair 2 20) ∷ []) (Some (pair 1 7 ∷ [])) ≡ does [] [] []
unfolding values_on val
matched_conditions_on_matched_pairs = refl

-- a NOT MATCHED condition is not evaluated on a row that is matched
unmatched_conditions_on_unmatched_rows : merged on
    (InsertUnmatched (equal (Add (Column 1) near_the_limit) (Const (n 0))) (Column 0 ∷ Column 1 ∷ []) ∷ []) target
    (Some (pair 1 99 ∷ pair 3 1 ∷ [])) ≡ does [] [] []
unfolding values_on val
unmatched_conditions_on_unmatched_rows = refl

-- a row of a query is inserted as often as it is there, in the order of the query's rows
query_rows_in_their_order : inserts_over (Column 1 ∷ Column 0 ∷ [])
    (Some (pair 3 1 ∷ pair 3 2 ∷ pair 4 1 ∷ pair 4 1 ∷ []))
    ≡ does [] [] (pair 1 3 ∷ pair 2 3 ∷ pair 1 4 ∷ pair 1 4 ∷ [])
unfolding values_on val
query_rows_in_their_order = refl
