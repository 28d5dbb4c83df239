-- The rows of effects fit the columns of their target.
--     OutcomeFits        what an effect changes and adds
--     inserts_fit, updates_fit, merges_fit     of each statement
use Rattle.std.proofs.Common.{◌≡◌, ℕ, Bool, true, false, cond, List, [], ◌∷◌, ◌++◌, map}
use Rattle.std.proofs.Common.{Option, Some, None, option_map, refl, subst, IsTrue}
use Rattle.std.specs.List.{AllByRecursion}
use Rattle.wh_value.specs.Value.{Value, Row}
use Rattle.wh_value.specs.Column as table
use Rattle.wh_value.specs.Column.{ColumnType}
use Rattle.wh_value.specs.Fits.{row_fits}
use Rattle.wh_meaning.specs.Scalar.{Scalar, val, is_true, holds}
use Rattle.wh_meaning.specs.Query.{values_on}
use Rattle.wh_naming.specs.Changes.{BoundClause, UpdateMatched, DeleteMatched, InsertUnmatched}
use Rattle.wh_effect.specs.Effect as effects
use Rattle.wh_effect.specs.Effect.{Effect, Turn, Stays, Goes, Becomes, becomes, turn_where, with_turn, turned, updated}
use Rattle.wh_effect.specs.Effect.{deleted, with_row, rows_of, rows_over, adds, inserts_over, no_effect, defined}
use Rattle.wh_effect.specs.Effect.{selected}
use Rattle.wh_effect.specs.Effect.{condition_of, matched_clauses, unmatched_clauses, is_matched, is_unmatched, pairs_of}
use Rattle.wh_effect.specs.Effect.{is_selecting, selecting, target_rows, is_alone, unmatched, turn_by, merged_turn}
use Rattle.wh_effect.specs.Effect.{inserted_by, with_inserted, inserted, with_added, unless_several, first_several}
use Rattle.wh_effect.specs.Effect.{is_merge_defined, merged_by, merged}
use Rattle.wh_state.proofs.AllLaws.{all_append, all_filter}
use Rattle.wh_machine.proofs.ValueTypes.{FitsTypes, CellsFit, type_at, cells_fit, fits_append, head_type, types_of}
use Rattle.wh_machine.proofs.ValueTypes.{fits_row}
use Rattle.wh_machine.proofs.QueryRows.{values_fit}
use Rattle.wh_machine.proofs.GroupedLaws.{AllUnder, all_under_fits}
use Rattle.wh_machine.proofs.StageLaws.{EffectFits}

abbrev pub OutcomeFits : List table.Column → effects.EffectResult → Type 0
OutcomeFits columns effects.Undefined = Unit {0}
OutcomeFits columns (effects.Ambiguous row) = Unit {0}
OutcomeFits columns (effects.Does e) = EffectFits columns e

abbrev pub Fit : List table.Column → Row → Type 0
Fit columns row = IsTrue (row_fits columns row)

-- scalars that have the types of columns, over rows of some types
abbrev pub PartsFit : List table.Column → (ℕ → Option ColumnType) → List Scalar → Type 0
PartsFit columns env parts = AllUnder (map (head_type env) parts) (types_of columns)

pub parts_give : (columns : List table.Column) (env : ℕ → Option ColumnType) (parts : List Scalar) (row : Row)
    → CellsFit env row → PartsFit columns env parts → (new : Row) → values_on parts row ≡ Some new → Fit columns new
parts_give columns env parts row cells under new is =
    fits_row columns new (all_under_fits (map (head_type env) parts) (types_of columns) under new
    (values_fit env parts row cells new is))

abbrev RowsFit : List table.Column → Option (List Row) → Type 0
RowsFit columns found = (rows : List Row) → found ≡ Some rows → AllByRecursion (Fit columns) rows

with_row_fit : (columns : List table.Column) (row : Option Row) (rest : Option (List Row))
    → ((new : Row) → row ≡ Some new → Fit columns new) → RowsFit columns rest → RowsFit columns (with_row row rest)
with_row_fit columns None rest h k rows is = absurd cc
with_row_fit columns (Some row) None h k rows is = absurd cc
with_row_fit columns (Some row) (Some others) h k rows is =
    let same : row ∷ others ≡ rows = cc in
    subst (AllByRecursion (Fit columns)) same (h row refl, k others refl)

nothing_fits : (columns : List table.Column) (rows : List Row) → Some [] ≡ Some rows → AllByRecursion (Fit columns) rows
nothing_fits columns rows is = let same : [] ≡ rows = cc in subst (AllByRecursion (Fit columns)) same tt

rows_of_fit : (columns : List table.Column) (found : List (List Scalar)) →
    AllByRecursion (PartsFit columns (type_at [])) found
    → RowsFit columns (rows_of found)
rows_of_fit columns [] h rows is = nothing_fits columns rows is
rows_of_fit columns (parts ∷ others) h rows is =
    with_row_fit columns (values_on parts []) (rows_of others)
    (parts_give columns (type_at []) parts [] (cells_fit [] [] tt) h.0) (rows_of_fit columns others h.1) rows is

rows_over_fit : (columns : List table.Column) (types : List (Option ColumnType)) (parts : List Scalar)
    → PartsFit columns (type_at types) parts → (source : List Row) → AllByRecursion (FitsTypes types) source
    → RowsFit columns (rows_over parts source)
rows_over_fit columns types parts under [] h rows is = nothing_fits columns rows is
rows_over_fit columns types parts under (row ∷ others) h rows is =
    with_row_fit columns (values_on parts row) (rows_over parts others)
    (parts_give columns (type_at types) parts row (cells_fit types row h.0) under)
    (rows_over_fit columns types parts under others h.1) rows is

adds_fit : (columns : List table.Column) (rows : Option (List Row)) → RowsFit columns rows →
    OutcomeFits columns (adds rows)
adds_fit columns None h = tt
adds_fit columns (Some rows) h = record { changed = tt; added = h rows refl }

pub inserts_fit : (columns : List table.Column) (found : List (List Scalar))
    → AllByRecursion (PartsFit columns (type_at [])) found → OutcomeFits columns (adds (rows_of found))
inserts_fit columns found h = adds_fit columns (rows_of found) (rows_of_fit columns found h)

pub inserts_over_fit : (columns : List table.Column) (types : List (Option ColumnType)) (parts : List Scalar)
    → PartsFit columns (type_at types) parts → (source : Option (List Row))
    → ((rows : List Row) → source ≡ Some rows → AllByRecursion (FitsTypes types) rows)
    → OutcomeFits columns (inserts_over parts source)
inserts_over_fit columns types parts under None h = tt
inserts_over_fit columns types parts under (Some rows) h =
    adds_fit columns (rows_over parts rows) (rows_over_fit columns types parts under rows (h rows refl))

-- ---- what becomes of rows

abbrev TurnFits : List table.Column → Option Turn → Type 0
TurnFits columns turn = (new : Row) → turn ≡ Some (Becomes new) → Fit columns new

-- the new rows
record ChangesOf (columns : List table.Column) (found : Option Effect) : Type 0 where
  changed : (e : Effect) → found ≡ Some e → AllByRecursion (λ entry. Fit columns entry.1) e.changed
  added : (e : Effect) → found ≡ Some e → AllByRecursion (Fit columns) e.added

with_turn_fit : (columns : List table.Column) (entry : ℕ × Row) (turn : Option Turn) (rest : Option Effect)
    → TurnFits columns turn → ChangesOf columns rest → ChangesOf columns (with_turn entry turn rest)
with_turn_fit columns entry None rest h k = record { changed = λ e is. absurd cc; added = λ e is. absurd cc }
with_turn_fit columns entry (Some turn) None h k = record { changed = λ e is. absurd cc; added = λ e is. absurd cc }
with_turn_fit columns entry (Some Stays) (Some r) h k = k
with_turn_fit columns entry (Some Goes) (Some r) h k = record {
  changed = λ e is. let same : record r { removed = entry.0 ∷ r.removed } ≡ e = cc in
      subst (λ (x : Effect). AllByRecursion (λ entry. Fit columns entry.1) x.changed) same (k.changed r refl);
  added = λ e is. let same : record r { removed = entry.0 ∷ r.removed } ≡ e = cc in
      subst (λ (x : Effect). AllByRecursion (Fit columns) x.added) same (k.added r refl);
}
with_turn_fit columns entry (Some (Becomes row)) (Some r) h k = record {
  changed = λ e is. let same : record r { changed = (entry.0, row) ∷ r.changed } ≡ e = cc in
      subst (λ (x : Effect). AllByRecursion (λ entry. Fit columns entry.1) x.changed) same
      (h row refl, k.changed r refl);
  added = λ e is. let same : record r { changed = (entry.0, row) ∷ r.changed } ≡ e = cc in
      subst (λ (x : Effect). AllByRecursion (Fit columns) x.added) same (k.added r refl);
}

turned_fit : (columns : List table.Column) (P : Row → Type 0) (turn : Row → Option Turn)
    → ((row : Row) → P row → TurnFits columns (turn row)) → (target : List (ℕ × Row))
    → AllByRecursion (λ entry. P entry.1) target → ChangesOf columns (turned turn target)
turned_fit columns P turn so [] h = record {
  changed = λ e is. let same : no_effect ≡ e = cc in
      subst (λ (x : Effect). AllByRecursion (λ entry. Fit columns entry.1) x.changed) same tt;
  added = λ e is. let same : no_effect ≡ e = cc in
      subst (λ (x : Effect). AllByRecursion (Fit columns) x.added) same tt;
}
turned_fit columns P turn so (entry ∷ rest) h =
    with_turn_fit columns entry (turn entry.1) (turned turn rest) (so entry.1 h.0)
    (turned_fit columns P turn so rest h.1)

defined_fit : (columns : List table.Column) (found : Option Effect) → ChangesOf columns found
    → OutcomeFits columns (defined found)
defined_fit columns None h = tt
defined_fit columns (Some e) h = record { changed = h.changed e refl; added = h.added e refl }

becomes_fit : (columns : List table.Column) (found : Option Row) → ((new : Row) → found ≡ Some new → Fit columns new)
    → TurnFits columns (becomes found)
becomes_fit columns None h new is = absurd cc
becomes_fit columns (Some row) h new is = let same : row ≡ new = cc in subst (Fit columns) same (h row refl)

where_fit : (columns : List table.Column) (condition : Option Value) (turn : Option Turn) → TurnFits columns turn
    → TurnFits columns (turn_where condition turn)
where_fit columns None turn h new is = absurd cc
where_fit columns (Some v) turn h new given = by_test (is_true v) new given
  where
    by_test : (b : Bool) → TurnFits columns (cond b turn (Some Stays))
    by_test true new is = h new is
    by_test false new is = absurd cc

pub updates_fit : (columns : List table.Column) (types : List (Option ColumnType)) (condition : Scalar)
    (parts : List Scalar)
    → PartsFit columns (type_at types) parts → (target : List (ℕ × Row))
    → AllByRecursion (λ entry. FitsTypes types entry.1) target
    → OutcomeFits columns (defined (turned (updated condition parts) target))
updates_fit columns types condition parts under target h =
    defined_fit columns (turned (updated condition parts) target)
    (turned_fit columns (FitsTypes types) (updated condition parts)
    (λ row fits. where_fit columns (val condition row) (becomes (values_on parts row))
    (becomes_fit columns (values_on parts row)
    (parts_give columns (type_at types) parts row (cells_fit types row fits) under))) target h)

pub deletes_fit : (columns : List table.Column) (condition : Scalar) (target : List (ℕ × Row))
    → OutcomeFits columns (defined (turned (deleted condition) target))
deletes_fit columns condition target =
    defined_fit columns (turned (deleted condition) target)
    (turned_fit columns (λ row. Unit {0}) (deleted condition)
    (λ row fits. where_fit columns (val condition row) (Some Goes) (λ new is. absurd cc)) target (all_units target))
  where
    all_units : (target : List (ℕ × Row)) → AllByRecursion (λ entry. Unit {0}) target
    all_units [] = tt
    all_units (entry ∷ rest) = (tt, all_units rest)

-- ---- MERGE

abbrev pub ClauseFits : List table.Column → List (Option ColumnType) → List (Option ColumnType) → BoundClause → Type 0
ClauseFits columns ts us (UpdateMatched condition parts) = PartsFit columns (type_at (ts ++ us)) parts
ClauseFits columns ts us (DeleteMatched condition) = Unit {0}
ClauseFits columns ts us (InsertUnmatched condition parts) = PartsFit columns (type_at us) parts

abbrev SelectedFits : (BoundClause → Type 0) → Option BoundClause → Type 0
SelectedFits P None = Unit {0}
SelectedFits P (Some c) = P c

selected_fits : (P : BoundClause → Type 0) (clauses : List BoundClause) → AllByRecursion P clauses → (row : Row)
    → SelectedFits P (selected clauses row)
selected_fits P [] h row = tt
selected_fits P (c ∷ cs) h row = by_test (holds (condition_of c) row) (selected_fits P cs h.1 row)
  where
    by_test : (b : Bool) → SelectedFits P (selected cs row) → SelectedFits P (cond b (Some c) (selected cs row))
    by_test true rest = h.0
    by_test false rest = rest

turn_by_fit : (columns : List table.Column) (ts us : List (Option ColumnType)) (found : Option BoundClause)
    → SelectedFits (ClauseFits columns ts us) found → (pair : Row) → FitsTypes (ts ++ us) pair
    → TurnFits columns (turn_by found pair)
turn_by_fit columns ts us None h pair fits new is = absurd cc
turn_by_fit columns ts us (Some (DeleteMatched condition)) h pair fits new is = absurd cc
turn_by_fit columns ts us (Some (InsertUnmatched condition parts)) h pair fits new is = absurd cc
turn_by_fit columns ts us (Some (UpdateMatched condition parts)) h pair fits new is =
    becomes_fit columns (values_on parts pair)
    (parts_give columns (type_at (ts ++ us)) parts pair (cells_fit (ts ++ us) pair fits) h) new is

merged_turn_fit : (columns : List table.Column) (ts us : List (Option ColumnType)) (clauses : List BoundClause)
    → AllByRecursion (ClauseFits columns ts us) clauses → (pairs : List Row) →
    AllByRecursion (FitsTypes (ts ++ us)) pairs
    → TurnFits columns (merged_turn clauses pairs)
merged_turn_fit columns ts us clauses h [] fits new is = absurd cc
merged_turn_fit columns ts us clauses h (pair ∷ others) fits new is =
    turn_by_fit columns ts us (selected clauses pair)
    (selected_fits (ClauseFits columns ts us) clauses h pair) pair fits.0
    new is

pairs_fit : (ts us : List (Option ColumnType)) (t : Row) → FitsTypes ts t → (source : List Row)
    → AllByRecursion (FitsTypes us) source → AllByRecursion (FitsTypes (ts ++ us)) (map (λ s. t ++ s) source)
pairs_fit ts us t fits [] h = tt
pairs_fit ts us t fits (s ∷ ss) h = (fits_append ts us t s fits h.0, pairs_fit ts us t fits ss h.1)

inserted_by_fit : (columns : List table.Column) (ts us : List (Option ColumnType)) (found : Option BoundClause)
    → SelectedFits (ClauseFits columns ts us) found → (row : Row) → FitsTypes us row
    → RowsFit columns (inserted_by found row)
inserted_by_fit columns ts us None h row fits rows is = nothing_fits columns rows is
inserted_by_fit columns ts us (Some (UpdateMatched condition parts)) h row fits rows is = nothing_fits columns rows is
inserted_by_fit columns ts us (Some (DeleteMatched condition)) h row fits rows is = nothing_fits columns rows is
inserted_by_fit columns ts us (Some (InsertUnmatched condition parts)) h row fits rows is =
    by_values (values_on parts row) (parts_give columns (type_at us) parts row (cells_fit us row fits) h) rows is
  where
    by_values : (found : Option Row) → ((new : Row) → found ≡ Some new → Fit columns new)
        → RowsFit columns (option_map (λ new. new ∷ []) found)
    by_values None h rows is = absurd cc
    by_values (Some new) h rows is =
        let same : new ∷ [] ≡ rows = cc in subst (AllByRecursion (Fit columns)) same (h new refl, tt)

with_inserted_fit : (columns : List table.Column) (a b : Option (List Row)) → RowsFit columns a → RowsFit columns b
    → RowsFit columns (with_inserted a b)
with_inserted_fit columns None b h k rows is = absurd cc
with_inserted_fit columns (Some a) None h k rows is = absurd cc
with_inserted_fit columns (Some a) (Some b) h k rows is =
    let same : a ++ b ≡ rows = cc in
    subst (AllByRecursion (Fit columns)) same (all_append (Fit columns) a b (h a refl) (k b refl))

inserted_fit : (columns : List table.Column) (ts us : List (Option ColumnType)) (clauses : List BoundClause)
    → AllByRecursion (ClauseFits columns ts us) clauses → (source : List Row) → AllByRecursion (FitsTypes us) source
    → RowsFit columns (inserted clauses source)
inserted_fit columns ts us clauses h [] fits rows is = nothing_fits columns rows is
inserted_fit columns ts us clauses h (s ∷ ss) fits rows is =
    with_inserted_fit columns (inserted_by (selected clauses s) s) (inserted clauses ss)
    (inserted_by_fit columns ts us (selected clauses s) (selected_fits (ClauseFits columns ts us) clauses h s) s fits.0)
    (inserted_fit columns ts us clauses h ss fits.1) rows is

with_added_fit : (columns : List table.Column) (rows : Option (List Row)) (found : Option Effect) → RowsFit columns rows
    → ChangesOf columns found → ChangesOf columns (with_added rows found)
with_added_fit columns None found h k = record { changed = λ e is. absurd cc; added = λ e is. absurd cc }
with_added_fit columns (Some rows) None h k = record { changed = λ e is. absurd cc; added = λ e is. absurd cc }
with_added_fit columns (Some rows) (Some r) h k = record {
  changed = λ e is. let same : record r { added = rows } ≡ e = cc in
      subst (λ (x : Effect). AllByRecursion (λ entry. Fit columns entry.1) x.changed) same (k.changed r refl);
  added = λ e is. let same : record r { added = rows } ≡ e = cc in
      subst (λ (x : Effect). AllByRecursion (Fit columns) x.added) same (h rows refl);
}

several_fit : (columns : List table.Column) (row : Option Row) (o : effects.EffectResult) → OutcomeFits columns o
    → OutcomeFits columns (unless_several row o)
several_fit columns None o h = h
several_fit columns (Some row) o h = tt

pub merges_fit : (columns : List table.Column) (ts us : List (Option ColumnType)) (on : Scalar)
    (clauses : List BoundClause)
    → AllByRecursion (ClauseFits columns ts us) clauses → (target : List (ℕ × Row))
    → AllByRecursion (λ entry. FitsTypes ts entry.1) target → (source : Option (List Row))
    → ((rows : List Row) → source ≡ Some rows → AllByRecursion (FitsTypes us) rows)
    → OutcomeFits columns (merged on clauses target source)
merges_fit columns ts us on clauses h target fits None k = tt
merges_fit columns ts us on clauses h target fits (Some source) k =
    by_test (is_merge_defined on matching others (target_rows target) source)
  where
    matching : List BoundClause
    matching = matched_clauses clauses

    others : List BoundClause
    others = unmatched_clauses clauses

    pairs : (t : Row) → FitsTypes ts t → AllByRecursion (FitsTypes (ts ++ us)) (selecting on matching source t)
    pairs t t_fits =
        all_filter (FitsTypes (ts ++ us)) (is_selecting matching) (pairs_of on source t)
        (all_filter (FitsTypes (ts ++ us)) (holds on) (map (λ s. t ++ s) source)
        (pairs_fit ts us t t_fits source (k source refl)))

    made : OutcomeFits columns (defined (with_added (inserted others (unmatched on (target_rows target) source))
        (turned (λ t. merged_turn matching (selecting on matching source t)) target)))
    made = defined_fit columns _ (with_added_fit columns (inserted others (unmatched on (target_rows target) source)) _
        (inserted_fit columns ts us others (all_filter (ClauseFits columns ts us) is_unmatched clauses h)
        (unmatched on (target_rows target) source)
        (all_filter (FitsTypes us) (is_alone on (target_rows target)) source (k source refl)))
        (turned_fit columns (FitsTypes ts) (λ t. merged_turn matching (selecting on matching source t))
        (λ t t_fits. merged_turn_fit columns ts us matching (all_filter (ClauseFits columns ts us) is_matched clauses h)
        (selecting on matching source t) (pairs t t_fits)) target fits))

    by_test : (b : Bool) → OutcomeFits columns (cond b (unless_several (first_several (selecting on matching source)
        (target_rows target)) (defined (with_added (inserted others (unmatched on (target_rows target) source))
        (turned (λ t. merged_turn matching (selecting on matching source t)) target)))) effects.Undefined)
    by_test true = several_fit columns (first_several (selecting on matching source) (target_rows target)) _ made
    by_test false = tt
