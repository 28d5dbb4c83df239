-- What a changing statement does to the rows of its target.
--     Effect           the rows that go, by their numbers, those that are changed, and
--                      those that are added, in order
--     EffectResult          undefined, or ambiguous with a row of the target, or an effect
--     effect           of a change over the target's rows, by rising number, and the bags of its sources
use Rattle.std.specs.Prelude.{ℕ, Bool, true, false, not, ◌&&◌, if◌then◌else◌, List, [], ◌∷◌, ◌++◌, map, Option, Some}
use Rattle.std.specs.Prelude.{None, option_map, is_some}
use Rattle.std.specs.List.{list_all, list_any, filter}
use Rattle.wh_value.specs.Value.{Value, Row}
use Rattle.wh_meaning.specs.Scalar.{Scalar, val, is_true, holds}
use Rattle.wh_meaning.specs.Query.{Instance, values_on, eval}
use Rattle.wh_meaning.specs.Bag.{Bag}
use Rattle.wh_meaning.specs.Listing.{listed}
use Rattle.wh_naming.specs.Changes.{BoundClause, UpdateMatched, DeleteMatched, InsertUnmatched, Modification}
use Rattle.wh_naming.specs.Changes.{InsertRows}
use Rattle.wh_naming.specs.Changes.{InsertQuery, Update, Delete, Merge}

pub record Effect : Type 0 where
  pub removed : List ℕ
  pub changed : List (ℕ × Row)
  pub added : List Row

pub data EffectResult : Type 0 where
  Undefined : EffectResult
  Ambiguous : (row : Row) → EffectResult
  Does : Effect → EffectResult

abbrev pub no_effect : Effect
no_effect = record { removed = []; changed = []; added = [] }

abbrev pub defined : Option Effect → EffectResult
defined None = Undefined
defined (Some e) = Does e

-- ---- what becomes of the rows that there are

pub data Turn : Type 0 where
  Stays : Turn
  Goes : Turn
  Becomes : (row : Row) → Turn

abbrev pub becomes : Option Row → Option Turn
becomes row = option_map Becomes row

-- a row on which the condition isn't TRUE stays; what it would become is not evaluated there
abbrev pub turn_where : Option Value → Option Turn → Option Turn
turn_where None turn = None
turn_where (Some v) turn = if is_true v then turn else Some Stays

abbrev pub with_turn : ℕ × Row → Option Turn → Option Effect → Option Effect
with_turn entry None rest = None
with_turn entry (Some turn) None = None
with_turn entry (Some Stays) (Some e) = Some e
with_turn entry (Some Goes) (Some e) = Some (record e { removed = entry.0 ∷ e.removed })
with_turn entry (Some (Becomes row)) (Some e) =
    Some (record e { changed = (entry.0, row) ∷ e.changed })

-- each row's turn, where all are defined
abbrev pub turned : (Row → Option Turn) → List (ℕ × Row) → Option Effect
turned turn [] = Some no_effect
turned turn (entry ∷ rest) = with_turn entry (turn entry.1) (turned turn rest)

abbrev pub updated : Scalar → List Scalar → Row → Option Turn
updated condition parts row = turn_where (val condition row) (becomes (values_on parts row))

abbrev pub deleted : Scalar → Row → Option Turn
deleted condition row = turn_where (val condition row) (Some Goes)

-- ---- INSERT

abbrev pub with_row : Option Row → Option (List Row) → Option (List Row)
with_row None rest = None
with_row (Some row) None = None
with_row (Some row) (Some rows) = Some (row ∷ rows)

-- the rows of scalars, each on a row of its own, where all are defined
abbrev pub rows_of : List (List Scalar) → Option (List Row)
rows_of [] = Some []
rows_of (parts ∷ rest) = with_row (values_on parts []) (rows_of rest)

-- a row for each source row, in their order
abbrev pub rows_over : List Scalar → List Row → Option (List Row)
rows_over parts [] = Some []
rows_over parts (row ∷ rows) = with_row (values_on parts row) (rows_over parts rows)

abbrev pub adds : Option (List Row) → EffectResult
adds rows = defined (option_map (λ added. record no_effect { added = added }) rows)

-- the rows of a query in the row order
abbrev pub rows_in_order : Option Bag → Option (List Row)
rows_in_order b = option_map (listed []) b

abbrev pub inserts_over : List Scalar → Option (List Row) → EffectResult
inserts_over parts None = Undefined
inserts_over parts (Some source) = adds (rows_over parts source)

-- ---- MERGE

abbrev pub condition_of : BoundClause → Scalar
condition_of (UpdateMatched condition parts) = condition
condition_of (DeleteMatched condition) = condition
condition_of (InsertUnmatched condition parts) = condition

abbrev pub is_matched : BoundClause → Bool
is_matched (UpdateMatched condition parts) = true
is_matched (DeleteMatched condition) = true
is_matched (InsertUnmatched condition parts) = false

abbrev pub is_unmatched : BoundClause → Bool
is_unmatched c = not (is_matched c)

-- the clauses of a kind, and the first of some whose condition is TRUE
abbrev pub matched_clauses : List BoundClause → List BoundClause
matched_clauses clauses = filter is_matched clauses

abbrev pub unmatched_clauses : List BoundClause → List BoundClause
unmatched_clauses clauses = filter is_unmatched clauses

abbrev pub selected : List BoundClause → Row → Option BoundClause
selected [] row = None
selected (c ∷ cs) row = if holds (condition_of c) row then Some c else selected cs row

abbrev pub is_defined_part : Option BoundClause → Row → Bool
is_defined_part None row = true
is_defined_part (Some (UpdateMatched condition parts)) row = is_some (values_on parts row)
is_defined_part (Some (DeleteMatched condition)) row = true
is_defined_part (Some (InsertUnmatched condition parts)) row = is_some (values_on parts row)

-- every condition, and the parts of the clause that is selected
abbrev pub is_defined_on : List BoundClause → Row → Bool
is_defined_on clauses row = list_all (λ c. is_some (val (condition_of c) row)) clauses
    && is_defined_part (selected clauses row) row

-- the pairs of a target row on which ON is TRUE, and those of them on which a clause is selected
abbrev pub pairs_of : Scalar → List Row → Row → List Row
pairs_of on source t = filter (holds on) (map (λ s. t ++ s) source)

abbrev pub is_selecting : List BoundClause → Row → Bool
is_selecting clauses pair = is_some (selected clauses pair)

abbrev pub selecting : Scalar → List BoundClause → List Row → Row → List Row
selecting on clauses source t = filter (is_selecting clauses) (pairs_of on source t)

abbrev pub target_rows : List (ℕ × Row) → List Row
target_rows target = map (λ entry. entry.1) target

abbrev pub is_alone : Scalar → List Row → Row → Bool
is_alone on target s = not (list_any (λ t. holds on (t ++ s)) target)

-- the source rows that no row of the target is matched with
abbrev pub unmatched : Scalar → List Row → List Row → List Row
unmatched on target source = filter (is_alone on target) source

abbrev pub is_defined_pair : Scalar → Row → Row → Bool
is_defined_pair on t s = is_some (val on (t ++ s))

-- ON on every pair; the conditions of a kind, and the parts of the clause that is selected,
-- on every pair or row of the kind
abbrev pub is_merge_defined : Scalar → List BoundClause → List BoundClause → List Row → List Row → Bool
is_merge_defined on matching others target source =
    list_all (λ t. list_all (is_defined_pair on t) source) target
    && (list_all (λ t. list_all (is_defined_on matching) (pairs_of on source t)) target
    && list_all (is_defined_on others) (unmatched on target source))

abbrev pub is_several : List Row → Bool
is_several [] = false
is_several (p ∷ []) = false
is_several (p ∷ q ∷ ps) = true

-- the first row of the target with several pairs
abbrev pub first_several : (Row → List Row) → List Row → Option Row
first_several pairs [] = None
first_several pairs (t ∷ ts) = if is_several (pairs t) then Some t else first_several pairs ts

abbrev pub turn_by : Option BoundClause → Row → Option Turn
turn_by None pair = Some Stays
turn_by (Some (UpdateMatched condition parts)) pair = becomes (values_on parts pair)
turn_by (Some (DeleteMatched condition)) pair = Some Goes
turn_by (Some (InsertUnmatched condition parts)) pair = Some Stays

-- by the one pair that selects
abbrev pub merged_turn : List BoundClause → List Row → Option Turn
merged_turn clauses [] = Some Stays
merged_turn clauses (pair ∷ others) = turn_by (selected clauses pair) pair

abbrev pub inserted_by : Option BoundClause → Row → Option (List Row)
inserted_by None row = Some []
inserted_by (Some (UpdateMatched condition parts)) row = Some []
inserted_by (Some (DeleteMatched condition)) row = Some []
inserted_by (Some (InsertUnmatched condition parts)) row = option_map (λ new. new ∷ []) (values_on parts row)

abbrev pub with_inserted : Option (List Row) → Option (List Row) → Option (List Row)
with_inserted None rest = None
with_inserted (Some rows) None = None
with_inserted (Some rows) (Some more) = Some (rows ++ more)

abbrev pub inserted : List BoundClause → List Row → Option (List Row)
inserted clauses [] = Some []
inserted clauses (s ∷ ss) = with_inserted (inserted_by (selected clauses s) s) (inserted clauses ss)

abbrev pub with_added : Option (List Row) → Option Effect → Option Effect
with_added None e = None
with_added (Some rows) None = None
with_added (Some rows) (Some e) = Some (record e { added = rows })

abbrev pub unless_several : Option Row → EffectResult → EffectResult
unless_several None outcome = outcome
unless_several (Some row) outcome = Ambiguous row

-- undefined comes before ambiguous
abbrev pub merged_by : Scalar → List BoundClause → List BoundClause → List (ℕ × Row) → List Row → EffectResult
merged_by on matching others target source =
    if is_merge_defined on matching others (target_rows target) source
    then unless_several (first_several (selecting on matching source) (target_rows target))
    (defined (with_added (inserted others (unmatched on (target_rows target) source))
    (turned (λ t. merged_turn matching (selecting on matching source t)) target)))
    else Undefined

abbrev pub merged : Scalar → List BoundClause → List (ℕ × Row) → Option (List Row) → EffectResult
merged on clauses target None = Undefined
merged on clauses target (Some source) =
    merged_by on (matched_clauses clauses) (unmatched_clauses clauses) target source

-- ---- the change

unfoldable pub effect : Modification → List (ℕ × Row) → Instance → EffectResult
effect (InsertRows rows) target instance = adds (rows_of rows)
effect (InsertQuery query parts) target instance = inserts_over parts (rows_in_order (eval query instance))
effect (Update condition parts) target instance = defined (turned (updated condition parts) target)
effect (Delete condition) target instance = defined (turned (deleted condition) target)
effect (Merge source on clauses) target instance = merged on clauses target (rows_in_order (eval source instance))
