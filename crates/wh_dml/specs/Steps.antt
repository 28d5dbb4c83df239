-- Steps of a change.
--     source_of                       the rows of its query in the row order; None where they are undefined
--     before, done_by                 the effect of rows and then of others, and of one row's turn
--     clause_at, clauses_at           the clauses that references point to
--     choice                          the first clause whose condition is TRUE, where the conditions of all are defined
--     turns_on                        the turns of a target's row, one for each source row that selects a clause
--     marked, marks                   which source rows are matched, after one row of the target and after all
--     marked_at                       the same after one row, where those at positions alone may be
--     Settled, settled                what the target's rows come to, by their turns
--     Met, met                        the same with the source rows that are matched; met_none of no rows
--     either, with_met                source rows that are matched by some or by others; both of some and of others
--     outcome                         the effect with the rows that are added, or the ambiguous row
--     left_over, inserts_of           the source rows that aren't matched, and the rows that they add
use Rattle.std.specs.Prelude.{ℕ, Bool, false, ◌||◌, if◌then◌else◌, List, [], ◌∷◌, ◌++◌, map, Option, Some, None}
use Rattle.std.specs.Prelude.{option_map}
use Rattle.std.specs.Prelude.{slice_index_or, slice_set}
use denote.Ref.{Bor}
use Rattle.wh_value.specs.Value.{Value, Row}
use Rattle.wh_meaning.specs.Scalar.{Scalar, val, is_true, holds, of_one, of_two}
use Rattle.wh_meaning.specs.Query.{Instance, values_on, eval}
use Rattle.wh_naming.specs.Changes.{BoundClause, UpdateMatched, DeleteMatched, InsertUnmatched, Modification}
use Rattle.wh_naming.specs.Changes.{InsertRows, InsertQuery, Update, Delete, Merge}
use Rattle.wh_effect.specs.Effect.{Effect, EffectResult, Does, no_effect, unless_several, Turn, Stays, Goes, Becomes}
use Rattle.wh_effect.specs.Effect.{condition_of, inserted_by, rows_in_order}
use Rattle.wh_bound_change.specs.View.{clause_of}
use Rattle.wh_bound_change.specs.declared.change.BoundClause as code

-- a change without a query has no such rows
abbrev pub source_of : Modification → Instance → Option (List Row)
source_of (InsertRows rows) instance = Some []
source_of (InsertQuery query parts) instance = rows_in_order (eval query instance)
source_of (Update condition parts) instance = Some []
source_of (Delete condition) instance = Some []
source_of (Merge query on clauses) instance = rows_in_order (eval query instance)

abbrev pub before : Effect → Effect → Effect
before a b = record { removed = a.removed ++ b.removed; changed = a.changed ++ b.changed; added = a.added ++ b.added }

abbrev pub done_by : ℕ → Turn → Effect
done_by number Stays = no_effect
done_by number Goes = record no_effect { removed = number ∷ [] }
done_by number (Becomes row) = record no_effect { changed = (number, row) ∷ [] }

-- ---- the clauses of MERGE

abbrev pub clause_at : Bor code.BoundClause → BoundClause
clause_at clause = clause_of clause.now

abbrev pub clauses_at : List (Bor code.BoundClause) → List BoundClause
clauses_at clauses = map clause_at clauses

abbrev pub first_of : {A : Type 0} → Option A → Option A → Option A
first_of None other = other
first_of (Some a) other = Some a

abbrev pub where_true : BoundClause → Value → Option BoundClause
where_true clause v = if is_true v then Some clause else None

abbrev pub with_choice : BoundClause → Option Value → Option (Option BoundClause) → Option (Option BoundClause)
with_choice clause value rest = of_two (λ v found. Some (first_of (where_true clause v) found)) value rest

abbrev pub choice : List BoundClause → Row → Option (Option BoundClause)
choice [] row = Some None
choice (c ∷ cs) row = with_choice c (val (condition_of c) row) (choice cs row)

-- ---- the pairs of a row of the target

-- some and then others, where both are there
abbrev pub joined : {A : Type 0} → Option (List A) → Option (List A) → Option (List A)
joined some others = of_two (λ xs ys. Some (xs ++ ys)) some others

abbrev pub turns_by : Option BoundClause → Row → Option (List Turn)
turns_by None pair = Some []
turns_by (Some (UpdateMatched condition parts)) pair = option_map (λ row. Becomes row ∷ []) (values_on parts pair)
turns_by (Some (DeleteMatched condition)) pair = Some (Goes ∷ [])
turns_by (Some (InsertUnmatched condition parts)) pair = Some []

abbrev pub matched_turns : List BoundClause → Row → Option (List Turn)
matched_turns clauses pair = of_one (λ c. turns_by c pair) (choice clauses pair)

abbrev pub turns_where : Option Value → Option (List Turn) → Option (List Turn)
turns_where on turns = of_one (λ v. if is_true v then turns else Some []) on

abbrev pub pair_turns : Scalar → List BoundClause → Row → Option (List Turn)
pair_turns on clauses pair = turns_where (val on pair) (matched_turns clauses pair)

abbrev pub turns_on : Scalar → List BoundClause → List Row → Row → Option (List Turn)
turns_on on clauses [] t = Some []
turns_on on clauses (s ∷ ss) t = joined (pair_turns on clauses (t ++ s)) (turns_on on clauses ss t)

abbrev pub marked : Scalar → Row → List Row → List Bool → List Bool
marked on t [] flags = flags
marked on t (s ∷ ss) [] = []
marked on t (s ∷ ss) (f ∷ fs) = (f || holds on (t ++ s)) ∷ marked on t ss fs

abbrev pub marked_at : Scalar → Row → List Row → List ℕ → List Bool → List Bool
marked_at on t source [] flags = flags
marked_at on t source (k ∷ ks) flags =
    marked_at on t source ks
    (slice_set flags k (slice_index_or flags k false || holds on (t ++ slice_index_or source k [])))

-- ---- all rows of the target

abbrev pub marks : Scalar → List (ℕ × Row) → List Row → List Bool → List Bool
marks on [] source flags = flags
marks on (kept ∷ rest) source flags = marks on rest source (marked on kept.1 source flags)

-- the first row of several turns, and the effect of rows that have one
pub record Settled : Type 0 where
  pub ambiguous : Option Row
  pub effect : Effect

abbrev pub nothing : Settled
nothing = record { ambiguous = None; effect = no_effect }

abbrev pub after : Settled → Settled → Settled
after a b = record { ambiguous = first_of a.ambiguous b.ambiguous; effect = before a.effect b.effect }

abbrev pub settled_by : ℕ × Row → List Turn → Settled
settled_by kept [] = nothing
settled_by kept (turn ∷ []) = record nothing { effect = done_by kept.0 turn }
settled_by kept (turn ∷ another ∷ others) = record nothing { ambiguous = Some kept.1 }

abbrev pub settled : (Row → Option (List Turn)) → List (ℕ × Row) → Option Settled
settled turns [] = Some nothing
settled turns (kept ∷ rest) =
    of_two (λ found others. Some (after (settled_by kept found) others)) (turns kept.1) (settled turns rest)

abbrev pub outcome : Settled → List Row → EffectResult
outcome s added = unless_several s.ambiguous (Does (record s.effect { added = added }))

-- what rows of the target come to, and which source rows are matched by one of them
pub record Met : Type 0 where
  pub found : Settled
  pub flags : List Bool

abbrev pub no_flags : List Row → List Bool
no_flags source = map (λ _. false) source

abbrev pub met_none : List Row → Met
met_none source = record { found = nothing; flags = no_flags source }

abbrev pub either : List Bool → List Bool → List Bool
either [] others = []
either (f ∷ fs) [] = []
either (f ∷ fs) (g ∷ gs) = (f || g) ∷ either fs gs

abbrev pub with_met : Met → Met → Met
with_met a b = record { found = after a.found b.found; flags = either a.flags b.flags }

abbrev pub with_flags : List Bool → Option Settled → Option Met
with_flags flags found = option_map (λ s. record { found = s; flags = flags }) found

abbrev pub met : Scalar → List BoundClause → List Row → List (ℕ × Row) → Option Met
met on clauses source target =
    with_flags (marks on target source (no_flags source)) (settled (turns_on on clauses source) target)

-- ---- the source rows that aren't matched

abbrev pub left_over : List Row → List Bool → List Row
left_over [] flags = []
left_over (s ∷ ss) [] = []
left_over (s ∷ ss) (f ∷ fs) = if f then left_over ss fs else s ∷ left_over ss fs

abbrev pub inserts_by : List BoundClause → Row → Option (List Row)
inserts_by clauses row = of_one (λ c. inserted_by c row) (choice clauses row)

abbrev pub inserts_of : List BoundClause → List Row → Option (List Row)
inserts_of clauses [] = Some []
inserts_of clauses (s ∷ ss) = joined (inserts_by clauses s) (inserts_of clauses ss)
