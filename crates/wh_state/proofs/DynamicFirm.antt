-- What holds of the columns and of the dynamic tables of a file.
--     AreFilled, HasColumns        some columns, each with a name that isn't empty
--     HasQueryTokens               a query of a text; spelled_query, of a text that spells it
--     IsBound                      a query binds to columns, over objects that are there, whether they live or not
--     IsFirmDynamic                a lag, few failures, and a query of a text that is bound
--     AreFirmDynamics              so of all dynamic tables
--     dynamics_changed, dynamics_more     and still where an object is changed or made
use Rattle.std.proofs.Common.{◌≡◌, ℕ, ◌<◌, ◌≤◌, List, [], ◌∷◌, ◌++◌, length, map, Option, Some, None, refl, sym}
use Rattle.std.proofs.Common.{subst, ◌∙◌, IfSome, arith}
use Rattle.std.specs.List.{AllByRecursion}
use Rattle.std.specs.Option.{IsSomeAnd, option_map_or}
use Rattle.wh_value.specs.Column.{Column}
use Rattle.wh_ast.specs.declared.query.Query.{Query}
use Rattle.wh_ast.specs.declared.statement.Statement.TheVariants as st
use Rattle.wh_grammar.specs.Token.{Token}
use Rattle.wh_grammar.specs.Query.{IsQuery}
use Rattle.wh_grammar.specs.Spelled.{Spells, IsStatement, plain, IsPlain, select, most_nested}
use Rattle.wh_grammar.specs.Spelled.{of_table, of_stream, of_task, of_dynamic_table, of_transaction}
use Rattle.wh_naming.specs.Findings.{first_failing}
use Rattle.wh_naming.specs.Scope.{ObjectKind, Named}
use Rattle.wh_naming.specs.Select.{bound_query, column_of}
use Rattle.wh_state.specs.State.{TableKind, StreamKind, TaskKind, DynamicKind, table_in, dynamic_in, columns_in, at_id}
use Rattle.wh_state.specs.State.{changed_at}
use Rattle.wh_state.specs.Dynamic.{Source, DynamicQuery, DynamicState, Dynamic, new_dynamic, with_dynamic_state}
use Rattle.wh_state.specs.Dynamic.{most_failed_refreshes, Kept, GroupsChange, behind_change}
use Rattle.wh_state.specs.Bound.{source_kind, named_as, names_among, query_bound, IsLiveSource, but_taken}
use Rattle.wh_state.specs.Stored.{StoredKind, StoredObject}
use Rattle.wh_state.specs.Commit.{IsLag, DynamicChange, DynamicApplies, DynamicStateApplies, TakesState}
use Rattle.wh_state.proofs.AllLaws.{all_map, all_more, all_changed_at}
use Rattle.wh_state.proofs.FoundLaws.{FoundAt, found_some, found_changed, found_more}

-- ---- columns

pub record AreFilled (columns : List Column) : Type 0 where
  pub some : 0 < length columns
  pub names : AllByRecursion (λ c. 0 < length c.name) columns

abbrev pub KindHasColumns : StoredKind → Type 0
KindHasColumns k = IfSome (table_in k) (λ t. AreFilled t.columns)

abbrev pub HasColumns : StoredObject → Type 0
HasColumns o = KindHasColumns o.kind

-- ---- queries of texts

pub record HasQueryTokens (q : Query) : Type 0 where
  pub tokens : List Token
  pub behind : List Token
  pub is : IsQuery most_nested tokens q behind

plain_query : {ts : List Token} {q : Query} → IsPlain ts (st.Select q []) → HasQueryTokens q
plain_query {ts = ts} (select {us = us} is order) = record { tokens = ts; behind = us; is = is }
plain_query (of_table p) = elim p [ ]
plain_query (of_stream p) = elim p [ ]
plain_query (of_task p) = elim p [ ]
plain_query (of_dynamic_table p) = elim p [ ]
plain_query (of_transaction p) = elim p [ ]

pub spelled_query : (text : List ℕ) (q : Query) → Spells text (st.Select q []) → HasQueryTokens q
spelled_query text q spells = of_statement spells.is_statement
  where
    of_statement : IsStatement text spells.placed (st.Select q []) → HasQueryTokens q
    of_statement (plain p) = plain_query p

-- ---- what a query sees

abbrev pub IsSeenAs : ObjectKind → List Column → StoredObject → Type 0
IsSeenAs kind columns o = (source_kind o.kind ≡ kind) × (columns_in o.kind ≡ columns)

abbrev pub IsThere : StoredObject → Type 0
IsThere o = Unit {0}

pub record IsBound (objects : List StoredObject) (q : DynamicQuery) (columns : List Column) : Type 0 where
  pub sources : AllByRecursion (λ s. FoundAt IsThere objects s.id) q.sources
  pub right : first_failing (but_taken (query_bound objects q).findings) ≡ None
  pub outputs : map column_of (query_bound objects q).outputs ≡ columns

pub record IsFirmDynamic (objects : List StoredObject) (d : Dynamic) (columns : List Column) : Type 0 where
  pub lag : IsLag d.state.lag
  pub few : d.state.failures ≤ most_failed_refreshes
  pub written : HasQueryTokens d.query.tree
  pub bound : IsBound objects d.query columns

abbrev pub DynamicHolds : List StoredObject → StoredKind → Type 0
DynamicHolds objects (TableKind t) = Unit {0}
DynamicHolds objects (StreamKind s) = Unit {0}
DynamicHolds objects (TaskKind t) = Unit {0}
DynamicHolds objects (DynamicKind d t) = IsFirmDynamic objects d t.columns

abbrev pub AreFirmDynamics : List StoredObject → Type 0
AreFirmDynamics objects = AllByRecursion (λ o. DynamicHolds objects o.kind) objects

-- ---- where what a query sees stays

abbrev Keeps : List StoredObject → List StoredObject → Type 0
Keeps objects new = (kind : ObjectKind) (columns : List Column) (id : ℕ) → FoundAt (IsSeenAs kind columns) objects id
    → FoundAt (IsSeenAs kind columns) new id

names_kept : (objects new : List StoredObject) → Keeps objects new → (sources : List Source)
    → AllByRecursion (λ s. FoundAt IsThere objects s.id) sources
    → names_among new sources ≡ names_among objects sources
names_kept objects new keeps [] there = refl
names_kept objects new keeps (s ∷ ss) there =
    by_found (at_id objects s.id) refl there.0 (names_kept objects new keeps ss there.1)
  where
    by_new : (o : StoredObject) (found : Option StoredObject)
        → IsSomeAnd found (IsSeenAs (source_kind o.kind) (columns_in o.kind))
        → names_among new ss ≡ names_among objects ss
        → option_map_or (λ o. named_as s o ∷ []) found [] ++ names_among new ss
        ≡ named_as s o ∷ names_among objects ss
    by_new o None seen rest = absurd seen
    by_new o (Some p) seen rest = rw (seen.0, seen.1, rest) refl

    by_found : (found : Option StoredObject) → at_id objects s.id ≡ found → IsSomeAnd found IsThere
        → names_among new ss ≡ names_among objects ss
        → option_map_or (λ o. named_as s o ∷ []) (at_id new s.id) [] ++ names_among new ss
        ≡ option_map_or (λ o. named_as s o ∷ []) found [] ++ names_among objects ss
    by_found None none is rest = absurd is
    by_found (Some o) here is rest =
        by_new o (at_id new s.id) (keeps (source_kind o.kind) (columns_in o.kind) s.id
        (found_some (IsSeenAs (source_kind o.kind) (columns_in o.kind)) objects s.id o here (refl, refl))) rest

there_kept : (objects new : List StoredObject) → Keeps objects new → (id : ℕ) → FoundAt IsThere objects id
    → FoundAt IsThere new id
there_kept objects new keeps id is = by_found (at_id objects id) refl is
  where
    only_there : (found : Option StoredObject) (kind : ObjectKind) (columns : List Column)
        → IsSomeAnd found (IsSeenAs kind columns) → IsSomeAnd found IsThere
    only_there None kind columns seen = seen
    only_there (Some o) kind columns seen = tt

    by_found : (found : Option StoredObject) → at_id objects id ≡ found → IsSomeAnd found IsThere
        → FoundAt IsThere new id
    by_found None none is = absurd is
    by_found (Some o) here is = only_there (at_id new id) (source_kind o.kind) (columns_in o.kind)
        (keeps (source_kind o.kind) (columns_in o.kind) id
        (found_some (IsSeenAs (source_kind o.kind) (columns_in o.kind)) objects id o here (refl, refl)))

bound_kept : (objects new : List StoredObject) → Keeps objects new → (q : DynamicQuery) (columns : List Column)
    → IsBound objects q columns → IsBound new q columns
bound_kept objects new keeps q columns bound =
    let same : names_among objects q.sources ≡ names_among new q.sources =
    sym (names_kept objects new keeps q.sources bound.sources) in
    record {
      sources = all_map (λ s. FoundAt IsThere objects s.id) (λ s. FoundAt IsThere new s.id)
          (λ s is. there_kept objects new keeps s.id is) q.sources bound.sources;
      right = subst (λ (names : List Named).
          first_failing (but_taken (bound_query q.tree names 0).findings) ≡ None) same bound.right;
      outputs = subst (λ (names : List Named). map column_of (bound_query q.tree names 0).outputs ≡ columns) same
          bound.outputs;
    }

holds_kept : (objects new : List StoredObject) → Keeps objects new → (k : StoredKind) → DynamicHolds objects k
    → DynamicHolds new k
holds_kept objects new keeps (TableKind t) h = tt
holds_kept objects new keeps (StreamKind s) h = tt
holds_kept objects new keeps (TaskKind t) h = tt
holds_kept objects new keeps (DynamicKind d t) h = record {
  lag = h.lag;
  few = h.few;
  written = h.written;
  bound = bound_kept objects new keeps d.query t.columns h.bound;
}

-- ---- an object that is changed, and one more

-- it is seen as it was
pub record KeepsSeen (f : StoredObject → StoredObject) : Type 0 where
  pub kind : (o : StoredObject) → source_kind (f o).kind ≡ source_kind o.kind
  pub columns : (o : StoredObject) → columns_in (f o).kind ≡ columns_in o.kind

pub dynamics_changed : (f : StoredObject → StoredObject) → KeepsSeen f
    → ((objects : List StoredObject) (o : StoredObject) → DynamicHolds objects o.kind → DynamicHolds objects (f o).kind)
    → (objects : List StoredObject) (id : ℕ) → AreFirmDynamics objects → AreFirmDynamics (changed_at objects id f)
dynamics_changed f seen holds objects id firm =
    all_changed_at (λ o. DynamicHolds objects o.kind) (λ o. DynamicHolds new o.kind) f
    (λ o h. holds_kept objects new keeps o.kind h)
    (λ o h. holds new o (holds_kept objects new keeps o.kind h)) objects id
    firm
  where
    new : List StoredObject
    new = changed_at objects id f

    keeps : Keeps objects new
    keeps kind columns other found = found_changed (IsSeenAs kind columns) f
        (λ o is. (seen.kind o ∙ is.0, seen.columns o ∙ is.1)) objects id other found

pub dynamics_more : (objects : List StoredObject) (new : StoredObject) → DynamicHolds objects new.kind
    → AreFirmDynamics objects → AreFirmDynamics (objects ++ new ∷ [])
dynamics_more objects new here firm =
    all_more (λ o. DynamicHolds all o.kind) objects new
    (all_map (λ o. DynamicHolds objects o.kind) (λ o. DynamicHolds all o.kind)
    (λ o h. holds_kept objects all keeps o.kind h) objects firm) (holds_kept objects all keeps new.kind here)
  where
    all : List StoredObject
    all = objects ++ new ∷ []

    keeps : Keeps objects all
    keeps kind columns id found = found_more (IsSeenAs kind columns) objects (new ∷ []) id found

-- ---- the changes of dynamic tables

live_there : (found : Option StoredObject) → IsLiveSource found → IsSomeAnd found IsThere
live_there None live = live
live_there (Some o) live = tt

-- a new one
pub made_firm : (objects : List StoredObject) (c : DynamicChange) (kept : Option Kept) → HasQueryTokens c.query.tree
    → DynamicApplies objects c → IsFirmDynamic objects (new_dynamic c.lag c.is_incremental kept c.query) c.columns
made_firm objects c kept written applies = record {
  lag = applies.lag;
  few = omega arith;
  written = written;
  bound = record {
    sources = all_map (λ s. IsLiveSource (at_id objects s.id)) (λ s. FoundAt IsThere objects s.id)
        (λ s live. live_there (at_id objects s.id) live) c.query.sources applies.query.sources;
    right = applies.query.right;
    outputs = applies.query.outputs;
  };
}

pub made_filled : (objects : List StoredObject) (c : DynamicChange) → DynamicApplies objects c → AreFilled c.columns
made_filled objects c applies =
    record { some = applies.some_column; names = all_map _ _ (λ column name. name.0) c.columns applies.column_names }

-- one in another state
pub record IsTaken (s : DynamicState) : Type 0 where
  pub lag : IsLag s.lag
  pub failures : s.failures ≤ most_failed_refreshes

pub state_taken : (found : Option StoredObject) (s : DynamicState) → DynamicStateApplies found s → IsTaken s
state_taken None s applies = absurd applies
state_taken (Some o) s applies = by_kind o.kind applies.1
  where
    by_dynamic : (d : Dynamic) → TakesState d s → IsTaken s
    by_dynamic d takes = record { lag = takes.lag; failures = takes.failures }

    by_kind : (k : StoredKind) → IsSomeAnd (dynamic_in k) (λ d. TakesState d s) → IsTaken s
    by_kind (TableKind t) takes = absurd takes
    by_kind (StreamKind t) takes = absurd takes
    by_kind (TaskKind t) takes = absurd takes
    by_kind (DynamicKind d t) takes = by_dynamic d takes

pub state_holds : (s : DynamicState) → IsTaken s → (objects : List StoredObject) (d : Dynamic) (columns : List Column)
    → IsFirmDynamic objects d columns → IsFirmDynamic objects (with_dynamic_state s d) columns
state_holds s taken objects d columns firm =
    record { lag = taken.lag; few = taken.failures; written = firm.written; bound = firm.bound }

-- one behind a change of its groups
pub groups_hold : (c : GroupsChange) (objects : List StoredObject) (d : Dynamic) (columns : List Column)
    → IsFirmDynamic objects d columns → IsFirmDynamic objects (behind_change c d) columns
groups_hold c objects d columns firm =
    record { lag = firm.lag; few = firm.few; written = firm.written; bound = firm.bound }
