-- Dynamic tables, worked out by hand: T has the row FALSE since stamp 4 and the row TRUE since stamp 15, and D shows
-- what its query gives, which reads T.
--     first_refresh, and on     refreshes of each kind
--     refused, suspended        refreshes that are refused, in the order of the tests
--     initialized               reads of a table that has no version
--     created, altered          CREATE and ALTER DYNAMIC TABLE
--     scheduled_refresh         the refresh of a tick
--     it_reads, it_gives        such a query
use Rattle.std.proofs.Common.{◌≡◌, ℕ, true, false, Bool, List, [], ◌∷◌, map, Option, Some, None, refl, ap, ◌∙◌}
use Rattle.std.specs.Prelude.{codes}
use Rattle.std.specs.FinMap.{empty, insert}
use Rattle.wh_value.specs.Value.{Truth, Row}
use Rattle.wh_value.specs.Column as columns_of
use Rattle.wh_value.specs.Column.{BooleanType}
use Rattle.wh_value.specs.declared.limit.Limit.TheVariants as limits
use Rattle.wh_ast.specs.declared.statement.Lag.{Lag}
use Rattle.wh_ast.specs.declared.statement.Lag.TheVariants as lags
use Rattle.wh_ast.specs.declared.statement.RefreshMode.{RefreshMode}
use Rattle.wh_ast.specs.declared.statement.RefreshMode.TheVariants as modes
use Rattle.wh_ast.specs.declared.statement.Initialize.TheVariants as starts
use Rattle.wh_meaning.specs.Bag.{fold_bag}
use Rattle.wh_meaning.specs.Scalar.{Column, val}
use Rattle.wh_meaning.specs.Query.{Query, Scan, Project, Group, values_on, eval}
use Rattle.wh_meaning.specs.Listing.{order_by, listed}
use Rattle.wh_ast.specs.declared.query.FromItem.{fold-roll-FromItem}
use Rattle.wh_ast.specs.declared.query.Core.{fold-roll-Core}
use Rattle.wh_ast.specs.declared.query.Query.{fold-roll-Query}
use Rattle.wh_naming.specs.Scope.{column_at}
use Rattle.wh_naming.specs.Typing as typing
use Rattle.wh_naming.specs.Select.{QueryReading, source_step, core_step, query_step}
use Rattle.wh_naming.proofs.Written.{WrittenQuery, layers, name_b, name_t, only, column, object, select}
use Rattle.wh_ddl_naming.specs.Names.{query_names}
use Rattle.wh_algebra.specs.Increments.{incrementable}
use Rattle.wh_maintenance.specs.Above.{grouping}
use Rattle.wh_ddl_naming.specs.DynamicTables.{NewDynamicTable}
use Rattle.wh_reply.specs.Reply.{Refusal, NotIncrementable, LagTooShort, NotInitialized, SourceGone, IsSuspended}
use Rattle.wh_reply.specs.Reply.{OverLimit}
use Rattle.wh_reply.specs.Reply.{Refreshed, RefreshAction, NoData, Full, Incremental}
use Rattle.wh_reply.specs.Reply.{CreatedDynamicTable, Resumed, Suspended, RefreshedTables, RefreshFailed}
use Rattle.wh_state.specs.State.{State, Version, Table, Object, TableKind, DynamicKind, new_object, dropped}
use Rattle.wh_state.specs.State.{nothing_held}
use Rattle.wh_state.specs.State.{version_for, version_at}
use Rattle.wh_state.specs.Dynamic.{DynamicQuery, DynamicState, id_named, ids_read}
use Rattle.wh_state.specs.Bound.{names_among, query_bound}
use Rattle.wh_state.specs.Moments.{evaluated_at}
use Rattle.wh_state.specs.Edits.{Edits, edits_from, partitions_made}
use Rattle.wh_state.specs.Act.{MakesDynamic, PutsDynamic, RefreshesRows, edited_table}
use Rattle.wh_state.proofs.KnownMaps.{map_steps}
use Rattle.wh_moment.specs.Upstream.{upstream, brought}
use Rattle.wh_moment.specs.Moment.{behind_failure}
use Rattle.wh_moment.specs.Rebase.{rebase}
use Rattle.wh_machine.specs.Sessions.{no_sessions}
use Rattle.wh_machine.specs.Outcome.{Machine, Does, opened}
use Rattle.wh_machine.specs.Reading.{reading_refusal}
use Rattle.wh_machine.specs.Refresh.{Fails, Brings, brought_one, refresh}
use Rattle.wh_machine.specs.Dynamics.{dynamic_refusal, asked_refresh, initialized, suspend_dynamic, resume_dynamic}
use Rattle.wh_machine.specs.Dynamics.{lag_refusal, scheduled}
use Rattle.wh_machine.specs.Ticks.{refreshes}

abbrev low : Row
low = Truth false ∷ []

abbrev high : Row
high = Truth true ∷ []

abbrev columns : List columns_of.Column
columns = record { name = codes "B"; column_type = BooleanType } ∷ []

abbrev table_of : ℕ → ℕ → List Version → Table
table_of stamp next kept = record {
  created = stamp;
  columns = columns;
  retention = 1;
  next_row = next;
  next_partition = 1;
  versions = kept;
}

abbrev one : Version
one = version_at 4 (record { rows = insert empty 1 low; partitions = [] })

abbrev two : Version
two = version_at 15 (record { rows = insert (insert empty 1 low) 2 high; partitions = [] })

abbrev twice : Version
twice = version_at 15 (record { rows = insert (insert empty 1 low) 2 low; partitions = [] })

abbrev emptied : Version
emptied = version_at 15 nothing_held

abbrev table_t : List Version → Object
table_t kept = new_object (codes "T") (TableKind (table_of 1 3 kept))

abbrev state_of : ℕ → ℕ → Bool → DynamicState
state_of lag moment is_suspended =
    record { lag = lag; is_suspended = is_suspended; failures = 0; tried = 0; moment = moment }

abbrev over : ℕ → List Object → State
over last objects = record { last = last; committed = 15; objects = objects }

abbrev adds : List Row → Edits
adds rows = record { rows = empty; added = rows }

abbrev brings : ℕ → RefreshAction → ℕ → ℕ → List Refreshed
brings moment action plus minus =
    record { name = codes "D"; moment = moment; action = action; plus = plus; minus = minus } ∷ []

-- a query of D that reads T and gives its rows, wherever T stands first
abbrev GivesRows : DynamicQuery → Type 0
GivesRows q = (kept : List Version) (live : Bool) (others : List Object)
    → (query_bound (record (table_t kept) { is_live = live } ∷ others) q).query ≡ Project (Scan 0) (Column 0 ∷ [])

module _ (q : DynamicQuery) (reads : ids_read q ≡ 1 ∷ []) (gives : GivesRows q) where
  abbrev d : DynamicState → List Version → Object
  d state kept =
      new_object (codes "D") (DynamicKind (record { query = q; is_incremental = true; state = state; kept = None })
      (table_of 2 2 kept))

  -- at its last numbers
  abbrev d_at : ℕ → ℕ → Object
  d_at row partition = new_object (codes "D") (DynamicKind (record {
    query = q;
    is_incremental = true;
    state = state_of 60 0 false;
    kept = None;
  }) (record (table_of 2 2 []) { next_row = row; next_partition = partition }))

  abbrev last_row : Object
  last_row = d_at 4611686018427387904 4611686018427387904

  abbrev last_partition : Object
  last_partition = d_at 1 4611686018427387904

  abbrev state_with : ℕ → List Version → DynamicState → List Version → State
  state_with last of_t state of_d = over last (table_t of_t ∷ d state of_d ∷ [])

  -- ---- refreshes

  -- a table without a version is evaluated, whatever its mode
  first_refresh : refresh (state_with 20 (one ∷ two ∷ []) (state_of 60 0 false) []) None 2 20
      ≡ Brings (brings 20 Full 2 0)
      (RefreshesRows 2 20 (adds (low ∷ high ∷ [])) None ∷ PutsDynamic 2 (state_of 60 20 false) ∷ [])
  unfolding refresh upstream brought brought_one evaluated_at eval val values_on rebase listed order_by fold_bag
      edits_from partitions_made edited_table
  first_refresh = simp (reads, gives, map_steps)

  -- by what stood at the moment
  earlier : refresh (state_with 20 (one ∷ two ∷ []) (state_of 60 0 false) []) None 2 14
      ≡ Brings (brings 14 Full 1 0)
      (RefreshesRows 2 14 (adds (low ∷ [])) None ∷ PutsDynamic 2 (state_of 60 14 false) ∷ [])
  unfolding refresh upstream brought brought_one evaluated_at eval val values_on rebase listed order_by fold_bag
      edits_from partitions_made edited_table
  earlier = simp (reads, gives, map_steps)

  -- as many rows stay as there are before and behind, with their numbers
  one_more : refresh (state_with 20 (one ∷ twice ∷ []) (state_of 60 5 false) (version_for 6 5 one.content ∷ [])) None
      2 20
      ≡ Brings (brings 20 Incremental 1 0)
      (RefreshesRows 2 20 (adds (low ∷ [])) None ∷ PutsDynamic 2 (state_of 60 20 false) ∷ [])
  unfolding refresh upstream brought brought_one evaluated_at eval val values_on rebase listed order_by fold_bag
      edits_from partitions_made edited_table
  one_more = simp (reads, gives, map_steps)

  one_less : refresh (state_with 20 (one ∷ emptied ∷ []) (state_of 60 5 false) (version_for 6 5 one.content ∷ [])) None
      2 20
      ≡ Brings (brings 20 Incremental 0 1)
      (RefreshesRows 2 20 (record { rows = insert empty 1 None; added = [] }) None
      ∷ PutsDynamic 2 (state_of 60 20 false) ∷ [])
  unfolding refresh upstream brought brought_one evaluated_at eval val values_on rebase listed order_by fold_bag
      edits_from partitions_made edited_table
  one_less = simp (reads, gives, map_steps)

  -- no version of T is new, and none comes
  nothing_new : refresh (state_with 20 (one ∷ two ∷ []) (state_of 60 15 false) (version_for 16 15 two.content ∷ []))
      None 2 20 ≡ Brings (brings 20 NoData 0 0) (PutsDynamic 2 (state_of 60 20 false) ∷ [])
  unfolding refresh upstream brought brought_one
  nothing_new = simp reads

  -- ---- tests

  -- a source that was dropped, before a table that is suspended
  refused : (asked_refresh (over 20 (dropped (table_t (one ∷ [])) ∷ d (state_of 60 0 true) [] ∷ [])) 2
      ≡ Fails (SourceGone (codes "D")))
      × (asked_refresh (state_with 20 (one ∷ []) (state_of 60 0 true) []) 2 ≡ Fails (IsSuspended (codes "D")))
  unfolding refresh upstream brought brought_one evaluated_at eval val values_on
  refused = (simp (reads, gives), simp (reads, gives))

  -- a row that has no number, and a partition that has none
  numbers : (refresh (over 20 (table_t (one ∷ []) ∷ last_row ∷ [])) None 2 20 ≡ Fails (OverLimit limits.RowNumber))
      × (refresh (over 20 (table_t (one ∷ []) ∷ last_partition ∷ [])) None 2 20
      ≡ Fails (OverLimit limits.PartitionNumber))
  unfolding refresh upstream brought brought_one evaluated_at eval val values_on rebase listed order_by fold_bag
      edits_from partitions_made edited_table
  numbers = (simp (reads, gives, map_steps), simp (reads, gives, map_steps))

  -- a live table that has no version is tested before what is gone
  initialized_first : (reading_refusal (dropped (table_t (one ∷ [])) ∷ d (state_of 60 0 false) [] ∷ []) 20 (2 ∷ [])
      ≡ Some (NotInitialized (codes "D")))
      × (reading_refusal (table_t (one ∷ []) ∷ dropped (d (state_of 60 0 false) []) ∷ []) 20 (2 ∷ []) ≡ None)
      × (reading_refusal (table_t (one ∷ []) ∷ d (state_of 60 20 false) (one ∷ []) ∷ []) 20 (1 ∷ 2 ∷ []) ≡ None)
  unfolding reading_refusal
  initialized_first = (refl, refl, refl)

  -- ---- CREATE and ALTER

  abbrev machine : List Object → Machine
  machine objects = opened (over 20 objects)

  abbrev written : Lag → RefreshMode → Query → NewDynamicTable
  written lag mode query = record {
    name = codes "D";
    lag = lag;
    mode = mode;
    initialize = starts.OnSchedule;
    tree = q.tree;
    query = query;
    columns = columns;
    sources = 1 ∷ [];
    is_wide = false;
    query_text = q.text;
  }

  abbrev tested : Lag → RefreshMode → Query → Option Refusal
  tested lag mode query = dynamic_refusal (over 20 (table_t (one ∷ []) ∷ [])) None (written lag mode query) q

  -- one group without a key takes no changes, by INCREMENTAL; then lags; within their limits
  tests : (tested (lags.Seconds 3600) modes.Incremental (Group (Scan 0) [] []) ≡ Some NotIncrementable)
      × (tested (lags.Seconds 59) modes.Auto (Group (Scan 0) [] []) ≡ Some (OverLimit limits.LeastTargetLag))
      × (tested (lags.Seconds 604801) modes.Full (Scan 0) ≡ Some (OverLimit limits.MostTargetLag))
      × (tested (lags.Seconds 60) modes.Incremental (Scan 0) ≡ None)
      × (tested lags.Downstream modes.Auto (Scan 0) ≡ None)
  unfolding dynamic_refusal upstream incrementable
  tests = (refl, simp reads, simp reads, simp reads, refl)

  -- ON_SCHEDULE makes it without a refresh; AUTO is INCREMENTAL where the query takes changes
  created : (initialized (machine (table_t (one ∷ []) ∷ [])) (written (lags.Seconds 60) modes.Auto (Scan 0)) q
      starts.OnSchedule
      ≡ Does (CreatedDynamicTable (codes "D") []) no_sessions (Some (MakesDynamic (codes "D") 60 true q columns ∷ [])))
      × (initialized (machine (table_t (one ∷ []) ∷ []))
      (written lags.Downstream modes.Auto (Group (Scan 0) [] [])) q starts.OnSchedule
      ≡ Does (CreatedDynamicTable (codes "D") []) no_sessions (Some (MakesDynamic (codes "D") 0 false q columns ∷ [])))
  unfolding incrementable
  created = (refl, refl)

  -- ON_CREATE brings it to the stamp, in the same commit
  created_with_rows : initialized (machine (table_t (one ∷ []) ∷ [])) (written (lags.Seconds 60) modes.Auto (Scan 0)) q
      starts.OnCreate
      ≡ Does (CreatedDynamicTable (codes "D") (brings 20 Full 1 0)) no_sessions
      (Some (MakesDynamic (codes "D") 60 true q columns ∷ RefreshesRows 2 20 (adds (low ∷ [])) None
      ∷ PutsDynamic 2 (state_of 60 20 false) ∷ []))
  unfolding refresh upstream brought brought_one evaluated_at eval val values_on rebase listed order_by fold_bag
      edits_from partitions_made edited_table incrementable grouping
  created_with_rows = simp (reads, gives, map_steps)

  -- what is so already is no change
  suspended : (suspend_dynamic (machine (table_t [] ∷ d (state_of 60 15 false) [] ∷ [])) None 2
      ≡ Does (Suspended (codes "D")) no_sessions (Some (PutsDynamic 2 (state_of 60 15 true) ∷ [])))
      × (suspend_dynamic (machine (table_t [] ∷ d (state_of 60 15 true) [] ∷ [])) None 2
      ≡ Does (Suspended (codes "D")) no_sessions (Some []))
  unfolding suspend_dynamic
  suspended = (refl, refl)

  -- it forgets the failures
  resumed : resume_dynamic (machine (table_t [] ∷ d (record (state_of 60 15 true) { failures = 5; tried = 48000 }) []
      ∷ [])) None 2 ≡ Does (Resumed (codes "D")) no_sessions (Some (PutsDynamic 2 (state_of 60 15 false) ∷ []))
  unfolding resume_dynamic
  resumed = refl

  -- ---- ticks

  -- a moment of 48 seconds on; a refresh that fails counts, and the fifth in a row suspends the table
  scheduled_refresh : (refreshes (opened (over 48001 (table_t (one ∷ []) ∷ d (state_of 60 0 false) [] ∷ [])))
      (Some (2, 48000))
      ≡ Does (RefreshedTables (brings 48000 Full 1 0)) no_sessions (Some (RefreshesRows 2 48000 (adds (low ∷ [])) None
      ∷ PutsDynamic 2 (state_of 60 48000 false) ∷ [])))
      × (refreshes (opened (over 48001 (dropped (table_t (one ∷ [])) ∷ d (state_of 60 0 false) [] ∷ [])))
      (Some (2, 48000))
      ≡ Does (RefreshFailed (codes "D") 48000 (SourceGone (codes "D")) false) no_sessions
      (Some (PutsDynamic 2 (record (state_of 60 0 false) { failures = 1; tried = 48000 }) ∷ [])))
      × (refreshes (opened (over 48001 (dropped (table_t (one ∷ []))
      ∷ d (record (state_of 60 0 false) { failures = 4 }) [] ∷ []))) (Some (2, 48000))
      ≡ Does (RefreshFailed (codes "D") 48000 (SourceGone (codes "D")) true) no_sessions
      (Some (PutsDynamic 2 (record (state_of 60 0 true) { failures = 5; tried = 48000 }) ∷ [])))
  unfolding scheduled refresh upstream brought brought_one evaluated_at eval val values_on rebase listed order_by
      fold_bag edits_from partitions_made edited_table behind_failure
  scheduled_refresh =
      (simp (reads, gives, map_steps), simp (reads, gives, map_steps), simp (reads, gives, map_steps))

-- ---- lags of tables that read one another

abbrev chain : (p q : DynamicQuery) → ℕ → ℕ → State
chain p q lag above = over 20 (table_t [] ∷ new_object (codes "D") (DynamicKind (record {
  query = p;
  is_incremental = true;
  state = state_of lag 0 false;
  kept = None;
}) (table_of 2 2 [])) ∷ new_object (codes "E") (DynamicKind (record {
  query = q;
  is_incremental = true;
  state = state_of above 0 false;
  kept = None;
}) (table_of 3 3 [])) ∷ [])

-- D reads T, and E reads D: no lag of E is below that of D, whichever is altered
lags_tested : (p q : DynamicQuery) → ids_read p ≡ 1 ∷ [] → ids_read q ≡ 2 ∷ []
    → (lag_refusal (chain p q 300 600) None 3 (lags.Seconds 299) ≡ Some (LagTooShort (codes "E") (codes "D")))
    × (lag_refusal (chain p q 300 600) None 2 (lags.Seconds 601) ≡ Some (LagTooShort (codes "E") (codes "D")))
    × (lag_refusal (chain p q 300 600) None 2 (lags.Seconds 600) ≡ None)
    × (lag_refusal (chain p q 300 0) None 2 (lags.Seconds 601) ≡ None)
    × (lag_refusal (chain p q 300 600) None 3 lags.Downstream ≡ None)
unfolding lag_refusal upstream
lags_tested p q below above = (
  simp (below, above),
  simp (below, above),
  simp below,
  simp below,
  refl,
)

-- ---- such a query: SELECT B FROM T

abbrev from_t : WrittenQuery
from_t = select (only (column name_b)) (object name_t)

abbrev query_d : DynamicQuery
query_d = record {
  tree = from_t.tree;
  text = codes "SELECT B FROM T";
  sources = record { name = name_t; id = 1 } ∷ [];
}

its_names : query_names from_t.tree ≡ name_t ∷ []
its_names = simp (fold-roll-Query, fold-roll-Core, fold-roll-FromItem)

it_reads : ids_read query_d ≡ 1 ∷ []
unfolding ids_read
it_reads = ap (map (id_named query_d.sources)) its_names

it_gives : GivesRows query_d
unfolding source_step core_step query_step typing.step column_at
it_gives kept live others =
    ap (λ (r : QueryReading).
    (r (names_among (record (table_t kept) { is_live = live } ∷ others) query_d.sources) 0).query) from_t.is
    ∙ simp layers
