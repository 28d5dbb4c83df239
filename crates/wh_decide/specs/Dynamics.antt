-- What is asked of dynamic tables, and what is written for them.
--     has_increments                 whether changes are carried through its query
--     new_dynamic_in, new_stored     a new dynamic table as the file will have it
--     stored_with                    the objects with it
--     IsBoundAs                      its query is what its text binds to
--     MayBeMade                      changes are carried through that only where it allows it
--     dynamic_change                 the change that makes it, behind so many objects
--     new_upstream                   the dynamic tables that it will read
--     new_limit_refusal              the first limit that it is beyond
--     FitsLimits, HasSpelledQuery      what it keeps is within limits, and the text of its query spells it
--     initialized_in, IsFirstRefresh     what it comes to, and what its first refresh does
--     put_written                    what is written for a dynamic table of another state
--     resumed_state, suspended_state, lag_state     states that ALTER DYNAMIC TABLE puts
use Rattle.std.specs.Prelude.{◌≡◌, ◌≤◌, ℕ, ◌+◌, Bool, IsTrue, true, false, List, [], ◌∷◌, ◌++◌, length, Option, Some}
use Rattle.std.specs.Prelude.{None, if◌then◌else◌}
use Rattle.std.specs.List.{AllByRecursion, list_any}
use Rattle.wh_value.specs.Limit.{bound}
use Rattle.wh_value.specs.declared.limit.Limit.TheVariants as limits
use Rattle.wh_ast.specs.declared.statement.Initialize.{Initialize}
use Rattle.wh_ast.specs.declared.statement.Lag.{Lag}
use Rattle.wh_algebra.specs.Increments.{incrementable}
use Rattle.wh_ddl_naming.specs.DynamicTables.{NewDynamicTable}
use Rattle.wh_ddl_naming.specs.Tables.{column_names}
use Rattle.wh_ddl_bind.specs.View.{new_dynamic_table_of}
use Rattle.wh_ddl_bind.specs.declared.bound.NewDynamicTable as code
use Rattle.wh_reply.specs.Reply.{Refusal, OverLimit}
use Rattle.wh_state.specs.State.{Object, State, DynamicKind, new_object, empty_table}
use Rattle.wh_state.specs.Dynamic.{DynamicQuery, DynamicState, Dynamic, IsQuerySpelled, ids_read, new_dynamic}
use Rattle.wh_state.specs.Stored.{StoredObject}
use Rattle.wh_state.specs.Bound.{query_bound, kept_for}
use Rattle.wh_state.specs.Commit.{Change, DynamicChange, SetsDynamic}
use Rattle.wh_moment.specs.Upstream.{dynamics_of, reached_from}
use Rattle.wh_machine.specs.Tests.{refused_if, refused_past, first_of}
use Rattle.wh_machine.specs.Definitions.{is_long, count_refusals}
use Rattle.wh_machine.specs.Outcome.{Outcome}
use Rattle.wh_machine.specs.Dynamics.{seconds_of, lag_refusals, is_incremental, query_of, is_same_dynamic_state}
use Rattle.wh_machine.specs.Dynamics.{initialized, with_dynamic, asked_refresh}
use Rattle.wh_catalog.specs.Catalog.{stored_of}
use Rattle.wh_refresh.specs.Refreshing.{RefreshesAs}
use Rattle.wh_refresh.specs.declared.refreshing.Refreshing.{Refreshing}
use Rattle.wh_decide.specs.declared.sight.Sight.{Sight}
use Rattle.wh_decide.specs.Sight.{machine_in}

-- ---- CREATE DYNAMIC TABLE

abbrev pub has_increments : NewDynamicTable → Bool
has_increments n = is_incremental n.mode (incrementable n.query)

abbrev pub new_dynamic_in : List StoredObject → NewDynamicTable → Dynamic
new_dynamic_in objects n =
    new_dynamic (seconds_of n.lag) (has_increments n) (kept_for objects (has_increments n) (query_of n)) (query_of n)

abbrev pub new_stored : ℕ → List StoredObject → NewDynamicTable → StoredObject
new_stored stamp objects n = new_object n.name (DynamicKind (new_dynamic_in objects n) (empty_table n.columns stamp))

abbrev pub stored_with : ℕ → List StoredObject → NewDynamicTable → List StoredObject
stored_with stamp objects n = objects ++ new_stored stamp objects n ∷ []

abbrev pub ReadsThere : List Object → NewDynamicTable → Type 0
ReadsThere objects n = AllByRecursion (λ s. s.id ≤ length objects) (query_of n).sources

-- as a statement over these objects makes it
pub record IsBoundAs (objects : List Object) (n : NewDynamicTable) : Type 0 where
  pub reads : ReadsThere objects n
  pub query : n.query ≡ (query_bound objects (query_of n)).query

-- and as its refresh mode allows
pub record MayBeMade (objects : List Object) (n : NewDynamicTable) : Type 0 where
  pub reads : ReadsThere objects n
  pub mode : IsTrue (has_increments n) → IsTrue (incrementable (query_bound objects (query_of n)).query)

abbrev pub dynamic_change : ℕ → NewDynamicTable → DynamicChange
dynamic_change count n = record {
  id = count + 1;
  name = n.name;
  lag = seconds_of n.lag;
  is_incremental = has_increments n;
  query = query_of n;
  columns = n.columns;
}

abbrev pub new_upstream : List Object → DynamicQuery → List ℕ
new_upstream objects query = reached_from (dynamics_of objects) (length objects) (ids_read query)

-- behind the tests of its refresh mode and of its lag over what it reads
abbrev pub new_limit_refusal : State → NewDynamicTable → Option Refusal
new_limit_refusal s n = first_of (
    first_of (count_refusals s 0)
    ∷ refused_if (list_any is_long (n.name ∷ column_names n.columns)) (OverLimit limits.Name)
    ∷ refused_past limits.Columns (length n.columns)
    ∷ refused_if n.is_wide (OverLimit limits.Output)
    ∷ first_of (lag_refusals n.lag)
    ∷ [])

pub record FitsLimits (table : code.NewDynamicTable) : Type 0 where
  pub lag : seconds_of table.lag ≤ bound limits.MostTargetLag
  pub columns : length table.columns.items ≤ bound limits.Columns

abbrev pub HasSpelledQuery : code.NewDynamicTable → Type 0
HasSpelledQuery table = IsQuerySpelled (query_of (new_dynamic_table_of table))

-- with a first refresh, or without
abbrev pub initialized_in : Sight → code.NewDynamicTable → Initialize → Outcome
initialized_in sight table start =
    initialized (machine_in sight) (new_dynamic_table_of table) (query_of (new_dynamic_table_of table)) start

-- behind the objects, by that id
abbrev pub IsFirstRefresh : Sight → NewDynamicTable → ℕ → Refreshing → Type 0
IsFirstRefresh sight n id found =
    RefreshesAs sight.stamp (stored_with sight.stamp (stored_of sight.catalog.now).objects n) found
    (asked_refresh (with_dynamic (machine_in sight).state n (query_of n)) id)

-- ---- ALTER DYNAMIC TABLE

-- nothing where it is so already
abbrev pub put_written : ℕ → DynamicState → DynamicState → List Change
put_written id old new = if is_same_dynamic_state old new then [] else SetsDynamic id new ∷ []

abbrev pub put_written_to : ℕ → (DynamicState → DynamicState) → Option Dynamic → List Change
put_written_to id new None = []
put_written_to id new (Some d) = put_written id d.state (new d.state)

-- the failures are forgotten
abbrev pub resumed_state : DynamicState → DynamicState
resumed_state s = record s { is_suspended = false; failures = 0; tried = 0 }

abbrev pub suspended_state : DynamicState → DynamicState
suspended_state s = record s { is_suspended = true }

abbrev pub lag_state : Lag → DynamicState → DynamicState
lag_state lag s = record s { lag = seconds_of lag }
