-- Dynamic tables: CREATE, ALTER and DROP DYNAMIC TABLE, and scheduled refreshes.
--     create_dynamic, drop_dynamic                            their outcomes
--     suspend_dynamic, resume_dynamic, set_lag, refresh_dynamic     those of ALTER
--     scheduled                                               the refresh of a table that is due
use Rattle.std.specs.Prelude.{ℕ, suc, ◌+◌, Bool, true, false, not, ◌&&◌, if◌then◌else◌, List, [], ◌∷◌, ◌++◌}
use Rattle.std.specs.Prelude.{length}
use Rattle.std.specs.Prelude.{Option, Some, None, nat_eq, nat_lt}
use Rattle.std.specs.List.{list_any}
use Rattle.std.specs.Option.{option_map_or}
use Rattle.wh_value.specs.declared.limit.Limit.TheVariants as limits
use Rattle.wh_value.specs.Limit.{bound}
use Rattle.wh_ast.specs.declared.statement.Lag.{Lag}
use Rattle.wh_ast.specs.declared.statement.Lag.TheVariants as lags
use Rattle.wh_ast.specs.declared.statement.RefreshMode.{RefreshMode}
use Rattle.wh_ast.specs.declared.statement.RefreshMode.TheVariants as modes
use Rattle.wh_ast.specs.declared.statement.Initialize.{Initialize}
use Rattle.wh_ast.specs.declared.statement.Initialize.TheVariants as starts
use Rattle.wh_algebra.specs.Increments.{incrementable}
use Rattle.wh_ddl_naming.specs.DynamicTables.{NewDynamicTable}
use Rattle.wh_naming.specs.Findings.{Name}
use Rattle.wh_ddl_naming.specs.Names.{query_names}
use Rattle.wh_ddl_naming.specs.Tables.{column_names}
use Rattle.wh_reply.specs.Reply.{Refusal, OverLimit, NotIncrementable, LagTooShort, IsSuspended, Reply}
use Rattle.wh_reply.specs.Reply.{CreatedDynamicTable, DroppedDynamicTable, Altered, Resumed, Suspended, RefreshedTables}
use Rattle.wh_reply.specs.Reply.{RefreshFailed}
use Rattle.wh_state.specs.State.{State, Object}
use Rattle.wh_state.specs.Edits.{is_among}
use Rattle.wh_state.specs.Dynamic.{Source, DynamicQuery, DynamicState, Dynamic, most_failed_refreshes}
use Rattle.wh_state.specs.Objects.{name_at, dynamic_at, is_live_at}
use Rattle.wh_state.specs.Act.{Act, MakesDynamic, PutsDynamic, DropsObject, all_acted}
use Rattle.wh_moment.specs.Upstream.{upstream, dynamics_of}
use Rattle.wh_moment.specs.Moment.{is_suspended_at, ids_from, behind_failure}
use Rattle.wh_machine.specs.Tests.{refused_if, refused_past, first_of}
use Rattle.wh_machine.specs.Outcome.{Machine, Outcome, Refuses, commits, unless}
use Rattle.wh_machine.specs.Definitions.{is_long, count_refusals}
use Rattle.wh_machine.specs.Tasks.{is_same_truth}
use Rattle.wh_machine.specs.Refresh.{Refreshing, Fails, Brings, with_upstream, refresh}

-- ---- lags

-- in seconds, 0 for DOWNSTREAM
abbrev pub seconds_of : Lag → ℕ
seconds_of lags.Downstream = 0
seconds_of (lags.Seconds n) = n

-- the lag of a live table that has one in seconds, as it is written
abbrev pub lag_refusals : Lag → List (Option Refusal)
lag_refusals lags.Downstream = []
lag_refusals (lags.Seconds n) = refused_if (nat_lt n (bound limits.LeastTargetLag)) (OverLimit limits.LeastTargetLag)
    ∷ refused_past limits.MostTargetLag n ∷ []

-- live, with a lag in seconds
abbrev pub live_lag : List Object → ℕ → ℕ
live_lag objects id = if is_live_at objects id then option_map_or (λ d. d.state.lag) (dynamic_at objects id) 0 else 0

abbrev pub is_longer : List Object → ℕ → ℕ → Bool
is_longer objects lag id = nat_lt lag (live_lag objects id)

-- of those of the upstream that have a longer lag the one with the least id
abbrev pub first_longer : List Object → List ℕ → ℕ → List ℕ → Option Refusal
first_longer objects name lag [] = None
first_longer objects name lag (id ∷ ids) = if is_longer objects lag id
    then Some (LagTooShort name (name_at objects id)) else first_longer objects name lag ids

-- of a table of that name
abbrev pub below_refusal : List Object → List ℕ → Lag → List ℕ → Option Refusal
below_refusal objects name lags.Downstream ids = None
below_refusal objects name (lags.Seconds n) ids = first_longer objects name n ids

-- ---- CREATE DYNAMIC TABLE

abbrev pub is_incremental : RefreshMode → Bool → Bool
is_incremental modes.Auto can = can
is_incremental modes.Full can = false
is_incremental modes.Incremental can = true

abbrev pub mode_refusal : RefreshMode → Bool → Option Refusal
mode_refusal modes.Incremental can = refused_if (not can) NotIncrementable
mode_refusal modes.Auto can = None
mode_refusal modes.Full can = None

-- the acts that make it, suspended by nothing and without a version
abbrev pub dynamic_made : NewDynamicTable → DynamicQuery → List Act
dynamic_made n query = MakesDynamic n.name (seconds_of n.lag) (is_incremental n.mode (incrementable n.query)) query
    n.columns ∷ []

-- the state with it
abbrev pub with_dynamic : State → NewDynamicTable → DynamicQuery → State
with_dynamic s n query = record s { objects = all_acted s.last s.objects (dynamic_made n query) }

-- of a table that is made: the id is the next one
abbrev pub new_id : State → ℕ
new_id s = suc (length s.objects)

-- the first test that a new dynamic table fails, behind those of names
unfoldable pub dynamic_refusal : State → Option Refusal → NewDynamicTable → DynamicQuery → Option Refusal
dynamic_refusal s wrong n query = first_of (
    wrong
    ∷ mode_refusal n.mode (incrementable n.query)
    ∷ below_refusal s.objects n.name n.lag (upstream (dynamics_of (with_dynamic s n query).objects) (new_id s))
    ∷ count_refusals s 0
    ++ refused_if (list_any is_long (n.name ∷ column_names n.columns)) (OverLimit limits.Name)
    ∷ refused_past limits.Columns (length n.columns)
    ∷ refused_if n.is_wide (OverLimit limits.Output)
    ∷ lag_refusals n.lag)

-- the suspended one with the least id
abbrev pub first_suspended : List Object → List ℕ → Option Refusal
first_suspended objects [] = None
first_suspended objects (id ∷ ids) = if is_suspended_at (dynamics_of objects) id
    then Some (IsSuspended (name_at objects id)) else first_suspended objects ids

-- to the event's stamp, where neither the table nor one of its upstream is suspended
abbrev pub asked_refresh : State → ℕ → Refreshing
asked_refresh s id = refresh s (first_suspended s.objects (with_upstream s.objects id)) id s.last

abbrev pub made_with : Machine → NewDynamicTable → DynamicQuery → Refreshing → Outcome
made_with m n query (Fails why) = Refuses why
made_with m n query (Brings lines acts) =
    commits m (CreatedDynamicTable n.name lines) (dynamic_made n query ++ acts)

abbrev pub initialized : Machine → NewDynamicTable → DynamicQuery → Initialize → Outcome
initialized m n query starts.OnSchedule = commits m (CreatedDynamicTable n.name []) (dynamic_made n query)
initialized m n query starts.OnCreate =
    made_with m n query (asked_refresh (with_dynamic m.state n query) (new_id m.state))

-- an object for each name in FROM
abbrev pub sources_named : List Name → List ℕ → List Source
sources_named [] ids = []
sources_named (name ∷ names) [] = []
sources_named (name ∷ names) (id ∷ ids) = record { name = name; id = id } ∷ sources_named names ids

abbrev pub query_of : NewDynamicTable → DynamicQuery
query_of n = record { tree = n.tree; text = n.query_text; sources = sources_named (query_names n.tree) n.sources }

unfoldable pub create_dynamic : Machine → Option Refusal → NewDynamicTable → Outcome
create_dynamic m wrong n =
    unless (dynamic_refusal m.state wrong n (query_of n)) (initialized m n (query_of n) n.initialize)

unfoldable pub drop_dynamic : Machine → Option Refusal → ℕ → Outcome
drop_dynamic m wrong id =
    unless wrong (commits m (DroppedDynamicTable (name_at m.state.objects id)) (DropsObject id ∷ []))

-- ---- ALTER DYNAMIC TABLE

abbrev pub is_same_dynamic_state : DynamicState → DynamicState → Bool
is_same_dynamic_state a b = nat_eq a.lag b.lag && is_same_truth a.is_suspended b.is_suspended
    && nat_eq a.failures b.failures && nat_eq a.tried b.tried && nat_eq a.moment b.moment

-- none where it is so already
abbrev pub puts_dynamic : ℕ → (DynamicState → DynamicState) → Option Dynamic → List Act
puts_dynamic id new None = []
puts_dynamic id new (Some d) =
    if is_same_dynamic_state d.state (new d.state) then [] else PutsDynamic id (new d.state) ∷ []

abbrev pub alters : Machine → Reply → ℕ → (DynamicState → DynamicState) → Outcome
alters m reply id new = commits m reply (puts_dynamic id new (dynamic_at m.state.objects id))

unfoldable pub suspend_dynamic : Machine → Option Refusal → ℕ → Outcome
suspend_dynamic m wrong id = unless wrong (alters m (Suspended (name_at m.state.objects id)) id
    (λ s. record s { is_suspended = true }))

-- it forgets the failures
unfoldable pub resume_dynamic : Machine → Option Refusal → ℕ → Outcome
resume_dynamic m wrong id = unless wrong (alters m (Resumed (name_at m.state.objects id)) id
    (λ s. record s { is_suspended = false; failures = 0; tried = 0 }))

-- the live tables with a lag in seconds that read a table and have a shorter one, by rising ids
abbrev pub is_shorter_above : List Object → ℕ → ℕ → ℕ → Bool
is_shorter_above objects id lag above = nat_lt 0 (live_lag objects above) && nat_lt (live_lag objects above) lag
    && is_among id (upstream (dynamics_of objects) above)

abbrev pub first_shorter : List Object → ℕ → ℕ → List ℕ → Option Refusal
first_shorter objects id lag [] = None
first_shorter objects id lag (above ∷ others) = if is_shorter_above objects id lag above
    then Some (LagTooShort (name_at objects above) (name_at objects id)) else first_shorter objects id lag others

abbrev pub above_refusal : List Object → ℕ → Lag → Option Refusal
above_refusal objects id lags.Downstream = None
above_refusal objects id (lags.Seconds n) = first_shorter objects id n (ids_from 1 objects)

-- what it reads has lower ids than what reads it
unfoldable pub lag_refusal : State → Option Refusal → ℕ → Lag → Option Refusal
lag_refusal s wrong id lag = first_of (
    wrong
    ∷ below_refusal s.objects (name_at s.objects id) lag (upstream (dynamics_of s.objects) id)
    ∷ above_refusal s.objects id lag
    ∷ lag_refusals lag)

unfoldable pub set_lag : Machine → Option Refusal → ℕ → Lag → Outcome
set_lag m wrong id lag = unless (lag_refusal m.state wrong id lag) (alters m (Altered (name_at m.state.objects id)) id
    (λ s. record s { lag = seconds_of lag }))

abbrev pub refreshed_by : Machine → Refreshing → Outcome
refreshed_by m (Fails why) = Refuses why
refreshed_by m (Brings lines acts) = commits m (RefreshedTables lines) acts

unfoldable pub refresh_dynamic : Machine → Option Refusal → ℕ → Outcome
refresh_dynamic m wrong id = unless wrong (refreshed_by m (asked_refresh m.state id))

-- ---- a scheduled refresh

abbrev pub is_fifth : DynamicState → Bool
is_fifth s = nat_eq (s.failures + 1) most_failed_refreshes

abbrev pub failed_of : Machine → ℕ → ℕ → Refusal → Option Dynamic → Outcome
failed_of m id target why None = Refuses why
failed_of m id target why (Some d) = commits m
    (RefreshFailed (name_at m.state.objects id) target why (is_fifth d.state))
    (PutsDynamic id (behind_failure target d.state) ∷ [])

abbrev pub scheduled_by : Machine → ℕ → ℕ → Refreshing → Outcome
scheduled_by m id target (Fails why) = failed_of m id target why (dynamic_at m.state.objects id)
scheduled_by m id target (Brings lines acts) = commits m (RefreshedTables lines) acts

-- one that fails counts, and is tried for that target no more
unfoldable pub scheduled : Machine → ℕ → ℕ → Outcome
scheduled m id target = scheduled_by m id target (refresh m.state None id target)
