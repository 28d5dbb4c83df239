-- The texts of what acts make are understood: outcomes of which that holds, and those of dynamic tables.
--     AreUnderstood     so it is of the acts of a commit, where there is one
--     Understands       and of those of an outcome
--     initialized_is, refreshed_is, alters_is, scheduled_is     of CREATE and ALTER DYNAMIC TABLE, and of a table that is due
use Rattle.std.proofs.Common.{ℕ, Bool, true, false, cond, List, [], ◌∷◌, Option, Some, None}
use Rattle.std.specs.List.{AllByRecursion}
use Rattle.wh_reply.specs.Reply.{Refusal, Reply}
use Rattle.wh_state.specs.Objects.{dynamic_at}
use Rattle.wh_state.specs.Dynamic.{IsQuerySpelled, DynamicQuery, DynamicState, Dynamic}
use Rattle.wh_state.specs.Act.{Act, MakesTable, DropsObject, EditsRows, MakesStream, MovesOffset, MakesTask, PutsTask}
use Rattle.wh_state.specs.Act.{BeginsRun, EndsTask, MakesDynamic, PutsDynamic, RefreshesRows}
use Rattle.wh_state.proofs.AllLaws.{all_map}
use Rattle.wh_state.proofs.SpelledLaws.{IsUnderstood}
use Rattle.wh_machine.specs.Sessions.{Sessions}
use Rattle.wh_machine.specs.Outcome.{Machine, Outcome, Refuses, Does, acts_in}
use Rattle.wh_ast.specs.declared.statement.Initialize.{Initialize}
use Rattle.wh_ast.specs.declared.statement.Initialize.TheVariants as starts
use Rattle.wh_ddl_naming.specs.DynamicTables.{NewDynamicTable}
use Rattle.wh_machine.specs.Refresh as refresh
use Rattle.wh_machine.specs.Refresh.{Refreshing}
use Rattle.wh_machine.specs.Dynamics.{with_dynamic, new_id, asked_refresh, made_with, initialized}
use Rattle.wh_machine.specs.Dynamics.{is_same_dynamic_state, puts_dynamic, alters, refreshed_by}
use Rattle.wh_machine.specs.Dynamics.{failed_of, scheduled_by, scheduled}
use Rattle.wh_machine.proofs.RefreshLaws.{IsOfRefresh, AreOfRefresh, refresh_acts}

abbrev pub AreUnderstood : Option (List Act) → Type 0
AreUnderstood None = Unit {0}
AreUnderstood (Some acts) = AllByRecursion IsUnderstood acts

-- of an outcome
pub record Understands (o : Outcome) : Type 0 where
  pub are : AreUnderstood (acts_in o)

pub does : {reply : Reply} {sessions : Sessions} {acts : Option (List Act)} → AreUnderstood acts
    → Understands (Does reply sessions acts)
does are = record { are = are }

pub refuses : {why : Refusal} → Understands (Refuses why)
refuses = record { are = tt }

-- ---- dynamic tables

refresh_is : (act : Act) → IsOfRefresh act → IsUnderstood act
refresh_is (RefreshesRows id moment e c) is = tt
refresh_is (PutsDynamic id state) is = tt
refresh_is (MakesTable name columns retention) is = absurd is
refresh_is (DropsObject id) is = absurd is
refresh_is (EditsRows id e) is = absurd is
refresh_is (MakesStream name source is_append_only) is = absurd is
refresh_is (MovesOffset id offset) is = absurd is
refresh_is (MakesTask name minutes after runs) is = absurd is
refresh_is (PutsTask id state) is = absurd is
refresh_is (BeginsRun root tasks) is = absurd is
refresh_is (EndsTask root task ending) is = absurd is
refresh_is (MakesDynamic name lag is_incremental query columns) is = absurd is

refreshes_are : (acts : List Act) → AllByRecursion IsOfRefresh acts → AllByRecursion IsUnderstood acts
refreshes_are acts are = all_map IsOfRefresh IsUnderstood refresh_is acts are

pub initialized_is : (m : Machine) (n : NewDynamicTable) (query : DynamicQuery) (start : Initialize) → IsQuerySpelled query
    → Understands (initialized m n query start)
initialized_is m n query starts.OnSchedule spelled = does (spelled, tt)
initialized_is m n query starts.OnCreate spelled =
    by_refresh (asked_refresh (with_dynamic m.state n query) (new_id m.state))
    (refresh_acts (with_dynamic m.state n query) _ (new_id m.state) m.state.last)
  where
    by_refresh : (r : Refreshing) → AreOfRefresh (with_dynamic m.state n query) r → Understands (made_with m n query r)
    by_refresh (refresh.Fails why) are = refuses
    by_refresh (refresh.Brings lines acts) are = does (spelled, refreshes_are acts are.are)

pub refreshed_is : (m : Machine) (r : Refreshing) → AreOfRefresh m.state r → Understands (refreshed_by m r)
refreshed_is m (refresh.Fails why) are = refuses
refreshed_is m (refresh.Brings lines acts) are = does (refreshes_are acts are.are)

pub alters_is : (m : Machine) (reply : Reply) (id : ℕ) (new : DynamicState → DynamicState)
    → Understands (alters m reply id new)
alters_is m reply id new = does (by_found (dynamic_at m.state.objects id))
  where
    by_test : (d : Dynamic) (same : Bool)
        → AllByRecursion IsUnderstood (cond same [] (PutsDynamic id (new d.state) ∷ []))
    by_test d true = tt
    by_test d false = (tt, tt)

    by_found : (found : Option Dynamic) → AllByRecursion IsUnderstood (puts_dynamic id new found)
    by_found None = tt
    by_found (Some d) = by_test d (is_same_dynamic_state d.state (new d.state))

pub scheduled_is : (m : Machine) (id target : ℕ) → Understands (scheduled m id target)
unfolding scheduled
scheduled_is m id target = by_refresh (refresh.refresh m.state None id target) (refresh_acts m.state None id target)
  where
    by_found : (why : Refusal) (found : Option Dynamic) → Understands (failed_of m id target why found)
    by_found why None = refuses
    by_found why (Some d) = does (tt, tt)

    by_refresh : (r : Refreshing) → AreOfRefresh m.state r → Understands (scheduled_by m id target r)
    by_refresh (refresh.Fails why) are = by_found why (dynamic_at m.state.objects id)
    by_refresh (refresh.Brings lines acts) are = does (refreshes_are acts are.are)
