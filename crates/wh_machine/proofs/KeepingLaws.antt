-- What holds of what an event does to a sound machine.
--     IsReady           a machine at the stamp of an event, with a sound state
--     IsKeeping         an outcome that keeps it so: its acts, and the tables that its sessions change
--     refused, does, tested, tested_last, either, answered     as of what is lawful
--     tables_stay       what is a table stays one
use Rattle.std.proofs.Common.{◌≡◌, ℕ, ◌<◌, Bool, true, false, cond, List, [], ◌∷◌, Option, Some, None, IsTrue, refl}
use Rattle.wh_reply.specs.Reply.{Refusal, Reply}
use Rattle.wh_state.specs.State.{Kind, TableKind, StreamKind, TaskKind, DynamicKind, Object, dropped, on_task}
use Rattle.wh_state.specs.State.{on_dynamic}
use Rattle.wh_state.specs.State.{Table, Stream, on_table, on_stream}
use Rattle.wh_state.specs.Task.{Task, with_state, with_run, with_ended}
use Rattle.wh_state.specs.Dynamic.{Dynamic, with_dynamic_state}
use Rattle.wh_state.specs.Objects.{is_table}
use Rattle.wh_state.specs.Act.{Act, MakesTable, DropsObject, EditsRows, MakesStream, MovesOffset, MakesTask, PutsTask}
use Rattle.wh_state.specs.Act.{BeginsRun, EndsTask, MakesDynamic, PutsDynamic, RefreshesRows, edited_object}
use Rattle.wh_state.specs.Act.{edited_kind, refreshed_object, moved_object}
use Rattle.wh_state.specs.Act.{on_task_object, on_dynamic_object, acted, all_acted}
use Rattle.wh_state.specs.Sound.{Sound}
use Rattle.wh_state.proofs.AllLaws.{all_map}
use Rattle.wh_state.proofs.FoundLaws.{found_changed, found_more}
use Rattle.wh_state.proofs.SoundLaws.{AreKeeping}
use Rattle.wh_machine.specs.Transaction.{Transaction}
use Rattle.wh_machine.specs.Sessions.{Sessions}
use Rattle.wh_machine.specs.Outcome.{Machine, Outcome, Refuses, Does, answers, unless, last_test, settled, acts_in}
use Rattle.wh_machine.specs.Sound.{AreBegun, IsTableAt, ChangesTables, AllChangeTables}

-- ---- outcomes

pub record IsReady (m : Machine) : Type 0 where
  pub later : m.state.committed < m.state.last
  pub sound : Sound m.state
  pub begun : AreBegun m.state.last m.sessions
  pub tables : AllChangeTables m.state.objects m.sessions

abbrev pub KeepsState : Machine → Option (List Act) → Type 0
KeepsState m None = Unit {0}
KeepsState m (Some acts) = AreKeeping m.state.last m.state.objects acts

-- the tables are those before its commit
pub record IsKeeping (m : Machine) (o : Outcome) : Type 0 where
  pub acts : KeepsState m (acts_in o)
  pub tables : AllChangeTables m.state.objects (settled m o).0.sessions

pub refused : (m : Machine) (why : Refusal) → IsReady m → IsKeeping m (Refuses why)
refused m why ready = record { acts = tt; tables = ready.tables }

pub does : (m : Machine) (reply : Reply) (sessions : Sessions) (acts : Option (List Act)) → KeepsState m acts
    → AllChangeTables m.state.objects sessions
    → IsKeeping m (Does reply sessions acts)
does m reply sessions acts keeps tables = record { acts = keeps; tables = tables }

pub tested : (m : Machine) (found : Option Refusal) (o : Outcome) → IsReady m → IsKeeping m o
    → IsKeeping m (unless found o)
tested m (Some why) o ready keeps = refused m why ready
tested m None o ready keeps = keeps

-- where it is known that the test is passed
pub tested_by : (m : Machine) (found : Option Refusal) (o : Outcome) → IsReady m → (found ≡ None → IsKeeping m o)
    → IsKeeping m (unless found o)
tested_by m (Some why) o ready keeps = refused m why ready
tested_by m None o ready keeps = keeps refl

pub tested_last : (m : Machine) (found : Option Refusal) (o : Outcome) → IsReady m → IsKeeping m o
    → IsKeeping m (last_test found o)
tested_last m found (Refuses why) ready keeps = keeps
tested_last m found (Does reply sessions acts) ready keeps = tested m found (Does reply sessions acts) ready keeps

pub either : (m : Machine) (b : Bool) (o p : Outcome) → IsKeeping m o → IsKeeping m p → IsKeeping m (cond b o p)
either m true o p first second = first
either m false o p first second = second

pub answered : (m : Machine) (reply : Reply) → IsReady m → IsKeeping m (answers m reply)
answered m reply ready = does m reply m.sessions None tt ready.tables

-- ---- tables stay tables

abbrev IsTableObject : Object → Type 0
IsTableObject o = IsTrue (is_table o.kind)

table_edited : (f : Table → Table) (k : Kind) → IsTrue (is_table k) → IsTrue (is_table (on_table f k))
table_edited f (TableKind t) is = is
table_edited f (StreamKind s) is = is
table_edited f (TaskKind t) is = is
table_edited f (DynamicKind d t) is = is

table_moved : (f : Stream → Stream) (k : Kind) → IsTrue (is_table k) → IsTrue (is_table (on_stream f k))
table_moved f (TableKind t) is = is
table_moved f (StreamKind s) is = is
table_moved f (TaskKind t) is = is
table_moved f (DynamicKind d t) is = is

table_tasked : (f : Task → Task) (k : Kind) → IsTrue (is_table k) → IsTrue (is_table (on_task f k))
table_tasked f (TableKind t) is = is
table_tasked f (StreamKind s) is = is
table_tasked f (TaskKind t) is = is
table_tasked f (DynamicKind d t) is = is

table_put : (f : Dynamic → Dynamic) (k : Kind) → IsTrue (is_table k) → IsTrue (is_table (on_dynamic f k))
table_put f (TableKind t) is = is
table_put f (StreamKind s) is = is
table_put f (TaskKind t) is = is
table_put f (DynamicKind d t) is = is

table_stays : (stamp : ℕ) (objects : List Object) (act : Act) (id : ℕ) → IsTableAt objects id
    → IsTableAt (acted stamp objects act) id
table_stays stamp objects (MakesTable name columns retention) id is = found_more IsTableObject objects _ id is
table_stays stamp objects (MakesStream name source is_append_only) id is = found_more IsTableObject objects _ id is
table_stays stamp objects (MakesTask name minutes after runs) id is = found_more IsTableObject objects _ id is
table_stays stamp objects (MakesDynamic name lag is_incremental query columns) id is =
    found_more IsTableObject objects _ id is
table_stays stamp objects (DropsObject other) id is = found_changed IsTableObject dropped (λ o h. h) objects other id is
table_stays stamp objects (EditsRows other e) id is =
    found_changed IsTableObject (edited_object stamp stamp e) (λ o h. table_edited _ o.kind h) objects other id is
table_stays stamp objects (MovesOffset other offset) id is =
    found_changed IsTableObject (moved_object offset) (λ o h. table_moved _ o.kind h) objects other id is
table_stays stamp objects (PutsTask other state) id is =
    found_changed IsTableObject (on_task_object (with_state state)) (λ o h. table_tasked _ o.kind h) objects other id is
table_stays stamp objects (BeginsRun root tasks) id is =
    found_changed IsTableObject (on_task_object (with_run tasks)) (λ o h. table_tasked _ o.kind h) objects root id is
table_stays stamp objects (EndsTask root task ending) id is =
    found_changed IsTableObject (on_task_object (with_ended task ending)) (λ o h. table_tasked _ o.kind h)
    objects root id is
table_stays stamp objects (PutsDynamic other state) id is =
    found_changed IsTableObject (on_dynamic_object (with_dynamic_state state)) (λ o h. table_put _ o.kind h)
    objects other id is
table_stays stamp objects (RefreshesRows other moment e c) id is =
    found_changed IsTableObject (refreshed_object stamp moment e c)
    (λ o h. table_put _ (edited_kind stamp moment e o.kind) (table_edited _ o.kind h)) objects other id is

pub all_stay : (stamp : ℕ) (objects : List Object) (acts : List Act) (id : ℕ) → IsTableAt objects id
    → IsTableAt (all_acted stamp objects acts) id
all_stay stamp objects [] id is = is
all_stay stamp objects (act ∷ acts) id is =
    all_stay stamp (acted stamp objects act) acts id (table_stays stamp objects act id is)

pub tables_stay : (stamp : ℕ) (objects : List Object) (acts : List Act) (sessions : Sessions)
    → AllChangeTables objects sessions
    → AllChangeTables (all_acted stamp objects acts) sessions
tables_stay stamp objects acts sessions tables =
    all_map (ChangesTables objects) (ChangesTables (all_acted stamp objects acts)) of_one sessions tables
  where
    of_one : (found : Option Transaction) → ChangesTables objects found
        → ChangesTables (all_acted stamp objects acts) found
    of_one None is = tt
    of_one (Some t) is = λ id s held. all_stay stamp objects acts id (is id s held)
