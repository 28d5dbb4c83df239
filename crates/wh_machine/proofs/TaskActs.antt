-- What holds of acts that change tasks alone.
--     IsOfTasks         such an act
--     task_defined      a commit of them is lawful
--     ends_lawful       so is one with a task's end behind its other acts
--     ends_spare        a task's end moves no stream
--     spares_tasks      and acts that change tasks alone do not
use Rattle.std.proofs.Common.{◌≡◌, ℕ, Bool, true, false, cond, List, [], ◌∷◌, ◌++◌, map, Option, Some, None, refl, ap}
use Rattle.std.proofs.Common.{◌∙◌}
use Rattle.std.specs.Prelude.{nat_eq}
use Rattle.std.specs.List.{AllByRecursion}
use Rattle.wh_reply.specs.Reply.{Reply, is_refusal}
use Rattle.wh_state.specs.Task.{Ending, Skipped, TaskState, Task, Run}
use Rattle.wh_state.specs.State.{Object, Stream}
use Rattle.wh_state.specs.Act.{Act, MakesTable, DropsObject, EditsRows, MakesStream, MovesOffset, MakesTask, PutsTask}
use Rattle.wh_state.specs.Act.{BeginsRun, EndsTask, MakesDynamic, PutsDynamic, RefreshesRows, acted, all_acted}
use Rattle.wh_state.specs.Objects.{stream_at}
use Rattle.wh_state.proofs.AllLaws.{all_map, all_append}
use Rattle.wh_state.proofs.ActLaws.{AreNoEdits, AreEditsFrom, no_more_edits, other_act, next_edit, next_refresh}
use Rattle.wh_state.proofs.ActLaws.{no_edits_from}
use Rattle.wh_graph.specs.Graph.{is_under_way, has_failed, skipped_behind, run_behind}
use Rattle.wh_graph.specs.Root.{state_behind}
use Rattle.wh_machine.specs.Outcome.{Machine, commits}
use Rattle.wh_machine.specs.Tasks.{live_tasks, put_to, is_same_state}
use Rattle.wh_machine.specs.Ticks.{count_acts, graph_acts, end_acts, ends_as}
use Rattle.wh_machine.proofs.Lawful.{MovesOn, MovesFree, IsCommitOf, IsLawful, same_sessions}
use Rattle.wh_machine.proofs.Lawful.{does}
use Rattle.wh_machine.proofs.CommitLaws.{Defines, all_no_edits, all_move_none, defines_move_on, spares_all, defined}

-- ---- acts that change tasks alone

abbrev pub IsOfTasks : Act → Type 0
IsOfTasks (PutsTask id state) = Unit {0}
IsOfTasks (BeginsRun root tasks) = Unit {0}
IsOfTasks (EndsTask root task ending) = Unit {0}
IsOfTasks _ = ⊥

define : (act : Act) → IsOfTasks act → Defines act
define (PutsTask id state) is = tt
define (BeginsRun root tasks) is = tt
define (EndsTask root task ending) is = tt
define (MakesTable name columns retention) is = absurd is
define (DropsObject id) is = absurd is
define (EditsRows id e) is = absurd is
define (MakesStream name source is_append_only) is = absurd is
define (MovesOffset id offset) is = absurd is
define (MakesTask name minutes after runs) is = absurd is
define (MakesDynamic name lag is_incremental query columns) is = absurd is
define (PutsDynamic id state) is = absurd is
define (RefreshesRows id moment e c) is = absurd is

all_define : (acts : List Act) → AllByRecursion IsOfTasks acts → AllByRecursion Defines acts
all_define acts are = all_map IsOfTasks Defines define acts are

pub put_is : (id : ℕ) (new : Task → TaskState) (found : Option Task) → AllByRecursion IsOfTasks (put_to id new found)
put_is id new None = tt
put_is id new (Some t) = by_test (is_same_state t.state (new t))
  where
    by_test : (same : Bool) → AllByRecursion IsOfTasks (cond same [] (PutsTask id (new t) ∷ []))
    by_test true = tt
    by_test false = (tt, tt)

pub task_defined : (m : Machine) (reply : Reply) (acts : List Act) → is_refusal reply ≡ false
    → AllByRecursion IsOfTasks acts → IsLawful m [] (commits m reply acts)
task_defined m reply acts accepted are = defined m reply acts accepted (all_define acts are)

-- ---- the end of a task

ends_are : (root : ℕ) (ids : List ℕ) → AllByRecursion IsOfTasks (map (λ id. EndsTask root id Skipped) ids)
ends_are root [] = tt
ends_are root (id ∷ ids) = (tt, ends_are root ids)

count_is : (root : ℕ) (old new : TaskState) → AllByRecursion IsOfTasks (count_acts root old new)
count_is root old new = by_test (nat_eq old.failures new.failures)
  where
    by_test : (same : Bool) → AllByRecursion IsOfTasks (cond same [] (PutsTask root new ∷ []))
    by_test true = tt
    by_test false = (tt, tt)

graph_is : (root : ℕ) (s : TaskState) (behind : Run) → AllByRecursion IsOfTasks (graph_acts root s behind)
graph_is root s behind = by_test (is_under_way behind)
  where
    by_test : (more : Bool)
        → AllByRecursion IsOfTasks (cond more [] (count_acts root s (state_behind (has_failed behind) s)))
    by_test true = tt
    by_test false = count_is root s (state_behind (has_failed behind) s)

pub end_is : (objects : List Object) (root : ℕ) (r : Task) (task : ℕ) (ending : Ending)
    → AllByRecursion IsOfTasks (end_acts objects root r task ending)
unfolding end_acts
end_is objects root r task ending = (
  tt,
  all_append IsOfTasks (map (λ id. EndsTask root id Skipped) (skipped_behind (live_tasks objects) r.run task ending))
      (graph_acts root r.state (run_behind (live_tasks objects) r.run task ending))
      (ends_are root (skipped_behind (live_tasks objects) r.run task ending))
      (graph_is root r.state (run_behind (live_tasks objects) r.run task ending)),
)

-- ---- a commit with acts of tasks behind it

edits_more : (least : ℕ) (acts more : List Act) → AreEditsFrom least acts → AreNoEdits more
    → AreEditsFrom least (acts ++ more)
edits_more least [] more no_more_edits others = no_edits_from least more others
edits_more least (act ∷ acts) more (other_act other rising) others =
    other_act other (edits_more least acts more rising others)
edits_more least (EditsRows id e ∷ acts) more (next_edit from rising) others =
    next_edit from (edits_more _ acts more rising others)
edits_more least (RefreshesRows id moment e c ∷ acts) more (next_refresh from rising) others =
    next_refresh from (edits_more _ acts more rising others)

pub acted_append : (stamp : ℕ) (objects : List Object) (acts more : List Act)
    → all_acted stamp objects (acts ++ more) ≡ all_acted stamp (all_acted stamp objects acts) more
acted_append stamp objects [] more = refl
acted_append stamp objects (act ∷ acts) more = acted_append stamp (acted stamp objects act) acts more

ends_commit : (m : Machine) (moving : List ℕ) (acts more : List Act) → AllByRecursion IsOfTasks more
    → IsCommitOf m moving m.sessions acts → IsCommitOf m moving m.sessions (acts ++ more)
ends_commit m moving acts more are commit = record {
  shape = edits_more 0 acts more commit.shape (all_no_edits m.state more (all_define more are));
  moves = λ begun. all_append (MovesOn m.state) acts more (commit.moves begun)
      (defines_move_on m.state more (all_define more are));
  free = commit.free;
  stays = λ id s at none. ap (λ (objects : List Object). stream_at objects id)
      (acted_append m.state.last m.state.objects acts more)
      ∙ spares_all m.state.last (all_acted m.state.last m.state.objects acts) more
      (all_move_none m.state more (all_define more are)) id s
      (commit.stays id s at none);
}

pub spares_tasks : (m : Machine) (acts : List Act) → AllByRecursion IsOfTasks acts → (id : ℕ) (s : Stream)
    → stream_at m.state.objects id ≡ Some s → stream_at (all_acted m.state.last m.state.objects acts) id ≡ Some s
spares_tasks m acts are id s at =
    spares_all m.state.last m.state.objects acts (all_move_none m.state acts (all_define acts are)) id s at

pub ends_spare : (m : Machine) (root : ℕ) (r : Task) (task : ℕ) (ending : Ending) (acts : List Act) (id : ℕ)
    → (s : Stream)
    → stream_at (all_acted m.state.last m.state.objects acts) id ≡ Some s
    → stream_at (all_acted m.state.last m.state.objects (acts ++ end_acts m.state.objects root r task ending)) id
    ≡ Some s
ends_spare m root r task ending acts id s at =
    let ends : List Act = end_acts m.state.objects root r task ending in
    ap (λ (objects : List Object). stream_at objects id) (acted_append m.state.last m.state.objects acts ends)
    ∙ spares_all m.state.last (all_acted m.state.last m.state.objects acts) ends
    (all_move_none m.state ends (all_define ends (end_is m.state.objects root r task ending))) id s at

pub nothing_commits : (m : Machine) (moving : List ℕ) → MovesFree m m.sessions moving
    → IsCommitOf m moving m.sessions []
nothing_commits m moving free =
    record { shape = no_more_edits; moves = λ begun. tt; free = free; stays = λ id s at none. at }

pub ends_lawful : (m : Machine) (moving : List ℕ) (reply : Reply) (acts : List Act) (root : ℕ) (r : Task) (task : ℕ)
    (ending : Ending)
    → is_refusal reply ≡ false → IsCommitOf m moving m.sessions acts
    → IsLawful m moving (ends_as m root r task ending reply acts)
ends_lawful m moving reply acts root r task ending accepted commit =
    does m reply m.sessions _ accepted (same_sessions m)
    (ends_commit m moving acts _ (end_is m.state.objects root r task ending) commit)
