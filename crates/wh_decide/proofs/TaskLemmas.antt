-- CREATE TASK: its tests, and its outcome.
--     refusal_by           the first test that a new task fails: of its root, and then of its limits
--     within_limits        what a task that passes all tests keeps
--     defines_task         the outcome of CREATE TASK
--     task_written         what is written for it
use Rattle.std.proofs.Common.{◌≡◌, ℕ, zero, suc, ◌+◌, ◌-◌, ◌≤◌, List, [], ◌∷◌, ◌++◌, map, length, Option, Some, None}
use Rattle.std.proofs.Common.{option_map, refl, ap, sym, ◌∙◌, arith}
use Rattle.std.specs.Prelude.{unwrap_or}
use Rattle.wh_value.specs.Limit.{bound}
use Rattle.wh_value.specs.declared.limit.Limit.TheVariants as limits
use Rattle.wh_ddl_naming.specs.Tasks.{NewTask}
use Rattle.wh_reply.specs.Reply.{Refusal, OverLimit, DdlInTransaction, Locked, CreatedTask}
use Rattle.wh_state.specs.State.{State, live_count, stamped}
use Rattle.wh_state.specs.Task.{TaskBody}
use Rattle.wh_state.specs.Act.{Act, MakesTask}
use Rattle.wh_state.specs.Stored.{StoredObject}
use Rattle.wh_state.specs.Commit.{CreatesTask}
use Rattle.wh_state.specs.Written.{written}
use Rattle.wh_machine.specs.Tests.{refused_if, refused_past, first_of}
use Rattle.wh_machine.specs.Sessions.{Sessions, number_in}
use Rattle.wh_machine.specs.Outcome.{Machine, commits, unless}
use Rattle.wh_machine.specs.Definitions.{is_long, count_refusals, holder_of, defines}
use Rattle.wh_machine.specs.Tasks as machine
use Rattle.wh_machine.specs.Tasks.{root_refusals, graph_size, schedule_refusal, task_refusal, create_task}
use Rattle.wh_machine.specs.Tasks.{body_of}
use Rattle.wh_decide.specs.Decision.{machine_at}
use Rattle.wh_decide.specs.Tasks.{graph_refusal, limit_refusal}
use Rattle.wh_decide.proofs.NamingLemmas.{alone}
use Rattle.wh_decide.proofs.DefineLemmas.{counts_none, not_past, defines_by}

-- ---- tests

first_joined : (xs ys : List (Option Refusal)) → first_of (xs ++ ys) ≡ first_of (first_of xs ∷ ys)
first_joined [] ys = refl
first_joined (Some why ∷ xs) ys = refl
first_joined (None ∷ xs) ys = first_joined xs ys

first_folded : (xs ys : List (Option Refusal)) → first_of (xs ++ ys) ≡ first_of (xs ++ first_of ys ∷ [])
first_folded [] ys = sym (alone (first_of ys))
first_folded (Some why ∷ xs) ys = refl
first_folded (None ∷ xs) ys = first_folded xs ys

regrouped : (r c l g p k t : Option Refusal)
    → first_of (first_of (first_of (r ∷ c ∷ []) ∷ l ∷ g ∷ p ∷ k ∷ []) ∷ t ∷ [])
    ≡ first_of (r ∷ first_of (c ∷ l ∷ first_of (g ∷ p ∷ k ∷ []) ∷ t ∷ []) ∷ [])
regrouped (Some why) c l g p k t = refl
regrouped None (Some why) l g p k t = refl
regrouped None None (Some why) g p k t = refl
regrouped None None None (Some why) p k t = refl
regrouped None None None None (Some why) k t = refl
regrouped None None None None None (Some why) t = refl
regrouped None None None None None None (Some why) = refl
regrouped None None None None None None None = refl

-- of the root, the counts, the name, the graph, the predecessors, their children, and the schedule
all_tests : (r c : List (Option Refusal)) (l g p : Option Refusal) (k : List (Option Refusal)) (t : Option Refusal)
    → first_of (None ∷ r ++ c ++ l ∷ g ∷ p ∷ k ++ t ∷ [])
    ≡ first_of (first_of r ∷ first_of (first_of c ∷ l ∷ first_of (g ∷ p ∷ first_of k ∷ []) ∷ t ∷ []) ∷ [])
all_tests r c l g p k t =
    first_joined (None ∷ r ++ c ++ l ∷ g ∷ p ∷ k) (t ∷ [])
    ∙ ap (λ (first : Option Refusal). first_of (first ∷ t ∷ []))
    (first_joined (None ∷ r ++ c) (l ∷ g ∷ p ∷ k)
    ∙ ap (λ (first : Option Refusal). first_of (first ∷ l ∷ g ∷ p ∷ k))
    (first_joined (None ∷ r) c ∙ first_folded (first_of r ∷ []) c)
    ∙ first_folded (first_of (first_of r ∷ first_of c ∷ []) ∷ l ∷ g ∷ p ∷ []) k)
    ∙ regrouped (first_of r) (first_of c) l g p (first_of k) t

refusal_parts : (s : State) (n : NewTask) → task_refusal s None n
    ≡ first_of (first_of (root_refusals s.objects n.after) ∷ limit_refusal s n ∷ [])
unfolding task_refusal
refusal_parts s n = all_tests
    (root_refusals s.objects n.after)
    (count_refusals s 0)
    (refused_if (is_long n.name) (OverLimit limits.Name))
    (refused_past limits.GraphTasks (graph_size s.objects n.after))
    (refused_past limits.Predecessors (length n.after))
    (map (machine.child_refusal s.objects) n.after)
    (schedule_refusal n.minutes)

-- by that of its root
pub refusal_by : (s : State) (n : NewTask) (root : Option Refusal)
    → root ≡ first_of (root_refusals s.objects n.after)
    → task_refusal s None n ≡ first_of (root ∷ limit_refusal s n ∷ [])
refusal_by s n root is =
    refusal_parts s n ∙ ap (λ (found : Option Refusal). first_of (found ∷ limit_refusal s n ∷ [])) (sym is)

-- ---- what passes

limits_none : (r c l g t : Option Refusal) → first_of (r ∷ first_of (c ∷ l ∷ g ∷ t ∷ []) ∷ []) ≡ None
    → (c ≡ None) × (t ≡ None)
limits_none (Some why) c l g t is = absurd cc
limits_none None (Some why) l g t is = absurd cc
limits_none None None (Some why) g t is = absurd cc
limits_none None None None (Some why) t is = absurd cc
limits_none None None None None (Some why) is = absurd cc
limits_none None None None None None is = (refl, refl)

scheduled : (minutes : Option ℕ) → schedule_refusal minutes ≡ None → unwrap_or minutes 0 ≤ bound limits.MostSchedule
scheduled None is = omega arith
scheduled (Some zero) is = omega arith
scheduled (Some (suc minutes)) is = not_past limits.MostSchedule (suc minutes) is

pub within_limits : (s : State) (n : NewTask) → task_refusal s None n ≡ None
    → (length s.objects + 1 ≤ bound limits.ObjectIds) × (unwrap_or n.minutes 0 ≤ bound limits.MostSchedule)
within_limits s n none =
    let h = limits_none
    (first_of (root_refusals s.objects n.after))
    (first_of (count_refusals s 0))
    (refused_if (is_long n.name) (OverLimit limits.Name))
    (graph_refusal s.objects n.after)
    (schedule_refusal n.minutes)
    (sym (refusal_parts s n) ∙ none) in
    let counts = counts_none
    (refused_past limits.ObjectIds (length s.objects + 1))
    (refused_past limits.Objects (live_count s.objects + 1 - 0)) [] h.0 in
    (not_past limits.ObjectIds (length s.objects + 1) counts.0, scheduled n.minutes h.1)

-- ---- its outcome

refusal_stamped : (s : State) (stamp : ℕ) (n : NewTask) → task_refusal (stamped s stamp) None n ≡ task_refusal s None n
unfolding task_refusal
refusal_stamped s stamp n = refl

abbrev pub task_made : NewTask → List Act
task_made n = MakesTask n.name (unwrap_or n.minutes 0) n.after (body_of n) ∷ []

create_is : (m : Machine) (n : NewTask) (wrong : Option Refusal) → task_refusal m.state None n ≡ wrong
    → create_task m None n ≡ unless wrong (commits m (CreatedTask n.name) (task_made n))
unfolding create_task
create_is m n wrong is =
    ap (λ (found : Option Refusal). unless found (commits m (CreatedTask n.name) (task_made n))) is

pub defines_task : (s : State) (stamp : ℕ) (sessions : Sessions) (session : ℕ) (n : NewTask)
    (wrong found : Option Refusal) → wrong ≡ task_refusal s None n
    → found ≡ first_of (option_map DdlInTransaction (number_in sessions session) ∷ wrong
    ∷ option_map Locked (holder_of sessions None) ∷ [])
    → defines (machine_at (stamped s stamp) sessions) session None
    (create_task (machine_at (stamped s stamp) sessions) None n)
    ≡ unless found (commits (machine_at (stamped s stamp) sessions) (CreatedTask n.name) (task_made n))
defines_task s stamp sessions session n wrong found test is =
    ap (defines (machine_at (stamped s stamp) sessions) session None)
    (create_is (machine_at (stamped s stamp) sessions) n wrong (refusal_stamped s stamp n ∙ sym test))
    ∙ defines_by (machine_at (stamped s stamp) sessions) session None wrong found (CreatedTask n.name)
    (task_made n) is

pub task_written : (stamp : ℕ) (objects : List StoredObject) (name : List ℕ) (minutes : ℕ) (after : List ℕ)
    (runs : TaskBody) → CreatesTask (record {
      id = length objects + 1;
      name = name;
      minutes = minutes;
      after = after;
      runs = runs;
    }) ∷ [] ≡ written stamp objects (MakesTask name minutes after runs ∷ [])
task_written stamp objects name minutes after runs = refl
