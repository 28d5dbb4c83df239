-- CREATE TASK applies.
--     IsFilledTask        a name that isn't empty, no schedule beside AFTER, and a body that is written
--     works_create_task   a task that is made
use Rattle.std.proofs.Common.{◌≡◌, ℕ, zero, suc, ◌+◌, ◌-◌, ◌<◌, ◌≤◌, Bool, true, false, cond, List, [], ◌∷◌, ◌++◌}
use Rattle.std.proofs.Common.{length, map}
use Rattle.std.proofs.Common.{option_map, Option, Some, None, refl, sym, ap, subst, ◌∙◌, ◌⊎◌, inl, inr, arith, filter}
use Rattle.std.proofs.Common.{option_and_then}
use Rattle.std.specs.Prelude.{count_by, ◌&&◌, nat_eq, unwrap_or, slice_get}
use Rattle.std.specs.List.{AllByRecursion}
use Rattle.std.specs.Option.{option_map_or}
use Rattle.std.proofs.lemmas.List.Sums.{length-filter}
use Rattle.wh_value.specs.Limit.{bound}
use Rattle.wh_value.specs.declared.limit.Limit.TheVariants as limits
use Rattle.wh_ast.specs.declared.statement.CreateTask.{CreateTask}
use Rattle.wh_ddl_naming.specs.Meant.{Meant, first_failing}
use Rattle.wh_ddl_naming.specs.Objects.{is_task_of}
use Rattle.wh_ddl_naming.specs.Tasks.{NewTask, predecessor, first_root, predecessor_findings, bound_task}
use Rattle.wh_reply.specs.Reply.{Refusal, OverLimit, CreatedTask}
use Rattle.wh_state.specs.Task.{Task}
use Rattle.wh_state.specs.State.{Object, task_in, at_id, live_count}
use Rattle.wh_state.specs.Edits.{is_among}
use Rattle.wh_state.specs.Act.{MakesTask}
use Rattle.wh_state.specs.Objects.{as_task}
use Rattle.wh_state.specs.Stored.{StoredObject, Stored, object_meant}
use Rattle.wh_state.specs.Commit.{IsLiveTask, is_member, count_of_root, child_count, root_among}
use Rattle.wh_state.proofs.SpelledLaws.{HasTokensOf}
use Rattle.wh_state.proofs.FirmLaws.{IsFirm}
use Rattle.wh_machine.specs.Tests.{refused_if, refused_past, first_of}
use Rattle.wh_machine.specs.Names.{names_in, refusal_of}
use Rattle.wh_machine.specs.Outcome.{Machine}
use Rattle.wh_machine.specs.Definitions.{is_long, count_refusals, defines}
use Rattle.wh_machine.specs.Tasks.{live_task, root_at, tasks_that, root_refusals, graph_size, child_refusal}
use Rattle.wh_machine.specs.Tasks.{schedule_refusal}
use Rattle.wh_machine.specs.Tasks.{task_refusal, body_of, create_task}
use Rattle.wh_machine.proofs.NamedLaws.{free_of_all}
use Rattle.wh_machine.proofs.MoveLaws.{same_number}
use Rattle.wh_machine.proofs.WorksLaws.{IsReached, objects_meant, Works, works_unless, works_made}
use Rattle.wh_machine.proofs.PassedLaws.{passed, none_if, within, short_name, both_none, nothing_wrong, free_taken}
use Rattle.wh_machine.proofs.DefineLaws.{live_is, works_defines}
use Rattle.wh_machine.proofs.TaskWorks.{IsTaskAt, live_task_at, task_found, live_meant, root_stands}
use Rattle.wh_machine.proofs.StartWorks.{NoneWrong, none_wrong, taken, task_told}

pub record IsFilledTask (t : CreateTask) : Type 0 where
  pub name : 0 < length t.name
  pub either : (t.minutes ≡ None) ⊎ (t.after ≡ [])
  pub body : HasTokensOf t.body

-- ---- predecessors

-- tasks of one root
abbrev AllOf : List StoredObject → ℕ → List ℕ → Type 0
AllOf objects root ids = AllByRecursion (λ id. (is : IsTaskAt objects id) × (is.task.root ≡ root)) ids

predecessors_are : (s : Stored) (m : Machine) (root : ℕ) (after : List (List ℕ)) → IsReached s m
    → NoneWrong (predecessor_findings (names_in m.state.objects) root after)
    → AllOf s.objects root (map (λ name. (predecessor (names_in m.state.objects) root name).value) after)
predecessors_are s m root [] reached none = tt
predecessors_are s m root (name ∷ others) reached none =
    let known = both_none (predecessor (names_in m.state.objects) root name).findings.unknown_object
    (predecessor_findings (names_in m.state.objects) root others).unknown_object none.known in
    let kind = both_none (predecessor (names_in m.state.objects) root name).findings.wrong_kind
    (predecessor_findings (names_in m.state.objects) root others).wrong_kind none.kind in
    let t = taken m (is_task_of (names_in m.state.objects).roots root) name
    (record { known = known.0; kind = kind.0 }) in (
      subst (λ (id : ℕ). (is : IsTaskAt s.objects id) × (is.task.root ≡ root)) (sym t.id)
          (task_told s m name t.found root reached t.is t.takes_it),
      predecessors_are s m root others reached (record { known = known.1; kind = kind.1 }),
    )

-- ---- its tests

all_passed : (xs ys : List (Option Refusal)) → first_of (xs ++ ys) ≡ None
    → AllByRecursion (λ x. x ≡ None) xs × (first_of ys ≡ None)
all_passed [] ys none = (tt, none)
all_passed (None ∷ xs) ys none = let rest = all_passed xs ys none in ((refl, rest.0), rest.1)
all_passed (Some why ∷ xs) ys none = absurd cc

record PassesTask (objects : List Object) (n : NewTask) : Type 0 where
  few : live_count objects + 1 - 0 ≤ bound limits.Objects
  name : length n.name ≤ bound limits.Name
  graph : graph_size objects n.after ≤ bound limits.GraphTasks
  few_after : length n.after ≤ bound limits.Predecessors
  children : AllByRecursion (λ x. x ≡ None) (map (child_refusal objects) n.after)
  schedule : schedule_refusal n.minutes ≡ None

behind_all : (xs ys : List (Option Refusal)) → AllByRecursion (λ x. x ≡ None) (xs ++ ys)
    → AllByRecursion (λ x. x ≡ None) ys
behind_all [] ys all = all
behind_all (x ∷ xs) ys all = behind_all xs ys all.1

front_all : (xs ys : List (Option Refusal)) → AllByRecursion (λ x. x ≡ None) (xs ++ ys)
    → AllByRecursion (λ x. x ≡ None) xs
front_all [] ys all = tt
front_all (x ∷ xs) ys all = (all.0, front_all xs ys all.1)

-- the tests behind those of the root and of counts, up to that of the schedule
abbrev later_tests : List Object → NewTask → List (Option Refusal)
later_tests objects n = refused_if (is_long n.name) (OverLimit limits.Name)
    ∷ refused_past limits.GraphTasks (graph_size objects n.after)
    ∷ refused_past limits.Predecessors (length n.after)
    ∷ map (child_refusal objects) n.after

passes_task : (m : Machine) (wrong : Option Refusal) (n : NewTask) → task_refusal m.state wrong n ≡ None
    → (wrong ≡ None) × PassesTask m.state.objects n
unfolding task_refusal
passes_task m wrong n none =
    let names = passed wrong _ none in
    let before : List (Option Refusal) = root_refusals m.state.objects n.after ++ count_refusals m.state 0 in
    let all = all_passed (before ++ later_tests m.state.objects n) (schedule_refusal n.minutes ∷ []) names.1 in
    let counts = behind_all (root_refusals m.state.objects n.after) (count_refusals m.state 0)
    (front_all before (later_tests m.state.objects n) all.0) in
    let later = behind_all before (later_tests m.state.objects n) all.0 in
    let schedule = passed (schedule_refusal n.minutes) _ all.1 in (
      names.0,
      record {
        few = within limits.Objects (live_count m.state.objects + 1 - 0) counts.1.0;
        name = short_name n.name (none_if (is_long n.name) (OverLimit limits.Name) later.0);
        graph = within limits.GraphTasks (graph_size m.state.objects n.after) later.1.0;
        few_after = within limits.Predecessors (length n.after) later.1.1.0;
        children = later.1.1.1;
        schedule = schedule.0;
      },
    )

minutes_within : (minutes : Option ℕ) → schedule_refusal minutes ≡ None
    → unwrap_or minutes 0 ≤ bound limits.MostSchedule
minutes_within None none = omega arith
minutes_within (Some zero) none = absurd cc
minutes_within (Some (suc n)) none = within limits.MostSchedule (suc n) none

-- ---- counts

members_meant : (takes : Task → Bool) (objects : List StoredObject)
    → length (filter (λ o. option_map_or takes (live_task o) false) (map object_meant objects))
    ≡ length (filter (is_member takes) objects)
members_meant takes [] = refl
members_meant takes (o ∷ os) =
    subst (λ (b : Bool). length (cond b (object_meant o ∷ filter meets (map object_meant os))
    (filter meets (map object_meant os)))
    ≡ length (cond (is_member takes o) (o ∷ filter (is_member takes) os) (filter (is_member takes) os))) (sym same)
    (by_member (is_member takes o) (members_meant takes os))
  where
    meets : Object → Bool
    meets o = option_map_or takes (live_task o) false

    same : option_map_or takes (live_task (object_meant o)) false ≡ is_member takes o
    same = ap (λ (t : Option Task). option_map_or takes t false) (live_meant o) ∙ by_live o.is_live
      where
        by_live : (live : Bool) → option_map_or takes (cond live (task_in o.kind) None) false
            ≡ (live && option_map_or takes (task_in o.kind) false)
        by_live true = refl
        by_live false = refl

    by_member : (member : Bool) → length (filter meets (map object_meant os)) ≡ length (filter (is_member takes) os)
        → length
        (cond member (object_meant o ∷ filter meets (map object_meant os)) (filter meets (map object_meant os)))
        ≡ length (cond member (o ∷ filter (is_member takes) os) (filter (is_member takes) os))
    by_member true rest = omega (arith, rest)
    by_member false rest = rest

tasks_counted : (takes : Task → Bool) (s : Stored) (m : Machine) → IsReached s m
    → tasks_that takes m.state.objects ≡ count_by (is_member takes) s.objects
tasks_counted takes s m reached =
    ap (tasks_that takes) (objects_meant s m reached)
    ∙ sym (length-filter (λ o. option_map_or takes (live_task o) false) (map object_meant s.objects))
    ∙ members_meant takes s.objects ∙ length-filter (is_member takes) s.objects

few_each : (s : Stored) (m : Machine) → IsReached s m → (ids : List ℕ)
    → AllByRecursion (λ x. x ≡ None) (map (child_refusal m.state.objects) ids)
    → AllByRecursion (λ id. child_count s.objects id < bound limits.Children) ids
few_each s m reached [] none = tt
few_each s m reached (id ∷ ids) none = (
  omega (
    arith,
    tasks_counted (λ t. is_among id t.after) s m reached,
    within limits.Children (tasks_that (λ t. is_among id t.after) m.state.objects + 1) none.0,
  ),
  few_each s m reached ids none.1,
)

none_counted : (test : StoredObject → Bool) (rest : List StoredObject)
    → ((place : ℕ) (o : StoredObject) → slice_get rest place ≡ Some o → test o ≡ false) → length (filter test rest) ≡ 0
none_counted test [] apart = refl
none_counted test (o ∷ os) apart =
    rw (apart zero o refl) (none_counted test os (λ place o there. apart (suc place) o there))

none_behind : (objects : List StoredObject) (o : StoredObject) → slice_get objects (length objects) ≡ Some o → ⊥
none_behind [] o there = absurd cc
none_behind (x ∷ xs) o there = none_behind xs o there

-- an id that is still free is no task's root
no_task_of : (objects : List StoredObject) → IsFirm objects → count_of_root objects (length objects + 1) ≡ 0
no_task_of objects firm =
    sym (length-filter (is_member (λ t. nat_eq t.root (length objects + 1))) objects)
    ∙ none_counted (is_member (λ t. nat_eq t.root (length objects + 1))) objects apart
  where
    free : (root : ℕ) → root ≡ length objects + 1 → IsTaskAt objects root → ⊥
    free root same is = none_behind objects is.object
        (subst (λ (n : ℕ). at_id objects n ≡ Some is.object) behind is.there)
      where
        behind : root ≡ suc (length objects)
        behind = omega (arith, same)

    by_test : (place : ℕ) (o : StoredObject) (t : Task) → slice_get objects place ≡ Some o → o.is_live ≡ true
        → task_in o.kind ≡ Some t → (same : Bool) → nat_eq t.root (length objects + 1) ≡ same → same ≡ false
    by_test place o t there live is false test = refl
    by_test place o t there live is true test =
        let here : IsTaskAt objects (suc place) =
        record { object = o; there = there; live = live; task = t; is_task = is } in
        let r = root_stands objects (suc place) firm here in
        absurd (free t.root (same_number t.root (length objects + 1) test) r.0)

    by_task : (place : ℕ) (o : StoredObject) (t : Option Task) → slice_get objects place ≡ Some o → o.is_live ≡ true
        → task_in o.kind ≡ t → option_map_or (λ t. nat_eq t.root (length objects + 1)) t false ≡ false
    by_task place o None there live is = refl
    by_task place o (Some t) there live is = by_test place o t there live is (nat_eq t.root (length objects + 1)) refl

    by_live : (place : ℕ) (o : StoredObject) (live : Bool) → slice_get objects place ≡ Some o → o.is_live ≡ live
        → (live && option_map_or (λ t. nat_eq t.root (length objects + 1)) (task_in o.kind) false) ≡ false
    by_live place o false there is = refl
    by_live place o true there is = by_task place o (task_in o.kind) there is refl

    apart : (place : ℕ) (o : StoredObject) → slice_get objects place ≡ Some o
        → is_member (λ t. nat_eq t.root (length objects + 1)) o ≡ false
    apart place o there = by_live place o o.is_live there refl

-- ---- what its predecessors say

lives_each : (objects : List StoredObject) (root : ℕ) (ids : List ℕ) → AllOf objects root ids
    → AllByRecursion (λ id. IsLiveTask (λ t. t.root ≡ root) (at_id objects id)) ids
lives_each objects root [] are = tt
lives_each objects root (id ∷ ids) are =
    (live_task_at (λ t. t.root ≡ root) objects id are.0.0 are.0.1, lives_each objects root ids are.1)

root_is : (objects : List StoredObject) (root id first : ℕ) (others : List ℕ) → AllOf objects root (first ∷ others)
    → root_among objects id (first ∷ others) ≡ root
root_is objects root id first others are =
    ap (λ (found : Option Task). option_map_or (λ t. t.root) found id)
    (ap (option_and_then as_task) are.0.0.there ∙ are.0.0.is_task) ∙ are.0.1

record FitsGraph (objects : List StoredObject) (after : List ℕ) : Type 0 where
  after_live : AllByRecursion
      (λ id. IsLiveTask (λ t. t.root ≡ root_among objects (length objects + 1) after) (at_id objects id)) after
  few_tasks : count_of_root objects (root_among objects (length objects + 1) after) < bound limits.GraphTasks

fits_graph : (s : Stored) (m : Machine) (root : ℕ) (after : List ℕ) → IsReached s m → AllOf s.objects root after
    → graph_size m.state.objects after ≤ bound limits.GraphTasks → FitsGraph s.objects after
fits_graph s m root [] reached are few =
    record { after_live = tt; few_tasks = omega (arith, few, no_task_of s.objects reached.firm) }
fits_graph s m root (first ∷ others) reached are few =
    let is = root_is s.objects root (length s.objects + 1) first others are in
    let told : root_at m.state.objects first ≡ root =
    ap (λ (t : Option Task). option_map_or (λ t. t.root) t first) (task_found s m first reached are.0.0) ∙ are.0.1 in
    let size : tasks_that (λ t. nat_eq t.root root) m.state.objects + 1 ≤ bound limits.GraphTasks =
    subst (λ (r : ℕ). tasks_that (λ t. nat_eq t.root r) m.state.objects + 1 ≤ bound limits.GraphTasks) told few in
    let counted = tasks_counted (λ t. nat_eq t.root root) s m reached in
    record {
      after_live = subst (λ (r : ℕ). AllByRecursion (λ id. IsLiveTask (λ t. t.root ≡ r) (at_id s.objects id))
          (first ∷ others)) (sym is) (lives_each s.objects root (first ∷ others) are);
      few_tasks = subst (λ (r : ℕ). count_of_root s.objects r < bound limits.GraphTasks) (sym is)
          (omega (arith, counted, size));
    }

-- ---- a task that is made

either_is : (n : NewTask) → (n.minutes ≡ None) ⊎ (n.after ≡ []) → (n.after ≡ []) ⊎ (unwrap_or n.minutes 0 ≡ 0)
either_is n (inl none) = inr (ap (λ (minutes : Option ℕ). unwrap_or minutes 0) none)
either_is n (inr none) = inl none

mapped_either : (t : CreateTask) (f : List ℕ → ℕ) → (t.minutes ≡ None) ⊎ (t.after ≡ [])
    → (t.minutes ≡ None) ⊎ (map f t.after ≡ [])
mapped_either t f (inl none) = inl none
mapped_either t f (inr none) = inr (ap (map f) none)

pub works_create_task : (s : Stored) (m : Machine) (session : ℕ) (t : CreateTask) → IsReached s m → IsFilledTask t
    → Works s m (defines m session None
    (create_task m (option_map refusal_of (first_failing (bound_task (names_in m.state.objects) t)))
    (bound_task (names_in m.state.objects) t).value))
unfolding create_task
works_create_task s m session t reached filled =
    let b : Meant NewTask = bound_task (names_in m.state.objects) t in
    let root : ℕ = first_root (names_in m.state.objects) t.after in
    works_defines s m session None _ reached (λ free.
    works_unless s m _ _ reached (λ none.
    let tests = passes_task m (option_map refusal_of (first_failing b)) b.value none in
    let found = nothing_wrong b tests.0 in
    let are = predecessors_are s m root t.after reached (none_wrong _ found.1) in
    let graph = fits_graph s m root b.value.after reached are tests.1.graph in
    works_made s m (CreatedTask t.name)
    (MakesTask t.name (unwrap_or t.minutes 0) b.value.after (body_of b.value) ∷ []) reached (λ id. (tt, tt)) (record {
      applies = (
        record {
          object = record {
            next_id = refl;
            few = omega (arith, tests.1.few, live_is s m reached);
            free = free_of_all t.name s.objects (free_taken s m t.name reached found.0);
            name = (filled.name, tests.1.name);
          };
          minutes = minutes_within t.minutes tests.1.schedule;
          either = either_is b.value (mapped_either t
              (λ name. (predecessor (names_in m.state.objects) root name).value) filled.either);
          few_after = tests.1.few_after;
          after = graph.after_live;
          few_tasks = graph.few_tasks;
          few_children = few_each s m reached b.value.after tests.1.children;
        },
        tt,
      );
      rises = (filled.body, tt);
      follows = (refl, refl);
    })))
