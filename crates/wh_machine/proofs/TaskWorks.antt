-- Statements over tasks apply.
--     IsTaskAt, task_placed       what a place of a task names
--     works_resume, works_suspend     a task in another state
--     root_stands                 the root of a live task lives
--     works_drop_task             a task that is dropped
use Rattle.std.proofs.Common.{◌≡◌, ℕ, zero, suc, ◌<◌, ◌≤◌, Bool, true, false, cond, List, [], ◌∷◌, ◌++◌, length, map}
use Rattle.std.proofs.Common.{option_map}
use Rattle.std.proofs.Common.{Option, Some, None, refl, sym, ap, subst, ◌∙◌, arith, IsTrue, IfSome, option_and_then}
use Rattle.std.proofs.Common.{filter}
use Rattle.std.specs.Prelude.{◌&&◌}
use Rattle.std.proofs.lemmas.List.Sums.{length-filter}
use Rattle.std.specs.List.{AllByRecursion, list_any}
use Rattle.std.specs.Option.{IsSomeAnd, option_map_or}
use Rattle.wh_naming.specs.Scope.{TaskObject}
use Rattle.wh_ddl_naming.specs.Meant.{Meant, first_failing}
use Rattle.wh_ddl_naming.specs.Objects.{is_same_kind, object_of}
use Rattle.wh_reply.specs.Reply.{Reply, Resumed, Suspended, DroppedTask}
use Rattle.wh_state.specs.Task.{TaskState, Task, most_failures}
use Rattle.wh_state.specs.State.{Object, TableKind, StreamKind, TaskKind, DynamicKind, task_in, at_id}
use Rattle.wh_state.specs.Act.{PutsTask, DropsObject}
use Rattle.wh_state.specs.Objects.{name_at, as_task, task_at}
use Rattle.wh_state.specs.Stored.{StoredKind, StoredObject, Stored, object_meant, kind_meant}
use Rattle.wh_state.specs.Edits.{is_among}
use Rattle.wh_state.specs.Commit.{IsLiveTask, is_member, waits, TaskMayGo}
use Rattle.wh_state.proofs.FoundLaws.{FoundAt, found_some}
use Rattle.wh_state.proofs.MeaningLaws.{task_at_meant}
use Rattle.wh_state.proofs.TaskFirm.{IsTaskOf, TaskHolds, IsFirmTask, IsRooted}
use Rattle.wh_state.proofs.FirmLaws.{IsFirm}
use Rattle.wh_state.proofs.WrittenLaws.{go_none}
use Rattle.wh_graph.specs.Graph.{is_under_way}
use Rattle.wh_machine.specs.Names.{object_kind, names_in, refusal_of}
use Rattle.wh_machine.specs.Sessions.{holder}
use Rattle.wh_machine.specs.Tests.{first_of}
use Rattle.wh_machine.specs.Outcome.{Machine, commits}
use Rattle.wh_machine.specs.Definitions.{defines}
use Rattle.wh_machine.specs.Tasks.{root_at, put_to, is_same_state, resumed_state, suspended_state, resume_refusal}
use Rattle.wh_machine.specs.Tasks.{resume_task, suspend_task, drop_task, live_task, run_at, root_running, root_resumed}
use Rattle.wh_machine.specs.Tasks.{children_from, has_children}
use Rattle.wh_machine.proofs.WorksLaws.{IsReached, objects_meant, Works, works_unless, works_made, works_defined}
use Rattle.wh_machine.proofs.PassedLaws.{passed, none_if, nothing_wrong}
use Rattle.wh_machine.proofs.DefineLaws.{IsPlaced, placed, works_defines}

-- ---- a task

pub record IsTaskAt (objects : List StoredObject) (id : ℕ) : Type 0 where
  pub object : StoredObject
  pub there : at_id objects id ≡ Some object
  pub live : object.is_live ≡ true
  pub task : Task
  pub is_task : task_in object.kind ≡ Some task

pub task_placed : (objects : List StoredObject) (id : ℕ) → IsPlaced objects TaskObject id → IsTaskAt objects id
task_placed objects id is = by_kind is.object.kind refl is.kind_is
  where
    by_kind : (k : StoredKind) → is.object.kind ≡ k → is_same_kind (object_kind (kind_meant k)) TaskObject ≡ true
        → IsTaskAt objects id
    by_kind (TableKind t) kind same = absurd cc
    by_kind (StreamKind s) kind same = absurd cc
    by_kind (DynamicKind d t) kind same = absurd cc
    by_kind (TaskKind t) kind same = record {
      object = is.object;
      there = is.there;
      live = is.live;
      task = t;
      is_task = ap task_in kind;
    }

pub live_task_at : (P : Task → Type 0) (objects : List StoredObject) (id : ℕ) (is : IsTaskAt objects id) → P is.task
    → IsLiveTask P (at_id objects id)
live_task_at P objects id is h =
    found_some (λ o. IsTrue o.is_live × IsSomeAnd (task_in o.kind) P) objects id is.object is.there
    (is.live, subst (λ found. IsSomeAnd found P) (sym is.is_task) h)

pub firm_at : (objects : List StoredObject) (id : ℕ) → IsFirm objects → (is : IsTaskAt objects id)
    → IsFirmTask id is.task × (IsTrue is.object.is_live → IsRooted objects id is.task)
firm_at objects id firm is =
    subst (λ found. TaskHolds objects id is.object.is_live found) is.is_task (firm.tasks id is.object is.there)

pub task_found : (s : Stored) (m : Machine) (id : ℕ) → IsReached s m → (is : IsTaskAt s.objects id)
    → task_at m.state.objects id ≡ Some is.task
task_found s m id reached is =
    ap (λ (objects : List Object). task_at objects id) (objects_meant s m reached) ∙ task_at_meant s.objects id
    ∙ ap (option_and_then as_task) is.there ∙ is.is_task

-- ---- ALTER TASK

works_put : (s : Stored) (m : Machine) (reply : Reply) (id : ℕ) (new : Task → TaskState) → IsReached s m
    → ((t : Task) → t.state.failures ≤ most_failures → (new t).failures ≤ most_failures)
    → IsTaskAt s.objects id → Works s m (commits m reply (put_to id new (task_at m.state.objects id)))
works_put s m reply id new reached few is =
    subst (λ (found : Option Task). Works s m (commits m reply (put_to id new found)))
    (sym (task_found s m id reached is))
    (by_same (is_same_state is.task.state (new is.task)))
  where
    by_same : (same : Bool) → Works s m (commits m reply (cond same [] (PutsTask id (new is.task) ∷ [])))
    by_same true = works_made s m reply [] reached (λ other. tt) (go_none m.state.last s.objects)
    by_same false = works_made s m reply (PutsTask id (new is.task) ∷ []) reached (λ other. (tt, tt)) (record {
      applies = (
        live_task_at (λ t. (new is.task).failures ≤ most_failures) s.objects id is
            (few is.task (firm_at s.objects id reached.firm is).0.few),
        tt,
      );
      rises = (tt, tt);
      follows = (refl, refl);
    })

pub works_suspend : (s : Stored) (m : Machine) (session : ℕ) (name : List ℕ) → IsReached s m
    → Works s m (defines m session None
    (suspend_task m (option_map refusal_of (first_failing (object_of TaskObject (names_in m.state.objects) name)))
    (object_of TaskObject (names_in m.state.objects) name).value))
unfolding suspend_task
works_suspend s m session name reached =
    let found : Meant ℕ = object_of TaskObject (names_in m.state.objects) name in
    works_defines s m session None _ reached (λ free.
    works_unless s m (option_map refusal_of (first_failing found)) _ reached (λ none.
    works_put s m (Suspended (name_at m.state.objects found.value)) found.value suspended_state reached
    (λ t few. few)
    (task_placed s.objects found.value (placed s m TaskObject name reached (nothing_wrong found none).1))))

pub works_resume : (s : Stored) (m : Machine) (session : ℕ) (name : List ℕ) → IsReached s m
    → Works s m (defines m session None
    (resume_task m (option_map refusal_of (first_failing (object_of TaskObject (names_in m.state.objects) name)))
    (object_of TaskObject (names_in m.state.objects) name).value))
unfolding resume_task
works_resume s m session name reached =
    let found : Meant ℕ = object_of TaskObject (names_in m.state.objects) name in
    works_defines s m session None _ reached (λ free.
    works_unless s m
    (first_of (option_map refusal_of (first_failing found) ∷ resume_refusal m.state.objects found.value ∷ [])) _ reached
    (λ none.
    let names = passed (option_map refusal_of (first_failing found)) _ none in
    works_put s m (Resumed (name_at m.state.objects found.value)) found.value
    (resumed_state m.state.last found.value) reached
    (λ t few. omega arith)
    (task_placed s.objects found.value (placed s m TaskObject name reached (nothing_wrong found names.0).1))))

-- ---- the root of a task

task_from : (root : ℕ) (objects : List StoredObject) (id : ℕ) → FoundAt (IsTaskOf root) objects id
    → (is : IsTaskAt objects id) × (is.task.root ≡ root)
task_from root objects id found = by_found (at_id objects id) refl found
  where
    by_task : (o : StoredObject) (t : Option Task) → at_id objects id ≡ Some o → o.is_live ≡ true → task_in o.kind ≡ t
        → IsSomeAnd t (λ t. t.root ≡ root) → (is : IsTaskAt objects id) × (is.task.root ≡ root)
    by_task o None there live is has = absurd has
    by_task o (Some t) there live is has =
        (record { object = o; there = there; live = live; task = t; is_task = is }, has)

    by_found : (found : Option StoredObject) → at_id objects id ≡ found → IsSomeAnd found (IsTaskOf root)
        → (is : IsTaskAt objects id) × (is.task.root ≡ root)
    by_found None there has = absurd has
    by_found (Some o) there has = by_task o (task_in o.kind) there has.0 refl has.1

-- it lives, by the predecessors with lower ids
root_under : (objects : List StoredObject) → IsFirm objects → (n id : ℕ) → id < n → (is : IsTaskAt objects id)
    → FoundAt (IsTaskOf is.task.root) objects is.task.root
root_under objects firm zero id below is = absurd (omega (arith, below))
root_under objects firm (suc n) id below is =
    by_after is.task.after refl (λ p under there. root_under objects firm n p under there)
  where
    here : IsFirmTask id is.task × (IsTrue is.object.is_live → IsRooted objects id is.task)
    here = firm_at objects id firm is

    rooted : IsRooted objects id is.task
    rooted = here.1 is.live

    by_after : (after : List ℕ) → is.task.after ≡ after
        → ((p : ℕ) → p < n → (q : IsTaskAt objects p) → FoundAt (IsTaskOf q.task.root) objects q.task.root)
        → FoundAt (IsTaskOf is.task.root) objects is.task.root
    by_after [] none under =
        subst (FoundAt (IsTaskOf is.task.root) objects) (sym (rooted.own none))
        (live_task_at (λ t. t.root ≡ is.task.root) objects id is refl)
    by_after (first ∷ others) some under =
        let behind = subst (AllByRecursion (FoundAt (IsTaskOf is.task.root) objects)) some rooted.behind in
        let before = subst (AllByRecursion (λ p. p < id)) some here.0.before in
        let p = task_from is.task.root objects first behind.0 in
        subst (λ (r : ℕ). FoundAt (IsTaskOf r) objects r) p.1
        (under first (omega (arith, below, before.0)) p.0)

pub root_stands : (objects : List StoredObject) (id : ℕ) → IsFirm objects → (is : IsTaskAt objects id)
    → (r : IsTaskAt objects is.task.root) × (r.task.root ≡ is.task.root)
root_stands objects id firm is =
    task_from is.task.root objects is.task.root (root_under objects firm (suc id) id (omega arith) is)

-- ---- DROP TASK

pub task_meant : (k : StoredKind) → task_in (kind_meant k) ≡ task_in k
task_meant (TableKind t) = refl
task_meant (StreamKind s) = refl
task_meant (TaskKind t) = refl
task_meant (DynamicKind d t) = refl

pub live_meant : (o : StoredObject) → live_task (object_meant o) ≡ cond o.is_live (task_in o.kind) None
live_meant o = ap (λ (t : Option Task). cond o.is_live t None) (task_meant o.kind)

childless : (parent id : ℕ) (objects : List StoredObject) → children_from parent id (map object_meant objects) ≡ []
    → length (filter (is_member (λ t. is_among parent t.after)) objects) ≡ 0
childless parent id [] none = refl
childless parent id (o ∷ os) none =
    by_child (option_map_or (λ t. is_among parent t.after) (live_task (object_meant o)) false) refl none
    (λ rest. childless parent (suc id) os rest)
  where
    member : is_member (λ t. is_among parent t.after) o
        ≡ option_map_or (λ t. is_among parent t.after) (live_task (object_meant o)) false
    member = sym (ap (λ (t : Option Task). option_map_or (λ t. is_among parent t.after) t false) (live_meant o)
        ∙ by_live o.is_live)
      where
        by_live : (live : Bool) → option_map_or (λ t. is_among parent t.after) (cond live (task_in o.kind) None) false
            ≡ (live && option_map_or (λ t. is_among parent t.after) (task_in o.kind) false)
        by_live true = refl
        by_live false = refl

    by_child : (child : Bool)
        → option_map_or (λ t. is_among parent t.after) (live_task (object_meant o)) false ≡ child
        → cond child (id ∷ []) [] ++ children_from parent (suc id) (map object_meant os) ≡ []
        → (children_from parent (suc id) (map object_meant os) ≡ []
        → length (filter (is_member (λ t. is_among parent t.after)) os) ≡ 0)
        → length (filter (is_member (λ t. is_among parent t.after)) (o ∷ os)) ≡ 0
    by_child true is none rest = absurd cc
    by_child false is none rest = rw (member ∙ is) (rest none)

no_children : (objects : List Object) (children : List ℕ) → has_children objects children ≡ None → children ≡ []
no_children objects [] none = refl
no_children objects (child ∷ others) none = absurd cc

pub at_rest : (s : Stored) (m : Machine) (root : ℕ) → IsReached s m → (r : IsTaskAt s.objects root)
    → root_running m.state.objects root ≡ None → list_any waits r.task.run ≡ false
at_rest s m root reached r none =
    ap (λ (t : Option Task). list_any waits (option_map_or (λ t. t.run) t [])) (sym (task_found s m root reached r))
    ∙ none_if (is_under_way (run_at m.state.objects root)) _ none

works_task_gone : (s : Stored) (m : Machine) (reply : Reply) (id : ℕ) → IsReached s m → holder m.sessions id ≡ None
    → (is : IsTaskAt s.objects id) → root_running m.state.objects (root_at m.state.objects id) ≡ None
    → has_children m.state.objects (children_from id 1 m.state.objects) ≡ None
    → Works s m (commits m reply (DropsObject id ∷ []))
works_task_gone s m reply id reached free is running children =
    let r = root_stands s.objects id reached.firm is in
    let root_is : root_at m.state.objects id ≡ is.task.root =
    ap (λ (t : Option Task). option_map_or (λ t. t.root) t id) (task_found s m id reached is) in
    let rest = at_rest s m is.task.root reached r.0
    (subst (λ (root : ℕ). root_running m.state.objects root ≡ None) root_is running) in
    let none = subst (λ (objects : List Object). children_from id 1 objects ≡ []) (objects_meant s m reached)
    (no_children m.state.objects (children_from id 1 m.state.objects) children) in
    works_defined s m reply (DropsObject id ∷ []) id reached free (refl, tt) (record {
      applies = (
        (
          found_some (λ o. IsTrue o.is_live) s.objects id is.object is.there is.live,
          subst (λ (found : Option Task). IfSome found (TaskMayGo s.objects id))
              (sym (ap (option_and_then as_task) is.there ∙ is.is_task)) (record {
                childless = sym (length-filter (is_member (λ t. is_among id t.after)) s.objects)
                    ∙ childless id 1 s.objects none;
                at_rest = live_task_at (λ t. list_any waits t.run ≡ false) s.objects is.task.root r.0 rest;
              }),
        ),
        tt,
      );
      rises = (tt, tt);
      follows = (refl, refl);
    })

pub works_drop_task : (s : Stored) (m : Machine) (session : ℕ) (name : List ℕ) → IsReached s m
    → Works s m (defines m session (Some (object_of TaskObject (names_in m.state.objects) name).value)
    (drop_task m (option_map refusal_of (first_failing (object_of TaskObject (names_in m.state.objects) name)))
    (object_of TaskObject (names_in m.state.objects) name).value))
unfolding drop_task
works_drop_task s m session name reached =
    let found : Meant ℕ = object_of TaskObject (names_in m.state.objects) name in
    works_defines s m session (Some found.value) _ reached (λ free.
    works_unless s m _ _ reached (λ none.
    let names = passed (option_map refusal_of (first_failing found)) _ none in
    let running = passed (root_running m.state.objects (root_at m.state.objects found.value)) _ names.1 in
    let resumed = passed (root_resumed m.state.objects (root_at m.state.objects found.value)) _ running.1 in
    let children = passed (has_children m.state.objects (children_from found.value 1 m.state.objects)) _ resumed.1 in
    works_task_gone s m (DroppedTask (name_at m.state.objects found.value)) found.value reached free
    (task_placed s.objects found.value (placed s m TaskObject name reached (nothing_wrong found names.0).1))
    running.0 children.0))
