-- Runs of tasks begin.
--     taken, task_told            the task that a place takes by a name
--     works_execute               a run that a statement begins
--     works_scheduled             a run that the schedule begins
use Rattle.std.proofs.Common.{◌≡◌, ℕ, zero, suc, ◌+◌, ◌<◌, ◌≤◌, Bool, true, false, cond, List, [], ◌∷◌, ◌++◌, length}
use Rattle.std.proofs.Common.{map, option_map}
use Rattle.std.proofs.Common.{Option, Some, None, refl, sym, ap, subst, ◌∙◌, ◌⊎◌, inl, inr, arith, IsTrue}
use Rattle.std.specs.Prelude.{◌&&◌, ◌||◌, not, nat_eq, slice_get}
use Rattle.std.proofs.lemmas.Bool.Decides.{nat_tests}
use Rattle.std.specs.List.{AllByRecursion, list_any}
use Rattle.std.specs.Option.{IsSomeAnd}
use Rattle.wh_naming.specs.Scope.{ObjectKind, TaskObject, Named, named}
use Rattle.wh_naming.specs.Findings as naming
use Rattle.wh_naming.specs.Findings.{Findings}
use Rattle.wh_ddl_naming.specs.Meant.{Meant, first_failing}
use Rattle.wh_ddl_naming.specs.Objects.{TaskRoot, root_of, is_root, is_task_of, of_kind, is_same_kind, found_where}
use Rattle.wh_ddl_naming.specs.Tasks.{root_task}
use Rattle.wh_reply.specs.Reply.{Reply, Started}
use Rattle.wh_state.specs.Task.{TaskState, Task, most_failures, with_state}
use Rattle.wh_state.specs.State.{Object, TableKind, StreamKind, TaskKind, DynamicKind, task_in, at_id, changed_at}
use Rattle.wh_state.specs.State.{on_task}
use Rattle.wh_state.specs.Objects.{name_at}
use Rattle.wh_state.specs.Stored.{StoredKind, StoredObject, Stored, object_meant, kind_meant}
use Rattle.wh_state.specs.Edits.{is_among}
use Rattle.wh_state.specs.Commit.{waits, RunApplies, changed, on_task_stored}
use Rattle.wh_state.proofs.FoundLaws.{FoundAt, found_changed}
use Rattle.wh_state.proofs.TaskFirm.{IsTaskOf, TasksRise, from_least}
use Rattle.wh_state.proofs.FirmLaws.{IsFirm}
use Rattle.wh_state.proofs.AllLaws.{all_map, all_append, among_all}
use Rattle.wh_graph.specs.Graph.{follows_one, joins, with_joining, kept_tasks}
use Rattle.wh_machine.specs.Names.{names_from, root_told, roots_from, names_in, refusal_of}
use Rattle.wh_machine.specs.Outcome.{Machine, commits}
use Rattle.wh_machine.specs.Definitions.{defines}
use Rattle.wh_machine.specs.Tasks.{live_task, root_running}
use Rattle.wh_machine.specs.Tasks.{start_acts, execute_task, live_tasks}
use Rattle.wh_machine.specs.Ticks.{scheduled_acts}
use Rattle.wh_machine.proofs.MoveLaws.{same_number}
use Rattle.wh_machine.proofs.ValueTypes.{both_true}
use Rattle.wh_machine.proofs.WorksLaws.{IsReached, objects_meant, Works, works_unless, works_made}
use Rattle.wh_machine.proofs.PassedLaws.{passed, no_name, nothing_fails, nothing_wrong, object_found}
use Rattle.wh_machine.proofs.DefineLaws.{works_defines}
use Rattle.wh_machine.proofs.TaskWorks.{IsTaskAt, task_placed, live_task_at, firm_at, task_meant, live_meant}
use Rattle.wh_machine.proofs.TaskWorks.{at_rest}

-- ---- EXECUTE TASK

-- what a place takes by a name
pub record IsTaken (m : Machine) (takes : Named → Bool) (name : List ℕ) (value : ℕ) : Type 0 where
  pub found : Named
  pub is : named (names_from 1 m.state.objects) name ≡ Some found
  pub takes_it : takes found ≡ true
  pub id : value ≡ found.id

pub record NoneWrong (f : Findings) : Type 0 where
  pub known : f.unknown_object ≡ None
  pub kind : f.wrong_kind ≡ None

pub none_wrong : (f : Findings) → naming.first_failing f ≡ None → NoneWrong f
none_wrong f none =
    let h = nothing_fails f none in
    record { known = h.unknown_object; kind = h.wrong_kind }

pub taken : (m : Machine) (takes : Named → Bool) (name : List ℕ)
    → NoneWrong (found_where takes name (named (names_from 1 m.state.objects) name)).findings
    → IsTaken m takes name (found_where takes name (named (names_from 1 m.state.objects) name)).value
taken m takes name none = by_found (named (names_from 1 m.state.objects) name) refl none
  where
    by_found : (found : Option Named) → named (names_from 1 m.state.objects) name ≡ found
        → NoneWrong (found_where takes name found).findings
        → IsTaken m takes name (found_where takes name found).value
    by_found None is none = absurd (cc none.known)
    by_found (Some found) is none = record {
      found = found;
      is = is;
      takes_it = not_false (takes found) (no_name (not (takes found)) name none.kind);
      id = refl;
    }
      where
        not_false : (b : Bool) → not b ≡ false → b ≡ true
        not_false true is = refl
        not_false false is = absurd cc

same_test : (m n : ℕ) → m ≡ n → nat_eq m n ≡ true
same_test m n is = grind (arith, nat_tests)

other_test : (m n : ℕ) → (m ≡ n → ⊥) → nat_eq m n ≡ false
other_test m n apart = grind (arith, nat_tests)

-- the root that names tell of a task
root_told_from : (from id place : ℕ) (objects : List StoredObject) (o : StoredObject) (t : Task) → id ≡ from + place
    → slice_get objects place ≡ Some o → o.is_live ≡ true → task_in o.kind ≡ Some t
    → root_of (roots_from from (map object_meant objects)) id ≡ t.root
root_told_from from id place [] o t at there live is = absurd cc
root_told_from from id zero (x ∷ xs) o t at there live is =
    let same : x ≡ o = cc in
    let lives : x.is_live ≡ true = ap (λ (o : StoredObject). o.is_live) same ∙ live in
    let found : task_in (kind_meant x.kind) ≡ Some t =
    task_meant x.kind ∙ ap (λ (o : StoredObject). task_in o.kind) same ∙ is in
    let here : nat_eq from id ≡ true = same_test from id (omega (arith, at)) in
    rw (lives, found, here) refl
root_told_from from id (suc place) (x ∷ xs) o t at there live is =
    skipped x.is_live (task_in (kind_meant x.kind)) (roots_from (suc from) (map object_meant xs))
    (root_told_from (suc from) id place xs o t (omega (arith, at)) there live is)
  where
    skipped : (lives : Bool) (found : Option Task) (rest : List TaskRoot) → root_of rest id ≡ t.root
        → root_of (cond lives (root_told from found) [] ++ rest) id ≡ t.root
    skipped false found rest later = later
    skipped true None rest later = later
    skipped true (Some y) rest later =
        let other : nat_eq from id ≡ false = other_test from id (λ same. omega (arith, at, same)) in
        rw other later

root_told_at : (objects : List StoredObject) (id : ℕ) (is : IsTaskAt objects id)
    → root_of (roots_from 1 (map object_meant objects)) id ≡ is.task.root
root_told_at objects zero is = absurd (cc is.there)
root_told_at objects (suc place) is =
    root_told_from 1 (suc place) place objects is.object is.task (omega arith) is.there is.live is.is_task

-- a task of a root, as names tell it
pub task_told : (s : Stored) (m : Machine) (name : List ℕ) (found : Named) (root : ℕ) → IsReached s m
    → named (names_from 1 m.state.objects) name ≡ Some found
    → is_task_of (names_in m.state.objects).roots root found ≡ true
    → (is : IsTaskAt s.objects found.id) × (is.task.root ≡ root)
task_told s m name found root reached is takes =
    let tests = both_true (of_kind TaskObject found)
    (nat_eq (root_of (names_in m.state.objects).roots found.id) root) takes in
    let o = object_found s m name found reached is in
    let is : IsTaskAt s.objects found.id = task_placed s.objects found.id (record {
      object = o.object;
      there = o.there;
      live = o.live;
      kind_is = ap (λ (k : ObjectKind). is_same_kind k TaskObject) (sym o.kind) ∙ tests.0;
    }) in
    let told : root_of (names_in m.state.objects).roots found.id ≡ is.task.root =
    ap (λ (objects : List Object). root_of (roots_from 1 objects) found.id) (objects_meant s m reached)
    ∙ root_told_at s.objects found.id is in
    (is, sym told ∙ same_number (root_of (names_in m.state.objects).roots found.id) root tests.1)

-- a root of its own
root_placed : (s : Stored) (m : Machine) (name : List ℕ) → IsReached s m
    → naming.first_failing (root_task (names_in m.state.objects) name).findings ≡ None
    → (is : IsTaskAt s.objects (root_task (names_in m.state.objects) name).value)
    × (is.task.root ≡ (root_task (names_in m.state.objects) name).value)
root_placed s m name reached none =
    let t = taken m (is_root (names_in m.state.objects).roots) name (none_wrong _ none) in
    subst (λ (id : ℕ). (is : IsTaskAt s.objects id) × (is.task.root ≡ id)) (sym t.id)
    (task_told s m name t.found t.found.id reached t.is t.takes_it)

-- ids of a run that is put together: its root and tasks of that root, by rising ids below the next
record IsKept (objects : List StoredObject) (root next : ℕ) (kept : List ℕ) : Type 0 where
  has_root : is_among root kept ≡ true
  members : AllByRecursion (FoundAt (IsTaskOf root) objects) kept
  rises : TasksRise root kept
  below : AllByRecursion (λ id. (id ≡ root) ⊎ (id < next)) kept

among_more : (id : ℕ) (ids more : List ℕ) → is_among id ids ≡ true → is_among id (ids ++ more) ≡ true
among_more id [] more is = absurd cc
among_more id (x ∷ xs) more is = by_test (nat_eq id x) is (λ rest. among_more id xs more rest)
  where
    by_test : (same : Bool) → (same || is_among id xs) ≡ true
        → (is_among id xs ≡ true → is_among id (xs ++ more) ≡ true) → (same || is_among id (xs ++ more)) ≡ true
    by_test true is rest = refl
    by_test false is rest = rest is

-- ids that are all below one, and it behind them
rises_more : (least id : ℕ) (ids : List ℕ) → least ≤ id → TasksRise least ids → AllByRecursion (λ x. x < id) ids
    → TasksRise least (ids ++ id ∷ [])
rises_more least id [] within rise below = (within, tt)
rises_more least id (x ∷ xs) within rise below =
    (rise.0, rises_more (x + 1) id xs (omega (arith, below.0)) rise.1 below.1)

one_root : (objects : List StoredObject) (a b id : ℕ) → FoundAt (IsTaskOf a) objects id
    → FoundAt (IsTaskOf b) objects id
    → a ≡ b
one_root objects a b id first second = by_found (at_id objects id) first second
  where
    by_task : (t : Option Task) → IsSomeAnd t (λ t. t.root ≡ a) → IsSomeAnd t (λ t. t.root ≡ b) → a ≡ b
    by_task None first second = absurd first
    by_task (Some t) first second = sym first ∙ second

    by_found : (found : Option StoredObject) → IsSomeAnd found (IsTaskOf a) → IsSomeAnd found (IsTaskOf b) → a ≡ b
    by_found None first second = absurd first
    by_found (Some o) first second = by_task (task_in o.kind) first.1 second.1

-- a task with a predecessor in the run is of its root, and behind it
behind_one : (objects : List StoredObject) (root own id : ℕ) (kept after : List ℕ)
    → AllByRecursion (FoundAt (IsTaskOf root) objects) kept → TasksRise root kept
    → AllByRecursion (FoundAt (IsTaskOf own) objects) after → AllByRecursion (λ p. p < id) after
    → follows_one after kept ≡ true → (own ≡ root) × (root < id)
behind_one objects root own id kept [] members rises behind before follows = absurd cc
behind_one objects root own id kept (p ∷ ps) members rises behind before follows =
    by_test (is_among p kept) refl follows
    (λ rest. behind_one objects root own id kept ps members rises behind.1 before.1 rest)
  where
    by_test : (among : Bool) → is_among p kept ≡ among → (among || follows_one ps kept) ≡ true
        → (follows_one ps kept ≡ true → (own ≡ root) × (root < id)) → (own ≡ root) × (root < id)
    by_test false is follows rest = rest follows
    by_test true is follows rest =
        let member = among_all (FoundAt (IsTaskOf root) objects) p kept members is in
        let least : root ≤ p = among_all (λ x. root ≤ x) p kept (from_least root kept rises) is in
        (one_root objects own root p behind.0 member, omega (arith, least, before.0))

-- what joins a run
joined : (objects : List StoredObject) (root id : ℕ) (kept : List ℕ) → IsKept objects root id kept
    → FoundAt (IsTaskOf root) objects id → root < id → IsKept objects root (suc id) (kept ++ id ∷ [])
joined objects root id kept is here later = record {
  has_root = among_more root kept (id ∷ []) is.has_root;
  members = all_append (FoundAt (IsTaskOf root) objects) kept (id ∷ []) is.members (here, tt);
  rises = rises_more root id kept (omega (arith, later)) is.rises
      (all_map (λ x. (x ≡ root) ⊎ (x < id)) (λ x. x < id) below kept is.below);
  below = all_append (λ x. (x ≡ root) ⊎ (x < suc id)) kept (id ∷ [])
      (all_map (λ x. (x ≡ root) ⊎ (x < id)) (λ x. (x ≡ root) ⊎ (x < suc id)) more kept is.below)
      (inr (omega arith), tt);
}
  where
    below : (x : ℕ) → (x ≡ root) ⊎ (x < id) → x < id
    below x (inl same) = omega (arith, same, later)
    below x (inr less) = less

    more : (x : ℕ) → (x ≡ root) ⊎ (x < id) → (x ≡ root) ⊎ (x < suc id)
    more x (inl same) = inl same
    more x (inr less) = inr (omega (arith, less))

passed_over : (objects : List StoredObject) (root id : ℕ) (kept : List ℕ) → IsKept objects root id kept
    → IsKept objects root (suc id) kept
passed_over objects root id kept is = record {
  has_root = is.has_root;
  members = is.members;
  rises = is.rises;
  below = all_map (λ x. (x ≡ root) ⊎ (x < id)) (λ x. (x ≡ root) ⊎ (x < suc id)) more kept is.below;
}
  where
    more : (x : ℕ) → (x ≡ root) ⊎ (x < id) → (x ≡ root) ⊎ (x < suc id)
    more x (inl same) = inl same
    more x (inr less) = inr (omega (arith, less))

-- one object more
joins_kept : (objects : List StoredObject) (root id : ℕ) (kept : List ℕ) (o : StoredObject) → IsFirm objects
    → IsKept objects root id kept → at_id objects id ≡ Some o
    → IsKept objects root (suc id) (cond (joins kept (live_task (object_meant o))) (kept ++ id ∷ []) kept)
joins_kept objects root id kept o firm is there =
    subst (λ (t : Option Task). IsKept objects root (suc id) (cond (joins kept t) (kept ++ id ∷ []) kept))
    (sym (live_meant o)) (by_live o.is_live refl)
  where
    by_join : (t : Task) (join : Bool) → o.is_live ≡ true → task_in o.kind ≡ Some t
        → (t.state.is_resumed && follows_one t.after kept) ≡ join
        → IsKept objects root (suc id) (cond join (kept ++ id ∷ []) kept)
    by_join t false live task join = passed_over objects root id kept is
    by_join t true live task join =
        let here : IsTaskAt objects id = record { object = o; there = there; live = live; task = t; is_task = task } in
        let firm_here = firm_at objects id firm here in
        let both = behind_one objects root t.root id kept t.after is.members is.rises (firm_here.1 live).behind
        firm_here.0.before (both_true t.state.is_resumed (follows_one t.after kept) join).1 in
        joined objects root id kept is
        (live_task_at (λ t. t.root ≡ root) objects id here both.0) both.1

    by_task : (t : Option Task) → o.is_live ≡ true → task_in o.kind ≡ t
        → IsKept objects root (suc id) (cond (joins kept t) (kept ++ id ∷ []) kept)
    by_task None live task = passed_over objects root id kept is
    by_task (Some t) live task = by_join t (t.state.is_resumed && follows_one t.after kept) live task refl

    by_live : (live : Bool) → o.is_live ≡ live → IsKept objects root (suc id)
        (cond (joins kept (cond live (task_in o.kind) None)) (kept ++ id ∷ []) kept)
    by_live false live = passed_over objects root id kept is
    by_live true live = by_task (task_in o.kind) live refl

kept_by : (objects rest : List StoredObject) (root id : ℕ) (kept : List ℕ) → IsFirm objects
    → ((place : ℕ) (o : StoredObject) → slice_get rest place ≡ Some o → at_id objects (id + place) ≡ Some o)
    → IsKept objects root id kept
    → IsKept objects root (id + length rest) (with_joining kept id (map live_task (map object_meant rest)))
kept_by objects [] root id kept firm there is = subst (λ (n : ℕ). IsKept objects root n kept) (omega arith) is
kept_by objects (o ∷ os) root id kept firm there is =
    subst (λ (n : ℕ). IsKept objects root n
    (with_joining (cond (joins kept (live_task (object_meant o))) (kept ++ id ∷ []) kept) (suc id)
    (map live_task (map object_meant os)))) (omega arith)
    (kept_by objects os root (suc id) (cond (joins kept (live_task (object_meant o))) (kept ++ id ∷ []) kept) firm
    (λ place o at. subst (λ (n : ℕ). at_id objects n ≡ Some o) (omega arith) (there (suc place) o at))
    (joins_kept objects root id kept o firm is
    (subst (λ (n : ℕ). at_id objects n ≡ Some o) (omega arith) (there zero o refl))))

-- of a root that is at rest
start_applies : (s : Stored) (m : Machine) (root : ℕ) → IsReached s m → (r : IsTaskAt s.objects root)
    → r.task.root ≡ root → root_running m.state.objects root ≡ None
    → RunApplies s.objects root (kept_tasks (live_tasks m.state.objects) root)
    × TasksRise 0 (kept_tasks (live_tasks m.state.objects) root)
unfolding kept_tasks
start_applies s m root reached r own running =
    let first : IsKept s.objects root 1 (root ∷ []) = record {
      has_root = rw (same_test root root refl) refl;
      members = (live_task_at (λ t. t.root ≡ root) s.objects root r own, tt);
      rises = (omega arith, tt);
      below = (inl refl, tt);
    } in
    let kept = subst (λ (objects : List Object). IsKept s.objects root (1 + length s.objects)
    (with_joining (root ∷ []) 1 (map live_task objects))) (sym (objects_meant s m reached))
    (kept_by s.objects s.objects root 1 (root ∷ []) reached.firm
    (λ place o at. subst (λ (n : ℕ). at_id s.objects n ≡ Some o) (one_more place) at) first) in (
      record {
        none = live_task_at (λ t. (t.root ≡ root) × (list_any waits t.run ≡ false)) s.objects root r
            (own, at_rest s m root reached r running);
        has_root = kept.has_root;
        members = kept.members;
      },
      rise_from root 0 _ (omega arith) kept.rises,
    )
  where
    one_more : (place : ℕ) → suc place ≡ 1 + place
    one_more place = omega arith

    rise_from : (least lower : ℕ) (ids : List ℕ) → lower ≤ least → TasksRise least ids → TasksRise lower ids
    rise_from least lower [] below rise = tt
    rise_from least lower (id ∷ ids) below rise = (omega (arith, rise.0, below), rise.1)

works_start : (s : Stored) (m : Machine) (reply : Reply) (root : ℕ) → IsReached s m → (r : IsTaskAt s.objects root)
    → r.task.root ≡ root → root_running m.state.objects root ≡ None
    → Works s m (commits m reply (start_acts m.state.objects root))
works_start s m reply root reached r own running =
    let start = start_applies s m root reached r own running in
    works_made s m reply (start_acts m.state.objects root) reached (λ other. (tt, tt))
    (record { applies = (start.0, tt); rises = (start.1, tt); follows = (refl, refl) })

pub works_execute : (s : Stored) (m : Machine) (session : ℕ) (name : List ℕ) → IsReached s m
    → Works s m (defines m session None
    (execute_task m (option_map refusal_of (first_failing (root_task (names_in m.state.objects) name)))
    (root_task (names_in m.state.objects) name).value))
unfolding execute_task
works_execute s m session name reached =
    let found : Meant ℕ = root_task (names_in m.state.objects) name in
    works_defines s m session None _ reached (λ free.
    works_unless s m _ _ reached (λ none.
    let names = passed (option_map refusal_of (first_failing found)) _ none in
    let running = passed (root_running m.state.objects found.value) _ names.1 in
    let root = root_placed s m name reached (nothing_wrong found names.0).1 in
    works_start s m (Started (name_at m.state.objects found.value)) found.value reached root.0 root.1 running.0))

-- ---- a run that the schedule begins

-- behind another state of the root
state_spares : (P : Task → Type 0) (state : TaskState) → ((t : Task) → P t → P (with_state state t))
    → (o : StoredObject) → IsTrue o.is_live × IsSomeAnd (task_in o.kind) P
    → IsTrue o.is_live × IsSomeAnd (task_in (on_task (with_state state) o.kind)) P
state_spares P state keeps o h = (h.0, by_kind o.kind h.1)
  where
    by_kind : (k : StoredKind) → IsSomeAnd (task_in k) P → IsSomeAnd (task_in (on_task (with_state state) k)) P
    by_kind (TableKind t) h = absurd h
    by_kind (StreamKind s) h = absurd h
    by_kind (TaskKind t) h = keeps t h
    by_kind (DynamicKind d t) h = absurd h

pub works_scheduled : (s : Stored) (m : Machine) (reply : Reply) (root : ℕ) → IsReached s m
    → (r : IsTaskAt s.objects root)
    → r.task.root ≡ root → root_running m.state.objects root ≡ None
    → Works s m (commits m reply (scheduled_acts m.state.objects m.state.last root r.task.state))
unfolding changed
works_scheduled s m reply root reached r own running =
    let start = start_applies s m root reached r own running in
    let state : TaskState = record r.task.state { last_start = m.state.last } in
    works_made s m reply (scheduled_acts m.state.objects m.state.last root r.task.state) reached
    (λ other. (tt, (tt, tt))) (record {
      applies = (
        live_task_at (λ t. state.failures ≤ most_failures) s.objects root r
            (firm_at s.objects root reached.firm r).0.few,
        (
          record {
            none = found_changed (λ o. IsTrue o.is_live × IsSomeAnd (task_in o.kind) AtRest)
                (on_task_stored (with_state state)) (state_spares AtRest state (λ t h. h)) s.objects root root
                start.0.none;
            has_root = start.0.has_root;
            members = all_map (FoundAt (IsTaskOf root) s.objects)
                (FoundAt (IsTaskOf root) (changed_at s.objects root (on_task_stored (with_state state))))
                (λ id h. found_changed (IsTaskOf root) (on_task_stored (with_state state))
                (state_spares (λ t. t.root ≡ root) state (λ t h. h)) s.objects root id h)
                (kept_tasks (live_tasks m.state.objects) root) start.0.members;
          },
          tt,
        ),
      );
      rises = (tt, (start.1, tt));
      follows = (refl, (refl, refl));
    })
  where
    AtRest : Task → Type 0
    AtRest t = (t.root ≡ root) × (list_any waits t.run ≡ false)
