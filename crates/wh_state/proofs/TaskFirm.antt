-- What holds of the tasks of a file.
--     IsTaskOf             a live task of a root
--     IsFirmTask           few failures, predecessors with lower ids or a schedule, a run by rising ids, and a body
--                          that is written
--     IsRooted             of a live one: its predecessors are live tasks of its root
--     AreFirmTasks         so of all tasks
--     tasks_changed, tasks_dropped, tasks_more     and still where an object is changed, dropped, or made
use Rattle.std.proofs.Common.{◌≡◌, ℕ, zero, suc, ◌+◌, ◌<◌, ◌≤◌, Bool, true, false, cond, List, [], ◌∷◌, ◌++◌, length}
use Rattle.std.proofs.Common.{map}
use Rattle.std.proofs.Common.{Option, Some, None, refl, sym, ap, subst, ◌∙◌, ◌⊎◌, inl, inr, IsTrue, IfSome, arith}
use Rattle.std.specs.Prelude.{slice_get, nat_eq, ◌||◌, count_by}
use Rattle.std.specs.Option.{option_and_then}
use Rattle.std.proofs.lemmas.Bool.Decides.{nat_tests}
use Rattle.std.proofs.lemmas.List.Sums.{length-filter}
use Rattle.std.specs.List.{filter}
use Rattle.wh_state.specs.Objects.{as_task, task_at}
use Rattle.std.specs.List.{AllByRecursion}
use Rattle.std.specs.Option.{IsSomeAnd}
use Rattle.wh_state.specs.Task.{Ending, TaskRun, Run, TaskState, Task, waiting, ended_as, ended_in, most_failures}
use Rattle.wh_state.specs.Task.{with_state, with_run, with_ended}
use Rattle.wh_state.specs.State.{TableKind, StreamKind, TaskKind, DynamicKind, task_in, on_task, at_id, changed_at}
use Rattle.wh_state.specs.State.{dropped}
use Rattle.wh_state.specs.Edits.{is_among}
use Rattle.wh_state.specs.Stored.{StoredKind, StoredObject}
use Rattle.wh_state.specs.Spelling.{IdsRiseFrom}
use Rattle.wh_state.specs.Commit.{on_task_stored, is_member, child_count, MayGo, TaskMayGo}
use Rattle.wh_state.proofs.AllLaws.{all_map}
use Rattle.wh_state.proofs.IdLaws.{at_spared}
use Rattle.wh_state.proofs.SpelledLaws.{HasTokensOf}
use Rattle.wh_state.proofs.FoundLaws.{FoundAt, same_or_not, found_spared, found_changed, found_more, at_same}

abbrev pub IsTaskOf : ℕ → StoredObject → Type 0
IsTaskOf root o = IsTrue o.is_live × IsSomeAnd (task_in o.kind) (λ t. t.root ≡ root)

abbrev pub RunRises : ℕ → Run → Type 0
RunRises least [] = Unit {0}
RunRises least (r ∷ rs) = (least ≤ r.task) × RunRises (r.task + 1) rs

pub record IsFirmTask (id : ℕ) (t : Task) : Type 0 where
  pub few : t.state.failures ≤ most_failures
  pub before : AllByRecursion (λ p. p < id) t.after
  pub either : (t.after ≡ []) ⊎ (t.minutes ≡ 0)
  pub rises : RunRises 0 t.run
  pub body : HasTokensOf t.runs.body

pub record IsRooted (objects : List StoredObject) (id : ℕ) (t : Task) : Type 0 where
  pub behind : AllByRecursion (FoundAt (IsTaskOf t.root) objects) t.after
  pub own : t.after ≡ [] → t.root ≡ id

abbrev pub TaskHolds : List StoredObject → ℕ → Bool → Option Task → Type 0
TaskHolds objects id live found = IfSome found (λ t. IsFirmTask id t × (IsTrue live → IsRooted objects id t))

abbrev pub AreFirmTasks : List StoredObject → Type 0
AreFirmTasks objects =
    (id : ℕ) (o : StoredObject) → at_id objects id ≡ Some o → TaskHolds objects id o.is_live (task_in o.kind)

-- ---- where live tasks stay

abbrev Keeps : List StoredObject → List StoredObject → Type 0
Keeps objects new = (root id : ℕ) → FoundAt (IsTaskOf root) objects id → FoundAt (IsTaskOf root) new id

holds_kept : (objects new : List StoredObject) → Keeps objects new → (id : ℕ) (live : Bool) (found : Option Task)
    → TaskHolds objects id live found → TaskHolds new id live found
holds_kept objects new keeps id live None h = tt
holds_kept objects new keeps id live (Some t) h = (
  h.0,
  λ lives. record {
    behind = all_map (FoundAt (IsTaskOf t.root) objects) (FoundAt (IsTaskOf t.root) new) (keeps t.root) t.after
        (h.1 lives).behind;
    own = (h.1 lives).own;
  },
)

-- ---- what stands at an id behind a change

record CameFrom (f : StoredObject → StoredObject) (objects : List StoredObject) (id other : ℕ) (y : StoredObject)
    : Type 0 where
  object : StoredObject
  there : at_id objects other ≡ Some object
  is : (y ≡ object) ⊎ ((other ≡ id) × (y ≡ f object))

came_from : (f : StoredObject → StoredObject) (objects : List StoredObject) (id other : ℕ) (y : StoredObject)
    → at_id (changed_at objects id f) other ≡ Some y → CameFrom f objects id other y
came_from f objects id other y there = by_id (same_or_not other id)
  where
    by_found : (found : Option StoredObject) → at_id objects other ≡ found → other ≡ id → CameFrom f objects id other y
    by_found None none same =
        let here : at_id objects id ≡ None = ap (at_id objects) (sym same) ∙ none in
        let unchanged : changed_at objects id f ≡ objects = rw here refl in
        let absent : None ≡ Some y = sym none ∙ ap (λ os. at_id os other) (sym unchanged) ∙ there in
        absurd cc
    by_found (Some x) here same =
        let changed : at_id (changed_at objects id f) id ≡ Some (f x) =
        at_same f objects id x (ap (at_id objects) (sym same) ∙ here) in
        let both : Some y ≡ Some (f x) = sym there ∙ ap (at_id (changed_at objects id f)) same ∙ changed in
        record { object = x; there = here; is = inr (same, cc) }

    by_id : (other ≡ id) ⊎ (other ≡ id → ⊥) → CameFrom f objects id other y
    by_id (inl same) = by_found (at_id objects other) refl same
    by_id (inr apart) = record { object = y; there = sym (at_spared f objects id other apart) ∙ there; is = inl refl }

-- an object that is changed keeps what holds of tasks
pub tasks_changed : (f : StoredObject → StoredObject)
    → ((root : ℕ) (o : StoredObject) → IsTaskOf root o → IsTaskOf root (f o))
    → ((objects : List StoredObject) (id : ℕ) (o : StoredObject) → at_id objects id ≡ Some o
    → TaskHolds objects id o.is_live (task_in o.kind)
    → TaskHolds objects id (f o).is_live (task_in (f o).kind))
    → (objects : List StoredObject) (id : ℕ) → AreFirmTasks objects → AreFirmTasks (changed_at objects id f)
tasks_changed f keeps holds objects id firm other y there =
    by_source (came_from f objects id other y there)
  where
    new : List StoredObject
    new = changed_at objects id f

    kept : Keeps objects new
    kept root n found = found_changed (IsTaskOf root) f (keeps root) objects id n found

    by_source : CameFrom f objects id other y → TaskHolds new other y.is_live (task_in y.kind)
    by_source c = by_is c.is
      where
        by_is : (y ≡ c.object) ⊎ ((other ≡ id) × (y ≡ f c.object)) → TaskHolds new other y.is_live (task_in y.kind)
        by_is (inl same) = holds_kept objects new kept other y.is_live (task_in y.kind)
            (subst (λ (o : StoredObject). TaskHolds objects other o.is_live (task_in o.kind)) (sym same)
            (firm other c.object c.there))
        by_is (inr same) = holds_kept objects new kept other y.is_live (task_in y.kind)
            (subst (λ (o : StoredObject). TaskHolds objects other o.is_live (task_in o.kind)) (sym same.1)
            (holds objects other c.object c.there (firm other c.object c.there)))

-- one that keeps its task
pub same_tasks : (f : StoredObject → StoredObject) → ((o : StoredObject) → task_in (f o).kind ≡ task_in o.kind)
    → ((o : StoredObject) → (f o).is_live ≡ o.is_live) → (objects : List StoredObject) (id : ℕ)
    → AreFirmTasks objects → AreFirmTasks (changed_at objects id f)
same_tasks f task lives objects id firm = tasks_changed f
    (λ root o is. (lives o ∙ is.0, subst (λ found. IsSomeAnd found (λ t. t.root ≡ root)) (sym (task o)) is.1))
    (λ objects id o there h. subst (λ (live : Bool). TaskHolds objects id live (task_in (f o).kind)) (sym (lives o))
    (subst (TaskHolds objects id o.is_live) (sym (task o)) h)) objects id firm

-- a task that keeps its predecessors and its root
pub tasked : (g : Task → Task) → ((t : Task) → (g t).after ≡ t.after) → ((t : Task) → (g t).root ≡ t.root)
    → ((id : ℕ) (t : Task) → IsFirmTask id t → IsFirmTask id (g t)) → (objects : List StoredObject) (id : ℕ)
    → AreFirmTasks objects → AreFirmTasks (changed_at objects id (on_task_stored g))
tasked g after root keeps objects id firm = tasks_changed (on_task_stored g)
    (λ r o is. (is.0, of_kind r o.kind is.1)) (λ objects id o there h. holding objects id o.is_live o.kind h) objects id
    firm
  where
    of_kind : (r : ℕ) (k : StoredKind) → IsSomeAnd (task_in k) (λ t. t.root ≡ r)
        → IsSomeAnd (task_in (on_task g k)) (λ t. t.root ≡ r)
    of_kind r (TableKind t) is = absurd is
    of_kind r (StreamKind s) is = absurd is
    of_kind r (TaskKind t) is = root t ∙ is
    of_kind r (DynamicKind d t) is = absurd is

    holding : (objects : List StoredObject) (id : ℕ) (live : Bool) (k : StoredKind)
        → TaskHolds objects id live (task_in k)
        → TaskHolds objects id live (task_in (on_task g k))
    holding objects id live (TableKind t) h = tt
    holding objects id live (StreamKind s) h = tt
    holding objects id live (TaskKind t) h = (
      keeps id t h.0,
      λ lives. record {
        behind = subst (λ (r : ℕ). AllByRecursion (FoundAt (IsTaskOf r) objects) (g t).after) (sym (root t))
            (subst (AllByRecursion (FoundAt (IsTaskOf t.root) objects)) (sym (after t)) (h.1 lives).behind);
        own = λ none. root t ∙ (h.1 lives).own (sym (after t) ∙ none);
      },
    )
    holding objects id live (DynamicKind d t) h = tt

-- ---- the changes of tasks

pub state_firm : (state : TaskState) → state.failures ≤ most_failures → (id : ℕ) (t : Task) → IsFirmTask id t
    → IsFirmTask id (with_state state t)
state_firm state few id t firm =
    record { few = few; before = firm.before; either = firm.either; rises = firm.rises; body = firm.body }

-- ids that rise
abbrev pub TasksRise : ℕ → List ℕ → Type 0
TasksRise least [] = Unit {0}
TasksRise least (id ∷ ids) = (least ≤ id) × TasksRise (id + 1) ids

pub from_least : (least : ℕ) (ids : List ℕ) → TasksRise least ids → AllByRecursion (λ x. least ≤ x) ids
from_least least [] rise = tt
from_least least (x ∷ xs) rise =
    let later = from_least (x + 1) xs rise.1 in
    (rise.0, all_map (λ y. x + 1 ≤ y) (λ y. least ≤ y) (λ y h. omega (arith, h, rise.0)) xs later)

pub tasks_rise : (least : ℕ) (ids : List ℕ) → IdsRiseFrom least ids → TasksRise least ids
tasks_rise least [] rise = tt
tasks_rise least (id ∷ ids) rise = (rise.0, tasks_rise (id + 1) ids rise.2)

waiting_rises : (least : ℕ) (ids : List ℕ) → TasksRise least ids → RunRises least (map waiting ids)
waiting_rises least [] rise = tt
waiting_rises least (id ∷ ids) rise = (rise.0, waiting_rises (id + 1) ids rise.1)

pub run_firm : (ids : List ℕ) → TasksRise 0 ids → (id : ℕ) (t : Task) → IsFirmTask id t
    → IsFirmTask id (with_run ids t)
run_firm ids rise id t firm = record {
  few = firm.few;
  before = firm.before;
  either = firm.either;
  rises = waiting_rises 0 ids rise;
  body = firm.body;
}

pub ended_task : (task : ℕ) (ending : Ending) (r : TaskRun) → (ended_as task ending r).task ≡ r.task
ended_task task ending r = by_test (nat_eq r.task task)
  where
    by_test : (same : Bool) → (cond same (record r { ending = Some ending }) r).task ≡ r.task
    by_test true = refl
    by_test false = refl

ended_rises : (task : ℕ) (ending : Ending) (least : ℕ) (run : Run) → RunRises least run
    → RunRises least (ended_in task ending run)
ended_rises task ending least [] rise = tt
ended_rises task ending least (r ∷ rs) rise =
    subst (λ (n : ℕ). (least ≤ n) × RunRises (n + 1) (ended_in task ending rs)) (sym (ended_task task ending r))
    (rise.0, ended_rises task ending (r.task + 1) rs rise.1)

pub end_firm : (task : ℕ) (ending : Ending) (id : ℕ) (t : Task) → IsFirmTask id t
    → IsFirmTask id (with_ended task ending t)
end_firm task ending id t firm = record {
  few = firm.few;
  before = firm.before;
  either = firm.either;
  rises = ended_rises task ending 0 t.run firm.rises;
  body = firm.body;
}

-- ---- one more object

record CameMore (objects : List StoredObject) (new : StoredObject) (id : ℕ) (y : StoredObject) : Type 0 where
  is : (at_id objects id ≡ Some y) ⊎ ((id ≡ length objects + 1) × (y ≡ new))

came_more : (objects : List StoredObject) (new y : StoredObject) (place : ℕ)
    → slice_get (objects ++ new ∷ []) place ≡ Some y
    → (slice_get objects place ≡ Some y) ⊎ ((place ≡ length objects) × (y ≡ new))
came_more [] new y zero there = inr (refl, cc)
came_more [] new y (suc place) there = absurd cc
came_more (o ∷ os) new y zero there = inl there
came_more (o ∷ os) new y (suc place) there = later (came_more os new y place there)
  where
    later : (slice_get os place ≡ Some y) ⊎ ((place ≡ length os) × (y ≡ new))
        → (slice_get os place ≡ Some y) ⊎ ((suc place ≡ suc (length os)) × (y ≡ new))
    later (inl here) = inl here
    later (inr last) = inr (ap suc last.0, last.1)

pub tasks_more : (objects : List StoredObject) (new : StoredObject)
    → TaskHolds objects (length objects + 1) new.is_live (task_in new.kind)
    → AreFirmTasks objects → AreFirmTasks (objects ++ new ∷ [])
tasks_more objects new here firm zero y there = absurd cc
tasks_more objects new here firm (suc place) y there = by_place (came_more objects new y place there)
  where
    kept : Keeps objects (objects ++ new ∷ [])
    kept root n found = found_more (IsTaskOf root) objects (new ∷ []) n found

    by_place : (slice_get objects place ≡ Some y) ⊎ ((place ≡ length objects) × (y ≡ new))
        → TaskHolds (objects ++ new ∷ []) (suc place) y.is_live (task_in y.kind)
    by_place (inl old) =
        holds_kept objects (objects ++ new ∷ []) kept (suc place) y.is_live (task_in y.kind) (firm (suc place) y old)
    by_place (inr last) =
        let id : length objects + 1 ≡ suc place = omega (arith, last.0) in
        holds_kept objects (objects ++ new ∷ []) kept (suc place) y.is_live (task_in y.kind)
        (subst (λ (n : ℕ). TaskHolds objects n y.is_live (task_in y.kind)) id
        (subst (λ (o : StoredObject). TaskHolds objects (length objects + 1) o.is_live (task_in o.kind)) (sym last.1)
        here))

-- ---- an object that is dropped

count_none : (test : StoredObject → Bool) (xs : List StoredObject) (place : ℕ) (x : StoredObject)
    → length (filter test xs) ≡ 0 → slice_get xs place ≡ Some x → test x ≡ false
count_none test [] place x none there = absurd cc
count_none test (y ∷ ys) zero x none there = by_test (test y) refl none
  where
    by_test : (b : Bool) → test y ≡ b → length (cond b (y ∷ filter test ys) (filter test ys)) ≡ 0 → test x ≡ false
    by_test true is none = absurd (omega (arith, none))
    by_test false is none = let same : y ≡ x = cc in ap test (sym same) ∙ is
count_none test (y ∷ ys) (suc place) x none there =
    by_test (test y) none (λ rest. count_none test ys place x rest there)
  where
    by_test : (b : Bool) → length (cond b (y ∷ filter test ys) (filter test ys)) ≡ 0
        → (length (filter test ys) ≡ 0 → test x ≡ false) → test x ≡ false
    by_test true none more = absurd (omega (arith, none))
    by_test false none more = more none

count_none_at : (test : StoredObject → Bool) (xs : List StoredObject) (id : ℕ) (x : StoredObject) → count_by test xs ≡ 0
    → at_id xs id ≡ Some x → test x ≡ false
count_none_at test xs zero x none there = absurd cc
count_none_at test xs (suc place) x none there = count_none test xs place x (length-filter test xs ∙ none) there

same_test : (n : ℕ) → nat_eq n n ≡ true
same_test n = by_test (nat_eq n n) refl
  where
    by_test : (same : Bool) → nat_eq n n ≡ same → same ≡ true
    by_test true is = refl
    by_test false is = grind (arith, nat_tests)

-- predecessors that aren't the one that goes
spared_all : (objects : List StoredObject) (id root : ℕ) (after : List ℕ)
    → (FoundAt (IsTaskOf root) objects id → is_among id after ≡ true → ⊥)
    → AllByRecursion (FoundAt (IsTaskOf root) objects) after
    → AllByRecursion (FoundAt (IsTaskOf root) (changed_at objects id dropped)) after
spared_all objects id root [] none h = tt
spared_all objects id root (p ∷ ps) none h = (
  by_id (same_or_not p id),
  spared_all objects id root ps (λ found among. none found (or_true (nat_eq id p) (is_among id ps) among)) h.1,
)
  where
    or_true : (a b : Bool) → b ≡ true → (a || b) ≡ true
    or_true true b is = refl
    or_true false b is = is

    or_first : (a b : Bool) → a ≡ true → (a || b) ≡ true
    or_first true b is = refl
    or_first false b is = absurd cc

    by_id : (p ≡ id) ⊎ (p ≡ id → ⊥) → FoundAt (IsTaskOf root) (changed_at objects id dropped) p
    by_id (inl same) = absurd (none (subst (FoundAt (IsTaskOf root) objects) same h.0)
        (or_first (nat_eq id p) (is_among id ps) (ap (nat_eq id) same ∙ same_test id)))
    by_id (inr apart) = found_spared (IsTaskOf root) dropped objects id p apart h.0

pub tasks_dropped : (objects : List StoredObject) (id : ℕ) → MayGo objects id → AreFirmTasks objects
    → AreFirmTasks (changed_at objects id dropped)
tasks_dropped objects id may firm other y there = by_source (came_from dropped objects id other y there)
  where
    childless : (root : ℕ) → FoundAt (IsTaskOf root) objects id → child_count objects id ≡ 0
    childless root found = by_found (at_id objects id) refl found
      where
        by_task : (o : StoredObject) (t : Option Task) → at_id objects id ≡ Some o → task_in o.kind ≡ t
            → IsSomeAnd t (λ t. t.root ≡ root) → child_count objects id ≡ 0
        by_task o None at is has = absurd has
        by_task o (Some t) at is has =
            let here : task_at objects id ≡ Some t = ap (option_and_then as_task) at ∙ is in
            (subst (λ (found : Option Task). IfSome found (TaskMayGo objects id)) here may.1).childless

        by_found : (found : Option StoredObject) → at_id objects id ≡ found → IsSomeAnd found (IsTaskOf root)
            → child_count objects id ≡ 0
        by_found None at has = absurd has
        by_found (Some o) at has = by_task o (task_in o.kind) at refl has.1

    -- a live task that isn't dropped
    stays : (x : StoredObject) → at_id objects other ≡ Some x → (found : Option Task) → task_in x.kind ≡ found
        → TaskHolds objects other x.is_live found → TaskHolds (changed_at objects id dropped) other x.is_live found
    stays x at None is h = tt
    stays x at (Some t) is h = (
      h.0,
      λ lives. record {
        behind = spared_all objects id t.root t.after (λ found among.
            let child : is_member (λ t. is_among id t.after) x ≡ false =
            count_none_at (is_member (λ t. is_among id t.after)) objects other x (childless t.root found) at in
            let is_child : is_member (λ t. is_among id t.after) x ≡ true = rw (lives, is) among in
            absurd cc) (h.1 lives).behind;
        own = (h.1 lives).own;
      },
    )

    by_source : CameFrom dropped objects id other y
        → TaskHolds (changed_at objects id dropped) other y.is_live (task_in y.kind)
    by_source c = by_is c.is
      where
        gone : (x : StoredObject) (found : Option Task) → TaskHolds objects other x.is_live found
            → TaskHolds (changed_at objects id dropped) other false found
        gone x None h = tt
        gone x (Some t) h = (h.0, λ lives. absurd cc)

        by_is : (y ≡ c.object) ⊎ ((other ≡ id) × (y ≡ dropped c.object))
            → TaskHolds (changed_at objects id dropped) other y.is_live (task_in y.kind)
        by_is (inl same) =
            subst (λ (o : StoredObject). TaskHolds (changed_at objects id dropped) other o.is_live (task_in o.kind))
            (sym same)
            (stays c.object c.there (task_in c.object.kind) refl (firm other c.object c.there))
        by_is (inr same) =
            subst (λ (o : StoredObject). TaskHolds (changed_at objects id dropped) other o.is_live (task_in o.kind))
            (sym same.1)
            (gone c.object (task_in c.object.kind) (firm other c.object c.there))
