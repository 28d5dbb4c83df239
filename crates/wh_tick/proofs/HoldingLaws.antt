-- What a tick carries out hangs on which of the tasks that wait in runs are free, and on nothing else of them.
--     action_held       by those that are held
--     action_is         so the action of a tick
--     is_free_by        by the objects that they may name
--     held_or           of some objects one is held
use Rattle.std.proofs.Common.{◌≡◌, ℕ, suc, Bool, true, false, cond, not, ◌&&◌, ◌||◌, List, [], ◌∷◌, ◌++◌, Option, Some}
use Rattle.std.proofs.Common.{None, option_map, is_some, refl, sym, ap, ◌∙◌, arith}
use Rattle.std.specs.Prelude.{nat_eq}
use Rattle.std.specs.List.{AllByRecursion}
use Rattle.std.proofs.lemmas.Bool.Decides.{nat_tests}
use Rattle.std.proofs.lemmas.List.Folds.{list_any-append}
use Rattle.wh_naming.specs.Scope.{Named}
use Rattle.wh_state.specs.Objects.{live_tasks}
use Rattle.wh_state.specs.Edits.{is_among}
use Rattle.wh_state.specs.Task.{TaskRun, Run, Task}
use Rattle.wh_graph.specs.Graph.{Tasks, is_waiting, are_done, after_of}
use Rattle.wh_graph.specs.Action.{is_ready, first_ready, ready_in, or_next, ready_from, starts_or_idles}
use Rattle.wh_graph.specs.Action.{due_root, runs_or, action}
use Rattle.wh_machine.specs.Names.{names_from}
use Rattle.wh_machine.specs.Sessions.{or_later}
use Rattle.wh_machine.specs.Outcome.{Machine}
use Rattle.wh_machine.specs.Ticks.{is_free, action_at}
use Rattle.wh_tick.specs.Holding.{held_one, held_in, held_of, held_among, is_free_over}

pub held_or : (a b : Option ℕ) → is_some (or_later a b) ≡ (is_some a || is_some b)
held_or None b = refl
held_or (Some number) b = refl

pub is_free_by : (m : Machine) (id : ℕ) → is_free_over (names_from 1 m.state.objects) m id ≡ is_free m id
unfolding is_free
is_free_by m id = refl

-- ---- ids among others

among_left : (id : ℕ) (a b : List ℕ) → is_among id a ≡ true → is_among id (a ++ b) ≡ true
among_left id a b is = list_any-append (nat_eq id) a b ∙ ap (λ (here : Bool). here || is_among id b) is

among_right : (id : ℕ) (a b : List ℕ) → is_among id b ≡ true → is_among id (a ++ b) ≡ true
among_right id a b is =
    list_any-append (nat_eq id) a b ∙ ap (λ (there : Bool). is_among id a || there) is ∙ any_true (is_among id a)
  where
    any_true : (here : Bool) → (here || true) ≡ true
    any_true true = refl
    any_true false = refl

among_itself : (id : ℕ) → is_among id (id ∷ []) ≡ true
among_itself id = first (nat_eq id id) same
  where
    same : nat_eq id id ≡ true
    same = grind (arith, nat_tests)

    first : (test : Bool) → test ≡ true → (test || false) ≡ true
    first true is = refl
    first false is = absurd cc

module _ (free : ℕ → Bool) where
  -- none of them is free
  abbrev AreHeld : List ℕ → Type 0
  AreHeld ids = (id : ℕ) → is_among id ids ≡ true → free id ≡ false

  both_held : (a b : List ℕ) → AreHeld a → AreHeld b → AreHeld (a ++ b)
  both_held a b in_a in_b id is =
      by (is_among id a) refl (sym (list_any-append (nat_eq id) a b) ∙ is)
    where
      by : (here : Bool) → is_among id a ≡ here → (here || is_among id b) ≡ true → free id ≡ false
      by true found either = in_a id found
      by false found either = in_b id either

  one_held : (r : TaskRun) → AreHeld (held_one free r)
  one_held r id is = by (is_waiting r) (free r.task) refl is
    where
      same : nat_eq id r.task ≡ true → id ≡ r.task
      same test = grind (arith, nat_tests)

      here : (first : Bool) → nat_eq id r.task ≡ first → (first || false) ≡ true → id ≡ r.task
      here true test is = same test
      here false test is = absurd cc

      by : (waits is_free : Bool) → free r.task ≡ is_free
          → is_among id (cond (waits && not is_free) (r.task ∷ []) []) ≡ true → free id ≡ false
      by true false held is = ap free (here (nat_eq id r.task) refl is) ∙ held
      by true true held is = absurd cc
      by false is_free held is = absurd cc

  run_held : (run : Run) → AreHeld (held_in free run)
  run_held [] id is = absurd cc
  run_held (r ∷ rs) id is = both_held (held_one free r) (held_in free rs) (one_held r) (run_held rs) id is

  task_held : (t : Option Task) → AreHeld (held_of free t)
  task_held None id is = absurd cc
  task_held (Some t) id is = run_held t.run id is

  all_held : (ts : Tasks) → AreHeld (held_among free ts)
  all_held [] id is = absurd cc
  all_held (t ∷ ts) id is = both_held (held_of free t) (held_among free ts) (task_held t) (all_held ts) id is

  -- ---- ids that tell of each task that waits whether it is free

  abbrev Tells : List ℕ → TaskRun → Type 0
  Tells ids r = is_waiting r ≡ true → not (is_among r.task ids) ≡ free r.task

  abbrev TellsOf : List ℕ → Option Task → Type 0
  TellsOf ids None = Unit {0}
  TellsOf ids (Some t) = AllByRecursion (Tells ids) t.run

  abbrev Within : List ℕ → List ℕ → Type 0
  Within some ids = (id : ℕ) → is_among id some ≡ true → is_among id ids ≡ true

  one_told : (ids : List ℕ) → AreHeld ids → (r : TaskRun) → Within (held_one free r) ids → Tells ids r
  one_told ids held r within waits = by (free r.task) refl
    where
      itself : (waiting is_free : Bool) → waiting ≡ true → is_free ≡ false
          → is_among r.task (cond (waiting && not is_free) (r.task ∷ []) []) ≡ true
      itself true false waits is = among_itself r.task
      itself true true waits is = absurd cc
      itself false is_free waits is = absurd cc

      clash : free r.task ≡ false → free r.task ≡ true → ⊥
      clash a b = cc

      not_among : (among : Bool) → is_among r.task ids ≡ among → free r.task ≡ true → not among ≡ true
      not_among false is open_now = refl
      not_among true is open_now = absurd (clash (held r.task is) open_now)

      by : (is_free : Bool) → free r.task ≡ is_free → not (is_among r.task ids) ≡ is_free
      by true is = not_among (is_among r.task ids) refl is
      by false is = ap not (within r.task (itself (is_waiting r) (free r.task) waits is))

  run_told : (ids : List ℕ) → AreHeld ids → (run : Run) → Within (held_in free run) ids
      → AllByRecursion (Tells ids) run
  run_told ids held [] within = tt
  run_told ids held (r ∷ rs) within = (
    one_told ids held r (λ id is. within id (among_left id (held_one free r) (held_in free rs) is)),
    run_told ids held rs (λ id is. within id (among_right id (held_one free r) (held_in free rs) is)),
  )

  task_told : (ids : List ℕ) → AreHeld ids → (t : Option Task) → Within (held_of free t) ids → TellsOf ids t
  task_told ids held None within = tt
  task_told ids held (Some t) within = run_told ids held t.run within

  all_told : (ids : List ℕ) → AreHeld ids → (ts : Tasks) → Within (held_among free ts) ids
      → AllByRecursion (TellsOf ids) ts
  all_told ids held [] within = tt
  all_told ids held (t ∷ ts) within = (
    task_told ids held t (λ id is. within id (among_left id (held_of free t) (held_among free ts) is)),
    all_told ids held ts (λ id is. within id (among_right id (held_of free t) (held_among free ts) is)),
  )

  -- ---- so the same task is ready first

  module _ (ids : List ℕ) (tasks : Tasks) where
    abbrev unheld : ℕ → Bool
    unheld id = not (is_among id ids)

    ready_told : (run : Run) (r : TaskRun) → Tells ids r → is_ready unheld tasks run r ≡ is_ready free tasks run r
    ready_told run r tells = by (is_waiting r) tells
      where
        by : (waits : Bool) → (waits ≡ true → unheld r.task ≡ free r.task)
            → (waits && are_done run (after_of tasks r.task) && unheld r.task)
            ≡ (waits && are_done run (after_of tasks r.task) && free r.task)
        by false tells = refl
        by true tells = ap (λ (is_free : Bool). are_done run (after_of tasks r.task) && is_free) (tells refl)

    first_told : (run rest : Run) → AllByRecursion (Tells ids) rest
        → first_ready unheld tasks run rest ≡ first_ready free tasks run rest
    first_told run [] tells = refl
    first_told run (r ∷ rs) tells =
        λ i. cond (ready_told run r tells.0 i) (Some r.task) (first_told run rs tells.1 i)

    in_told : (t : Option Task) → TellsOf ids t → ready_in unheld tasks t ≡ ready_in free tasks t
    in_told None tells = refl
    in_told (Some root) tells = first_told root.run root.run tells

    from_told : (id : ℕ) (ts : Tasks) → AllByRecursion (TellsOf ids) ts
        → ready_from unheld tasks id ts ≡ ready_from free tasks id ts
    from_told id [] tells = refl
    from_told id (t ∷ ts) tells =
        λ i. or_next (option_map (λ task. (id, task)) (in_told t tells.0 i)) (from_told (suc id) ts tells.1 i)

pub action_held : (free : ℕ → Bool) (tasks : Tasks) (stamp : ℕ)
    → action (λ id. not (is_among id (held_among free tasks))) tasks stamp ≡ action free tasks stamp
unfolding action
action_held free tasks stamp =
    let held : List ℕ = held_among free tasks in
    ap (λ (ready : Option (ℕ × ℕ)). runs_or ready (starts_or_idles (due_root tasks stamp)))
    (from_told free held tasks 1 tasks (all_told free held (all_held free tasks) tasks (λ id is. is)))

pub action_is : (m : Machine) (names : List Named) (tasks : Tasks) (held : List ℕ)
    → names ≡ names_from 1 m.state.objects → tasks ≡ live_tasks m.state.objects
    → held ≡ held_among (is_free_over names m) tasks
    → action (λ id. not (is_among id held)) tasks m.state.last ≡ action_at m
action_is m names tasks held named all is =
    (λ i. action (λ id. not (is_among id (is i))) tasks m.state.last)
    ∙ action_held (is_free_over names m) tasks m.state.last
    ∙ (λ i. action (is_free_over (named i) m) (all i) m.state.last)
    ∙ (λ i. action (λ id. is_free_by m id i) (live_tasks m.state.objects) m.state.last)
