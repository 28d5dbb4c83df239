-- Acts behind those of a commit, and tasks that end in it.
--     AreOfRows, acts_of_rows     changes of rows and offsets, and those that are written for acts that stand
--     rows_spare, live_behind     they drop nothing, and a live task is as it was
--     written_append, go_behind   what is written for acts behind others, and that it applies
--     AllWait, ends_go            tasks that wait in a run end one after the other
use Rattle.std.proofs.Common.{◌≡◌, ℕ, ◌+◌, ◌<◌, ◌≤◌, Bool, true, false, cond, List, [], ◌∷◌, ◌++◌, map, Option, Some}
use Rattle.std.proofs.Common.{None}
use Rattle.std.proofs.Common.{refl, sym, ap, subst, ◌∙◌, arith, IsTrue}
use Rattle.std.specs.Prelude.{nat_eq, ◌&&◌, ◌||◌}
use Rattle.std.specs.List.{AllByRecursion}
use Rattle.std.specs.Option.{IsSomeAnd}
use Rattle.std.proofs.lemmas.Bool.Decides.{nat_tests}
use Rattle.std.proofs.lemmas.List.{append_assoc}
use Rattle.wh_state.specs.Task.{Ending, Run, Task, ended_in, with_ended}
use Rattle.wh_state.specs.State.{TableKind, StreamKind, TaskKind, DynamicKind, task_in, on_task, at_id}
use Rattle.wh_state.specs.Edits.{Edits}
use Rattle.wh_state.specs.Act.{Act, MakesTable, DropsObject, EditsRows, MakesStream, MovesOffset, MakesTask, PutsTask}
use Rattle.wh_state.specs.Act.{BeginsRun, EndsTask, MakesDynamic, PutsDynamic, RefreshesRows}
use Rattle.wh_state.specs.Stored.{StoredKind, StoredObject}
use Rattle.wh_state.specs.Commit.{Change, CreatesTable, Drops, PushesVersion, CreatesStream, SetsOffset, CreatesTask}
use Rattle.wh_state.specs.Commit.{SetsTask}
use Rattle.wh_state.specs.Commit.{StartsRun, FinishesTask, pushed_object, offset_set, on_task_stored, changed}
use Rattle.wh_state.specs.Commit.{CreatesDynamic, SetsDynamic, SetsGroups}
use Rattle.wh_state.specs.Commit.{all_changed}
use Rattle.wh_state.specs.Commit.{IsLiveTask, waits, waits_in}
use Rattle.wh_state.specs.Written.{version_written_to, act_written, written}
use Rattle.wh_state.proofs.AllLaws.{all_map, all_append}
use Rattle.wh_state.proofs.ActLaws.{all_changed_append}
use Rattle.wh_state.proofs.FoundLaws.{found_became, found_changed}
use Rattle.wh_state.proofs.TaskFirm.{TasksRise, from_least}
use Rattle.wh_state.proofs.FirmLaws.{offset_task, pushed_task}
use Rattle.wh_state.proofs.WrittenLaws.{AllGo, go_append, go_first, ActStands, AllStand, ChangeSpares}

-- ---- changes of rows and offsets

abbrev pub IsOfRows : Change → Type 0
IsOfRows (PushesVersion c) = Unit {0}
IsOfRows (SetsOffset id offset) = Unit {0}
IsOfRows _ = ⊥

abbrev pub AreOfRows : List Change → Type 0
AreOfRows cs = AllByRecursion IsOfRows cs

edit_of_rows : (stamp : ℕ) (objects : List StoredObject) (id : ℕ) (e : Edits)
    → AreOfRows (act_written stamp objects (EditsRows id e))
edit_of_rows stamp objects id e = by_found (at_id objects id)
  where
    by_kind : (o : StoredObject) (k : StoredKind)
        → AreOfRows (version_written_to stamp id e (Some (record o { kind = k })))
    by_kind o (TableKind t) = (tt, tt)
    by_kind o (StreamKind s) = tt
    by_kind o (TaskKind t) = tt
    by_kind o (DynamicKind d t) = (tt, tt)

    by_found : (found : Option StoredObject) → AreOfRows (version_written_to stamp id e found)
    by_found None = tt
    by_found (Some o) = by_kind o o.kind

act_of_rows : (stamp start : ℕ) (objects : List StoredObject) (act : Act) → ActStands stamp start objects act
    → (later : List StoredObject) → AreOfRows (act_written stamp later act)
act_of_rows stamp start objects (EditsRows id e) stands later = edit_of_rows stamp later id e
act_of_rows stamp start objects (MovesOffset id offset) stands later = (tt, tt)
act_of_rows stamp start objects (MakesTable name columns retention) stands later = absurd stands
act_of_rows stamp start objects (DropsObject id) stands later = absurd stands
act_of_rows stamp start objects (MakesStream name source is_append_only) stands later = absurd stands
act_of_rows stamp start objects (MakesTask name minutes after runs) stands later = absurd stands
act_of_rows stamp start objects (PutsTask id state) stands later = absurd stands
act_of_rows stamp start objects (BeginsRun root tasks) stands later = absurd stands
act_of_rows stamp start objects (EndsTask root task ending) stands later = absurd stands
act_of_rows stamp start objects (MakesDynamic name lag is_incremental query columns) stands later = absurd stands
act_of_rows stamp start objects (PutsDynamic id state) stands later = absurd stands
act_of_rows stamp start objects (RefreshesRows id moment e c) stands later = absurd stands

pub acts_of_rows : (stamp start : ℕ) (objects : List StoredObject) (acts : List Act) → AllStand stamp start objects acts
    → (later : List StoredObject) → AreOfRows (written stamp later acts)
acts_of_rows stamp start objects [] stand later = tt
acts_of_rows stamp start objects (act ∷ acts) stand later =
    let left : List StoredObject = all_changed stamp later (act_written stamp later act) in
    all_append IsOfRows (act_written stamp later act) (written stamp left acts)
    (act_of_rows stamp start objects act stand.0 later) (acts_of_rows stamp start objects acts stand.1 left)

change_spares : (id : ℕ) (c : Change) → IsOfRows c → ChangeSpares id c
change_spares id (PushesVersion c) rows = tt
change_spares id (SetsOffset other offset) rows = tt
change_spares id (CreatesTable c) rows = absurd rows
change_spares id (Drops other) rows = absurd rows
change_spares id (CreatesStream c) rows = absurd rows
change_spares id (CreatesTask c) rows = absurd rows
change_spares id (SetsTask other state) rows = absurd rows
change_spares id (StartsRun root tasks) rows = absurd rows
change_spares id (FinishesTask root task ending) rows = absurd rows
change_spares id (CreatesDynamic c) rows = absurd rows
change_spares id (SetsDynamic other state) rows = absurd rows
change_spares id (SetsGroups other c) rows = absurd rows

pub rows_spare : (id : ℕ) (cs : List Change) → AreOfRows cs → AllByRecursion (ChangeSpares id) cs
rows_spare id cs rows = all_map IsOfRows (ChangeSpares id) (change_spares id) cs rows

abbrev LiveTask : (Task → Type 0) → StoredObject → Type 0
LiveTask P o = IsTrue o.is_live × IsSomeAnd (task_in o.kind) P

one_behind : (P : Task → Type 0) (stamp : ℕ) (objects : List StoredObject) (id : ℕ) (c : Change) → IsOfRows c
    → IsLiveTask P (at_id objects id) → IsLiveTask P (at_id (changed stamp objects c) id)
unfolding changed
one_behind P stamp objects id (PushesVersion c) rows live =
    found_changed (LiveTask P) (pushed_object stamp c)
    (λ o h. (h.0, subst (λ found. IsSomeAnd found P) (sym (pushed_task stamp c o.kind)) h.1)) objects c.id id live
one_behind P stamp objects id (SetsOffset other offset) rows live =
    found_changed (LiveTask P) (offset_set offset)
    (λ o h. (h.0, subst (λ found. IsSomeAnd found P) (sym (offset_task offset o.kind)) h.1)) objects other id live
one_behind P stamp objects id (CreatesTable c) rows live = absurd rows
one_behind P stamp objects id (Drops other) rows live = absurd rows
one_behind P stamp objects id (CreatesStream c) rows live = absurd rows
one_behind P stamp objects id (CreatesTask c) rows live = absurd rows
one_behind P stamp objects id (SetsTask other state) rows live = absurd rows
one_behind P stamp objects id (StartsRun root tasks) rows live = absurd rows
one_behind P stamp objects id (FinishesTask root task ending) rows live = absurd rows
one_behind P stamp objects id (CreatesDynamic c) rows live = absurd rows
one_behind P stamp objects id (SetsDynamic other state) rows live = absurd rows
one_behind P stamp objects id (SetsGroups other c) rows live = absurd rows

pub live_behind : (P : Task → Type 0) (stamp : ℕ) (objects : List StoredObject) (id : ℕ) (cs : List Change)
    → AreOfRows cs
    → IsLiveTask P (at_id objects id) → IsLiveTask P (at_id (all_changed stamp objects cs) id)
live_behind P stamp objects id [] rows live = live
live_behind P stamp objects id (c ∷ cs) rows live =
    live_behind P stamp (changed stamp objects c) id cs rows.1 (one_behind P stamp objects id c rows.0 live)

-- ---- acts behind others

pub written_append : (stamp : ℕ) (objects : List StoredObject) (acts more : List Act)
    → written stamp objects (acts ++ more)
    ≡ written stamp objects acts ++ written stamp (all_changed stamp objects (written stamp objects acts)) more
written_append stamp objects [] more = refl
written_append stamp objects (act ∷ acts) more =
    let first : List Change = act_written stamp objects act in
    let left : List StoredObject = all_changed stamp objects first in
    ap (λ cs. first ++ cs) (written_append stamp left acts more)
    ∙ sym (append_assoc first (written stamp left acts)
    (written stamp (all_changed stamp left (written stamp left acts)) more))
    ∙ ap (λ os. first ++ written stamp left acts ++ written stamp os more)
    (sym (all_changed_append stamp objects first (written stamp left acts)))

pub go_behind : (stamp : ℕ) (objects : List StoredObject) (acts more : List Act)
    → AllGo stamp objects (written stamp objects acts)
    → AllGo stamp (all_changed stamp objects (written stamp objects acts))
    (written stamp (all_changed stamp objects (written stamp objects acts)) more)
    → AllGo stamp objects (written stamp objects (acts ++ more))
go_behind stamp objects acts more go behind =
    subst (AllGo stamp objects) (sym (written_append stamp objects acts more))
    (go_append stamp objects (written stamp objects acts)
    (written stamp (all_changed stamp objects (written stamp objects acts)) more) go behind)

-- ---- the ends of tasks

abbrev pub AllWait : List ℕ → Task → Type 0
AllWait ids t = AllByRecursion (λ id. IsTrue (waits_in t.run id)) ids

-- when another task ended
waits_still : (id other : ℕ) (ending : Ending) (run : Run) → id < other → waits_in run other ≡ true
    → waits_in (ended_in id ending run) other ≡ true
waits_still id other ending [] apart is = absurd cc
waits_still id other ending (r ∷ rs) apart is =
    by_test (nat_eq r.task id) refl is (λ rest. waits_still id other ending rs apart rest)
  where
    not_other : nat_eq r.task id ≡ true → nat_eq r.task other ≡ false
    not_other test = grind (arith, nat_tests)

    skipped : (same : Bool) → same ≡ false → ((same && waits r) || waits_in rs other) ≡ true → waits_in rs other ≡ true
    skipped true none is = absurd cc
    skipped false none is = is

    by_one : (here : Bool) → (here || waits_in rs other) ≡ true
        → (waits_in rs other ≡ true → waits_in (ended_in id ending rs) other ≡ true)
        → (here || waits_in (ended_in id ending rs) other) ≡ true
    by_one true is rest = refl
    by_one false is rest = rest is

    by_test : (same : Bool) → nat_eq r.task id ≡ same → ((nat_eq r.task other && waits r) || waits_in rs other) ≡ true
        → (waits_in rs other ≡ true → waits_in (ended_in id ending rs) other ≡ true)
        → waits_in (cond same (record r { ending = Some ending }) r ∷ ended_in id ending rs) other ≡ true
    by_test false test is rest = by_one (nat_eq r.task other && waits r) is rest
    by_test true test is rest = rw (not_other test) (rest (skipped (nat_eq r.task other) (not_other test) is))

others_wait : (id : ℕ) (ending : Ending) (ids : List ℕ) → TasksRise (id + 1) ids → (t : Task) → AllWait ids t
    → AllWait ids (with_ended id ending t)
others_wait id ending ids rise t wait = all_later ids (from_least (id + 1) ids rise) wait
  where
    all_later : (ids : List ℕ) → AllByRecursion (λ x. id + 1 ≤ x) ids → AllWait ids t
        → AllWait ids (with_ended id ending t)
    all_later [] later wait = tt
    all_later (other ∷ others) later wait =
        (waits_still id other ending t.run (omega (arith, later.0)) wait.0, all_later others later.1 wait.1)

-- a task that waits, and what waits behind it
end_leaves : (stamp : ℕ) (objects : List StoredObject) (root id : ℕ) (ending : Ending) (ids : List ℕ)
    → TasksRise (id + 1) ids → IsLiveTask (AllWait (id ∷ ids)) (at_id objects root)
    → IsLiveTask (AllWait ids) (at_id (changed stamp objects (FinishesTask root id ending)) root)
unfolding changed
end_leaves stamp objects root id ending ids rise wait =
    found_became (LiveTask (AllWait (id ∷ ids))) (LiveTask (AllWait ids)) (on_task_stored (with_ended id ending))
    (λ o h. (h.0, by_kind o.kind h.1)) objects root wait
  where
    by_kind : (k : StoredKind) → IsSomeAnd (task_in k) (AllWait (id ∷ ids))
        → IsSomeAnd (task_in (on_task (with_ended id ending) k)) (AllWait ids)
    by_kind (TableKind t) h = absurd h
    by_kind (StreamKind s) h = absurd h
    by_kind (TaskKind t) h = others_wait id ending ids rise t h.1
    by_kind (DynamicKind d t) h = absurd h

pub live_map : (P Q : Task → Type 0) → ((t : Task) → P t → Q t) → (found : Option StoredObject) → IsLiveTask P found
    → IsLiveTask Q found
live_map P Q so None live = absurd live
live_map P Q so (Some o) live = (live.0, by_task (task_in o.kind) live.1)
  where
    by_task : (t : Option Task) → IsSomeAnd t P → IsSomeAnd t Q
    by_task None h = absurd h
    by_task (Some t) h = so t h

-- what goes wherever the root lives
abbrev pub GoesBehind : ℕ → ℕ → List Act → Type 0
GoesBehind stamp root more = (later : List StoredObject) → IsLiveTask (λ t. Unit {0}) (at_id later root)
    → AllGo stamp later (written stamp later more)

one_ends : (stamp : ℕ) (objects : List StoredObject) (root id : ℕ) (ending : Ending) (ids : List ℕ) (more : List Act)
    → TasksRise (id + 1) ids → IsLiveTask (AllWait (id ∷ ids)) (at_id objects root)
    → ((later : List StoredObject) → IsLiveTask (AllWait ids) (at_id later root)
    → AllGo stamp later (written stamp later more))
    → AllGo stamp objects (written stamp objects (EndsTask root id ending ∷ more))
one_ends stamp objects root id ending ids more rise wait goes =
    let ended : List StoredObject = changed stamp objects (FinishesTask root id ending) in
    go_first stamp objects (FinishesTask root id ending) (written stamp ended more) refl refl
    (live_map (AllWait (id ∷ ids)) (λ t. IsTrue (waits_in t.run id)) (λ t h. h.0) (at_id objects root) wait) tt
    (goes ended (end_leaves stamp objects root id ending ids rise wait))

all_end : (stamp : ℕ) (objects : List StoredObject) (root least : ℕ) (ending : Ending) (ids : List ℕ) (more : List Act)
    → TasksRise least ids → IsLiveTask (AllWait ids) (at_id objects root) → GoesBehind stamp root more
    → AllGo stamp objects (written stamp objects (map (λ id. EndsTask root id ending) ids ++ more))
all_end stamp objects root least ending [] more rise wait goes = goes objects wait
all_end stamp objects root least ending (id ∷ ids) more rise wait goes =
    one_ends stamp objects root id ending ids (map (λ id. EndsTask root id ending) ids ++ more) rise.1 wait
    (λ later still. all_end stamp later root (id + 1) ending ids more rise.1 still goes)

-- one that ends as it may, others behind it, and then what goes wherever the root lives
pub ends_go : (stamp : ℕ) (objects : List StoredObject) (root task : ℕ) (ending behind : Ending) (ids : List ℕ)
    (more : List Act)
    → TasksRise (task + 1) ids → IsLiveTask (AllWait (task ∷ ids)) (at_id objects root) → GoesBehind stamp root more
    → AllGo stamp objects
    (written stamp objects (EndsTask root task ending ∷ map (λ id. EndsTask root id behind) ids ++ more))
ends_go stamp objects root task ending behind ids more rise wait goes =
    one_ends stamp objects root task ending ids (map (λ id. EndsTask root id behind) ids ++ more) rise wait
    (λ later still. all_end stamp later root (task + 1) behind ids more rise still goes)
