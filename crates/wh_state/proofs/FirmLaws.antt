-- What holds of the objects of a file that runs leave.
--     NamesApart        no two live objects have one name
--     HasSource         a stream has the columns of a table, and three more
--     IsFirm            tables, names, streams, tasks and dynamic tables
--     ChangeRises       the rows of partitions that a change adds rise
--     firm_first, firm_changed, firm_all     so it is of no objects, and behind changes that apply
use Rattle.std.proofs.Common.{map, ◌≡◌, inl, inr, ℕ, zero, suc, ◌+◌, ◌<◌, ◌≤◌, Bool, true, false, cond, List, []}
use Rattle.std.proofs.Common.{◌∷◌, ◌++◌, length, Option, Some, None, option_map, refl, sym, ap, subst, ◌∙◌, arith}
use Rattle.std.proofs.Common.{IsTrue}
use Rattle.std.specs.Prelude.{not, ◌&&◌, bytes_eq, IsNone, nat_lt}
use Rattle.std.specs.List.{AllByRecursion, prefix_len}
use Rattle.std.specs.Option.{IfSome, IsSomeAnd, option_map_or}
use Rattle.std.proofs.lemmas.Bool.Decides.{nat_tests}
use Rattle.wh_value.specs.Fits.{row_fits}
use Rattle.std.proofs.lemmas.Slice.Eq.{bytes_eq-Decides}
use Rattle.wh_value.specs.Column.{Column}
use Rattle.wh_frame.specs.Partition.{Partition}
use Rattle.wh_state.specs.State.{TaskKind, DynamicKind, changed_at}
use Rattle.wh_state.specs.State.{Stream, new_table, new_stream, dropped, metadata_columns}
use Rattle.wh_state.specs.State.{at_id, with_id, put_at, changed_at, id_of, is_named}
use Rattle.wh_state.specs.State.{TableKind, StreamKind, table_in, stream_in, columns_in, columns_at}
use Rattle.wh_state.specs.Edits.{without, is_among}
use Rattle.wh_state.specs.Stored.{Stored, first_stored, StoredTable, StoredKind, StoredObject}
use Rattle.wh_state.specs.Stored.{standing}
use Rattle.wh_state.specs.Commit.{CreatesTask, SetsTask, StartsRun, FinishesTask, change_as_text, on_task_stored}
use Rattle.wh_state.specs.Commit.{VersionChange, Change, CreatesTable, Drops, PushesVersion, CreatesStream, SetsOffset}
use Rattle.wh_state.specs.Commit.{pushed, pushed_kind, pushed_object, offset_set, changed, all_changed}
use Rattle.wh_state.specs.State.{on_dynamic, empty_table}
use Rattle.wh_state.specs.Dynamic.{Dynamic, with_dynamic_state, behind_change}
use Rattle.wh_state.specs.Commit.{CreatesDynamic, SetsDynamic, SetsGroups, on_dynamic_stored}
use Rattle.wh_state.specs.State.{on_task}
use Rattle.wh_state.specs.Bound.{source_kind}
use Rattle.wh_state.proofs.DynamicFirm.{HasColumns, KindHasColumns, HasQueryTokens, spelled_query, IsFirmDynamic}
use Rattle.wh_state.proofs.DynamicFirm.{DynamicHolds, AreFirmDynamics, KeepsSeen, dynamics_changed, dynamics_more}
use Rattle.wh_state.proofs.DynamicFirm.{made_firm, made_filled, state_taken, state_holds, groups_hold}
use Rattle.wh_state.proofs.KindLaws.{task_keeps, dynamic_keeps}
use Rattle.wh_state.proofs.KindLaws.{offset_keeps}
use Rattle.wh_state.specs.Commit.{Commit, applied, Leads, RowsFit, VersionApplies, FitsKind, FitsObject, IsLiveTable}
use Rattle.wh_state.specs.Commit.{IsTableKind, ChangeApplies, AllApply}
use Rattle.wh_state.specs.Orderly.{HasRisingRows}
use Rattle.wh_state.specs.Spelling.{IsChange, IsCommit}
use Rattle.wh_frame.specs.Spelling.{IsPartition}
use Rattle.wh_state.specs.File.{Keeps}
use Rattle.wh_state.proofs.AllLaws.{all_map, all_append, all_more, all_at, all_with, all_changed_at, all_filter}
use Rattle.wh_state.proofs.OrderlyLaws.{standing_pushed, rising_pushed, new_kept}
use Rattle.wh_state.proofs.FoundLaws.{FoundAt, found_changed, found_more}
use Rattle.wh_state.proofs.AppliesLaws.{HasRows, FitRows, VersionFits, IsFirmTable, standing_fits}
use Rattle.wh_state.specs.Task.{Task, with_state, with_run, with_ended}
use Rattle.std.specs.Prelude.{slice_get}
use Rattle.wh_state.specs.State.{task_in}
use Rattle.wh_state.specs.Task.{TaskState, most_failures, new_task, root_by}
use Rattle.wh_state.specs.Objects.{task_at}
use Rattle.wh_state.specs.Spelling.{IsUnderstood}
use Rattle.wh_state.proofs.SpelledLaws.{HasTokensOf, spelled_change}
use Rattle.wh_state.specs.Commit.{offset_set_kind, TaskChange, TaskApplies, StateApplies, IsLiveTask, root_among}
use Rattle.wh_state.proofs.TaskFirm.{IsTaskOf, IsFirmTask, TaskHolds, AreFirmTasks, tasked, same_tasks, tasks_more}
use Rattle.wh_state.proofs.TaskFirm.{tasks_dropped, state_firm, run_firm, end_firm, TasksRise, tasks_rise}

-- ---- tables

-- with rows that rise in each partition that comes
pub record PushRises (c : VersionChange) : Type 0 where
  pub rows : AllByRecursion HasRisingRows c.added
  pub some : AllByRecursion HasRows c.added

only_fit : (columns : List Column) (next : ℕ) (ps : List Partition) → AllByRecursion (RowsFit columns next) ps
    → AllByRecursion (FitRows columns) ps
only_fit columns next ps fit =
    all_map (RowsFit columns next) (FitRows columns)
    (λ p fit. all_map (λ e. IsTrue (row_fits columns e.1) × (e.0 < next)) (λ e. IsTrue (row_fits columns e.1))
    (λ e is. is.0) p.rows fit) ps fit

firm_pushed : (stamp : ℕ) (c : VersionChange) (t : StoredTable) → PushRises c → VersionApplies t c → IsFirmTable t
    → IsFirmTable (pushed stamp c t)
firm_pushed stamp c t rises applies firm =
    let stays : Partition → Bool = λ (p : Partition). not (is_among p.number c.removed) in
    record {
      kept = rising_pushed stamp c t rises.rows applies firm.kept;
      some = subst (AllByRecursion HasRows) (sym (standing_pushed stamp c t))
          (all_append HasRows (without c.removed (standing t)) c.added (all_filter HasRows stays (standing t) firm.some)
          rises.some);
      fits = all_more (VersionFits t.columns) t.versions _ firm.fits
          (all_append (FitRows t.columns) (without c.removed (standing t)) c.added
          (all_filter (FitRows t.columns) stays (standing t) (standing_fits t firm))
          (only_fit t.columns c.next_row c.added applies.rows));
    }

new_firm : (columns : List Column) (retention stamp : ℕ) → IsFirmTable (new_table [] columns retention stamp)
new_firm columns retention stamp = record { kept = new_kept columns retention stamp; some = tt; fits = (tt, tt) }

empty_firm : (columns : List Column) (stamp : ℕ) → IsFirmTable (empty_table columns stamp)
empty_firm columns stamp = record { kept = record { orderly = tt; below = tt }; some = tt; fits = tt }

abbrev pub IsFirmKind : StoredKind → Type 0
IsFirmKind k = IfSome (table_in k) IsFirmTable

abbrev pub IsFirmObject : StoredObject → Type 0
IsFirmObject o = IsFirmKind o.kind

-- ---- names

abbrev pub HasNot : List ℕ → StoredObject → Type 0
HasNot name o = is_named name o ≡ false

abbrev pub NamesApart : List StoredObject → Type 0
NamesApart [] = Unit {0}
NamesApart (o ∷ os) = (o.is_live ≡ true → AllByRecursion (HasNot o.name) os) × NamesApart os

not_named : (name : List ℕ) (o new : StoredObject) → new.name ≡ o.name → (new.is_live ≡ true → o.is_live ≡ true)
    → HasNot name o → HasNot name new
not_named name o new same lives h = by_live new.is_live o.is_live lives h
  where
    by_live : (live before : Bool) → (live ≡ true → before ≡ true) → (before && bytes_eq o.name name) ≡ false
        → (live && bytes_eq new.name name) ≡ false
    by_live false before lives h = refl
    by_live true true lives h = ap (λ (n : List ℕ). bytes_eq n name) same ∙ h
    by_live true false lives h = absurd (cc (lives refl))

-- another one in the place of one, with its name
names_set : (xs : List StoredObject) (place : ℕ) (o new : StoredObject) → at_id xs (suc place) ≡ Some o
    → new.name ≡ o.name → (new.is_live ≡ true → o.is_live ≡ true) → NamesApart xs →
    NamesApart (with_id xs (suc place) new)
names_set [] place o new there same lives apart = tt
names_set (x ∷ xs) zero o new there same lives apart =
    let first : x ≡ o = cc in (
      λ live. subst (λ (name : List ℕ). AllByRecursion (HasNot name) xs)
          (ap (λ (y : StoredObject). y.name) first ∙ sym same)
          (apart.0 (ap (λ (y : StoredObject). y.is_live) first ∙ lives live)),
      apart.1,
    )
names_set (x ∷ xs) (suc place) o new there same lives apart = (
  λ live. let others : AllByRecursion (HasNot x.name) xs = apart.0 live in
      all_with (HasNot x.name) xs (suc place) new others
      (not_named x.name o new same lives (all_at (HasNot x.name) xs (suc place) o others there)),
  names_set xs place o new there same lives apart.1,
)

pub names_changed : (f : StoredObject → StoredObject) → ((o : StoredObject) → (f o).name ≡ o.name)
    → ((o : StoredObject) → (f o).is_live ≡ true → o.is_live ≡ true) → (objects : List StoredObject) (id : ℕ)
    → NamesApart objects → NamesApart (changed_at objects id f)
names_changed f same lives objects id apart = by_found (at_id objects id) refl
  where
    by_id : (id : ℕ) (o : StoredObject) → at_id objects id ≡ Some o → NamesApart (with_id objects id (f o))
    by_id zero o there = apart
    by_id (suc place) o there = names_set objects place o (f o) there (same o) (lives o) apart

    by_found : (found : Option StoredObject) → at_id objects id ≡ found
        → NamesApart (put_at objects id (option_map f found))
    by_found None none = apart
    by_found (Some o) there = by_id id o there

-- a name that is free
long_prefix : (test : StoredObject → Bool) (xs : List StoredObject) → length xs ≤ prefix_len (λ x. not (test x)) xs
    → AllByRecursion (λ x. test x ≡ false) xs
long_prefix test [] h = tt
long_prefix test (x ∷ xs) h = by_test (test x) refl h (long_prefix test xs)
  where
    by_test : (b : Bool) → test x ≡ b → suc (length xs) ≤ cond (not b) (1 + prefix_len (λ x. not (test x)) xs) 0
        → (length xs ≤ prefix_len (λ x. not (test x)) xs → AllByRecursion (λ x. test x ≡ false) xs)
        → AllByRecursion (λ x. test x ≡ false) (x ∷ xs)
    by_test true is h rest = absurd (omega (arith, h))
    by_test false is h rest = (is, rest (omega (arith, h)))

pub free_name : (name : List ℕ) (objects : List StoredObject) → IsNone (id_of name objects)
    → AllByRecursion (HasNot name) objects
free_name name objects none =
    long_prefix (is_named name) objects (by_test
    (nat_lt (prefix_len (λ x. not (is_named name x)) objects) (length objects))
    refl none)
  where
    by_test : (b : Bool) → nat_lt (prefix_len (λ x. not (is_named name x)) objects) (length objects) ≡ b
        → IsNone (option_map (λ place. place + 1)
        (cond b (Some (prefix_len (λ x. not (is_named name x)) objects)) None))
        → length objects ≤ prefix_len (λ x. not (is_named name x)) objects
    by_test true is none = absurd cc
    by_test false is none = grind (arith, nat_tests)

bytes_turned : (a b : List ℕ) → bytes_eq a b ≡ false → bytes_eq b a ≡ false
bytes_turned a b apart = by_test (bytes_eq b a) refl
  where
    by_test : (same : Bool) → bytes_eq b a ≡ same → same ≡ false
    by_test true is =
        let equal : b ≡ a = (bytes_eq-Decides b a).0 is in
        let turned : bytes_eq a b ≡ true = (bytes_eq-Decides a b).1 (sym equal) in
        absurd cc
    by_test false is = refl

-- one more, with a name that is free
pub names_more : (objects : List StoredObject) (new : StoredObject) → AllByRecursion (HasNot new.name) objects
    → NamesApart objects → NamesApart (objects ++ new ∷ [])
names_more [] new free apart = (λ live. tt, tt)
names_more (o ∷ os) new free apart = (
  λ live. all_more (HasNot o.name) os new (apart.0 live) (turned live free.0),
  names_more os new free.1 apart.1,
)
  where
    turned : o.is_live ≡ true → HasNot new.name o → HasNot o.name new
    turned live h = by_live new.is_live (rw live at h)
      where
        by_live : (b : Bool) → bytes_eq o.name new.name ≡ false → (b && bytes_eq new.name o.name) ≡ false
        by_live true apart = bytes_turned o.name new.name apart
        by_live false apart = refl

-- ---- streams

abbrev pub IsSourceOf : Stream → StoredObject → Type 0
IsSourceOf s o = IsSomeAnd (table_in o.kind) (λ t. s.columns ≡ t.columns ++ metadata_columns)

abbrev pub HasSource : List StoredObject → StoredObject → Type 0
HasSource objects o = IfSome (stream_in o.kind) (λ s. FoundAt (IsSourceOf s) objects s.source)

-- ---- all of them

pub record IsFirm (objects : List StoredObject) : Type 0 where
  pub tables : AllByRecursion IsFirmObject objects
  pub names : NamesApart objects
  pub streams : AllByRecursion (HasSource objects) objects
  pub tasks : AreFirmTasks objects
  pub columns : AllByRecursion HasColumns objects
  pub dynamics : AreFirmDynamics objects

no_object : (id : ℕ) (o : StoredObject) → at_id [] id ≡ Some o → TaskHolds [] id o.is_live (task_in o.kind)
no_object zero o there = absurd cc
no_object (suc place) o there = absurd cc

pub firm_first : IsFirm []
firm_first = record {
  tables = tt;
  names = tt;
  streams = tt;
  tasks = λ id o there. no_object id o there;
  columns = tt;
  dynamics = tt;
}

abbrev pub ChangeRises : Change → Type 0
ChangeRises (PushesVersion c) = PushRises c
ChangeRises (StartsRun root tasks) = TasksRise 0 tasks
ChangeRises (CreatesTask c) = HasTokensOf c.runs.body
ChangeRises (CreatesDynamic c) = HasQueryTokens c.query.tree
ChangeRises _ = Unit {0}

-- ---- what changes leave

has_source : (objects new : List StoredObject)
    → ((s : Stream) → FoundAt (IsSourceOf s) objects s.source → FoundAt (IsSourceOf s) new s.source) →
    (o : StoredObject)
    → HasSource objects o → HasSource new o
has_source objects new keeps o h = by_kind o.kind h
  where
    by_kind : (k : StoredKind) → IfSome (stream_in k) (λ s. FoundAt (IsSourceOf s) objects s.source)
        → IfSome (stream_in k) (λ s. FoundAt (IsSourceOf s) new s.source)
    by_kind (TableKind t) h = tt
    by_kind (StreamKind s) h = keeps s h
    by_kind (TaskKind t) h = tt
    by_kind (DynamicKind d t) h = tt

-- one that is changed as a source and as a stream
streams_changed : (f : StoredObject → StoredObject)
    → ((s : Stream) (o : StoredObject) → IsSourceOf s o → IsSourceOf s (f o))
    → ((objects : List StoredObject) (o : StoredObject) → HasSource objects o → HasSource objects (f o))
    → (objects : List StoredObject) (id : ℕ) → AllByRecursion (HasSource objects) objects
    → AllByRecursion (HasSource (changed_at objects id f)) (changed_at objects id f)
streams_changed f sources streams objects id h =
    let new : List StoredObject = changed_at objects id f in
    let so : (o : StoredObject) → HasSource objects o → HasSource new o =
    λ o h. has_source objects new (λ s found. found_changed (IsSourceOf s) f (sources s) objects id
    s.source found) o h in
    all_changed_at (HasSource objects) (HasSource new) f so (λ o h. streams new o (so o h)) objects id h

pushed_source : (stamp : ℕ) (c : VersionChange) (s : Stream) (o : StoredObject) → IsSourceOf s o
    → IsSourceOf s (pushed_object stamp c o)
pushed_source stamp c s o h = by_kind o.kind h
  where
    by_kind : (k : StoredKind) → IsSomeAnd (table_in k) (λ t. s.columns ≡ t.columns ++ metadata_columns)
        → IsSomeAnd (table_in (pushed_kind stamp c k)) (λ t. s.columns ≡ t.columns ++ metadata_columns)
    by_kind (TableKind t) h = h
    by_kind (StreamKind s) h = h
    by_kind (TaskKind t) h = h
    by_kind (DynamicKind d t) h = h

pushed_stream : (stamp : ℕ) (c : VersionChange) (objects : List StoredObject) (o : StoredObject) → HasSource objects o
    → HasSource objects (pushed_object stamp c o)
pushed_stream stamp c objects o h = by_kind o.kind h
  where
    by_kind : (k : StoredKind) → IfSome (stream_in k) (λ s. FoundAt (IsSourceOf s) objects s.source)
        → IfSome (stream_in (pushed_kind stamp c k)) (λ s. FoundAt (IsSourceOf s) objects s.source)
    by_kind (TableKind t) h = h
    by_kind (StreamKind s) h = h
    by_kind (TaskKind t) h = h
    by_kind (DynamicKind d t) h = h

set_source : (offset : ℕ) (s : Stream) (o : StoredObject) → IsSourceOf s o → IsSourceOf s (offset_set offset o)
set_source offset s o h =
    offset_keeps (λ k. IsSomeAnd (table_in k) (λ t. s.columns ≡ t.columns ++ metadata_columns)) offset (λ r h. h)
    o.kind h

set_stream : (offset : ℕ) (objects : List StoredObject) (o : StoredObject) → HasSource objects o
    → HasSource objects (offset_set offset o)
set_stream offset objects o h =
    offset_keeps (λ k. IfSome (stream_in k) (λ s. FoundAt (IsSourceOf s) objects s.source)) offset (λ r h. h) o.kind h

set_firm : (offset : ℕ) (o : StoredObject) → IsFirmObject o → IsFirmObject (offset_set offset o)
set_firm offset o h = offset_keeps IsFirmKind offset (λ r h. h) o.kind h

streams_more : (objects : List StoredObject) (new : StoredObject) → HasSource (objects ++ new ∷ []) new
    → AllByRecursion (HasSource objects) objects →
    AllByRecursion (HasSource (objects ++ new ∷ [])) (objects ++ new ∷ [])
streams_more objects new here h =
    all_more (HasSource (objects ++ new ∷ [])) objects new
    (all_map (HasSource objects) (HasSource (objects ++ new ∷ []))
    (λ o h. has_source objects (objects ++ new ∷ [])
    (λ s found. found_more (IsSourceOf s) objects (new ∷ []) s.source found) o h) objects h) here

source_found : (objects : List StoredObject) (source : ℕ) (is_append_only : Bool) (offset : ℕ)
    → IsLiveTable (at_id objects source)
    → FoundAt (IsSourceOf (new_stream source is_append_only offset (columns_at objects source))) objects source
source_found objects source is_append_only offset live = by_found (at_id objects source) live
  where
    by_kind : (k : StoredKind) → IsTableKind k
        → IsSomeAnd (table_in k) (λ t. columns_in k ++ metadata_columns ≡ t.columns ++ metadata_columns)
    by_kind (TableKind t) is = refl
    by_kind (StreamKind s) is = absurd is
    by_kind (TaskKind t) is = absurd is
    by_kind (DynamicKind d t) is = refl

    by_found : (found : Option StoredObject) → IsLiveTable found
        → IsSomeAnd found (IsSourceOf (new_stream source is_append_only offset
        (option_map_or (λ o. columns_in o.kind) found [])))
    by_found None live = absurd live
    by_found (Some o) live = by_kind o.kind live.1

-- what is neither a source nor has columns stays so
columns_changed : (f : StoredObject → StoredObject) → ((o : StoredObject) → HasColumns o → HasColumns (f o))
    → (objects : List StoredObject) (id : ℕ) → AllByRecursion HasColumns objects
    → AllByRecursion HasColumns (changed_at objects id f)
columns_changed f keeps objects id h = all_changed_at HasColumns HasColumns f (λ o h. h) keeps objects id h

task_seen : (f : Task → Task) → KeepsSeen (on_task_stored f)
task_seen f = record { kind = λ o. by_kind o.kind; columns = λ o. by_columns o.kind }
  where
    by_kind : (k : StoredKind) → source_kind (on_task f k) ≡ source_kind k
    by_kind (TableKind t) = refl
    by_kind (StreamKind s) = refl
    by_kind (TaskKind t) = refl
    by_kind (DynamicKind d t) = refl

    by_columns : (k : StoredKind) → columns_in (on_task f k) ≡ columns_in k
    by_columns (TableKind t) = refl
    by_columns (StreamKind s) = refl
    by_columns (TaskKind t) = refl
    by_columns (DynamicKind d t) = refl

dynamic_seen : (f : Dynamic → Dynamic) → KeepsSeen (on_dynamic_stored f)
dynamic_seen f = record { kind = λ o. by_kind o.kind; columns = λ o. by_columns o.kind }
  where
    by_kind : (k : StoredKind) → source_kind (on_dynamic f k) ≡ source_kind k
    by_kind (TableKind t) = refl
    by_kind (StreamKind s) = refl
    by_kind (TaskKind t) = refl
    by_kind (DynamicKind d t) = refl

    by_columns : (k : StoredKind) → columns_in (on_dynamic f k) ≡ columns_in k
    by_columns (TableKind t) = refl
    by_columns (StreamKind s) = refl
    by_columns (TaskKind t) = refl
    by_columns (DynamicKind d t) = refl

set_seen : (offset : ℕ) → KeepsSeen (offset_set offset)
set_seen offset = record { kind = λ o. by_kind o.kind; columns = λ o. by_columns o.kind }
  where
    by_kind : (k : StoredKind) → source_kind (offset_set_kind offset k) ≡ source_kind k
    by_kind (TableKind t) = refl
    by_kind (StreamKind s) = refl
    by_kind (TaskKind t) = refl
    by_kind (DynamicKind d t) = refl

    by_columns : (k : StoredKind) → columns_in (offset_set_kind offset k) ≡ columns_in k
    by_columns (TableKind t) = refl
    by_columns (StreamKind s) = refl
    by_columns (TaskKind t) = refl
    by_columns (DynamicKind d t) = refl

pushed_seen : (stamp : ℕ) (c : VersionChange) → KeepsSeen (pushed_object stamp c)
pushed_seen stamp c = record { kind = λ o. by_kind o.kind; columns = λ o. by_columns o.kind }
  where
    by_kind : (k : StoredKind) → source_kind (pushed_kind stamp c k) ≡ source_kind k
    by_kind (TableKind t) = refl
    by_kind (StreamKind s) = refl
    by_kind (TaskKind t) = refl
    by_kind (DynamicKind d t) = refl

    by_columns : (k : StoredKind) → columns_in (pushed_kind stamp c k) ≡ columns_in k
    by_columns (TableKind t) = refl
    by_columns (StreamKind s) = refl
    by_columns (TaskKind t) = refl
    by_columns (DynamicKind d t) = refl

pushed_columns : (stamp : ℕ) (c : VersionChange) (k : StoredKind) → KindHasColumns k
    → KindHasColumns (pushed_kind stamp c k)
pushed_columns stamp c (TableKind t) h = record { some = h.some; names = h.names }
pushed_columns stamp c (StreamKind s) h = h
pushed_columns stamp c (TaskKind t) h = h
pushed_columns stamp c (DynamicKind d t) h = record { some = h.some; names = h.names }

pushed_dynamic : (stamp : ℕ) (c : VersionChange) (objects : List StoredObject) (k : StoredKind) → DynamicHolds objects k
    → DynamicHolds objects (pushed_kind stamp c k)
pushed_dynamic stamp c objects (TableKind t) h = tt
pushed_dynamic stamp c objects (StreamKind s) h = tt
pushed_dynamic stamp c objects (TaskKind t) h = tt
pushed_dynamic stamp c objects (DynamicKind d t) h =
    record { lag = h.lag; few = h.few; written = h.written; bound = h.bound }

-- a task that is changed
task_firm : (f : Task → Task) → ((t : Task) → (f t).after ≡ t.after) → ((t : Task) → (f t).root ≡ t.root)
    → ((id : ℕ) (t : Task) → IsFirmTask id t → IsFirmTask id (f t)) → (objects : List StoredObject) (id : ℕ)
    → IsFirm objects → IsFirm (changed_at objects id (on_task_stored f))
task_firm f after root keeps objects id firm = record {
  tasks = tasked f after root keeps objects id firm.tasks;
  tables = all_changed_at IsFirmObject IsFirmObject (on_task_stored f) (λ o h. h)
      (λ o h. task_keeps IsFirmKind f (λ t h. h) o.kind h) objects id firm.tables;
  names = names_changed (on_task_stored f) (λ o. refl) (λ o live. live) objects id firm.names;
  streams = streams_changed (on_task_stored f)
      (λ s o h. task_keeps (λ k. IsSomeAnd (table_in k) (λ t. s.columns ≡ t.columns ++ metadata_columns)) f (λ t h. h)
      o.kind h)
      (λ objects o h. task_keeps (λ k. IfSome (stream_in k) (λ s. FoundAt (IsSourceOf s) objects s.source)) f (λ t h. h)
      o.kind h) objects id firm.streams;
  columns = columns_changed (on_task_stored f) (λ o h. task_keeps KindHasColumns f (λ t h. h) o.kind h) objects id
      firm.columns;
  dynamics = dynamics_changed (on_task_stored f) (task_seen f)
      (λ objects o h. task_keeps (DynamicHolds objects) f (λ t h. h) o.kind h) objects id firm.dynamics;
}

dynamic_task : (f : Dynamic → Dynamic) (k : StoredKind) → task_in (on_dynamic f k) ≡ task_in k
dynamic_task f (TableKind t) = refl
dynamic_task f (StreamKind s) = refl
dynamic_task f (TaskKind t) = refl
dynamic_task f (DynamicKind d t) = refl

-- a dynamic table that is changed beside its rows
dynamic_firm : (f : Dynamic → Dynamic)
    → ((objects : List StoredObject) (d : Dynamic) (columns : List Column) → IsFirmDynamic objects d columns
    → IsFirmDynamic objects (f d) columns) → (objects : List StoredObject) (id : ℕ) → IsFirm objects
    → IsFirm (changed_at objects id (on_dynamic_stored f))
dynamic_firm f holds objects id firm = record {
  columns = columns_changed (on_dynamic_stored f)
      (λ o h. dynamic_keeps KindHasColumns f (λ d t h. h) o.kind h) objects id
      firm.columns;
  dynamics = dynamics_changed (on_dynamic_stored f) (dynamic_seen f)
      (λ objects o h. dynamic_keeps (DynamicHolds objects) f (λ d t h. holds objects d t.columns h) o.kind h) objects id
      firm.dynamics;
  tasks = same_tasks (on_dynamic_stored f) (λ o. dynamic_task f o.kind) (λ o. refl) objects id firm.tasks;
  tables = all_changed_at IsFirmObject IsFirmObject (on_dynamic_stored f) (λ o h. h)
      (λ o h. dynamic_keeps IsFirmKind f (λ d t h. h) o.kind h) objects id firm.tables;
  names = names_changed (on_dynamic_stored f) (λ o. refl) (λ o live. live) objects id firm.names;
  streams = streams_changed (on_dynamic_stored f)
      (λ s o h. dynamic_keeps (λ k. IsSomeAnd (table_in k) (λ t. s.columns ≡ t.columns ++ metadata_columns)) f
      (λ d t h. h) o.kind h)
      (λ objects o h. dynamic_keeps (λ k. IfSome (stream_in k) (λ s. FoundAt (IsSourceOf s) objects s.source)) f
      (λ d t h. h) o.kind h) objects id firm.streams;
}

pub offset_task : (offset : ℕ) (k : StoredKind) → task_in (offset_set_kind offset k) ≡ task_in k
offset_task offset (TableKind t) = refl
offset_task offset (StreamKind s) = refl
offset_task offset (TaskKind t) = refl
offset_task offset (DynamicKind d t) = refl

pub pushed_task : (stamp : ℕ) (c : VersionChange) (k : StoredKind) → task_in (pushed_kind stamp c k) ≡ task_in k
pushed_task stamp c (TableKind t) = refl
pushed_task stamp c (StreamKind s) = refl
pushed_task stamp c (TaskKind t) = refl
pushed_task stamp c (DynamicKind d t) = refl

few_failures : (state : TaskState) (found : Option StoredObject) → StateApplies found state
    → state.failures ≤ most_failures
few_failures state None applies = absurd applies
few_failures state (Some o) applies = by_task (task_in o.kind) applies.1
  where
    by_task : (found : Option Task) → IsSomeAnd found (λ t. state.failures ≤ most_failures)
        → state.failures ≤ most_failures
    by_task None is = absurd is
    by_task (Some t) is = is

live_before : (os : List StoredObject) (P : Task → Type 0) (place : ℕ) → IsLiveTask P (slice_get os place)
    → place < length os
live_before [] P place live = absurd live
live_before (o ∷ os) P zero live = omega arith
live_before (o ∷ os) P (suc place) live = let rest = live_before os P place live in omega (arith, rest)

-- a new task behind live ones
task_made_holds : (objects : List StoredObject) (c : TaskChange) → HasTokensOf c.runs.body → TaskApplies objects c
    → TaskHolds objects (length objects + 1) true
    (Some (new_task c.minutes c.after (root_among objects (length objects + 1) c.after) c.runs))
task_made_holds objects c written applies = (
  record {
    few = omega arith;
    before = all_map _ _ (λ id live. before id live) c.after applies.after;
    either = applies.either;
    rises = tt;
    body = written;
  },
  λ lives. record {
    behind = subst (λ (id : ℕ). AllByRecursion (FoundAt (IsTaskOf (root_among objects id c.after)) objects) c.after)
        applies.object.next_id applies.after;
    own = λ none. ap (root_by (task_at objects) (length objects + 1)) none;
  },
)
  where
    before : (id : ℕ) → IsLiveTask (λ t. t.root ≡ root_among objects c.id c.after) (at_id objects id)
        → id < length objects + 1
    before zero live = absurd live
    before (suc place) live =
        let rest = live_before objects (λ t. t.root ≡ root_among objects c.id c.after) place live in omega (arith, rest)

-- a change that applies
pub firm_changed : (stamp : ℕ) (objects : List StoredObject) (c : Change) → ChangeApplies objects c
    → ChangeRises c → IsFirm objects → IsFirm (changed stamp objects c)
unfolding changed
firm_changed stamp objects (CreatesTable c) applies rises firm = record {
  tables = all_more IsFirmObject objects _ firm.tables (new_firm c.columns c.retention stamp);
  names = names_more objects _ (free_name c.name objects applies.object.free) firm.names;
  streams = streams_more objects _ tt firm.streams;
  tasks = tasks_more objects _ tt firm.tasks;
  columns = all_more HasColumns objects _ firm.columns (record {
    some = applies.some_column;
    names = all_map _ _ (λ column name. name.0) c.columns applies.column_names;
  });
  dynamics = dynamics_more objects _ tt firm.dynamics;
}
firm_changed stamp objects (CreatesStream c) applies rises firm = record {
  tables = all_more IsFirmObject objects _ firm.tables tt;
  names = names_more objects _ (free_name c.name objects applies.object.free) firm.names;
  streams = streams_more objects _ (found_more (IsSourceOf (new_stream c.source c.is_append_only c.offset
      (columns_at objects c.source))) objects _ c.source
      (source_found objects c.source c.is_append_only c.offset applies.source)) firm.streams;
  tasks = tasks_more objects _ tt firm.tasks;
  columns = all_more HasColumns objects _ firm.columns tt;
  dynamics = dynamics_more objects _ tt firm.dynamics;
}
firm_changed stamp objects (CreatesTask c) applies rises firm = record {
  tables = all_more IsFirmObject objects _ firm.tables tt;
  names = names_more objects _ (free_name c.name objects applies.object.free) firm.names;
  streams = streams_more objects _ tt firm.streams;
  tasks = tasks_more objects _ (task_made_holds objects c rises applies) firm.tasks;
  columns = all_more HasColumns objects _ firm.columns tt;
  dynamics = dynamics_more objects _ tt firm.dynamics;
}
firm_changed stamp objects (SetsTask id state) applies rises firm = task_firm (with_state state) (λ t. refl) (λ t. refl)
    (state_firm state (few_failures state (at_id objects id) applies)) objects id firm
firm_changed stamp objects (StartsRun root tasks) applies rises firm =
    task_firm (with_run tasks) (λ t. refl) (λ t. refl) (run_firm tasks rises) objects root firm
firm_changed stamp objects (FinishesTask root task ending) applies rises firm =
    task_firm (with_ended task ending) (λ t. refl) (λ t. refl) (end_firm task ending) objects root firm
firm_changed stamp objects (CreatesDynamic c) applies rises firm = record {
  tables = all_more IsFirmObject objects _ firm.tables (empty_firm c.columns stamp);
  names = names_more objects _ (free_name c.name objects applies.object.free) firm.names;
  streams = streams_more objects _ tt firm.streams;
  tasks = tasks_more objects _ tt firm.tasks;
  columns = all_more HasColumns objects _ firm.columns (made_filled objects c applies);
  dynamics = dynamics_more objects _ (made_firm objects c _ rises applies) firm.dynamics;
}
firm_changed stamp objects (SetsDynamic id state) applies rises firm =
    dynamic_firm (with_dynamic_state state)
    (state_holds state (state_taken (at_id objects id) state applies)) objects id
    firm
firm_changed stamp objects (SetsGroups id c) applies rises firm =
    dynamic_firm (behind_change c) (groups_hold c) objects id firm
firm_changed stamp objects (Drops id) applies rises firm = record {
  tables = all_changed_at IsFirmObject IsFirmObject dropped (λ o h. h) (λ o h. h) objects id firm.tables;
  names = names_changed dropped (λ o. refl) (λ o live. absurd cc) objects id firm.names;
  streams = streams_changed dropped (λ s o h. h) (λ objects o h. h) objects id firm.streams;
  tasks = tasks_dropped objects id applies firm.tasks;
  columns = columns_changed dropped (λ o h. h) objects id firm.columns;
  dynamics = dynamics_changed dropped (record { kind = λ o. refl; columns = λ o. refl }) (λ objects o h. h) objects id
      firm.dynamics;
}
firm_changed stamp objects (SetsOffset id offset) applies rises firm = record {
  tables = all_changed_at IsFirmObject IsFirmObject (offset_set offset) (λ o h. h) (set_firm offset) objects
      id firm.tables;
  names = names_changed (offset_set offset) (λ o. refl) (λ o live. live) objects id firm.names;
  streams = streams_changed (offset_set offset) (set_source offset) (set_stream offset) objects id firm.streams;
  tasks = same_tasks (offset_set offset) (λ o. offset_task offset o.kind) (λ o. refl) objects id firm.tasks;
  columns = columns_changed (offset_set offset)
      (λ o h. offset_keeps KindHasColumns offset (λ s h. h) o.kind h) objects id
      firm.columns;
  dynamics = dynamics_changed (offset_set offset) (set_seen offset)
      (λ objects o h. offset_keeps (DynamicHolds objects) offset (λ s h. h) o.kind h) objects id firm.dynamics;
}
firm_changed stamp objects (PushesVersion c) applies rises firm = record {
  tables = by_found (at_id objects c.id) refl applies;
  names = names_changed (pushed_object stamp c) (λ o. refl) (λ o live. live) objects c.id firm.names;
  streams = streams_changed (pushed_object stamp c) (pushed_source stamp c) (pushed_stream stamp c) objects c.id
      firm.streams;
  tasks = same_tasks (pushed_object stamp c) (λ o. pushed_task stamp c o.kind) (λ o. refl) objects c.id firm.tasks;
  columns = columns_changed (pushed_object stamp c) (λ o h. pushed_columns stamp c o.kind h) objects c.id firm.columns;
  dynamics = dynamics_changed (pushed_object stamp c) (pushed_seen stamp c)
      (λ objects o h. pushed_dynamic stamp c objects o.kind h) objects c.id firm.dynamics;
}
  where
    by_kind : (k : StoredKind) → IsFirmKind k → FitsKind k c → IsFirmKind (pushed_kind stamp c k)
    by_kind (TableKind t) firm fits = firm_pushed stamp c t rises fits firm
    by_kind (StreamKind s) firm fits = tt
    by_kind (TaskKind t) firm fits = tt
    by_kind (DynamicKind d t) firm fits = firm_pushed stamp c t rises fits firm

    by_found : (found : Option StoredObject) → at_id objects c.id ≡ found → FitsObject found c
        → AllByRecursion IsFirmObject (put_at objects c.id (option_map (pushed_object stamp c) found))
    by_found None none fits = absurd fits
    by_found (Some o) there fits =
        all_with IsFirmObject objects c.id (pushed_object stamp c o) firm.tables
        (by_kind o.kind (all_at IsFirmObject objects c.id o firm.tables there) fits.1)

-- changes that apply one after the other
pub firm_all : (stamp : ℕ) (objects : List StoredObject) (cs : List Change) → AllApply stamp objects cs
    → AllByRecursion ChangeRises cs → IsFirm objects → IsFirm (all_changed stamp objects cs)
firm_all stamp objects [] applies rises firm = firm
firm_all stamp objects (c ∷ cs) applies rises firm =
    firm_all stamp (changed stamp objects c) cs applies.1 rises.1 (firm_changed stamp objects c applies.0 rises.0 firm)

-- ---- what a file says

written_rises : (c : Change) → IsChange (change_as_text c) → IsUnderstood c → ChangeRises c
written_rises (CreatesTable c) good spelled = tt
written_rises (Drops id) good spelled = tt
written_rises (CreatesStream c) good spelled = tt
written_rises (SetsOffset id offset) good spelled = tt
written_rises (CreatesTask c) good spelled = spelled_change c.runs.body_text c.runs.body spelled.body
written_rises (SetsTask id state) good spelled = tt
written_rises (StartsRun root tasks) good spelled = tasks_rise 0 tasks good.tasks
written_rises (FinishesTask root task ending) good spelled = tt
written_rises (CreatesDynamic c) good spelled = spelled_query c.query.text c.query.tree spelled
written_rises (SetsDynamic id state) good spelled = tt
written_rises (SetsGroups id c) good spelled = tt
written_rises (PushesVersion c) good spelled = record {
  rows = all_map (IsPartition c.width) HasRisingRows (λ p is. is.rising) c.added good.added;
  some = all_map (IsPartition c.width) HasRows (λ p is. is.some) c.added good.added;
}

all_rise : (cs : List Change) → AllByRecursion IsChange (map change_as_text cs)
    → AllByRecursion IsUnderstood cs → AllByRecursion ChangeRises cs
all_rise [] good spelled = tt
all_rise (c ∷ cs) good spelled = (written_rises c good.0 spelled.0, all_rise cs good.1 spelled.1)

firm_leads : (s : Stored) (commits : List Commit) (new : Stored) → AllByRecursion IsCommit commits → Leads s commits new
    → IsFirm s.objects → IsFirm new.objects
firm_leads s [] new good leads firm = subst (λ (t : Stored). IsFirm t.objects) leads firm
firm_leads s (c ∷ cs) new good leads firm =
    firm_leads (applied s c) cs new good.1 leads.1 (firm_all c.stamp s.objects c.changes leads.0.changes
    (all_rise c.changes good.0.written.changes good.0.understood) firm)

pub firm_file : (bytes : List ℕ) (s : Stored) → Keeps bytes s → IsFirm s.objects
firm_file bytes s (inl few) = subst (λ (t : Stored). IsFirm t.objects) (sym few.1) firm_first
firm_file bytes s (inr more) = firm_leads first_stored more.1.commits s more.1.good more.1.leads firm_first
