-- Transactions over the objects of a file.
--     HoldsEdits, IsLiveStream     what a transaction holds
--     StandsOn, AllStandOn         transactions that hold live base tables that their edits fit, and live streams
--     stand_through                they still do behind changes of which none drops what they hold
--     commit_stands                the acts of a transaction that no limit refuses
use Rattle.std.proofs.Common.{◌≡◌, ℕ, ◌+◌, ◌≤◌, Bool, true, false, cond, List, []}
use Rattle.std.proofs.Common.{◌∷◌, ◌++◌, length, map, Option, Some, None, option_map, refl, sym, ap, subst, ◌∙◌, arith}
use Rattle.std.proofs.Common.{IsTrue}
use Rattle.std.specs.Prelude.{nat_lt}
use Rattle.std.specs.List.{AllByRecursion}
use Rattle.std.specs.Option.{IsSomeAnd}
use Rattle.std.specs.Option.{option_and_then}
use Rattle.std.specs.FinMap.{get, entries}
use Rattle.std.proofs.lemmas.Bool.Decides.{nat_tests}
use Rattle.wh_value.specs.Limit.{bound}
use Rattle.wh_value.specs.declared.limit.Limit.{Limit}
use Rattle.wh_value.specs.declared.limit.Limit.TheVariants as limits
use Rattle.wh_state.specs.State.{TaskKind, DynamicKind}
use Rattle.wh_state.specs.State.{Version, Stream, Object, at_id, last_of}
use Rattle.wh_state.specs.State.{TableKind, StreamKind, table_in, stream_in}
use Rattle.wh_state.specs.Objects.{stream_at, table_at}
use Rattle.wh_state.specs.Objects.{is_table, as_table, as_stream}
use Rattle.wh_state.specs.Edits.{Edits, partitions_made}
use Rattle.wh_state.specs.Act.{MovesOffset}
use Rattle.wh_state.specs.Stored.{StoredVersion, StoredTable, StoredKind, StoredObject}
use Rattle.wh_state.specs.Stored.{standing, object_meant, kind_meant}
use Rattle.wh_state.specs.Stored.{table_meant, version_meant}
use Rattle.wh_state.specs.Commit.{VersionChange, Change, pushed_kind, offset_set_kind}
use Rattle.wh_state.specs.Commit.{all_changed, DoesNotFall}
use Rattle.wh_state.specs.Sound.{IsTimely, IsTimelyFor, IsBelow, IsSoundObject, IsSoundKind}
use Rattle.wh_state.proofs.AllLaws.{all_map, all_both, all_append, all_at, all_filter}
use Rattle.wh_state.proofs.FoundLaws.{FoundAt}
use Rattle.wh_state.proofs.MeaningLaws.{at_id_meant, table_at_meant, stream_at_meant, last_partitions_meant}
use Rattle.wh_state.proofs.AppliesLaws.{EditsFit}
use Rattle.wh_state.proofs.BelowLaws.{rows_below}
use Rattle.wh_state.proofs.WrittenLaws.{EditsApply, EditStands, IsBase, TakesMove, ActStands, AllStand}
use Rattle.wh_state.proofs.WrittenLaws.{KeptByCommits, ChangeSpares, found_through}
use Rattle.wh_machine.specs.Offsets.{offset_move, offset_moves}
use Rattle.wh_machine.specs.Transaction.{Staged, Transaction, start_of, edit_act, touched, next_row_of, row_past}
use Rattle.wh_machine.specs.Transaction.{next_partition_of, partition_past, first_past, past_limit, commit_refusal}
use Rattle.wh_machine.specs.Transaction.{or_else}
use Rattle.wh_machine.specs.Sessions.{Sessions}
use Rattle.wh_machine.proofs.GotLaws.{entries_hold}
use Rattle.wh_state.proofs.KindLaws.{offset_keeps, task_keeps, dynamic_keeps}

-- ---- what a transaction holds

abbrev pub HoldsEdits : Edits → StoredObject → Type 0
HoldsEdits e o = IsTrue o.is_live × (IsSomeAnd (table_in o.kind) (λ t. EditsFit t.columns e) × IsBase o)

abbrev pub IsLiveStream : StoredObject → Type 0
IsLiveStream o = IsTrue o.is_live × IsSomeAnd (stream_in o.kind) (λ s. Unit {0})

pub record TransactionStands (objects : List StoredObject) (t : Transaction) : Type 0 where
  pub tables : (id : ℕ) (s : Staged) → get t.tables id ≡ Some s → FoundAt (HoldsEdits s.edits) objects id
  pub streams : AllByRecursion (FoundAt IsLiveStream objects) t.streams

abbrev pub StandsOn : List StoredObject → Option Transaction → Type 0
StandsOn objects None = Unit {0}
StandsOn objects (Some t) = TransactionStands objects t

abbrev pub AllStandOn : List StoredObject → Sessions → Type 0
AllStandOn objects sessions = AllByRecursion (StandsOn objects) sessions

-- ---- behind a commit

base_kept : KeptByCommits IsBase
base_kept = record {
  pushes = λ stamp c o h. pushed o.kind stamp c h;
  sets = λ offset o h. offset_keeps (λ k. IsTrue (is_table k)) offset (λ s h. h) o.kind h;
  tasks = λ f o h. task_keeps (λ k. IsTrue (is_table k)) f (λ t h. h) o.kind h;
  dynamics = λ f o h. dynamic_keeps (λ k. IsTrue (is_table k)) f (λ d t h. h) o.kind h;
}
  where
    pushed : (k : StoredKind) (stamp : ℕ) (c : VersionChange) → IsTrue (is_table k)
        → IsTrue (is_table (pushed_kind stamp c k))
    pushed (TableKind t) stamp c h = h
    pushed (StreamKind s) stamp c h = h
    pushed (TaskKind t) stamp c h = h
    pushed (DynamicKind d t) stamp c h = h

pub edits_kept : (e : Edits) → KeptByCommits (HoldsEdits e)
edits_kept e = record {
  pushes = λ stamp c o h. (h.0, (pushed o.kind stamp c h.1.0, base_kept.pushes stamp c o h.1.1));
  sets = λ offset o h. (h.0, (moved o.kind offset h.1.0, base_kept.sets offset o h.1.1));
  tasks = λ f o h. (h.0, (task_keeps Fits f (λ t h. h) o.kind h.1.0, base_kept.tasks f o h.1.1));
  dynamics = λ f o h. (h.0, (dynamic_keeps Fits f (λ d t h. h) o.kind h.1.0, base_kept.dynamics f o h.1.1));
}
  where
    Fits : StoredKind → Type 0
    Fits k = IsSomeAnd (table_in k) (λ t. EditsFit t.columns e)

    pushed : (k : StoredKind) (stamp : ℕ) (c : VersionChange) → Fits k → Fits (pushed_kind stamp c k)
    pushed (TableKind t) stamp c h = record { rows = h.rows; added = h.added }
    pushed (StreamKind s) stamp c h = absurd h
    pushed (TaskKind t) stamp c h = absurd h
    pushed (DynamicKind d t) stamp c h = record { rows = h.rows; added = h.added }

    moved : (k : StoredKind) (offset : ℕ) → Fits k → Fits (offset_set_kind offset k)
    moved (TableKind t) offset h = h
    moved (StreamKind s) offset h = absurd h
    moved (TaskKind t) offset h = absurd h
    moved (DynamicKind d t) offset h = h

pub streams_kept : KeptByCommits IsLiveStream
streams_kept = record {
  pushes = λ stamp c o h. (h.0, pushed o.kind stamp c h.1);
  sets =
      λ offset o h. (h.0, moved o.kind offset h.1);
  tasks = λ f o h. (h.0, task_keeps (λ k. IsSomeAnd (stream_in k) (λ s. Unit {0})) f (λ t h. h) o.kind h.1);
  dynamics = λ f o h. (
    h.0,
    dynamic_keeps (λ k. IsSomeAnd (stream_in k) (λ s. Unit {0})) f (λ d t h. h) o.kind h.1,
  );
}
  where
    pushed : (k : StoredKind) (stamp : ℕ) (c : VersionChange) → IsSomeAnd (stream_in k) (λ s. Unit {0})
        → IsSomeAnd (stream_in (pushed_kind stamp c k)) (λ s. Unit {0})
    pushed (TableKind t) stamp c h = absurd h
    pushed (StreamKind s) stamp c h = tt
    pushed (TaskKind t) stamp c h = absurd h
    pushed (DynamicKind d t) stamp c h = absurd h

    moved : (k : StoredKind) (offset : ℕ) → IsSomeAnd (stream_in k) (λ s. Unit {0})
        → IsSomeAnd (stream_in (offset_set_kind offset k)) (λ s. Unit {0})
    moved (TableKind t) offset h = absurd h
    moved (StreamKind s) offset h = tt
    moved (TaskKind t) offset h = absurd h
    moved (DynamicKind d t) offset h = absurd h

-- what a transaction holds is not dropped
pub record SparesHeld (cs : List Change) (t : Transaction) : Type 0 where
  pub tables : (id : ℕ) (s : Staged) → get t.tables id ≡ Some s → AllByRecursion (ChangeSpares id) cs
  pub streams : AllByRecursion (λ id. AllByRecursion (ChangeSpares id) cs) t.streams

pub stands_through : (stamp : ℕ) (objects : List StoredObject) (cs : List Change) (t : Transaction) → SparesHeld cs t
    → TransactionStands objects t → TransactionStands (all_changed stamp objects cs) t
stands_through stamp objects cs t spares stands = record {
  tables = λ id s is. found_through (HoldsEdits s.edits) (edits_kept s.edits) stamp objects id cs
      (spares.tables id s is)
      (stands.tables id s is);
  streams = streams_through t.streams spares.streams stands.streams;
}
  where
    streams_through : (ids : List ℕ) → AllByRecursion (λ id. AllByRecursion (ChangeSpares id) cs) ids
        → AllByRecursion (FoundAt IsLiveStream objects) ids
        → AllByRecursion (FoundAt IsLiveStream (all_changed stamp objects cs)) ids
    streams_through [] spares stand = tt
    streams_through (id ∷ ids) spares stand = (
      found_through IsLiveStream streams_kept stamp objects id cs spares.0 stand.0,
      streams_through ids spares.1 stand.1,
    )

-- ---- limits

none_past : (is_past : ℕ × Staged → Bool) (which : Limit) (found : List (ℕ × Staged)) →
    first_past is_past which found ≡ None
    → AllByRecursion (λ entry. is_past entry ≡ false) found
none_past is_past which [] none = tt
none_past is_past which (entry ∷ others) none = by_test (is_past entry) refl none (none_past is_past which others)
  where
    by_test : (b : Bool) → is_past entry ≡ b → cond b (Some (entry.0, which)) (first_past is_past which others) ≡ None
        → (first_past is_past which others ≡ None → AllByRecursion (λ entry. is_past entry ≡ false) others)
        → AllByRecursion (λ entry. is_past entry ≡ false) (entry ∷ others)
    by_test true is none rest = absurd cc
    by_test false is none rest = (is, rest none)

neither_past : (first second : Option (ℕ × Limit)) → or_else first second ≡ None → (first ≡ None) × (second ≡ None)
neither_past None second none = (refl, none)
neither_past (Some found) second none = absurd cc

pub record IsWithinLimits (objects : List Object) (entry : ℕ × Staged) : Type 0 where
  pub rows : row_past objects entry ≡ false
  pub partitions : partition_past objects entry ≡ false

no_refusal : {X : Type 0} {Y : Type 0} (f : X → Y) (found : Option X) → option_map f found ≡ None → found ≡ None
no_refusal f None none = refl
no_refusal f (Some x) none = absurd cc

pub within_limits : (objects : List Object) (t : Transaction) → commit_refusal objects t ≡ None
    → AllByRecursion (IsWithinLimits objects) (touched t)
unfolding past_limit
within_limits objects t none =
    let both = neither_past (first_past (row_past objects) limits.RowNumber (touched t))
    (first_past (partition_past objects) limits.PartitionNumber (touched t))
    (no_refusal _ (past_limit objects t) none) in
    all_both (λ entry. row_past objects entry ≡ false) (λ entry. partition_past objects entry ≡ false)
    (IsWithinLimits objects) (λ entry rows partitions. record { rows = rows; partitions = partitions }) (touched t)
    (none_past (row_past objects) limits.RowNumber (touched t) both.0)
    (none_past (partition_past objects) limits.PartitionNumber (touched t) both.1)

-- ---- the edits of a table

not_less : (a b : ℕ) → nat_lt a b ≡ false → b ≤ a
not_less a b test = grind (arith, nat_tests)

-- a version that means one of a sound table isn't later than the last commit
abbrev IsBefore : ℕ → Version → Type 0
IsBefore stamp v = v.data_timestamp ≤ stamp

not_later : (stamp : ℕ) (versions : List StoredVersion)
    → AllByRecursion (IsBefore stamp) (map version_meant versions) → DoesNotFall (last_of versions) stamp
not_later stamp [] before = tt
not_later stamp (v ∷ []) before = before.0
not_later stamp (v ∷ w ∷ vs) before = not_later stamp (w ∷ vs) before.1

-- over a sound state
edit_stands : (committed stamp : ℕ) → committed ≤ stamp → (objects : List StoredObject)
    → AllByRecursion (IsSoundObject committed (map object_meant objects)) (map object_meant objects)
    → (entry : ℕ × Staged)
    → IsWithinLimits (map object_meant objects) entry → FoundAt (HoldsEdits entry.1.edits) objects entry.0
    → FoundAt (EditStands stamp entry.1.edits) objects entry.0
edit_stands committed stamp h objects sound entry within holds =
    by_found (at_id objects entry.0) refl holds
  where
    e : Edits
    e = entry.1.edits

    of_table : (t : StoredTable) → table_at (map object_meant objects) entry.0 ≡ Some (table_meant t)
        → AllByRecursion (IsBelow t.next_row) (map version_meant t.versions)
        → AllByRecursion (IsBefore stamp) (map version_meant t.versions) → EditsFit t.columns e → EditsApply stamp e t
    of_table t at below before fits =
        let rows : nat_lt (bound limits.RowNumber) (next_row_of (Some (table_meant t)) + length e.added) ≡ false =
        ap (λ found. nat_lt (bound limits.RowNumber) (next_row_of found + length e.added)) (sym at) ∙ within.rows in
        let partitions : nat_lt (bound limits.PartitionNumber) (next_partition_of e (Some (table_meant t))) ≡ false =
        ap (λ found. nat_lt (bound limits.PartitionNumber) (next_partition_of e found)) (sym at) ∙ within.partitions in
        let made : nat_lt (bound limits.PartitionNumber)
        (t.next_partition + length (partitions_made t.next_partition t.next_row e (standing t))) ≡ false =
        ap (λ ps. nat_lt (bound limits.PartitionNumber)
        (t.next_partition + length (partitions_made t.next_partition t.next_row e ps))) (sym (last_partitions_meant t))
        ∙ partitions in
        record {
          below = rows_below t below;
          fit = fits;
          later = not_later stamp t.versions before;
          few = not_less (bound limits.RowNumber) _ rows;
          few_partitions = not_less (bound limits.PartitionNumber) _ made;
        }

    by_kind : (k : StoredKind) → IsSoundKind committed (map object_meant objects) (kind_meant k)
        → table_at (map object_meant objects) entry.0 ≡ option_map table_meant (table_in k)
        → IsSomeAnd (table_in k) (λ t. EditsFit t.columns e) → IsSomeAnd (table_in k) (EditsApply stamp e)
    by_kind (StreamKind s) sound at fits = absurd fits
    by_kind (TaskKind t) sound at fits = absurd fits
    by_kind (TableKind t) sound at fits = of_table t at sound.below
        (all_map (IsTimely committed) (IsBefore stamp) (λ v timely. omega (arith, timely.stamp, timely.data_timestamp))
        (map version_meant t.versions) sound.timely) fits
    by_kind (DynamicKind d t) sound at fits = of_table t at sound.below
        (all_map (IsTimelyFor committed d.state.moment) (IsBefore stamp)
        (λ v timely. omega (arith, timely.data_timestamp, sound.moment)) (map version_meant t.versions) sound.timely)
        fits

    by_found : (found : Option StoredObject) → at_id objects entry.0 ≡ found → IsSomeAnd found (HoldsEdits e)
        → IsSomeAnd found (EditStands stamp e)
    by_found None none holds = absurd holds
    by_found (Some o) there holds = (
      holds.0,
      by_kind o.kind (all_at (IsSoundObject committed (map object_meant objects)) (map object_meant objects) entry.0
          (object_meant o) sound
          (at_id_meant objects entry.0 ∙ ap (option_map object_meant) there))
          (table_at_meant objects entry.0 ∙ ap (λ found. option_map table_meant (option_and_then as_table found))
          there) holds.1.0,
    )

holds_base : (e : Edits) (found : Option StoredObject) → IsSomeAnd found (HoldsEdits e) → IsSomeAnd found IsBase
holds_base e None holds = absurd holds
holds_base e (Some o) holds = holds.1.1

-- ---- moves

moves_of_one : (stamp start : ℕ) (objects : List StoredObject) (id : ℕ) → FoundAt IsLiveStream objects id
    → AllStand stamp start objects (offset_move start id (stream_at (map object_meant objects) id))
moves_of_one stamp start objects id live =
    subst (λ found. AllStand stamp start objects (offset_move start id found)) (sym (stream_at_meant objects id))
    (by_found (at_id objects id) refl live)
  where
    by_test : (o : StoredObject) (s : Stream) (later : Bool) → nat_lt s.offset start ≡ later → IsTrue o.is_live
        → at_id objects id ≡ Some (record o { kind = StreamKind s })
        → AllStand stamp start objects (cond later (MovesOffset id start ∷ []) [])
    by_test o s false test live there = tt
    by_test o s true test live there =
        let before : s.offset ≤ start = grind (arith, nat_tests) in
        ((refl, subst (λ found. IsSomeAnd found (TakesMove start)) (sym there) (live, before)), tt)

    by_kind : (o : StoredObject) (k : StoredKind) → IsTrue o.is_live → IsSomeAnd (stream_in k) (λ s. Unit {0})
        → at_id objects id ≡ Some (record o { kind = k })
        → AllStand stamp start objects (offset_move start id (stream_in k))
    by_kind o (TableKind t) live is there = absurd is
    by_kind o (TaskKind t) live is there = absurd is
    by_kind o (DynamicKind d t) live is there = absurd is
    by_kind o (StreamKind s) live is there = by_test o s (nat_lt s.offset start) refl live there

    by_found : (found : Option StoredObject) → at_id objects id ≡ found → IsSomeAnd found IsLiveStream
        → AllStand stamp start objects (offset_move start id (option_and_then as_stream found))
    by_found None none live = absurd live
    by_found (Some o) there live = by_kind o o.kind live.0 live.1 there

moves_of_all : (stamp start : ℕ) (objects : List StoredObject) (ids : List ℕ) →
    AllByRecursion (FoundAt IsLiveStream objects) ids
    → AllStand stamp start objects (offset_moves (map object_meant objects) start ids)
moves_of_all stamp start objects [] live = tt
moves_of_all stamp start objects (id ∷ ids) live =
    all_append (ActStands stamp start objects) (offset_move start id (stream_at (map object_meant objects) id))
    (offset_moves (map object_meant objects) start ids) (moves_of_one stamp start objects id live.0)
    (moves_of_all stamp start objects ids live.1)

-- ---- a commit

edits_stand : (stamp start : ℕ) (objects : List StoredObject) (found : List (ℕ × Staged))
    → AllByRecursion (λ entry. ActStands stamp start objects (edit_act entry)) found
    → AllStand stamp start objects (map edit_act found)
edits_stand stamp start objects [] stand = tt
edits_stand stamp start objects (entry ∷ others) stand = (stand.0, edits_stand stamp start objects others stand.1)

-- edits and then moves, of a transaction that stands and that no limit refuses
pub commit_stands : (committed stamp : ℕ) → committed ≤ stamp → (objects : List StoredObject) (t : Transaction)
    → AllByRecursion (IsSoundObject committed (map object_meant objects)) (map object_meant objects)
    → commit_refusal (map object_meant objects) t ≡ None → TransactionStands objects t
    → AllStand stamp (start_of t) objects
    (map edit_act (touched t) ++ offset_moves (map object_meant objects) (start_of t) t.streams)
commit_stands committed stamp h objects t sound none stands =
    all_append (ActStands stamp (start_of t) objects) (map edit_act (touched t))
    (offset_moves (map object_meant objects) (start_of t) t.streams)
    (edits_stand stamp (start_of t) objects (touched t)
    (all_both (IsWithinLimits (map object_meant objects))
    (λ entry. FoundAt (HoldsEdits entry.1.edits) objects entry.0)
    (λ entry. ActStands stamp (start_of t) objects (edit_act entry))
    (λ entry within holds. (
      edit_stands committed stamp h objects sound entry within holds,
      holds_base entry.1.edits (at_id objects entry.0) holds,
    )) (touched t)
    (within_limits (map object_meant objects) t none)
    (all_filter (λ entry. FoundAt (HoldsEdits entry.1.edits) objects entry.0) (λ entry. entry.1.is_touched)
    (entries t.tables)
    (entries_hold (λ id s. FoundAt (HoldsEdits s.edits) objects id) t.tables stands.tables))))
    (moves_of_all stamp (start_of t) objects t.streams stands.streams)
