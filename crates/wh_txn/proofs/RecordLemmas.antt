-- The versions that a transaction's edits are written as, and the numbers in them.
--     none_added, version_added      the version that is written for a table, behind other changes
--     missing_within, rows_within, partitions_within, partitions_past     whether its numbers pass their limits
--     row_first, partition_first     the first limit that is passed
--     idle_within                    none is, where no table was touched and no stream read
--     parts_of, parts_size           the parts of a transaction, and how many tables and streams they have
--     idle_size                      whether there are none
use Rattle.std.proofs.Common.{◌≡◌, ℕ, ◌+◌, ◌≤◌, Bool, true, false, List, [], ◌∷◌, ◌++◌, length, map}
use Rattle.std.proofs.Common.{Option, Some, None, option_map, refl, sym, ap, subst, ◌∙◌, append-nil, arith}
use Rattle.std.specs.Prelude.{nat_le, nat_lt, nat_eq}
use Rattle.std.specs.Option.{option_and_then, option_to_list}
use Rattle.std.proofs.lemmas.List.{length-map, map-append, nil_from_length}
use Rattle.std.proofs.lemmas.Bool.Decides.{nat_tests}
use Rattle.wh_value.specs.Limit.{bound}
use Rattle.wh_frame.specs.Partition.{Partition}
use Rattle.wh_value.specs.declared.limit.Limit.{Limit}
use Rattle.wh_value.specs.declared.limit.Limit.TheVariants as limits
use Rattle.wh_state.specs.State.{Object, Table, at_id}
use Rattle.wh_state.specs.Objects.{as_table, table_at}
use Rattle.wh_state.specs.Edits.{Edits, numbers_gone, partitions_made}
use Rattle.wh_state.specs.Stored.{StoredTable, StoredObject, standing, table_meant}
use Rattle.wh_state.specs.Commit.{Change, PushesVersion}
use Rattle.wh_state.specs.Written.{version_written, version_written_to}
use Rattle.wh_state.proofs.MeaningLaws.{last_partitions_meant}
use Rattle.wh_record.specs.View.{UnderstoodChange, change_of}
use Rattle.wh_catalog.specs.Catalog.{stored_of, state_of}
use Rattle.wh_catalog.specs.declared.catalog.Catalog.{Catalog}
use Rattle.wh_machine.specs.Transaction.{Staged, Transaction, start_of, touched, first_past, row_past, partition_past}
use Rattle.wh_machine.specs.Transaction.{past_limit, or_else, next_row_of, next_partition_of}
use Rattle.wh_txn.specs.declared.recording.TouchedTable.{TouchedTable}
use Rattle.wh_txn.specs.Recording.{touched_in, touched_at, HasParts, version_for}
use Rattle.wh_txn.proofs.SeenLemmas.{catalog_table}

-- ---- one version

abbrev written_for : ℕ → ℕ → Edits → Option StoredTable → List Change
written_for stamp id e None = []
written_for stamp id e (Some t) = version_written stamp id e t ∷ []

written_to : (stamp id : ℕ) (e : Edits) (found : Option StoredObject)
    → version_written_to stamp id e found ≡ written_for stamp id e (option_and_then as_table found)
written_to stamp id e None = refl
written_to stamp id e (Some o) = by_found (as_table o)
  where
    by_found : (found : Option StoredTable)
        → option_to_list (option_map (version_written stamp id e) found) ≡ written_for stamp id e found
    by_found None = refl
    by_found (Some t) = refl

no_version : (stamp : ℕ) (objects : List StoredObject) (id : ℕ) (s : Staged) → table_at objects id ≡ None
    → version_for stamp objects (id, s) ≡ []
no_version stamp objects id s none =
    written_to stamp id s.edits (at_id objects id) ∙ ap (written_for stamp id s.edits) none

one_version : (stamp : ℕ) (objects : List StoredObject) (id : ℕ) (s : Staged) (t : StoredTable)
    → table_at objects id ≡ Some t → version_for stamp objects (id, s) ≡ version_written stamp id s.edits t ∷ []
one_version stamp objects id s t there =
    written_to stamp id s.edits (at_id objects id) ∙ ap (written_for stamp id s.edits) there

-- the changes with the one that is made of it behind them
pub version_added : (stamp : ℕ) (objects : List StoredObject) (id : ℕ) (s : Staged) (t : StoredTable)
    (old new : List UnderstoodChange) (one : UnderstoodChange)
    (more : ℕ) (removed : List ℕ) (added : List Partition)
    → table_at objects id ≡ Some t
    → new ≡ old ++ one ∷ []
    → change_of one ≡ PushesVersion (record {
      id = id;
      data_timestamp = stamp;
      next_row = t.next_row + more;
      width = length t.columns;
      removed = removed;
      added = added;
    })
    → more ≡ length s.edits.added
    → removed ≡ numbers_gone s.edits.rows (standing t)
    → added ≡ partitions_made t.next_partition t.next_row s.edits (standing t)
    → map change_of new ≡ map change_of old ++ version_for stamp objects (id, s)
version_added stamp objects id s t old new one more removed added there pushed is counts gone made =
    ap (λ changes. map change_of changes) pushed
    ∙ map-append change_of old (one ∷ [])
    ∙ ap (λ (c : Change). map change_of old ++ c ∷ []) (is
    ∙ (λ i. PushesVersion (record {
      id = id;
      data_timestamp = stamp;
      next_row = t.next_row + counts i;
      width = length t.columns;
      removed = gone i;
      added = made i;
    })))
    ∙ ap (λ (cs : List Change). map change_of old ++ cs) (sym (one_version stamp objects id s t there))

pub none_added : (stamp : ℕ) (objects : List StoredObject) (id : ℕ) (s : Staged)
    (old : List UnderstoodChange) → table_at objects id ≡ None
    → map change_of old ≡ map change_of old ++ version_for stamp objects (id, s)
none_added stamp objects id s old none =
    sym (append-nil (map change_of old))
    ∙ ap (λ (cs : List Change). map change_of old ++ cs) (sym (no_version stamp objects id s none))

-- ---- the numbers of one

fits_within : (n most : ℕ) → true ≡ nat_le n most → nat_lt most n ≡ false
fits_within n most fits = grind (arith, nat_tests)

fits_past : (n most : ℕ) → false ≡ nat_le n most → nat_lt most n ≡ true
fits_past n most past = grind (arith, nat_tests)

not_past : (n most : ℕ) → nat_lt most n ≡ false → n ≤ most
not_past n most within = grind (arith, nat_tests)

module _ (c : Catalog) (id : ℕ) (s : Staged) where
  pub missing_within : table_at (stored_of c).objects id ≡ None
      → partition_past (state_of c).objects (id, s) ≡ false
  missing_within none =
      ap (λ (found : Option Table). nat_lt (bound limits.PartitionNumber) (next_partition_of s.edits found))
      (catalog_table c id ∙ ap (option_map table_meant) none)

  module _ (t : StoredTable) (there : table_at (stored_of c).objects id ≡ Some t) where
    pub rows_within : row_past (state_of c).objects (id, s) ≡ false
        → t.next_row + length s.edits.added ≤ bound limits.RowNumber
    rows_within within =
        not_past (t.next_row + length s.edits.added) (bound limits.RowNumber)
        (ap (λ (found : Option Table). nat_lt (bound limits.RowNumber) (next_row_of found + length s.edits.added))
        (sym (catalog_table c id ∙ ap (option_map table_meant) there))
        ∙ within)

    -- the number behind its partitions
    abbrev behind : ℕ
    behind = t.next_partition + length (partitions_made t.next_partition t.next_row s.edits (standing t))

    partition_is : partition_past (state_of c).objects (id, s) ≡ nat_lt (bound limits.PartitionNumber) behind
    partition_is =
        ap (λ (found : Option Table). nat_lt (bound limits.PartitionNumber) (next_partition_of s.edits found))
        (catalog_table c id ∙ ap (option_map table_meant) there)
        ∙ ap (λ ps. nat_lt (bound limits.PartitionNumber)
        (t.next_partition + length (partitions_made t.next_partition t.next_row s.edits ps))) (last_partitions_meant t)

    pub partitions_within : true ≡ nat_le behind (bound limits.PartitionNumber)
        → partition_past (state_of c).objects (id, s) ≡ false
    partitions_within fits = partition_is ∙ fits_within behind (bound limits.PartitionNumber) fits

    pub partitions_past : false ≡ nat_le behind (bound limits.PartitionNumber)
        → partition_past (state_of c).objects (id, s) ≡ true
    partitions_past past = partition_is ∙ fits_past behind (bound limits.PartitionNumber) past

-- ---- limits

pub row_first : (objects : List Object) (t : Transaction) (id : ℕ)
    → first_past (row_past objects) limits.RowNumber (touched t) ≡ Some (id, limits.RowNumber)
    → past_limit objects t ≡ Some (id, limits.RowNumber)
unfolding past_limit
row_first objects t id first =
    ap (λ found. or_else found (first_past (partition_past objects) limits.PartitionNumber (touched t))) first

pub partition_first : (objects : List Object) (t : Transaction) (found : Option (ℕ × Limit))
    → first_past (row_past objects) limits.RowNumber (touched t) ≡ None
    → first_past (partition_past objects) limits.PartitionNumber (touched t) ≡ found → past_limit objects t ≡ found
unfolding past_limit
partition_first objects t found none first = (λ i. or_else (none i) (first i))

pub idle_within : (objects : List Object) (t : Transaction) → length (touched t) + length t.streams ≡ 0
    → past_limit objects t ≡ None
idle_within objects t none =
    let untouched : touched t ≡ [] = nil_from_length (touched t) (omega (arith, none)) in
    partition_first objects t None (ap (first_past (row_past objects) limits.RowNumber) untouched)
    (ap (first_past (partition_past objects) limits.PartitionNumber) untouched)

-- ---- parts

pub parts_of : {t same : Transaction} {start : ℕ} {tables : List TouchedTable} {streams : List ℕ} → Some t ≡ Some same
    → start ≡ start_of t → touched_at tables ≡ touched t → streams ≡ t.streams → HasParts same start tables streams
parts_of {t} {same} {start} {tables} {streams} is starts touches reads =
    let is_same : t ≡ same = cc in
    subst (λ (one : Transaction). HasParts one start tables streams) is_same (record {
      start_is = starts;
      touched_is = touches;
      streams_are = reads;
    })

pub parts_size : {t : Transaction} {start : ℕ} {tables : List TouchedTable} {streams : List ℕ}
    → HasParts t start tables streams → length tables + length streams ≡ length (touched t) + length t.streams
parts_size {t} {start} {tables} {streams} parts =
    (λ i. sym (length-map tables touched_in) i + length (parts.streams_are i))
    ∙ (λ i. length (parts.touched_is i) + length t.streams)

-- whether there are none of them, as it is asked of the tables that are lent
pub idle_size : {t : Transaction} {start : ℕ} {tables : List TouchedTable} {streams : List ℕ}
    → HasParts t start tables streams → (lent : List TouchedTable) (idle answer : Bool) → lent ≡ tables
    → idle ≡ nat_eq (length lent + length streams) 0 → idle ≡ answer
    → nat_eq (length (touched t) + length t.streams) 0 ≡ answer
idle_size {t} {start} {tables} {streams} parts lent idle answer same asked gives =
    ap (λ (n : ℕ). nat_eq n 0) (sym (parts_size parts))
    ∙ ap (λ (l : List TouchedTable). nat_eq (length l + length streams) 0) (sym same)
    ∙ sym asked ∙ gives
