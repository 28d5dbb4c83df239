-- What a commit changes.
--     touched_in, touched_at      a table that was touched, and several
--     touched_of                  those of a transaction's tables that were touched
--     HasParts                    what its commit is made of
--     version_for, versions_for   the change that its edits are written as over the committed objects; those of several
--     offsets_written             the changes that moves of offsets are written as, whatever the objects are
--     GivesCommit                 what is answered for a transaction over the committed objects
--     GivesVersions, AddsVersion  so for the versions of tables that were touched, and for one of them
--     IsAt                        a commit is at a stamp
--     IsRead, AreRead             its texts are understood; those of changes
use Rattle.std.specs.Prelude.{◌≡◌, ℕ, true, false, List, [], ◌∷◌, ◌++◌, map, Option, Some, None, option_map}
use Rattle.std.specs.Prelude.{Result, Err, IfOk, OnOk, Vec}
use Rattle.std.specs.declared.alloc.Global.{Global}
use Rattle.std.specs.List.{AllByRecursion, filter, flat_map}
use Rattle.std.specs.FinMap.{entries}
use Rattle.wh_value.specs.declared.limit.Limit.{Limit}
use Rattle.wh_value.specs.declared.limit.Limit.TheVariants as limits
use Rattle.wh_state.specs.State.{at_id}
use Rattle.wh_state.specs.Stored.{StoredObject}
use Rattle.wh_state.specs.Act.{Act, MovesOffset}
use Rattle.wh_state.specs.Commit.{Change, SetsOffset, Commit}
use Rattle.wh_state.specs.Spelling.{IsUnderstood}
use Rattle.wh_state.specs.Written.{version_written_to, commit_for}
use Rattle.wh_record.specs.View.{UnderstoodChange, UnderstoodCommit, change_of, commit_of}
use Rattle.wh_version.specs.Edits.{edits_in}
use Rattle.wh_catalog.specs.Catalog.{stored_of, state_of}
use Rattle.wh_catalog.specs.declared.catalog.Catalog.{Catalog}
use Rattle.wh_machine.specs.Transaction as machine
use Rattle.wh_txn.specs.declared.fault.RecordFault.{RecordFault}
use Rattle.wh_txn.specs.declared.fault.RecordFault.TheVariants as faults
use Rattle.wh_txn.specs.declared.recording.TouchedTable.{TouchedTable}
use Rattle.wh_txn.specs.declared.transaction.Staged.{Staged}
use Rattle.wh_txn.specs.View.{tables_of}

abbrev pub touched_in : TouchedTable → ℕ × machine.Staged
touched_in t = (t.id, record { edits = edits_in t.edits; is_touched = true })

abbrev pub touched_at : List TouchedTable → List (ℕ × machine.Staged)
touched_at touched = map touched_in touched

abbrev pub touched_of : List (ℕ × Staged) → List (ℕ × machine.Staged)
touched_of tables = filter (λ entry. entry.1.is_touched) (entries (tables_of tables))

-- when it began, which tables it touched and which streams it read
pub record HasParts (t : machine.Transaction) (start : ℕ) (touched : List TouchedTable) (streams : List ℕ)
    : Type 0 where
  pub start_is : start ≡ machine.start_of t
  pub touched_is : touched_at touched ≡ machine.touched t
  pub streams_are : streams ≡ t.streams

abbrev pub version_for : ℕ → List StoredObject → ℕ × machine.Staged → List Change
version_for stamp objects entry = version_written_to stamp entry.0 entry.1.edits (at_id objects entry.0)

abbrev pub versions_for : ℕ → List StoredObject → List (ℕ × machine.Staged) → List Change
versions_for stamp objects entries = flat_map (version_for stamp objects) entries

abbrev pub offset_written : Act → List Change
offset_written (MovesOffset id offset) = SetsOffset id offset ∷ []
offset_written _ = []

abbrev pub offsets_written : List Act → List Change
offsets_written acts = flat_map offset_written acts

-- ---- what is answered where all that is loaded is right

-- the commit; none where nothing is to be changed, and then no number passes its limit
pub record GivesCommit (catalog : Catalog) (stamp : ℕ) (t : machine.Transaction)
    (result : Result (Option UnderstoodCommit) RecordFault) : Type 0 where
  pub made : IfOk result (λ found. option_map commit_of found
      ≡ option_map (commit_for (stored_of catalog) stamp) (machine.acts_of (state_of catalog).objects t))
  pub within : IfOk result (λ found. machine.past_limit (state_of catalog).objects t ≡ None)
  pub limit : (id : ℕ) (which : Limit) → result ≡ Err (faults.Limit id which)
      → machine.past_limit (state_of catalog).objects t ≡ Some (id, which)

-- the first whose partition numbers would pass their limit
abbrev pub partition_first : Catalog → List TouchedTable → Option (ℕ × Limit)
partition_first catalog touched =
    machine.first_past (machine.partition_past (state_of catalog).objects) limits.PartitionNumber (touched_at touched)

pub record GivesVersions (catalog : Catalog) (stamp : ℕ) (touched : List TouchedTable)
    (result : Result (Vec UnderstoodChange Global) RecordFault) : Type 0 where
  pub made : IfOk result (λ changes. map change_of changes.items
      ≡ versions_for stamp (stored_of catalog).objects (touched_at touched))
  pub within : IfOk result (λ changes. partition_first catalog touched ≡ None)
  pub limit : (id : ℕ) (which : Limit) → result ≡ Err (faults.Limit id which)
      → partition_first catalog touched ≡ Some (id, which)

pub record AddsVersion {A : Type 0} (catalog : Catalog) (stamp : ℕ) (one : TouchedTable)
    (old new : List UnderstoodChange) (result : Result A RecordFault) : Type 0 where
  pub made : OnOk result (map change_of new
      ≡ map change_of old ++ version_for stamp (stored_of catalog).objects (touched_in one))
  pub within : OnOk result (machine.partition_past (state_of catalog).objects (touched_in one) ≡ false)
  pub limit : (id : ℕ) (which : Limit) → result ≡ Err (faults.Limit id which)
      → (id ≡ one.id) × (which ≡ limits.PartitionNumber)
      × (machine.partition_past (state_of catalog).objects (touched_in one) ≡ true)

-- ---- whatever is loaded

-- a commit is at a stamp, where there is one
abbrev pub IsAt : ℕ → Option Commit → Type 0
IsAt stamp None = Unit {0}
IsAt stamp (Some c) = c.stamp ≡ stamp

-- each text of it spells what it stands for
abbrev pub IsRead : Option Commit → Type 0
IsRead None = Unit {0}
IsRead (Some c) = AllByRecursion IsUnderstood c.changes

abbrev pub AreRead : List UnderstoodChange → Type 0
AreRead changes = AllByRecursion IsUnderstood (map change_of changes)
