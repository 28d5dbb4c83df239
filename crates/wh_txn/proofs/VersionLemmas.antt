-- A version for each of several tables, one after the other.
--     VersionsSoFar     what is written for those before the ones that are left, where what is loaded is right
--     none_yet, one_more, all_made     before the first, one further, and behind the last
--     one_within, limit_found          the next one stays within its row numbers, or passes its partition numbers
--     all_within                       none passes its partition numbers
use Rattle.std.proofs.Common.{◌≡◌, ℕ, ◌+◌, Bool, true, false, List, [], ◌∷◌, ◌++◌, length, map}
use Rattle.std.proofs.Common.{Option, Some, None, refl, sym, ap, ◌∙◌, append_assoc, append-nil, arith}
use Rattle.std.proofs.lemmas.List.{nil_from_length}
use Rattle.wh_value.specs.declared.limit.Limit.{Limit}
use Rattle.wh_value.specs.declared.limit.Limit.TheVariants as limits
use Rattle.wh_record.specs.View.{UnderstoodChange, change_of}
use Rattle.wh_state.specs.State.{Object}
use Rattle.wh_state.specs.Stored.{StoredObject}
use Rattle.wh_machine.specs.Transaction.{Staged, first_past, row_past, partition_past}
use Rattle.wh_txn.specs.declared.recording.TouchedTable.{TouchedTable}
use Rattle.wh_txn.specs.Recording.{touched_in, touched_at, version_for, versions_for}

pub record VersionsSoFar (Right : Type 0) (stamp : ℕ) (stored : List StoredObject) (objects : List Object)
    (whole left : List TouchedTable) (count : ℕ) (changes : List UnderstoodChange) : Type 0 where
  pub made : Right → map change_of changes ++ versions_for stamp stored (touched_at left)
      ≡ versions_for stamp stored (touched_at whole)
  pub rows : first_past (row_past objects) limits.RowNumber (touched_at left) ≡ None
  pub partitions : Right → first_past (partition_past objects) limits.PartitionNumber (touched_at left)
      ≡ first_past (partition_past objects) limits.PartitionNumber (touched_at whole)
  pub counted : count ≡ length left

-- ---- the first that is past a limit

module _ (is_past : ℕ × Staged → Bool) (which : Limit) (entry : ℕ × Staged) (others : List (ℕ × Staged)) where
  here_first : is_past entry ≡ true → first_past is_past which (entry ∷ others) ≡ Some (entry.0, which)
  here_first past = rw past refl

  others_first : is_past entry ≡ false
      → first_past is_past which (entry ∷ others) ≡ first_past is_past which others
  others_first within = rw within refl

  first_within : first_past is_past which (entry ∷ others) ≡ None → is_past entry ≡ false
  first_within none = by_test (is_past entry) refl
    where
      by_test : (b : Bool) → is_past entry ≡ b → is_past entry ≡ false
      by_test true is =
          let found : first_past is_past which (entry ∷ others) ≡ Some (entry.0, which) = here_first is in
          absurd cc
      by_test false is = is

-- ---- one after the other

module _ (Right : Type 0) (stamp : ℕ) (stored : List StoredObject) (objects : List Object) where
  abbrev row_first_past : List TouchedTable → Option (ℕ × Limit)
  row_first_past tables = first_past (row_past objects) limits.RowNumber (touched_at tables)

  abbrev partition_first_past : List TouchedTable → Option (ℕ × Limit)
  partition_first_past tables = first_past (partition_past objects) limits.PartitionNumber (touched_at tables)

  pub none_yet : (whole left : List TouchedTable) (count : ℕ) (changes : List UnderstoodChange) → left ≡ whole
      → count ≡ length left → changes ≡ [] → row_first_past whole ≡ None
      → VersionsSoFar Right stamp stored objects whole left count changes
  none_yet whole left count changes is counts none within = record {
    made = λ _ i. map change_of (none i) ++ versions_for stamp stored (touched_at (is i));
    rows = ap row_first_past is ∙ within;
    partitions = λ _. ap partition_first_past is;
    counted = counts;
  }

  module _ (whole left : List TouchedTable) (count : ℕ) (changes : List UnderstoodChange)
      (so_far : VersionsSoFar Right stamp stored objects whole left count changes) where
    module _ (one : TouchedTable) (rest : List TouchedTable) (is : left ≡ one ∷ rest) where
      pub one_within : row_past objects (touched_in one) ≡ false
      one_within = first_within (row_past objects) limits.RowNumber (touched_in one) (touched_at rest)
          (ap row_first_past (sym is) ∙ so_far.rows)

      pub one_more : (fewer : ℕ) (more : List UnderstoodChange) → fewer + 1 ≡ count
          → (Right → map change_of more ≡ map change_of changes ++ version_for stamp stored (touched_in one))
          → (Right → partition_past objects (touched_in one) ≡ false) → VersionsSoFar Right stamp stored objects whole rest fewer more
      one_more fewer more counts added within = record {
        made = λ right.
            ap (λ cs. cs ++ versions_for stamp stored (touched_at rest)) (added right)
            ∙ append_assoc (map change_of changes) (version_for stamp stored (touched_in one))
            (versions_for stamp stored (touched_at rest))
            ∙ ap (λ ts. map change_of changes ++ versions_for stamp stored (touched_at ts)) (sym is)
            ∙ so_far.made right;
        rows =
            sym (others_first (row_past objects) limits.RowNumber (touched_in one) (touched_at rest) one_within)
            ∙ ap row_first_past (sym is) ∙ so_far.rows;
        partitions = λ right.
            sym (others_first (partition_past objects) limits.PartitionNumber (touched_in one) (touched_at rest)
            (within right))
            ∙ ap partition_first_past (sym is) ∙ so_far.partitions right;
        counted = let was = so_far.counted in let size = ap length is in omega (arith, counts, was, size);
      }

      pub limit_found : Right → partition_past objects (touched_in one) ≡ true
          → partition_first_past whole ≡ Some (one.id, limits.PartitionNumber)
      limit_found right past =
          sym (so_far.partitions right) ∙ ap partition_first_past is
          ∙ here_first (partition_past objects) limits.PartitionNumber (touched_in one) (touched_at rest) past

    nothing_left : count ≡ 0 → left ≡ []
    nothing_left none = nil_from_length left (sym so_far.counted ∙ none)

    pub all_made : count ≡ 0 → Right → map change_of changes ≡ versions_for stamp stored (touched_at whole)
    all_made none right =
        sym (append-nil (map change_of changes))
        ∙ ap (λ ts. map change_of changes ++ versions_for stamp stored (touched_at ts)) (sym (nothing_left none))
        ∙ so_far.made right

    pub all_within : count ≡ 0 → Right → partition_first_past whole ≡ None
    all_within none right = sym (so_far.partitions right) ∙ ap partition_first_past (nothing_left none)
