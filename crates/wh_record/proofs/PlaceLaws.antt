-- Where the partitions stand that a commit adds.
--     version_size                    a new version is its head and its partitions
--     all_spelled, all_within         the bytes there spell them, and end with the commit's
use Rattle.std.proofs.Common.{◌≡◌, ℕ, ◌+◌, ◌*◌, ◌≤◌, List, [], ◌∷◌, ◌++◌, length, map, drop, refl, sym, ap, ◌∙◌}
use Rattle.std.proofs.Common.{subst, arith, append_assoc, length-append}
use Rattle.std.specs.List.{flat_map, AllByRecursion}
use Rattle.std.specs.Int.{w32, w64, to_be_bytes}
use Rattle.wh_value.proofs.ListLaws.{all_append}
use Rattle.wh_frame.specs.Spelling.{partition_bytes, list_bytes}
use Rattle.wh_filed.specs.Filing.{IsSpelledIn, EndsBy}
use Rattle.wh_filed.proofs.FilingLaws.{behind_front, first_of, size_of_all, spelled_from, ends_from}
use Rattle.wh_state.specs.Commit.{VersionChange, Change, CreatesTable, Drops, PushesVersion, CreatesStream, SetsOffset}
use Rattle.wh_state.specs.Commit.{CreatesTask, SetsTask, StartsRun, FinishesTask, CreatesDynamic, SetsDynamic, Commit}
use Rattle.wh_state.specs.Commit.{SetsGroups, change_as_text}
use Rattle.wh_state.specs.Spelling.{change_bytes, version_bytes, text_payload, payload_of, IsChange}
use Rattle.wh_record.specs.Places.{head_size, change_size, filed_in_change, filed_in_changes}
use Rattle.wh_record.specs.Laws.{AllSpelled, AllWithin}

-- ---- new versions

numbers_size : (ns : List ℕ) → length (flat_map (to_be_bytes w64) ns) ≡ 8 * length ns
numbers_size [] = refl
numbers_size (n ∷ ns) = omega (arith, size_of_all (to_be_bytes w64) n ns, numbers_size ns)

module _ (c : VersionChange) where
  abbrev numbers : List ℕ
  numbers = to_be_bytes w32 c.id ++ to_be_bytes w64 c.data_timestamp ++ to_be_bytes w64 c.next_row
      ++ to_be_bytes w32 c.width

  abbrev head : List ℕ
  head = 10 ∷ (numbers ++ list_bytes (to_be_bytes w64) c.removed ++ to_be_bytes w32 (length c.added))

  head_is : length head ≡ head_size c
  head_is =
      let removed = list_bytes (to_be_bytes w64) c.removed in
      omega (
        arith,
        length-append (numbers ++ removed) (to_be_bytes w32 (length c.added)),
        length-append numbers removed,
        length-append (to_be_bytes w32 (length c.removed)) (flat_map (to_be_bytes w64) c.removed),
        numbers_size c.removed,
      )

  head_first : change_bytes (PushesVersion c) ≡ head ++ flat_map partition_bytes c.added
  unfolding change_bytes version_bytes
  head_first = ap (λ (l : List ℕ). 10 ∷ l) (sym (append_assoc (numbers ++ list_bytes (to_be_bytes w64) c.removed)
      (to_be_bytes w32 (length c.added)) (flat_map partition_bytes c.added)))

pub version_size : (c : VersionChange)
    → length (change_bytes (PushesVersion c)) ≡ head_size c + length (flat_map partition_bytes c.added)
version_size c =
    omega (arith, ap length (head_first c), length-append (head c) (flat_map partition_bytes c.added), head_is c)

behind_head : (at : ℕ) (bytes rest : List ℕ) (c : VersionChange)
    → drop at bytes ≡ change_bytes (PushesVersion c) ++ rest
    → drop (at + head_size c) bytes ≡ flat_map partition_bytes c.added ++ rest
behind_head at bytes rest c is =
    let parts = flat_map partition_bytes c.added in
    let grouped : drop at bytes ≡ head c ++ (parts ++ rest) =
    is ∙ ap (λ (l : List ℕ). l ++ rest) (head_first c) ∙ append_assoc (head c) parts rest in
    subst (λ (k : ℕ). drop (at + k) bytes ≡ parts ++ rest) (head_is c)
    (behind_front at bytes (head c) (parts ++ rest) grouped).1

-- ---- changes

change_spelled : (at : ℕ) (bytes rest : List ℕ) (c : Change) → IsChange (change_as_text c)
    → drop at bytes ≡ change_bytes (change_as_text c) ++ rest
    → AllByRecursion (IsSpelledIn bytes) (filed_in_change at c)
change_spelled at bytes rest (CreatesTable c) good is = tt
change_spelled at bytes rest (Drops id) good is = tt
change_spelled at bytes rest (PushesVersion c) good is =
    spelled_from c.id (at + head_size c) c.width c.added bytes rest good.width good.added
    (behind_head at bytes rest c is)
change_spelled at bytes rest (CreatesStream c) good is = tt
change_spelled at bytes rest (SetsOffset id offset) good is = tt
change_spelled at bytes rest (CreatesTask c) good is = tt
change_spelled at bytes rest (SetsTask id state) good is = tt
change_spelled at bytes rest (StartsRun root tasks) good is = tt
change_spelled at bytes rest (FinishesTask root task ending) good is = tt
change_spelled at bytes rest (CreatesDynamic c) good is = tt
change_spelled at bytes rest (SetsDynamic id state) good is = tt
change_spelled at bytes rest (SetsGroups id groups) good is = tt

changes_spelled : (at : ℕ) (bytes rest : List ℕ) (cs : List Change) → AllByRecursion IsChange (map change_as_text cs)
    → drop at bytes ≡ flat_map change_bytes (map change_as_text cs) ++ rest
    → AllByRecursion (IsSpelledIn bytes) (filed_in_changes at cs)
changes_spelled at bytes rest [] good is = tt
changes_spelled at bytes rest (c ∷ cs) good is =
    let behind = flat_map change_bytes (map change_as_text cs) ++ rest in
    let grouped = first_of change_bytes (change_as_text c) (map change_as_text cs) at bytes rest is in
    let there = (behind_front at bytes (change_bytes (change_as_text c)) behind grouped).1 in
    all_append (IsSpelledIn bytes) (filed_in_change at c) (filed_in_changes (at + change_size c) cs)
    (change_spelled at bytes behind c good.0 grouped)
    (changes_spelled (at + change_size c) bytes rest cs good.1 there)

change_within : (n at : ℕ) (c : Change) → at + change_size c ≤ n → AllByRecursion (EndsBy n) (filed_in_change at c)
change_within n at (CreatesTable c) within = tt
change_within n at (Drops id) within = tt
change_within n at (PushesVersion c) within =
    ends_from c.id (at + head_size c) n c.added (omega (arith, version_size c))
change_within n at (CreatesStream c) within = tt
change_within n at (SetsOffset id offset) within = tt
change_within n at (CreatesTask c) within = tt
change_within n at (SetsTask id state) within = tt
change_within n at (StartsRun root tasks) within = tt
change_within n at (FinishesTask root task ending) within = tt
change_within n at (CreatesDynamic c) within = tt
change_within n at (SetsDynamic id state) within = tt
change_within n at (SetsGroups id groups) within = tt

changes_within : (n at : ℕ) (cs : List Change)
    → at + length (flat_map change_bytes (map change_as_text cs)) ≤ n
    → AllByRecursion (EndsBy n) (filed_in_changes at cs)
changes_within n at [] within = tt
changes_within n at (c ∷ cs) within =
    let size = size_of_all change_bytes (change_as_text c) (map change_as_text cs) in
    all_append (EndsBy n) (filed_in_change at c) (filed_in_changes (at + change_size c) cs)
    (change_within n at c (omega (arith, size)))
    (changes_within n (at + change_size c) cs (omega (arith, size)))

-- ---- commits

module _ (c : Commit) where
  abbrev stamp : List ℕ
  stamp = to_be_bytes w64 c.stamp

  abbrev count : List ℕ
  count = to_be_bytes w32 (length (map change_as_text c.changes))

  abbrev changes : List ℕ
  changes = flat_map change_bytes (map change_as_text c.changes)

  count_first : payload_of c ≡ (stamp ++ count) ++ changes
  unfolding text_payload
  count_first = sym (append_assoc stamp count changes)

pub all_spelled : AllSpelled
all_spelled c at bytes rest good is =
    let grouped : drop at bytes ≡ (stamp c ++ count c) ++ (changes c ++ rest) =
    is ∙ ap (λ (l : List ℕ). l ++ rest) (count_first c) ∙ append_assoc (stamp c ++ count c) (changes c) rest in
    changes_spelled (at + 12) bytes rest c.changes good.changes
    (behind_front at bytes (stamp c ++ count c) (changes c ++ rest) grouped).1

pub all_within : AllWithin
all_within c at =
    changes_within (at + length (payload_of c)) (at + 12) c.changes
    (omega (arith, ap length (count_first c), length-append (stamp c ++ count c) (changes c)))
