-- What stands in each version of a table is orderly.
use Rattle.std.proofs.Common.{◌≡◌, ℕ, zero, suc, ◌+◌, ◌≤◌, ◌^◌, Bool, true, false, cond, List, []}
use Rattle.std.proofs.Common.{◌∷◌, length, map, filter, take, IsTrue, refl, arith}
use Rattle.std.proofs.lemmas.Bool.{and_parts, and_from, eqb-true}
use Rattle.std.specs.Prelude.{nat_eq}
use Rattle.std.specs.List.{AllByRecursion, list_all}
use Rattle.wh_state.specs.Spelling.{NumbersRiseFrom}
use Rattle.wh_state.specs.Orderly.{IsOrderly, IsOrderlyVersion, IsOrderlyTable}
use Rattle.wh_version.specs.declared.lasting.Lasting.{Lasting}
use Rattle.wh_version.specs.declared.mark.VersionMark.{VersionMark}
use Rattle.wh_version.specs.Lasting.{partitions_in, numbered_from, stands_at, version_by, versions_by}
use Rattle.wh_version.specs.Lists.{behind}
use Rattle.wh_version.specs.History.{versions_of, marked_of, marks_of}
use Rattle.wh_table.specs.Apart.{is_apart, is_rising}
use Rattle.wh_table.specs.declared.table.StoredTable.{StoredTable}
use Rattle.wh_table.specs.Table.{kept_table, table_of}
use Rattle.wh_table.proofs.Apart.{Decides-all_apart}
use Rattle.wh_table.proofs.Rising.{all_rising}

-- the numbers of some of them rise, as all numbers do
numbers_rise : (keep : Lasting → Bool) (low next : ℕ) (kept : List Lasting) → low ≤ next
    → next + length kept ≤ 2 ^ 64 → IsTrue (numbered_from next (partitions_in kept))
    → NumbersRiseFrom low (map (λ p. p.number) (partitions_in (filter keep kept)))
numbers_rise keep low next [] under few numbers = tt
numbers_rise keep low next (k ∷ kept) under few numbers =
    let parts =
    and_parts (nat_eq k.filed.partition.number next) (numbered_from (next + 1) (partitions_in kept)) numbers in
    let here : k.filed.partition.number ≡ next = eqb-true k.filed.partition.number next parts.0 in
    pick (keep k) here (numbers_rise keep low (next + 1) kept (omega arith) (omega arith) parts.1)
    (numbers_rise keep (k.filed.partition.number + 1) (next + 1) kept (omega arith) (omega arith) parts.1)
  where
    pick : (s : Bool) → k.filed.partition.number ≡ next
        → NumbersRiseFrom low (map (λ p. p.number) (partitions_in (filter keep kept)))
        → NumbersRiseFrom (k.filed.partition.number + 1) (map (λ p. p.number) (partitions_in (filter keep kept)))
        → NumbersRiseFrom low
        (map (λ p. p.number) (partitions_in (cond s (k ∷ filter keep kept) (filter keep kept))))
    pick true here passed taken = (omega arith, omega arith, taken)
    pick false here passed taken = passed

-- ---- the first ones of all

front_numbered : (count next : ℕ) (kept : List Lasting) → IsTrue (numbered_from next (partitions_in kept))
    → IsTrue (numbered_from next (partitions_in (take count kept)))
front_numbered zero next kept numbers = refl
front_numbered (suc count) next [] numbers = refl
front_numbered (suc count) next (k ∷ kept) numbers =
    let parts =
    and_parts (nat_eq k.filed.partition.number next) (numbered_from (next + 1) (partitions_in kept)) numbers in
    and_from _ _ parts.0 (front_numbered count (next + 1) kept parts.1)

front_few : (count : ℕ) (kept : List Lasting) → length (take count kept) ≤ length kept
front_few zero kept = omega arith
front_few (suc count) [] = omega arith
front_few (suc count) (k ∷ kept) = let rest = front_few count kept in omega arith

version_numbers : (kept : List Lasting) (place : ℕ) (mark : VersionMark) → 1 + length kept ≤ 2 ^ 64
    → IsTrue (numbered_from 1 (partitions_in kept))
    → NumbersRiseFrom 0 (map (λ p. p.number) (version_by kept place mark).content)
version_numbers kept place mark few numbers =
    let fewer = front_few mark.partitions kept in
    numbers_rise (stands_at place) 0 1 (take mark.partitions kept) (omega arith) (omega arith)
    (front_numbered mark.partitions 1 kept numbers)

-- ---- each version

orderly_versions : (kept : List Lasting) (place : ℕ) (marks : List VersionMark) → 1 + length kept ≤ 2 ^ 64
    → IsTrue (numbered_from 1 (partitions_in kept)) → IsTrue (list_all is_apart (versions_by kept place marks))
    → IsTrue (list_all is_rising (versions_by kept place marks))
    → AllByRecursion IsOrderlyVersion (versions_by kept place marks)
orderly_versions kept place [] few numbers apart rising = tt
orderly_versions kept place (mark ∷ marks) few numbers apart rising =
    let content = (version_by kept place mark).content in
    let each_apart = and_parts _ _ apart in
    let each_rising = and_parts _ _ rising in
    let here : IsOrderly content = record {
      numbers = version_numbers kept place mark few numbers;
      rows = all_rising content each_rising.0;
      apart = (Decides-all_apart [] content).0 each_apart.0;
    } in
    (here, orderly_versions kept (place + 1) marks few numbers each_apart.1 each_rising.1)

pub orderly_table : (t : StoredTable) → IsOrderlyTable (table_of t)
unfolding kept_table versions_of
orderly_table t =
    let h = t.history in
    by_start h.starts_empty t.apart t.rising
  where
    by_start : (b : Bool) → IsTrue (list_all is_apart (behind b (marked_of t.history)))
        → IsTrue (list_all is_rising (behind b (marked_of t.history)))
        → AllByRecursion IsOrderlyVersion (behind b (marked_of t.history))
    by_start true apart rising =
        let h = t.history in
        let many = h.kept.ok.0 in
        orderly_versions h.kept.items 1 h.later.items (omega arith) h.numbers apart rising
    by_start false apart rising =
        let h = t.history in
        let many = h.kept.ok.0 in
        orderly_versions h.kept.items 0 (marks_of h) (omega arith) h.numbers apart rising
