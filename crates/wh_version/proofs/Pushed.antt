-- A version more, over plain lists.
use Rattle.std.proofs.Common.{◌≡◌, ℕ, ◌+◌, ◌<◌, ◌≤◌, cond, true, List, [], ◌∷◌, ◌++◌, length, map, filter}
use Rattle.std.proofs.Common.{take, IsTrue, refl, subst, ap, ◌∙◌, arith}
use Rattle.std.proofs.lemmas.Bool.{and_parts, and_from, or_right, eqb-true, eq-eqb, leb-true, le-leb, lt-ltb}
use Rattle.std.proofs.lemmas.List.{take-append-le, take_all, map-append}
use Rattle.std.proofs.lemmas.List.Folds.{list_all-append}
use Rattle.std.specs.Prelude.{nat_lt, nat_le}
use Rattle.std.specs.List.{list_all}
use Rattle.wh_frame.specs.Partition.{Partition}
use Rattle.wh_state.specs.Commit.{NumberedFrom}
use Rattle.wh_state.specs.Edits.{without}
use Rattle.wh_version.specs.declared.lasting.Lasting.{Lasting}
use Rattle.wh_version.specs.declared.mark.VersionMark.{VersionMark}
use Rattle.wh_filed.specs.Filed.{Filed, partitions_filed}
use Rattle.wh_version.specs.Lasting.{stands_at, standing_at, filed_in, partitions_in, numbered_from, count_to}
use Rattle.wh_version.specs.Lasting.{is_gone_by, fresh, parted, version_by, versions_by}
use Rattle.wh_version.proofs.Kept.{length_partitions, standing_append}
use Rattle.wh_version.proofs.Parted.{parted_before, parted_there, parted_filed, length-parted}

-- ---- lists

fresh_stand : (place : ℕ) (fs : List Filed) → place < 18446744073709551615
    → standing_at place (map fresh fs) ≡ partitions_filed fs
fresh_stand place [] within = refl
fresh_stand place (f ∷ fs) within =
    let stands : nat_lt place 18446744073709551615 ≡ true = lt-ltb place 18446744073709551615 within in
    let rest = fresh_stand place fs within in
    ap (λ b. partitions_in
    (cond b (fresh f ∷ filter (stands_at place) (map fresh fs)) (filter (stands_at place) (map fresh fs)))) stands
    ∙ ap (λ l. f.partition ∷ l) rest

pub fresh_filed : (fs : List Filed) → filed_in (map fresh fs) ≡ fs
fresh_filed [] = refl
fresh_filed (f ∷ fs) = ap (λ l. f ∷ l) (fresh_filed fs)

-- ---- the versions before

pub count_within : (least : ℕ) (marks : List VersionMark) (total : ℕ) → IsTrue (count_to least marks total)
    → least ≤ total
count_within least [] total counts = let here : least ≡ total = eqb-true least total counts in omega arith
count_within least (m ∷ marks) total counts =
    let parts = and_parts _ _ counts in
    let here : least ≤ m.partitions = leb-true least m.partitions parts.0 in
    let rest = count_within m.partitions marks total parts.1 in
    omega arith

versions_before : (last : ℕ) (numbers : List ℕ) (kept more : List Lasting) (place least : ℕ) (marks : List VersionMark)
    → place + length marks ≤ last → IsTrue (count_to least marks (length kept))
    → versions_by (parted last numbers kept ++ more) place marks ≡ versions_by kept place marks
versions_before last numbers kept more place least [] within counts = refl
versions_before last numbers kept more place least (m ∷ marks) within counts =
    let parts = and_parts (nat_le least m.partitions) (count_to m.partitions marks (length kept)) counts in
    let few = count_within m.partitions marks (length kept) parts.1 in
    let size = length-parted last numbers kept in
    let front : take m.partitions (parted last numbers kept ++ more) ≡ take m.partitions (parted last numbers kept) =
    take-append-le m.partitions (parted last numbers kept) more (omega arith) in
    let content = ap (standing_at place) front ∙ parted_before place last m.partitions numbers kept (omega arith) in
    let rest = versions_before last numbers kept more (place + 1) m.partitions marks (omega arith) parts.1 in
    λ i. record { stamp = m.stamp; data_timestamp = m.data_timestamp; content = content i } ∷ rest i

versions_more : (kept : List Lasting) (place : ℕ) (marks : List VersionMark) (m : VersionMark)
    → versions_by kept place (marks ++ m ∷ []) ≡ versions_by kept place marks
    ++ version_by kept (place + length marks) m ∷ []
versions_more kept place [] m = ap (λ n. version_by kept n m ∷ []) (omega arith)
versions_more kept place (n ∷ marks) m =
    ap (λ l. version_by kept place n ∷ l)
    (versions_more kept (place + 1) marks m
    ∙ ap (λ k. versions_by kept (place + 1) marks ++ version_by kept k m ∷ []) (omega arith))

-- ---- the version that is pushed

pub content_pushed : (last : ℕ) (numbers : List ℕ) (kept : List Lasting) (added : List Filed) (count : ℕ)
    → last < 18446744073709551615 → count ≡ length (parted last numbers kept ++ map fresh added)
    → standing_at last (take count (parted last numbers kept ++ map fresh added))
    ≡ without numbers (standing_at last kept) ++ partitions_filed added
content_pushed last numbers kept added count within all =
    ap (standing_at last) (take_all count (parted last numbers kept ++ map fresh added) (omega arith))
    ∙ standing_append last (parted last numbers kept) (map fresh added)
    ∙ (λ i. parted_there last numbers kept i ++ fresh_stand last added within i)

-- marks that stand at the places before the last, and one at the last
pub versions_pushed : (last : ℕ) (numbers : List ℕ) (kept : List Lasting) (added : List Filed)
    (marks : List VersionMark) (m : VersionMark)
    → last < 18446744073709551615 → length marks ≡ last → IsTrue (count_to 0 marks (length kept))
    → m.partitions ≡ length (parted last numbers kept ++ map fresh added)
    → versions_by (parted last numbers kept ++ map fresh added) 0 (marks ++ m ∷ [])
    ≡ versions_by kept 0 marks ++ (record {
      stamp = m.stamp;
      data_timestamp = m.data_timestamp;
      content = without numbers (standing_at last kept) ++ partitions_filed added;
    }) ∷ []
versions_pushed last numbers kept added marks m within places counts all =
    let whole : List Lasting = parted last numbers kept ++ map fresh added in
    let content = content_pushed last numbers kept added m.partitions within all in
    let before = versions_before last numbers kept (map fresh added) 0 0 marks (omega arith) counts in
    let place : 0 + length marks ≡ last = omega arith in
    versions_more whole 0 marks m
    ∙ ap (λ n. versions_by whole 0 marks ++ version_by whole n m ∷ []) place
    ∙ (λ i. before i ++ (record { stamp = m.stamp; data_timestamp = m.data_timestamp; content = content i }) ∷ [])

-- ---- what always holds, after a push

numbered_more : (next : ℕ) (ps qs : List Partition) → IsTrue (numbered_from next ps)
    → NumberedFrom (next + length ps) qs
    → IsTrue (numbered_from next (ps ++ qs))
numbered_more next [] [] numbers more = refl
numbered_more next [] (q ∷ qs) numbers more =
    let P : ℕ → Type 0 = λ n. NumberedFrom n qs in
    and_from _ _ (eq-eqb q.number next (more.0 ∙ omega arith))
    (numbered_more (next + 1) [] qs refl (subst P (omega arith) more.1))
numbered_more next (p ∷ ps) qs numbers more =
    let parts = and_parts _ _ numbers in
    let P : ℕ → Type 0 = λ n. NumberedFrom n qs in
    and_from _ _ parts.0 (numbered_more (next + 1) ps qs parts.1 (subst P (omega arith) more))

-- those that there were, gone or not, and those that are added
pub more_filed : (last : ℕ) (numbers : List ℕ) (kept : List Lasting) (added : List Filed)
    → filed_in (parted last numbers kept ++ map fresh added) ≡ filed_in kept ++ added
more_filed last numbers kept added =
    map-append (λ k. k.filed) (parted last numbers kept) (map fresh added)
    ∙ (λ i. parted_filed last numbers kept i ++ fresh_filed added i)

pub more_partitions : (last : ℕ) (numbers : List ℕ) (kept : List Lasting) (added : List Filed)
    → partitions_in (parted last numbers kept ++ map fresh added) ≡ partitions_in kept ++ partitions_filed added
more_partitions last numbers kept added =
    ap partitions_filed (more_filed last numbers kept added) ∙ map-append (λ f. f.partition) (filed_in kept) added

pub still_numbered : (last : ℕ) (numbers : List ℕ) (kept : List Lasting) (added : List Filed)
    → IsTrue (numbered_from 1 (partitions_in kept)) → NumberedFrom (length kept + 1) (partitions_filed added)
    → IsTrue (numbered_from 1 (partitions_in (parted last numbers kept ++ map fresh added)))
still_numbered last numbers kept added numbered more =
    let count = length_partitions kept in
    let P : ℕ → Type 0 = λ n. NumberedFrom n (partitions_filed added) in
    ap (numbered_from 1) (more_partitions last numbers kept added)
    ∙ numbered_more 1 (partitions_in kept) (partitions_filed added) numbered (subst P (omega arith) more)

pub still_count : (least : ℕ) (marks : List VersionMark) (m : VersionMark) (total : ℕ)
    → IsTrue (count_to least marks total) → total ≤ m.partitions
    → IsTrue (count_to least (marks ++ m ∷ []) m.partitions)
still_count least [] m total counts more =
    let here : least ≡ total = eqb-true least total counts in
    and_from _ _ (le-leb least m.partitions (omega arith)) (eq-eqb m.partitions m.partitions refl)
still_count least (n ∷ marks) m total counts more =
    let parts = and_parts _ _ counts in
    and_from _ _ parts.0 (still_count n.partitions marks m total parts.1 more)

fresh_gone : (last : ℕ) (fs : List Filed) → IsTrue (list_all (is_gone_by last) (map fresh fs))
fresh_gone last [] = refl
fresh_gone last (f ∷ fs) = and_from _ _ (or_right _ _ refl) (fresh_gone last fs)

pub still_gone : (last : ℕ) (kept : List Lasting) (added : List Filed) → IsTrue (list_all (is_gone_by last) kept)
    → IsTrue (list_all (is_gone_by last) (kept ++ map fresh added))
still_gone last kept added gone =
    list_all-append (is_gone_by last) kept (map fresh added) ∙ and_from _ _ gone (fresh_gone last added)
