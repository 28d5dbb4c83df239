-- A version less, over plain lists.
use Rattle.std.proofs.Common.{◌≡◌, ℕ, zero, suc, ◌+◌, ◌-◌, ◌<◌, ◌≤◌, ◌⊎◌, inl, inr, cond, Bool, true, false}
use Rattle.std.proofs.Common.{List, [], ◌∷◌, ◌++◌, length, map, take, drop, set, get_or, IsTrue, refl}
use Rattle.std.proofs.Common.{sym, subst, ap, ◌∙◌, arith}
use Rattle.std.proofs.lemmas.Bool.{and_parts, and_from, or_cases, or_left, or_right, eqb-true, eqb-false, eq-eqb}
use Rattle.std.proofs.lemmas.Bool.{leb-true, le-leb, lt-ltb}
use native.Mathlib.Numerals.{unary_clauses}
use Rattle.std.proofs.lemmas.List.{take-map, length-map, take_all, take-append-le}
use Rattle.std.specs.Prelude.{◌&&◌, nat_le, nat_eq}
use Rattle.std.specs.List.{list_all}
use Rattle.wh_version.specs.declared.lasting.Lasting.{Lasting}
use Rattle.wh_version.specs.declared.mark.VersionMark.{VersionMark}
use Rattle.wh_version.specs.Lasting.{stands_at, standing_at, partitions_in, numbered_from, count_to, is_gone_by}
use Rattle.wh_version.specs.Lasting.{is_standing, stands_again, version_by, versions_by}
use Rattle.wh_version.specs.Lists.{shortened}
use Rattle.wh_version.proofs.Last.{get_or_any}
use Rattle.wh_version.proofs.Parted.{same_standing}
use Rattle.wh_version.proofs.Pushed.{count_within}

-- one more of a list is changed in place
pub changed_more : {X : Type 0} (f : X → X) (xs : List X) (i : ℕ) (x : X) → i < length xs
    → x ≡ get_or (map f (take i xs) ++ drop i xs) i x
    → set (map f (take i xs) ++ drop i xs) i (f x) ≡ map f (take (i + 1) xs) ++ drop (i + 1) xs
changed_more f [] i x within is = absurd (omega arith)
changed_more f (y ∷ xs) zero x within is = ap (λ z. f z ∷ xs) is
changed_more f (y ∷ xs) (suc i) x within is =
    simp unary_clauses (ap (λ l. f y ∷ l) (simp unary_clauses at (changed_more f xs i x (omega arith) is)))

pub take_exactly : {X : Type 0} (n : ℕ) (xs ys : List X) → n ≡ length xs → take n (xs ++ ys) ≡ xs
take_exactly n xs ys all = take-append-le n xs ys (omega arith) ∙ take_all n xs (omega arith)

-- ---- at the places before, the same stand

pub again_filed : (place : ℕ) (k : Lasting) → (stands_again place k).filed ≡ k.filed
again_filed place k = pick (nat_eq k.until place)
  where
    pick : (b : Bool) → (cond b (record k { until = 18446744073709551615 }) k).filed ≡ k.filed
    pick true = refl
    pick false = refl

again_stands : (early place : ℕ) (k : Lasting) → early < place → place < 18446744073709551615
    → stands_at early (stands_again place k) ≡ stands_at early k
again_stands early place k before within = pick (nat_eq k.until place) refl
  where
    pick : (b : Bool) → nat_eq k.until place ≡ b
        → stands_at early (cond b (record k { until = 18446744073709551615 }) k) ≡ stands_at early k
    pick true is =
        let here : k.until ≡ place = eqb-true k.until place is in
        lt-ltb early 18446744073709551615 (omega arith) ∙ sym (lt-ltb early k.until (omega arith))
    pick false is = refl

-- ---- the versions that are left

take_less : {X : Type 0} (n m : ℕ) (xs : List X) → n ≤ m → take n (take m xs) ≡ take n xs
take_less zero m xs less = refl
take_less (suc n) zero xs less = absurd (omega arith)
take_less (suc n) (suc m) [] less = refl
take_less (suc n) (suc m) (x ∷ xs) less = ap (λ l. x ∷ l) (take_less n m xs (omega arith))

pub versions_left : (last count : ℕ) (kept : List Lasting) (place least : ℕ) (marks : List VersionMark)
    → last < 18446744073709551615 → place + length marks ≤ last → IsTrue (count_to least marks count)
    → versions_by (map (stands_again last) (take count kept)) place marks ≡ versions_by kept place marks
versions_left last count kept place least [] within places counts = refl
versions_left last count kept place least (m ∷ marks) within places counts =
    let parts = and_parts (nat_le least m.partitions) (count_to m.partitions marks count) counts in
    let few = count_within m.partitions marks count parts.1 in
    let content = ap (standing_at place) (take-map (stands_again last) m.partitions (take count kept)
    ∙ ap (map (stands_again last)) (take_less m.partitions count kept few))
    ∙ same_standing place (stands_again last) (λ k. again_stands place last k (omega arith) within)
    (again_filed last) (take m.partitions kept) in
    let rest = versions_left last count kept (place + 1) m.partitions marks within (omega arith) parts.1 in
    λ i. record { stamp = m.stamp; data_timestamp = m.data_timestamp; content = content i } ∷ rest i

versions_taken : (kept : List Lasting) (place n : ℕ) (marks : List VersionMark)
    → take n (versions_by kept place marks) ≡ versions_by kept place (take n marks)
versions_taken kept place zero marks = refl
versions_taken kept place (suc n) [] = refl
versions_taken kept place (suc n) (m ∷ marks) =
    ap (λ l. version_by kept place m ∷ l) (versions_taken kept (place + 1) n marks)

length-versions_by : (kept : List Lasting) (place : ℕ) (marks : List VersionMark)
    → length (versions_by kept place marks) ≡ length marks
length-versions_by kept place [] = refl
length-versions_by kept place (m ∷ marks) = let rest = length-versions_by kept (place + 1) marks in omega arith

pub versions_shortened : (kept : List Lasting) (m : VersionMark) (marks : List VersionMark)
    → shortened (versions_by kept 0 (m ∷ marks)) ≡ versions_by kept 0 (m ∷ take (length marks - 1) marks)
versions_shortened kept m marks =
    ap (λ n. version_by kept 0 m ∷ take (n - 1) (versions_by kept 1 marks)) (length-versions_by kept 1 marks)
    ∙ ap (λ l. version_by kept 0 m ∷ l) (versions_taken kept 1 (length marks - 1) marks)

pub nexts_shortened : (f : VersionMark → ℕ) (m : VersionMark) (marks : List VersionMark)
    → shortened (map f (m ∷ marks)) ≡ map f (m ∷ take (length marks - 1) marks)
nexts_shortened f m marks =
    ap (λ n. f m ∷ take (n - 1) (map f marks)) (length-map marks f)
    ∙ ap (λ l. f m ∷ l) (take-map f (length marks - 1) marks)

-- ---- what always holds, after a pop

pub numbered_less : (place n next : ℕ) (kept : List Lasting) → IsTrue (numbered_from next (partitions_in kept))
    → IsTrue (numbered_from next (partitions_in (map (stands_again place) (take n kept))))
numbered_less place zero next kept numbers = refl
numbered_less place (suc n) next [] numbers = refl
numbered_less place (suc n) next (k ∷ kept) numbers =
    let parts = and_parts (nat_eq k.filed.partition.number next) (numbered_from (next + 1) (partitions_in kept))
    numbers in
    and_from _ _ (ap (λ f. nat_eq f.partition.number next) (again_filed place k) ∙ parts.0)
    (numbered_less place n (next + 1) kept parts.1)

alone : (least total : ℕ) (m : VersionMark) (marks : List VersionMark) → IsTrue (count_to least (m ∷ marks) total)
    → IsTrue (nat_le least m.partitions && nat_eq m.partitions m.partitions) × (m.partitions ≤ total)
alone least total m marks counts =
    let parts = and_parts (nat_le least m.partitions) (count_to m.partitions marks total) counts in
    (and_from _ _ parts.0 (eq-eqb m.partitions m.partitions refl), count_within m.partitions marks total parts.1)

-- the marks that are left count as many as the last of them
pub count_less : (least n total : ℕ) (m : VersionMark) (marks : List VersionMark)
    → IsTrue (count_to least (m ∷ marks) total)
    → IsTrue (count_to least (m ∷ take n marks) (get_or (m ∷ take n marks) (length (take n marks)) m).partitions)
    × ((get_or (m ∷ take n marks) (length (take n marks)) m).partitions ≤ total)
count_less least zero total m marks counts = alone least total m marks counts
count_less least (suc n) total m [] counts = alone least total m [] counts
count_less least (suc n) total m (k ∷ marks) counts =
    let parts = and_parts (nat_le least m.partitions) (count_to m.partitions (k ∷ marks) total) counts in
    let rest = count_less m.partitions n total k marks parts.1 in
    let P : VersionMark → Type 0 =
    λ last. IsTrue (count_to m.partitions (k ∷ take n marks) last.partitions) × (last.partitions ≤ total) in
    let here = subst P (get_or_any k (take n marks) m) rest in
    (and_from _ _ parts.0 here.0, here.1)

pub gone_less : (last : ℕ) (kept : List Lasting) (n : ℕ) → 0 < last → IsTrue (list_all (is_gone_by last) kept)
    → IsTrue (list_all (is_gone_by (last - 1)) (map (stands_again last) (take n kept)))
gone_less last kept zero some gone = refl
gone_less last [] (suc n) some gone = refl
gone_less last (k ∷ kept) (suc n) some gone =
    let parts = and_parts (is_gone_by last k) (list_all (is_gone_by last) kept) gone in
    and_from _ _ (one_less (nat_eq k.until last) refl (or_cases _ _ parts.0)) (gone_less last kept n some parts.1)
  where
    one_less : (b : Bool) → nat_eq k.until last ≡ b → (nat_le k.until last ≡ true) ⊎ (is_standing k ≡ true)
        → is_gone_by (last - 1) (cond b (record k { until = 18446744073709551615 }) k) ≡ true
    one_less true is gone = or_right _ _ refl
    one_less false is (inl early) =
        let here : k.until ≤ last = leb-true k.until last early in
        let other : k.until ≡ last → ⊥ = eqb-false k.until last is in
        or_left _ _ (le-leb k.until (last - 1) (omega arith))
    one_less false is (inr still) = or_right _ _ still
