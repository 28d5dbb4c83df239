-- Partitions that are gone from a place on.
use Rattle.std.proofs.Common.{◌≡◌, ℕ, zero, suc, ◌+◌, ◌<◌, ◌≤◌, ◌⊎◌, inl, inr, cond, Bool, true, false, List, [], ◌∷◌}
use Rattle.std.proofs.Common.{length, map, filter, take, set, get_or, IsTrue, refl, sym, ap, ◌∙◌, arith}
use Rattle.std.proofs.lemmas.Bool.{and_parts, and_from, and_right, or_cases, or_left, or_right, cases_lt, eqb-true}
use Rattle.std.proofs.lemmas.Bool.{eq-eqb, ne_eqb, le-ltb, lt-ltb, leb-true, le-leb}
use Rattle.std.proofs.lemmas.List.{take-map, length-map}
use Rattle.std.specs.List.{list_all}
use Rattle.std.specs.Prelude.{nat_lt, nat_le, nat_eq, min, not, ◌&&◌, ◌||◌}
use Rattle.wh_frame.specs.Partition.{Partition}
use Rattle.wh_state.specs.Edits.{without, is_among}
use Rattle.wh_version.specs.declared.lasting.Lasting.{Lasting}
use Rattle.wh_version.specs.Lasting.{stands_at, standing_at, filed_in, partitions_in, numbered_from, part_one}
use Rattle.wh_version.specs.Lasting.{parted, is_gone_by, is_standing}

-- ---- the numbers stay

part_filed : (place number : ℕ) (k : Lasting) → (part_one place number k).filed ≡ k.filed
part_filed place number k = pick (nat_eq k.filed.partition.number number)
  where
    pick : (b : Bool) → (cond b (record k { until = min k.until place }) k).filed ≡ k.filed
    pick true = refl
    pick false = refl

pub one_filed : (place number : ℕ) (kept : List Lasting) → filed_in (map (part_one place number) kept) ≡ filed_in kept
one_filed place number [] = refl
one_filed place number (k ∷ kept) = let rest = one_filed place number kept in
    λ i. part_filed place number k i ∷ rest i

pub parted_filed : (place : ℕ) (numbers : List ℕ) (kept : List Lasting)
    → filed_in (parted place numbers kept) ≡ filed_in kept
parted_filed place [] kept = refl
parted_filed place (n ∷ numbers) kept = parted_filed place numbers (map (part_one place n) kept)
    ∙ one_filed place n kept

-- ---- one number, by its place in the list

abbrev gone_from : ℕ → Lasting → Lasting
gone_from place k = record k { until = min k.until place }

other_number : (place number : ℕ) (k : Lasting) → (k.filed.partition.number ≡ number → ⊥) → part_one place number k ≡ k
other_number place number k other =
    ap (λ b. cond b (record k { until = min k.until place }) k) (ne_eqb k.filed.partition.number number other)

that_number : (place number : ℕ) (k : Lasting) → k.filed.partition.number ≡ number
    → part_one place number k ≡ record k { until = min k.until place }
that_number place number k is =
    ap (λ b. cond b (record k { until = min k.until place }) k) (eq-eqb k.filed.partition.number number is)

-- a number that none has of those that are numbered from the next one on
abbrev pub IsOff : ℕ → ℕ → List Lasting → Type 0
IsOff number next kept = (number < next) ⊎ (next + length kept ≤ number)

pub off_rest : (number next : ℕ) (k : Lasting) (kept : List Lasting) → IsOff number next (k ∷ kept)
    → IsOff number (next + 1) kept
off_rest number next k kept (inl below) = inl (omega arith)
off_rest number next k kept (inr above) = inr (omega arith)

pub off_first : (number next : ℕ) (k : Lasting) (kept : List Lasting) → IsOff number next (k ∷ kept)
    → k.filed.partition.number ≡ next
    → k.filed.partition.number ≡ number
    → ⊥
off_first number next k kept (inl below) here e = omega arith
off_first number next k kept (inr above) here e = omega arith

pub not_there : (place next number : ℕ) (kept : List Lasting) → IsTrue (numbered_from next (partitions_in kept))
    → IsOff number next kept
    → map (part_one place number) kept ≡ kept
not_there place next number [] numbers off = refl
not_there place next number (k ∷ kept) numbers off =
    let here : k.filed.partition.number ≡ next = eqb-true k.filed.partition.number next (and_parts _ _ numbers).0 in
    let rest = not_there place (next + 1) number kept (and_parts _ _ numbers).1 (off_rest number next k kept off) in
    let same = other_number place number k (off_first number next k kept off here) in
    λ i. same i ∷ rest i

pub there : (place next i : ℕ) (kept : List Lasting) (k : Lasting) → IsTrue (numbered_from next (partitions_in kept))
    → i < length kept → k ≡ get_or kept i k
    → set kept i (record k { until = min k.until place }) ≡ map (part_one place (next + i)) kept
there place next i [] k numbers within is = absurd (omega arith)
there place next zero (x ∷ kept) k numbers within is =
    let here : x.filed.partition.number ≡ next = eqb-true x.filed.partition.number next (and_parts _ _ numbers).0 in
    let one = that_number place (next + 0) x (omega arith) in
    let rest = not_there place (next + 1) (next + 0) kept (and_parts _ _ numbers).1 (inl (omega arith)) in
    let here_one : record k { until = min k.until place } ≡ part_one place (next + 0) x =
    ap (gone_from place) is ∙ sym one in
    λ j. here_one j ∷ sym rest j
there place next (suc i) (x ∷ kept) k numbers within is =
    let here : x.filed.partition.number ≡ next = eqb-true x.filed.partition.number next (and_parts _ _ numbers).0 in
    let one = other_number place (next + suc i) x (λ e. omega arith) in
    let rest = there place (next + 1) i kept k (and_parts _ _ numbers).1 (omega arith) is in
    let number : next + 1 + i ≡ next + suc i = omega arith in
    λ j. sym one j ∷ (rest ∙ ap (λ n. map (part_one place n) kept) number) j

-- ---- which stand at the places before

still_before : (early place until : ℕ) → early < place → nat_lt early (min until place) ≡ nat_lt early until
still_before early place until before = by_cases (cases_lt early until)
  where
    by_cases : (early < until) ⊎ (until ≤ early) → nat_lt early (min until place) ≡ nat_lt early until
    by_cases (inl under) = lt-ltb early (min until place) (omega arith) ∙ sym (lt-ltb early until under)
    by_cases (inr over) = le-ltb early (min until place) (omega arith) ∙ sym (le-ltb early until over)

stands_before : (early place number : ℕ) (k : Lasting) → early < place
    → stands_at early (part_one place number k) ≡ stands_at early k
stands_before early place number k before = pick (nat_eq k.filed.partition.number number)
  where
    pick : (b : Bool) → stands_at early (cond b (record k { until = min k.until place }) k) ≡ stands_at early k
    pick true = still_before early place k.until before
    pick false = refl

-- what is shown of a list with one more in front
shown : (s : Bool) (k : Lasting) (kept : List Lasting)
    → partitions_in (cond s (k ∷ kept) kept) ≡ cond s (k.filed.partition ∷ partitions_in kept) (partitions_in kept)
shown true k kept = refl
shown false k kept = refl

-- the same stand, where each stands as before and is of the same partition
pub same_standing : (place : ℕ) (f : Lasting → Lasting) → ((k : Lasting) → stands_at place (f k) ≡ stands_at place k)
    → ((k : Lasting) → (f k).filed ≡ k.filed) → (kept : List Lasting)
    → standing_at place (map f kept) ≡ standing_at place kept
same_standing place f stands same [] = refl
same_standing place f stands same (k ∷ kept) =
    let rest = same_standing place f stands same kept in
    shown (stands_at place (f k)) (f k) (filter (stands_at place) (map f kept))
    ∙ (λ i. cond (stands k i) ((same k i).partition ∷ rest i) (rest i))
    ∙ sym (shown (stands_at place k) k (filter (stands_at place) kept))

pub parted_before : (early place count : ℕ) (numbers : List ℕ) (kept : List Lasting) → early < place
    → standing_at early (take count (parted place numbers kept)) ≡ standing_at early (take count kept)
parted_before early place count [] kept before = refl
parted_before early place count (n ∷ numbers) kept before =
    parted_before early place count numbers (map (part_one place n) kept) before
    ∙ ap (standing_at early) (take-map (part_one place n) count kept)
    ∙ same_standing early (part_one place n) (λ k. stands_before early place n k before) (part_filed place n)
    (take count kept)

-- ---- which stand at the place itself

and_true : (b : Bool) → b ≡ (b && true)
and_true true = refl
and_true false = refl

stands_there : (place number : ℕ) (k : Lasting)
    → stands_at place (part_one place number k)
    ≡ (stands_at place k && not (is_among k.filed.partition.number (number ∷ [])))
stands_there place number k = pick (nat_eq k.filed.partition.number number)
  where
    pick : (b : Bool)
        → stands_at place (cond b (record k { until = min k.until place }) k) ≡ (stands_at place k && not (b || false))
    pick true = le-ltb place (min k.until place) (omega arith) ∙ sym (and_right (stands_at place k) false refl)
    pick false = and_true (stands_at place k)

filtered : (test : Partition → Bool) (s : Bool) (k : Lasting) (kept : List Lasting)
    → filter test (partitions_in (cond s (k ∷ kept) kept))
    ≡ cond (s && test k.filed.partition) (k.filed.partition ∷ filter test (partitions_in kept))
    (filter test (partitions_in kept))
filtered test true k kept = refl
filtered test false k kept = refl

one_there : (place number : ℕ) (kept : List Lasting)
    → standing_at place (map (part_one place number) kept) ≡ without (number ∷ []) (standing_at place kept)
one_there place number [] = refl
one_there place number (k ∷ kept) =
    let rest = one_there place number kept in
    let parted : List Lasting = map (part_one place number) kept in
    shown (stands_at place (part_one place number k)) (part_one place number k) (filter (stands_at place) parted)
    ∙ (λ i. cond (stands_there place number k i) ((part_filed place number k i).partition ∷ rest i) (rest i))
    ∙ sym (filtered (λ p. not (is_among p.number (number ∷ []))) (stands_at place k) k (filter (stands_at place) kept))

filter_all : (ps : List Partition) → filter (λ p. true) ps ≡ ps
filter_all [] = refl
filter_all (p ∷ ps) = ap (λ l. p ∷ l) (filter_all ps)

not_both : (a b : Bool) → (not (a || false) && not b) ≡ not (a || b)
not_both true b = refl
not_both false b = refl

filter_more : (f g h : Partition → Bool) (p : Partition) (ps : List Partition) → (f p && g p) ≡ h p
    → filter g (cond (f p) (p ∷ ps) ps) ≡ cond (h p) (p ∷ filter g ps) (filter g ps)
filter_more f g h p ps both = pick (f p) refl
  where
    pick : (b : Bool) → f p ≡ b → filter g (cond b (p ∷ ps) ps) ≡ cond (h p) (p ∷ filter g ps) (filter g ps)
    pick true is = ap (λ b. cond b (p ∷ filter g ps) (filter g ps)) (ap (λ b. b && g p) (sym is) ∙ both)
    pick false is = ap (λ b. cond b (p ∷ filter g ps) (filter g ps)) (ap (λ b. b && g p) (sym is) ∙ both)

filter_twice : (f g h : Partition → Bool) → ((p : Partition) → (f p && g p) ≡ h p) → (ps : List Partition)
    → filter g (filter f ps) ≡ filter h ps
filter_twice f g h both [] = refl
filter_twice f g h both (p ∷ ps) =
    filter_more f g h p (filter f ps) (both p) ∙ ap (λ l. cond (h p) (p ∷ l) l) (filter_twice f g h both ps)

pub parted_there : (place : ℕ) (numbers : List ℕ) (kept : List Lasting)
    → standing_at place (parted place numbers kept) ≡ without numbers (standing_at place kept)
parted_there place [] kept = sym (filter_all (standing_at place kept))
parted_there place (n ∷ numbers) kept =
    parted_there place numbers (map (part_one place n) kept)
    ∙ ap (without numbers) (one_there place n kept)
    ∙ filter_twice (λ p. not (is_among p.number (n ∷ []))) (λ p. not (is_among p.number numbers))
    (λ p. not (is_among p.number (n ∷ numbers)))
    (λ p. not_both (nat_eq p.number n) (is_among p.number numbers)) (standing_at place kept)

-- ---- what holds of each

-- and later on
later : (last : ℕ) (k : Lasting) → is_gone_by last k ≡ true → is_gone_by (last + 1) k ≡ true
later last k gone = by_cases (or_cases _ _ gone)
  where
    by_cases : (nat_le k.until last ≡ true) ⊎ (is_standing k ≡ true) → is_gone_by (last + 1) k ≡ true
    by_cases (inl early) = let here : k.until ≤ last = leb-true k.until last early in
        or_left _ _ (le-leb k.until (last + 1) (omega arith))
    by_cases (inr still) = or_right _ _ still

pub all_later : (last : ℕ) (kept : List Lasting) → IsTrue (list_all (is_gone_by last) kept)
    → IsTrue (list_all (is_gone_by (last + 1)) kept)
all_later last [] gone = refl
all_later last (k ∷ kept) gone = let each = and_parts _ _ gone in
    and_from _ _ (later last k each.0) (all_later last kept each.1)

-- parting again changes nothing of it
one_still_gone : (last number : ℕ) (k : Lasting) → is_gone_by last k ≡ true
    → is_gone_by last (part_one last number k) ≡ true
one_still_gone last number k gone = pick (nat_eq k.filed.partition.number number)
  where
    pick : (b : Bool) → is_gone_by last (cond b (record k { until = min k.until last }) k) ≡ true
    pick true = or_left _ _ (le-leb (min k.until last) last (omega arith))
    pick false = gone

all_still_gone : (last number : ℕ) (kept : List Lasting) → IsTrue (list_all (is_gone_by last) kept)
    → IsTrue (list_all (is_gone_by last) (map (part_one last number) kept))
all_still_gone last number [] gone = refl
all_still_gone last number (k ∷ kept) gone =
    let each = and_parts _ _ gone in
    and_from _ _ (one_still_gone last number k each.0) (all_still_gone last number kept each.1)

pub parted_gone : (last : ℕ) (numbers : List ℕ) (kept : List Lasting) → IsTrue (list_all (is_gone_by last) kept)
    → IsTrue (list_all (is_gone_by last) (parted last numbers kept))
parted_gone last [] kept gone = gone
parted_gone last (n ∷ numbers) kept gone =
    parted_gone last numbers (map (part_one last n) kept) (all_still_gone last n kept gone)

pub length-parted : (place : ℕ) (numbers : List ℕ) (kept : List Lasting) →
    length (parted place numbers kept) ≡ length kept
length-parted place [] kept = refl
length-parted place (n ∷ numbers) kept = length-parted place numbers (map (part_one place n) kept)
    ∙ length-map kept (part_one place n)
