-- Whether a partition of a number is among those that pass a test, as that they stand.
--     none_there       none is, where no partition has that number
--     one_there        the one at a place is exactly where it passes
use Rattle.std.proofs.Common.{◌≡◌, ℕ, zero, suc, ◌+◌, ◌<◌, inl, cond, Bool, true, false, List, [], ◌∷◌}
use Rattle.std.proofs.Common.{length, filter, get_or, IsTrue, refl, sym, ap, ◌∙◌, arith}
use Rattle.std.proofs.lemmas.Bool.{and_parts, eqb-true, eq-eqb, ne_eqb}
use Rattle.std.specs.Prelude.{◌||◌, nat_eq}
use Rattle.std.specs.List.{list_any}
use Rattle.wh_frame.specs.Partition.{Partition}
use Rattle.wh_version.specs.declared.lasting.Lasting.{Lasting}
use Rattle.wh_version.specs.Lasting.{partitions_in, numbered_from}
use Rattle.wh_version.proofs.Parted.{IsOff, off_rest, off_first}

abbrev has_number : ℕ → Partition → Bool
has_number number p = nat_eq number p.number

-- one of another number makes no difference
passed_over : (number : ℕ) (k : Lasting) (kept : List Lasting) → (number ≡ k.filed.partition.number → ⊥) → (s : Bool)
    → list_any (has_number number) (partitions_in (cond s (k ∷ kept) kept))
    ≡ list_any (has_number number) (partitions_in kept)
passed_over number k kept other true =
    ap (λ b. b || list_any (has_number number) (partitions_in kept)) (ne_eqb number k.filed.partition.number other)
passed_over number k kept other false = refl

pub none_there : (test : Lasting → Bool) (number next : ℕ) (kept : List Lasting)
    → IsTrue (numbered_from next (partitions_in kept)) → IsOff number next kept
    → list_any (has_number number) (partitions_in (filter test kept)) ≡ false
none_there test number next [] numbers off = refl
none_there test number next (k ∷ kept) numbers off =
    let parts = and_parts (nat_eq k.filed.partition.number next) (numbered_from (next + 1) (partitions_in kept))
    numbers in
    let here : k.filed.partition.number ≡ next = eqb-true k.filed.partition.number next parts.0 in
    passed_over number k (filter test kept) (λ e. off_first number next k kept off here (sym e)) (test k)
    ∙ none_there test number (next + 1) kept parts.1 (off_rest number next k kept off)

found_first : (number : ℕ) (k : Lasting) (kept : List Lasting) → number ≡ k.filed.partition.number
    → list_any (has_number number) (partitions_in kept) ≡ false → (s : Bool)
    → list_any (has_number number) (partitions_in (cond s (k ∷ kept) kept)) ≡ s
found_first number k kept is none true =
    ap (λ b. b || list_any (has_number number) (partitions_in kept)) (eq-eqb number k.filed.partition.number is)
found_first number k kept is none false = none

pub one_there : (test : Lasting → Bool) (next i : ℕ) (kept : List Lasting) (k : Lasting)
    → IsTrue (numbered_from next (partitions_in kept)) → i < length kept → k ≡ get_or kept i k
    → list_any (has_number (next + i)) (partitions_in (filter test kept)) ≡ test k
one_there test next i [] k numbers within is = absurd (omega arith)
one_there test next zero (x ∷ kept) k numbers within is =
    let parts = and_parts (nat_eq x.filed.partition.number next) (numbered_from (next + 1) (partitions_in kept))
    numbers in
    let here : x.filed.partition.number ≡ next = eqb-true x.filed.partition.number next parts.0 in
    found_first (next + 0) x (filter test kept) (omega arith)
    (none_there test (next + 0) (next + 1) kept parts.1 (inl (omega arith))) (test x) ∙ ap test (sym is)
one_there test next (suc i) (x ∷ kept) k numbers within is =
    let parts = and_parts (nat_eq x.filed.partition.number next) (numbered_from (next + 1) (partitions_in kept))
    numbers in
    let here : x.filed.partition.number ≡ next = eqb-true x.filed.partition.number next parts.0 in
    let number : next + suc i ≡ next + 1 + i = omega arith in
    passed_over (next + suc i) x (filter test kept) (λ e. omega arith) (test x)
    ∙ ap (λ n. list_any (has_number n) (partitions_in (filter test kept))) number
    ∙ one_there test (next + 1) i kept k parts.1 (omega arith) is
