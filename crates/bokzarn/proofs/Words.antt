-- The words behind the first, as an iterator gives them.
use Rattle.std.proofs.Common.{◌≡◌, ℕ, ◌+◌, List, [], ◌∷◌, ◌++◌, length, drop, Option, Some, None, MatchOption}
use Rattle.std.proofs.Common.{ap, rules, arith}

pub behind_first : {A : Type 0} (first : Option A) (all rest : List A) (count left : ℕ) → count ≡ length all
    → left ≡ length rest
    → MatchOption first ((count ≡ 0) × (left ≡ 0)) (λ x. (all ≡ x ∷ rest) × (left + 1 ≡ count))
    → drop 1 all ≡ rest
behind_first (Some x) all rest count left counted behind step = ap (drop 1) step.0
behind_first None [] [] count left counted behind step = search rules
behind_first None [] (x ∷ rest) count left counted behind step = absurd (grind arith)
behind_first None (x ∷ all) rest count left counted behind step = absurd (grind arith)

pub none_left : {A : Type 0} (words left : List A) {all : List A} (count : ℕ) → count ≡ length left → count ≡ 0
    → all ≡ words ++ left → words ≡ all
none_left words [] count counted none parts = search rules
none_left words (x ∷ left) count counted none parts = absurd (grind arith)
