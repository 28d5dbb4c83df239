-- Lemmas on the number that digits spell.
use Rattle.std.proofs.Common.{◌≡◌, ℕ, zero, suc, ◌+◌, ◌-◌, ◌*◌, ◌<◌, ◌≤◌, true, List, [], ◌∷◌, length, get_or, drop}
use Rattle.std.proofs.Common.{refl, ap, arith, add-one}
use Rattle.std.specs.List.{list_all}
use Rattle.std.proofs.lemmas.Bool.{and_parts}
use Rattle.std.proofs.lemmas.Bool.Decides.{nat_tests}
use Rattle.std.proofs.lemmas.List.{at_drop_more}
use Rattle.wh_grammar.specs.Bytes.{is_digit, number_behind}

-- the numbers of so many digits are below it
unfoldable pub limit : ℕ → ℕ
limit zero = 1
limit (suc n) = 10 * limit n

limit_more : (k n : ℕ) → limit n ≤ limit (k + n)
unfolding limit
limit_more zero n = let e : 0 + n ≡ n = omega arith in let same = ap limit e in omega (arith, same)
limit_more (suc k) n =
    let e : suc k + n ≡ suc (k + n) = omega arith in
    let same = ap limit e in
    let more = limit_more k n in
    omega (arith, more, same)

pub limit_few : (n : ℕ) → n ≤ 9 → limit n ≤ 1000000000
unfolding limit
limit_few n few =
    let e : (9 - n) + n ≡ 9 = omega arith in
    let more = limit_more (9 - n) n in
    let nine : limit ((9 - n) + n) ≡ 1000000000 = ap limit e in
    omega (arith, more, nine)

pub limit_next : (n : ℕ) → limit (n + 1) ≡ 10 * limit n
unfolding limit
limit_next n = rw add-one refl

pub digit_at : (digits : List ℕ) (i : ℕ) → i < length digits → list_all is_digit digits ≡ true
    → is_digit (get_or digits i 0) ≡ true
digit_at [] i below all = absurd (omega arith)
digit_at (d ∷ digits) zero below all = (and_parts (is_digit d) (list_all is_digit digits) all).0
digit_at (d ∷ digits) (suc i) below all =
    digit_at digits i (omega arith) (and_parts (is_digit d) (list_all is_digit digits) all).1

pub digit_bounds : (b : ℕ) → is_digit b ≡ true → (48 ≤ b) × (b ≤ 57)
digit_bounds b h = (grind (arith, nat_tests), grind (arith, nat_tests))

-- a turn of the loop
pub number_more : (digits : List ℕ) (n m i : ℕ) → i < length digits → m ≡ n * 10 + (get_or digits i 0 - 48)
    → number_behind m (drop (i + 1) digits) ≡ number_behind n (drop i digits)
number_more digits n m i h e =
    let same : 10 * n + (get_or digits i 0 - 48) ≡ m = omega arith in
    let turn = at_drop_more (number_behind n) digits i 0 h in
    grind (arith, turn, same)
