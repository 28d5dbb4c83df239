-- Lemmas on the number that digits spell.
use Rattle.std.proofs.Common.{◌≡◌, ℕ, ◌+◌, ◌-◌, ◌*◌, ◌<◌, ◌≤◌, true, false, ◌&&◌, cond, List, [], ◌∷◌, length, get_or}
use Rattle.std.proofs.Common.{drop, ltb, Some, None, refl, ◌∙◌, arith}
use Rattle.std.specs.List.{list_all}
use Rattle.std.proofs.lemmas.Bool.Decides.{nat_tests}
use Rattle.std.proofs.lemmas.List.{at_drop_more, at_drop_all}
use Rattle.wh_grammar.specs.Bytes.{is_digit, number_behind}
use Rattle.wh_lex.specs.Front.{number_from}

number_behind-le : (n : ℕ) (bytes : List ℕ) → n ≤ number_behind n bytes
number_behind-le n [] = omega arith
number_behind-le n (b ∷ bytes) = omega (arith, number_behind-le (10 * n + (b - 48)) bytes)

abbrev limit : ℕ
limit = 1000000000000000000

-- past 18 digits there is no number, whatever follows
pub number_from-large : (n : ℕ) (bytes : List ℕ) → limit ≤ n → number_from n bytes ≡ None
unfolding number_from
number_from-large n bytes h =
    let low = number_behind-le n bytes in
    let e : ltb (number_behind n bytes) limit ≡ false = grind (arith, nat_tests) in
    elim (list_all is_digit bytes)
    as (λ r. cond (r && ltb (number_behind n bytes) limit) (Some (number_behind n bytes)) None ≡ None)
    [ true ↦ rw e refl | false ↦ refl ]

pub number_from-end : (n : ℕ) → n < limit → number_from n [] ≡ Some n
unfolding number_from
number_from-end n h = let e : ltb n limit ≡ true = grind (arith, nat_tests) in rw e refl

pub number_from-digit : (n b m : ℕ) (bytes : List ℕ) → is_digit b ≡ true → m ≡ n * 10 + (b - 48)
    → number_from n (b ∷ bytes) ≡ number_from m bytes
unfolding number_from
number_from-digit n b m bytes h e =
    let same : 10 * n + (b - 48) ≡ m = omega arith in
    simp (h, same)

pub number_from-other : (n b : ℕ) (bytes : List ℕ) → is_digit b ≡ false → number_from n (b ∷ bytes) ≡ None
unfolding number_from
number_from-other n b bytes h = simp h

-- a turn of the loop over the digits
pub number_from-more : (digits : List ℕ) (n m i : ℕ) → i < length digits → is_digit (get_or digits i 0) ≡ true
    → m ≡ n * 10 + (get_or digits i 0 - 48)
    → number_from n (drop i digits) ≡ number_from m (drop (i + 1) digits)
number_from-more digits n m i h digit e = at_drop_more (number_from n) digits i 0 h
    ∙ number_from-digit n (get_or digits i 0) m _ digit e

pub number_from-stop : (digits : List ℕ) (n i : ℕ) → i < length digits → is_digit (get_or digits i 0) ≡ false
    → number_from n (drop i digits) ≡ None
number_from-stop digits n i h other = at_drop_more (number_from n) digits i 0 h
    ∙ number_from-other n (get_or digits i 0) _ other

pub number_from-all : (digits : List ℕ) (n i : ℕ) → length digits ≤ i → n < limit
    → number_from n (drop i digits) ≡ Some n
number_from-all digits n i h small = at_drop_all (number_from n) digits i h ∙ number_from-end n small
