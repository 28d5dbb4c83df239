-- Lemmas on words.
use Rattle.std.proofs.Common.{◌≡◌, ℕ, ◌||◌, ◌==◌, Bool, true, false, List, [], ◌∷◌, length, filter, map}
use Rattle.std.proofs.Common.{refl, sym, ap, ◌∙◌}
use Rattle.std.proofs.Common.{Decides, bytes_eq}
use Rattle.std.proofs.lemmas.Bool.{eqb-false}
use Rattle.std.proofs.lemmas.Slice.Eq.{bytes_eq-Decides}
use Rattle.std.specs.List.{list_any}
use Rattle.std.specs.Cmp.Lexicographic.{nat_list_eq_equiv}
use Rattle.wh_grammar.specs.Words.{is_reserved, reserved_words}

pub any_map : {X Y : Type 0} (f : Y → Bool) (g : X → Y) (xs : List X)
    → list_any (λ x. f (g x)) xs ≡ list_any f (map g xs)
any_map f g [] = refl
any_map f g (x ∷ xs) = ap (λ others. f (g x) || others) (any_map f g xs)

flipped : (word : List ℕ) (words : List (List ℕ))
    → list_any (λ y. bytes_eq y word) words ≡ list_any (bytes_eq word) words
flipped word [] = refl
flipped word (y ∷ words) = λ i. nat_list_eq_equiv.symm y word i || flipped word words i

differs : {P : Type 0} (r : Bool) → Decides r P → (P → ⊥) → r ≡ false
differs true same apart = absurd (apart (same.0 refl))
differs false same apart = refl

as_long_cases : (word x : List ℕ) (words : List (List ℕ)) (v : Bool) → (length x == length word) ≡ v
    → list_any (bytes_eq word) words ≡ list_any (bytes_eq word) (filter (λ x. length x == length word) words)
    → list_any (bytes_eq word) (x ∷ words)
    ≡ list_any (bytes_eq word) (filter (λ x. length x == length word) (x ∷ words))
as_long_cases word x words true e again = rw e (ap (λ others. bytes_eq word x || others) again)
as_long_cases word x words false e again =
    let other : bytes_eq word x ≡ false =
    differs (bytes_eq word x) (bytes_eq-Decides word x)
    (λ same. eqb-false (length x) (length word) e (ap length (sym same))) in
    rw (e, other) again

-- a word is none of those of another length
as_long : (word : List ℕ) (words : List (List ℕ))
    → list_any (bytes_eq word) words ≡ list_any (bytes_eq word) (filter (λ x. length x == length word) words)
as_long word [] = refl
as_long word (x ∷ words) = as_long_cases word x words (length x == length word) refl (as_long word words)

pub is_reserved-flipped : (word : List ℕ)
    → list_any (λ y. bytes_eq y word) (filter (λ x. length x == length word) reserved_words) ≡ is_reserved word
unfolding is_reserved
is_reserved-flipped word =
    flipped word (filter (λ x. length x == length word) reserved_words) ∙ sym (as_long word reserved_words)
