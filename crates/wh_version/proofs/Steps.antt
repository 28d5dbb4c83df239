-- A loop that appends what it makes of each element.
--     taken_on, none_left    one element further in what is left, and at the end
--     one_on, all_on         the same where what is left are the elements from a place on
use Rattle.std.proofs.Common.{◌≡◌, ℕ, ◌+◌, ◌<◌, ◌≤◌, List, [], ◌∷◌, ◌++◌, length, drop, get_or, sym, ap, ◌∙◌}
use Rattle.std.proofs.Common.{append_assoc, append-nil}
use Rattle.std.proofs.lemmas.List.{drop_more, drop_all}

module _ {X Y : Type 0} (one : X → List Y) (made : List X → List Y) where
  pub taken_on : ((x : X) (xs : List X) → made (x ∷ xs) ≡ one x ++ made xs)
      → (left : List X) (x : X) (rest : List X) (before after all : List Y) → left ≡ x ∷ rest
      → after ≡ before ++ one x → before ++ made left ≡ all
      → after ++ made rest ≡ all
  taken_on each left x rest before after all is more so_far =
      ap (λ l. l ++ made rest) more
      ∙ append_assoc before (one x) (made rest)
      ∙ ap (λ l. before ++ l) (sym (each x rest) ∙ ap made (sym is))
      ∙ so_far

  pub none_left : made [] ≡ [] → (left : List X) (before all : List Y) → left ≡ [] → before ++ made left ≡ all
      → before ≡ all
  none_left none left before all is so_far =
      sym (append-nil before) ∙ ap (λ l. before ++ l) (sym none ∙ ap made (sym is)) ∙ so_far

  pub one_on : ((x : X) (xs : List X) → made (x ∷ xs) ≡ one x ++ made xs)
      → (xs : List X) (i : ℕ) (x : X) (before after all : List Y) → i < length xs → x ≡ get_or xs i x
      → after ≡ before ++ one x → before ++ made (drop i xs) ≡ all
      → after ++ made (drop (i + 1) xs) ≡ all
  one_on each xs i x before after all within is =
      taken_on each (drop i xs) x (drop (i + 1) xs) before after all
      (drop_more xs i x within ∙ ap (λ y. y ∷ drop (i + 1) xs) (sym is))

  pub all_on : made [] ≡ [] → (xs : List X) (i : ℕ) (before all : List Y) → length xs ≤ i
      → before ++ made (drop i xs) ≡ all → before ≡ all
  all_on none xs i before all done = none_left none (drop i xs) before all (drop_all i xs done)
