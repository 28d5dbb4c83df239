-- The bytes of listed items, counted one item after the other.
--     left_more, left_none     the bytes of the items that are left: with a further one, and at the end
use Rattle.std.proofs.Common.{◌≡◌, ℕ, ◌+◌, ◌<◌, ◌≤◌, List, length, map, get_or, drop, sym, ap, ◌∙◌, length-append}
use Rattle.std.specs.List.{flat_map}
use Rattle.std.proofs.lemmas.List.{at_drop_more, at_drop_all}
use Rattle.std.proofs.lemmas.List.Concat.{flat_map-cons}

module _ {A X : Type 0} (f : X → List ℕ) (g : A → X) (xs : List A) (i : ℕ) where
  pub left_more : (x : A) → i < length xs → x ≡ get_or xs i x
      → length (flat_map f (map g (drop i xs)))
      ≡ length (f (g x)) + length (flat_map f (map g (drop (i + 1) xs)))
  left_more x within is =
      at_drop_more (λ ys. length (flat_map f (map g ys))) xs i x within
      ∙ ap length (flat_map-cons f (g (get_or xs i x)) (map g (drop (i + 1) xs)))
      ∙ length-append (f (g (get_or xs i x))) (flat_map f (map g (drop (i + 1) xs)))
      ∙ ap (λ (y : A). length (f (g y)) + length (flat_map f (map g (drop (i + 1) xs)))) (sym is)

  pub left_none : length xs ≤ i → length (flat_map f (map g (drop i xs))) ≡ 0
  left_none past = at_drop_all (λ ys. length (flat_map f (map g ys))) xs i past
