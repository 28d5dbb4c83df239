-- Lists that are made item by item, each by one of others.
--     mapped_next       what the items are, with one more
--     joined_next       lists of the items, one after the other, with that of one more
--     each_next         what holds of each partition of the file, with those of one more
--     among_next        partitions of the file, which stay among others
use Rattle.std.proofs.Common.{◌≡◌, ℕ, ◌+◌, ◌<◌, List, [], ◌∷◌, ◌++◌, map, length, take, get_or, sym, ap, subst}
use Rattle.std.proofs.Common.{◌∙◌}
use Rattle.std.proofs.lemmas.List.{map-append, take_more}
use Rattle.std.proofs.lemmas.List.Concat.{flat_map-append}
use Rattle.std.specs.List.{flat_map, AllByRecursion}
use Rattle.wh_filed.specs.Filed.{Filed, IsShown, AreAmong}
use Rattle.wh_filed.proofs.ShownLaws.{all_append}

-- the front of a list, with the item behind it
front : {B : Type 0} (bs : List B) (i : ℕ) (b d : B) → i < length bs → b ≡ get_or bs i d
    → take (i + 1) bs ≡ take i bs ++ b ∷ []
front bs i b d within is = take_more bs i d within ∙ ap (λ x. take i bs ++ x ∷ []) (sym is)

both : {X : Type 0} {xs ys zs ws : List X} → xs ≡ ys → zs ≡ ws → xs ++ zs ≡ ys ++ ws
both one other = λ i. one i ++ other i

module _ {A B X : Type 0} where
  pub mapped_next : (f : A → X) (g : B → X) (bs : List B) (i : ℕ) (xs new : List A) (a : A) (b d : B)
      → i < length bs → b ≡ get_or bs i d → new ≡ xs ++ a ∷ [] → map f xs ≡ map g (take i bs) → f a ≡ g b
      → map f new ≡ map g (take (i + 1) bs)
  mapped_next f g bs i xs new a b d within is pushed so_far here =
      ap (map f) pushed ∙ map-append f xs (a ∷ [])
      ∙ both so_far (ap (λ x. x ∷ []) here)
      ∙ sym (map-append g (take i bs) (b ∷ []))
      ∙ ap (map g) (sym (front bs i b d within is))

  pub joined_next : (f : A → List X) (g : B → List X) (bs : List B) (i : ℕ) (xs new : List A) (a : A) (b d : B)
      → i < length bs → b ≡ get_or bs i d → new ≡ xs ++ a ∷ [] → flat_map f xs ≡ flat_map g (take i bs) → f a ≡ g b
      → flat_map f new ≡ flat_map g (take (i + 1) bs)
  joined_next f g bs i xs new a b d within is pushed so_far here =
      ap (flat_map f) pushed ∙ flat_map-append f xs (a ∷ [])
      ∙ both so_far (ap (λ xs. xs ++ []) here)
      ∙ sym (flat_map-append g (take i bs) (b ∷ []))
      ∙ ap (flat_map g) (sym (front bs i b d within is))

pub each_next : {A : Type 0} (P : Filed → Type 0) (f : A → List Filed) (xs new : List A) (a : A) → new ≡ xs ++ a ∷ []
    → AllByRecursion P (flat_map f xs) → AllByRecursion P (f a)
    → AllByRecursion P (flat_map f new)
each_next P f xs new a pushed so_far here =
    let last : AllByRecursion P (f a ++ []) = all_append P (f a) [] here tt in
    subst (AllByRecursion P) (sym (ap (flat_map f) pushed ∙ flat_map-append f xs (a ∷ [])))
    (all_append P (flat_map f xs) (f a ++ []) so_far last)

pub among_next : {A : Type 0} (f : A → List Filed) (all : List Filed) (xs new : List A) (a : A)
    → new ≡ xs ++ a ∷ [] → AreAmong (flat_map f xs) all → AreAmong (f a) all
    → AreAmong (flat_map f new) all
among_next f all xs new a pushed so_far here told shown =
    each_next (IsShown told) f xs new a pushed (so_far told shown) (here told shown)
