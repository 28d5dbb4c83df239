-- Keys of groups.
--     position-map     the first of a list's images that passes a test
--     key_first        a part that is a key is the key's column
use Rattle.std.specs.Prelude.{◌≡◌, ℕ, Bool, List, [], ◌∷◌, Option, Some, None, map, cond, not, ◌+◌}
use Rattle.std.specs.List.{position, prefix_len}
use Rattle.std.proofs.Common.{refl, ap}
use Rattle.std.proofs.lemmas.List.{length-map}
use Rattle.wh_meaning.specs.Scalar.{Scalar, Const, Column, Neg, Add, Sub, Mul, Compare, And, Or, Not, IsNull}
use Rattle.wh_naming.specs.Grouping.{is_same, regrouped}

prefix_len-map : {A B : Type 0} (f : A → B) (test : B → Bool) (xs : List A)
    → prefix_len (λ x. test (f x)) xs ≡ prefix_len test (map f xs)
prefix_len-map f test [] = refl
prefix_len-map f test (x ∷ xs) = ap (λ n. cond (test (f x)) (1 + n) 0) (prefix_len-map f test xs)

pub position-map : {A B : Type 0} (f : A → B) (test : B → Bool) (xs : List A)
    → position (λ x. test (f x)) xs ≡ position test (map f xs)
position-map f test xs = rw (prefix_len-map f (λ y. not (test y)) xs, ← length-map xs f) refl

pub key_first : (keys : List Scalar) (width : ℕ) (part : Scalar) (place : ℕ) →
    position (is_same part) keys ≡ Some place →
    regrouped keys width part ≡ Some (Column place)
unfolding regrouped
key_first keys width (Const v) place e = rw e refl
key_first keys width (Column q) place e = rw e refl
key_first keys width (Neg a) place e = rw e refl
key_first keys width (Add a b) place e = rw e refl
key_first keys width (Sub a b) place e = rw e refl
key_first keys width (Mul a b) place e = rw e refl
key_first keys width (Compare c a b) place e = rw e refl
key_first keys width (And a b) place e = rw e refl
key_first keys width (Or a b) place e = rw e refl
key_first keys width (Not a) place e = rw e refl
key_first keys width (IsNull a) place e = rw e refl
