-- What is there where its parts are.
--     some_map, some_both       whether an image is there, and what is made of two parts
--     some_if, given_if         what is made of a part that is there under a condition
--     and_swap, and_pairs       conjunctions in another order
use Rattle.std.specs.Prelude.{◌≡◌, Bool, true, false, ◌&&◌, if◌then◌else◌, Option, Some, None}
use Rattle.std.specs.Prelude.{option_map, is_some, refl}
use Rattle.wh_meaning.specs.Scalar.{of_one, of_two}

pub some_map : {A B : Type 0} (f : A → B) (a : Option A) → is_some (option_map f a) ≡ is_some a
some_map f None = refl
some_map f (Some a) = refl

pub some_both : {A B C : Type 0} (f : A → B → C) (a : Option A) (b : Option B)
    → is_some (of_two (λ x y. Some (f x y)) a b) ≡ (is_some a && is_some b)
some_both f None b = refl
some_both f (Some a) None = refl
some_both f (Some a) (Some b) = refl

pub some_if : {A B : Type 0} (all : Bool) (f : A → Option B) (a : A)
    → is_some (of_one f (if all then Some a else None)) ≡ (all && is_some (f a))
some_if true f a = refl
some_if false f a = refl

pub given_if : {A B : Type 0} (all : Bool) (f : A → Option B) (a : A) (b : B)
    → of_one f (if all then Some a else None) ≡ Some b
    → f a ≡ Some b
given_if true f a b is = is
given_if false f a b is = cc

pub and_swap : (x y z : Bool) → (x && (y && z)) ≡ (y && (x && z))
and_swap true true z = refl
and_swap true false z = refl
and_swap false true z = refl
and_swap false false z = refl

pub and_pairs : (a b c d : Bool) → ((a && b) && (c && d)) ≡ ((a && c) && (b && d))
and_pairs true true c d = refl
and_pairs true false true d = refl
and_pairs true false false d = refl
and_pairs false b c d = refl
