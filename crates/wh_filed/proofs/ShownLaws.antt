-- Partitions one behind the other.
--     all_append                    what holds of some and of others holds of all
--     all_front, all_behind         and what holds of all holds of the ones, and of the others
--     shown_append, shown_front, shown_behind     so does what is told of them
use Rattle.std.specs.Prelude.{ℕ, List, [], ◌∷◌, ◌++◌, Option}
use Rattle.std.specs.List.{AllByRecursion}
use Rattle.wh_filed.specs.Filed.{Filed, IsShown, AllShown}

module _ (P : Filed → Type 0) where
  pub all_append : (xs ys : List Filed) → AllByRecursion P xs → AllByRecursion P ys → AllByRecursion P (xs ++ ys)
  all_append [] ys all more = more
  all_append (x ∷ xs) ys all more = (all.0, all_append xs ys all.1 more)

  pub all_front : (xs ys : List Filed) → AllByRecursion P (xs ++ ys) → AllByRecursion P xs
  all_front [] ys all = tt
  all_front (x ∷ xs) ys all = (all.0, all_front xs ys all.1)

  pub all_behind : (xs ys : List Filed) → AllByRecursion P (xs ++ ys) → AllByRecursion P ys
  all_behind [] ys all = all
  all_behind (x ∷ xs) ys all = all_behind xs ys all.1

module _ (told : Option (List ℕ)) where
  pub shown_append : (xs ys : List Filed) → AllShown told xs → AllShown told ys → AllShown told (xs ++ ys)
  shown_append = all_append (IsShown told)

  pub shown_front : (xs ys : List Filed) → AllShown told (xs ++ ys) → AllShown told xs
  shown_front = all_front (IsShown told)

  pub shown_behind : (xs ys : List Filed) → AllShown told (xs ++ ys) → AllShown told ys
  shown_behind = all_behind (IsShown told)
