-- Partitions that are among those of a table, each of them.
--     each_held       what holds of all of a table's holds of those among them
--     told_held       so does what is told of them
--     front_held      the first ones are among them
--     filtered_held   those that pass a test are
--     behind_held     so is what comes behind others of the first ones that pass it
--     left_held, right_held     what lies in front of others is among all, and so is what is among those behind
use Rattle.std.proofs.Common.{◌≡◌, ℕ, zero, suc, Bool, true, false, cond, List, [], ◌∷◌, ◌++◌, take, filter, Contains}
use Rattle.std.proofs.Common.{refl, sym, subst, arith}
use Rattle.std.specs.List.{AllByRecursion}
use Rattle.wh_filed.specs.Filed.{Filed, IsShown, AreAmong}
use Rattle.wh_filed.proofs.FilingLaws.{each_at}
use Rattle.wh_version.specs.declared.lasting.Lasting.{Lasting}
use Rattle.wh_version.specs.Lasting.{filed_in}

pub each_held : (P : Filed → Type 0) (some all : List Filed) → AllByRecursion (Contains all) some
    → AllByRecursion P all
    → AllByRecursion P some
each_held P [] all held each = tt
each_held P (f ∷ some) all held each = (
  subst P held.0.2 (each_at P all held.0.0 f each held.0.1),
  each_held P some all held.1 each,
)

pub told_held : (some all : List Filed) → AllByRecursion (Contains all) some → AreAmong some all
told_held some all held told = each_held (IsShown told) some all held

later : (f : Filed) (some all : List Filed) → AllByRecursion (Contains all) some
    → AllByRecursion (Contains (f ∷ all)) some
later f [] all held = tt
later f (g ∷ some) all held = ((suc held.0.0, omega (arith, held.0.1), held.0.2), later f some all held.1)

pub front_held : (n : ℕ) (kept : List Lasting) → AllByRecursion (Contains (filed_in kept)) (filed_in (take n kept))
front_held zero kept = tt
front_held (suc n) [] = tt
front_held (suc n) (k ∷ kept) =
    ((0, omega arith, refl), later k.filed (filed_in (take n kept)) (filed_in kept) (front_held n kept))

pub filtered_held : (test : Lasting → Bool) (kept : List Lasting)
    → AllByRecursion (Contains (filed_in kept)) (filed_in (filter test kept))
filtered_held test [] = tt
filtered_held test (k ∷ kept) =
    by_test (test k) (later k.filed (filed_in (filter test kept)) (filed_in kept) (filtered_held test kept))
  where
    by_test : (b : Bool) → AllByRecursion (Contains (filed_in (k ∷ kept))) (filed_in (filter test kept))
        → AllByRecursion (Contains (filed_in (k ∷ kept))) (filed_in (cond b (k ∷ filter test kept) (filter test kept)))
    by_test true rest = ((0, omega arith, refl), rest)
    by_test false rest = rest

picked_held : (test : Lasting → Bool) (n : ℕ) (kept : List Lasting) (found : List Filed)
    → found ≡ filed_in (filter test (take n kept))
    → AllByRecursion (Contains (filed_in kept)) found
picked_held test n kept found is =
    subst (AllByRecursion (Contains (filed_in kept))) (sym is)
    (each_held (Contains (filed_in kept)) (filed_in (filter test (take n kept))) (filed_in (take n kept))
    (filtered_held test (take n kept)) (front_held n kept))

each_behind : (P : Filed → Type 0) (front found : List Filed) → AllByRecursion P (front ++ found)
    → AllByRecursion P found
each_behind P [] found each = each
each_behind P (f ∷ front) found each = each_behind P front found each.1

pub behind_held : (test : Lasting → Bool) (n : ℕ) (kept : List Lasting) (front found : List Filed)
    → front ++ found ≡ filed_in (filter test (take n kept))
    → AllByRecursion (Contains (filed_in kept)) found
behind_held test n kept front found is =
    each_behind (Contains (filed_in kept)) front found (picked_held test n kept (front ++ found) is)

pub left_held : (xs ys : List Filed) → AllByRecursion (Contains (xs ++ ys)) xs
left_held [] ys = tt
left_held (x ∷ xs) ys = ((0, omega arith, refl), later x xs (xs ++ ys) (left_held xs ys))

pub right_held : (xs ys some : List Filed) → AllByRecursion (Contains ys) some → AllByRecursion (Contains (xs ++ ys)) some
right_held [] ys some held = held
right_held (x ∷ xs) ys some held = later x some (xs ++ ys) (right_held xs ys some held)
