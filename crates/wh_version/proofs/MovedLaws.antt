-- What went and came between two versions stands in one of them alone, since no two partitions have one number.
--     went_moved       so of those that went, by the places of the two
--     came_moved       so of those that came
--     moved_among      those that moved are among those of the table
use Rattle.std.proofs.Common.{◌≡◌, ℕ, zero, suc, ◌+◌, ◌<◌, ◌≤◌, inl, inr, cond, Bool, true, false, List, [], ◌∷◌}
use Rattle.std.proofs.Common.{◌++◌, length, take, drop, filter, get_or, Contains, IsTrue}
use Rattle.std.proofs.Common.{refl, sym, ap, subst, ◌∙◌, arith}
use Rattle.std.proofs.lemmas.Bool.{and_parts, and_from, eqb-true, leb-true, le-ltb}
use Rattle.std.proofs.lemmas.List.{append_cancel_left, map-append, take-append-drop, take-take}
use Rattle.std.proofs.lemmas.List.{length-take, length-drop, get_or-take, get_or-drop}
use Rattle.std.proofs.lemmas.List.Elements.{filter-append}
use Rattle.std.specs.List.{AllByRecursion}
use Rattle.std.specs.Prelude.{nat_eq, nat_lt, nat_le}
use Rattle.wh_filed.specs.Filed.{Filed}
use Rattle.wh_state.specs.State.{content_in}
use Rattle.wh_state.specs.Stored.{StoredVersion}
use Rattle.wh_version.specs.declared.lasting.Lasting.{Lasting}
use Rattle.wh_version.specs.declared.turnover.Reach.{Reach}
use Rattle.wh_version.specs.Lasting.{filed_in, partitions_in, stands_at, standing_filed, standing_at}
use Rattle.wh_version.specs.Lasting.{is_gone_between, gone_filed, numbered_from}
use Rattle.wh_version.specs.Moved.{has_part, IsMoved}
use Rattle.wh_version.specs.Times.{data_at}
use Rattle.wh_version.proofs.Found.{none_there, one_there}
use Rattle.wh_version.proofs.Kept.{holds}
use Rattle.wh_version.proofs.TurnoverLaws.{Grows}

pub moved_among : (from to : ℕ) (versions : List StoredVersion) (all some : List Filed)
    → AllByRecursion (IsMoved from to versions all) some
    → AllByRecursion (Contains all) some
moved_among from to versions all [] moved = tt
moved_among from to versions all (f ∷ some) moved =
    (moved.0.among, moved_among from to versions all some moved.1)

-- what holds of each that passes a test, by its place, holds of those that pass it
each_picked : (P : Filed → Type 0) (test : Lasting → Bool) (xs : List Lasting)
    → ((i : ℕ) (k : Lasting) → i < length xs → k ≡ get_or xs i k → test k ≡ true → P k.filed)
    → AllByRecursion P (filed_in (filter test xs))
each_picked P test [] each = tt
each_picked P test (x ∷ xs) each =
    by_test (test x) refl (each_picked P test xs (λ i k within is. each (suc i) k (omega arith) is))
  where
    by_test : (b : Bool) → test x ≡ b → AllByRecursion P (filed_in (filter test xs))
        → AllByRecursion P (filed_in (cond b (x ∷ filter test xs) (filter test xs)))
    by_test true is rest = (each 0 x (omega arith) refl is, rest)
    by_test false is rest = rest

filed_append : (place : ℕ) (xs ys : List Lasting)
    → standing_filed place (xs ++ ys) ≡ standing_filed place xs ++ standing_filed place ys
filed_append place xs ys = ap filed_in (filter-append (stands_at place) xs ys) ∙ map-append (λ k. k.filed) _ _

-- ---- numbers

numbered_front : (n next : ℕ) (kept : List Lasting) → IsTrue (numbered_from next (partitions_in kept))
    → IsTrue (numbered_from next (partitions_in (take n kept)))
numbered_front zero next kept numbers = refl
numbered_front (suc n) next [] numbers = refl
numbered_front (suc n) next (k ∷ kept) numbers =
    let parts = and_parts (nat_eq k.filed.partition.number next) (numbered_from (next + 1) (partitions_in kept))
    numbers in
    and_from _ _ parts.0 (numbered_front n (next + 1) kept parts.1)

number_there : (next i : ℕ) (kept : List Lasting) (k : Lasting) → IsTrue (numbered_from next (partitions_in kept))
    → i < length kept → k ≡ get_or kept i k
    → k.filed.partition.number ≡ next + i
number_there next i [] k numbers within is = absurd (omega arith)
number_there next zero (x ∷ kept) k numbers within is =
    ap (λ (l : Lasting). l.filed.partition.number) is
    ∙ eqb-true x.filed.partition.number next (and_parts _ _ numbers).0 ∙ omega arith
number_there next (suc i) (x ∷ kept) k numbers within is =
    number_there (next + 1) i kept k (and_parts _ _ numbers).1 (omega arith) is ∙ omega arith

-- ---- what stands among the first of those that are kept, by their numbers

module _ (kept : List Lasting) (numbers : IsTrue (numbered_from 1 (partitions_in kept))) where
  -- the one at a place is there exactly where it stands
  part_there : (place n i : ℕ) (k : Lasting) → i < n → i < length kept → k ≡ get_or kept i k
      → has_part k.filed.partition.number (standing_at place (take n kept)) ≡ stands_at place k
  part_there place n i k first within is =
      ap (λ m. has_part m (standing_at place (take n kept))) (number_there 1 i kept k numbers within is)
      ∙ one_there (stands_at place) 1 i (take n kept) k (numbered_front n 1 kept numbers)
      (omega (arith, length-take n kept)) (is ∙ sym (get_or-take n kept i k first))

  -- one behind them isn't
  no_part : (place n i : ℕ) (k : Lasting) → n ≤ i → i < length kept → k ≡ get_or kept i k
      → has_part k.filed.partition.number (standing_at place (take n kept)) ≡ false
  no_part place n i k behind within is =
      ap (λ m. has_part m (standing_at place (take n kept))) (number_there 1 i kept k numbers within is)
      ∙ none_there (stands_at place) (1 + i) 1 (take n kept) (numbered_front n 1 kept numbers)
      (inr (omega (arith, length-take n kept)))

  module _ (from to : ℕ) (versions : List StoredVersion) (old new : Reach) (grows : Grows old new (length kept))
      (is_old : content_in [] (data_at from versions) ≡ standing_at old.place (take old.partitions kept))
      (is_new : content_in [] (data_at to versions) ≡ standing_at new.place (take new.partitions kept)) where
    pub went_moved : (went : List Filed) → went ≡ gone_filed old.place new.place (take old.partitions kept)
        → AllByRecursion (IsMoved from to versions (filed_in kept)) went
    went_moved went is =
        subst (AllByRecursion (IsMoved from to versions (filed_in kept))) (sym is)
        (each_picked (IsMoved from to versions (filed_in kept)) (is_gone_between old.place new.place)
        (take old.partitions kept) one)
      where
        one : (i : ℕ) (k : Lasting) → i < length (take old.partitions kept)
            → k ≡ get_or (take old.partitions kept) i k → is_gone_between old.place new.place k ≡ true
            → IsMoved from to versions (filed_in kept) k.filed
        one i k within is gone =
            let count = grows.count in
            let size = length-take old.partitions kept in
            let first : i < old.partitions = omega arith in
            let few : i < length kept = omega arith in
            let there : k ≡ get_or kept i k = is ∙ get_or-take old.partitions kept i k first in
            let tests = and_parts (nat_lt old.place k.until) (nat_le k.until new.place) gone in
            record {
              among = holds kept i k few there;
              moved = inl (
                ap (has_part k.filed.partition.number) is_old
                    ∙ part_there old.place old.partitions i k first few there ∙ tests.0,
                ap (has_part k.filed.partition.number) is_new
                    ∙ part_there new.place new.partitions i k (omega arith) few there
                    ∙ le-ltb new.place k.until (leb-true k.until new.place tests.1),
              );
            }

    pub came_moved : (came : List Filed)
        → standing_filed new.place (take old.partitions kept) ++ came
        ≡ standing_filed new.place (take new.partitions kept)
        → AllByRecursion (IsMoved from to versions (filed_in kept)) came
    came_moved came is =
        subst (AllByRecursion (IsMoved from to versions (filed_in kept))) (sym behind)
        (each_picked (IsMoved from to versions (filed_in kept)) (stands_at new.place) rest one)
      where
        -- those that the later version reaches, behind those that the earlier one does
        all : List Lasting
        all = take new.partitions kept

        rest : List Lasting
        rest = drop old.partitions all

        behind : came ≡ standing_filed new.place rest
        behind = append_cancel_left (standing_filed new.place (take old.partitions kept)) came
            (standing_filed new.place rest)
            (is ∙ ap (standing_filed new.place) (sym (take-append-drop old.partitions all))
            ∙ filed_append new.place (take old.partitions all) rest
            ∙ ap (λ ks. standing_filed new.place ks ++ standing_filed new.place rest)
            (take-take old.partitions new.partitions kept grows.count))

        one : (i : ℕ) (k : Lasting) → i < length rest → k ≡ get_or rest i k → stands_at new.place k ≡ true
            → IsMoved from to versions (filed_in kept) k.filed
        one i k within is stands =
            let size = length-drop old.partitions all in
            let total = length-take new.partitions kept in
            let place : ℕ = old.partitions + i in
            let first : place < new.partitions = omega arith in
            let few : place < length kept = omega arith in
            let there : k ≡ get_or kept place k = is ∙ get_or-drop old.partitions all i k
            ∙ get_or-take new.partitions kept place k first in
            record {
              among = holds kept place k few there;
              moved = inr (
                ap (has_part k.filed.partition.number) is_old
                    ∙ no_part old.place old.partitions place k (omega arith) few there,
                ap (has_part k.filed.partition.number) is_new
                    ∙ part_there new.place new.partitions place k first few there ∙ stands,
              );
            }
