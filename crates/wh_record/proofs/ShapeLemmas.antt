-- What may be written: partitions whose rows have the width, and values within the format.
use Rattle.std.proofs.Common.{◌≡◌, ◌↔◌, ℕ, zero, suc, ◌+◌, ◌<◌, ◌≤◌, Bool, true, false, IsTrue, List, [], ◌∷◌, ◌++◌}
use Rattle.std.proofs.Common.{length, map, take, get_or, refl, sym, ap, subst, ◌∙◌, arith}
use Rattle.std.proofs.lemmas.Bool.{false≢true, iff_false}
use Rattle.std.proofs.lemmas.List.{take_all, map_more}
use Rattle.std.specs.List.{AllByRecursion}
use Rattle.wh_value.specs.Value.{Row}
use Rattle.wh_value.proofs.ListLaws.{all_more}
use Rattle.wh_frame.specs.Partition.{Partition}
use Rattle.wh_frame.specs.Spelling.{IsPartition, IsNumberedRow}
use Rattle.wh_part.specs.Shape.{HasWideNumber, IsShaped}
use Rattle.wh_record.specs.View.{HasRow, HasRows}

numbered_rows : (width : ℕ) (rows : List (ℕ × Row)) → AllByRecursion HasWideNumber rows
    → AllByRecursion (HasRow width) rows
    → AllByRecursion (IsNumberedRow width) rows
numbered_rows width [] wide valued = tt
numbered_rows width (e ∷ es) wide valued = ((wide.0, valued.0.0, valued.0.1), numbered_rows width es wide.1 valued.1)

pub partition_spelled : (width : ℕ) (p : Partition) → IsShaped p → HasRows width p → IsPartition width p
partition_spelled width p shape valued = record {
  number = shape.number;
  some = shape.some;
  few = shape.few;
  rising = shape.rising;
  rows = numbered_rows width p.rows shape.numbers valued;
}

-- ---- each element of a list, tested one after the other: P is so of what f makes of it

module _ {A X : Type 0} (P : X → Type 0) (f : A → X) (xs : List A) where
  -- all of them passed
  pub passed : (i : ℕ) → length xs ≤ i → AllByRecursion P (map f (take i xs))
      → IsTrue true ↔ AllByRecursion P (map f xs)
  passed i past all = (λ _. subst (λ l. AllByRecursion P (map f l)) (take_all i xs past) all, λ _. refl)

  module _ (i : ℕ) (x : A) (answer : Bool) (within : i < length xs) (is : x ≡ get_or xs i x)
      (test : IsTrue answer ↔ P (f x)) where
    here : (ys : List A) (k : ℕ) → k < length ys → x ≡ get_or ys k x → AllByRecursion P (map f ys) → P (f x)
    here [] k less at all = absurd (omega arith)
    here (y ∷ ys) zero less at all = subst (λ z. P (f z)) (sym at) all.0
    here (y ∷ ys) (suc k) less at all = here ys k (omega arith) at all.1

    -- one that doesn't pass
    pub refused : answer ≡ false → IsTrue false ↔ AllByRecursion P (map f xs)
    refused fails = (λ e. absurd (false≢true e), λ all. absurd (iff_false test fails (here xs i within is all)))

    -- one more that passes
    pub passed_on : answer ≡ true → AllByRecursion P (map f (take i xs)) → AllByRecursion P (map f (take (i + 1) xs))
    passed_on holds all =
        let more = map_more f xs i x within in
        subst (AllByRecursion P) (sym (more ∙ ap (λ y. map f (take i xs) ++ f y ∷ []) (sym is)))
        (all_more P (map f (take i xs)) (f x) all (test.0 holds))
