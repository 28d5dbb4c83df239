-- Rows with rising numbers, and the row of a number among them.
--     before_none, behind_none           no row has a number in front of them, or behind them
--     rows_rise                          numbers do not fall from place to place
--     found, none_found, found_or_not    the row of a number, and where there is none
use Rattle.std.proofs.Common.{◌≡◌, ℕ, zero, suc, ◌+◌, ◌<◌, ◌≤◌, cond, Bool, true, false, List, [], ◌∷◌, length, get_or}
use Rattle.std.proofs.Common.{map}
use Rattle.std.proofs.Common.{Some, None, refl, sym, ap, ◌∙◌, arith}
use Rattle.std.proofs.Common.{is_some, nat_eq, nat_lt}
use Rattle.std.proofs.lemmas.Bool.Decides.{nat_tests}
use Rattle.std.proofs.lemmas.Bool.{ltb-true, ltb-false}
use Rattle.std.proofs.lemmas.List.{get_or_default}
use Rattle.std.specs.Ordering.{nat_cmp, eq_by_cmp}
use Rattle.std.specs.List.Sorted.{IsNonDecreasingBy}
use Rattle.std.specs.FinMap.Entries.{find}
use Rattle.wh_value.specs.Value.{Row}
use Rattle.wh_frame.specs.Partition.{first_number, last_number}
use Rattle.wh_frame.specs.Spelling.{RisesFrom}
use Rattle.wh_version.proofs.RisingEdits.{tied, less_untied, more_untied}
use Rattle.wh_table.proofs.TableBag.{head_last, tail_last}
use Rattle.wh_change.specs.Rows.{IsPlaceOf}

other_first : (number : ℕ) (e : ℕ × Row) (es : List (ℕ × Row)) → eq_by_cmp nat_cmp number e.0 ≡ false
    → find nat_cmp number es ≡ None
    → find nat_cmp number (e ∷ es) ≡ None
other_first number e es other rest = ap (λ (b : Bool). cond b (Some e.1) (find nat_cmp number es)) other ∙ rest

pub below_none : (number least : ℕ) (es : List (ℕ × Row)) → RisesFrom least es → number < least
    → find nat_cmp number es ≡ None
below_none number least [] up below = refl
below_none number least (e ∷ es) up below =
    other_first number e es (less_untied number e.0 (omega (arith, up.0)))
    (below_none number (e.0 + 1) es up.1 (omega (arith, up.0)))

pub before_none : (number : ℕ) (es : List (ℕ × Row)) → RisesFrom 0 es → number < first_number es
    → find nat_cmp number es ≡ None
before_none number [] up below = refl
before_none number (e ∷ es) up below =
    other_first number e es (less_untied number e.0 below) (below_none number (e.0 + 1) es up.1 (omega (arith, below)))

pub behind_none : (number least : ℕ) (es : List (ℕ × Row)) → RisesFrom least es → last_number es < number
    → find nat_cmp number es ≡ None
behind_none number least [] up above = refl
behind_none number least (e ∷ es) up above =
    let head = head_last e es up.1 in
    let tail = tail_last e es in
    other_first number e es (more_untied number e.0 (omega (arith, head, above)))
    (behind_none number (e.0 + 1) es up.1 (omega (arith, tail, above)))

-- ---- rows of any form, with their entries

module _ {X : Type 0} (entry_of : X → ℕ × Row) where
  rising_at : (least : ℕ) (rows : List X) (i : ℕ) (d : X) → RisesFrom least (map entry_of rows) → i < length rows
      → least ≤ (entry_of (get_or rows i d)).0
  rising_at least [] i d up within = absurd (omega arith)
  rising_at least (r ∷ rows) zero d up within = up.0
  rising_at least (r ∷ rows) (suc i) d up within =
      let rest = rising_at ((entry_of r).0 + 1) rows i d up.1 (omega arith) in
      omega (arith, up.0)

  pub rows_rise : (least : ℕ) (rows : List X) → RisesFrom least (map entry_of rows)
      → IsNonDecreasingBy (λ row. (entry_of row).0) rows
  rows_rise least [] up i j d order within = absurd (omega arith)
  rows_rise least (r ∷ rows) up zero zero d order within = omega arith
  rows_rise least (r ∷ rows) up zero (suc j) d order within =
      let rest = rising_at ((entry_of r).0 + 1) rows j d up.1 (omega arith) in
      omega arith
  rows_rise least (r ∷ rows) up (suc i) zero d order within = absurd (omega arith)
  rows_rise least (r ∷ rows) up (suc i) (suc j) d order within =
      rows_rise ((entry_of r).0 + 1) rows up.1 i j d (omega arith) (omega arith)

  pub found : (least : ℕ) (rows : List X) (i : ℕ) (row : X) → RisesFrom least (map entry_of rows) → i < length rows
      → row ≡ get_or rows i row
      → find nat_cmp (entry_of row).0 (map entry_of rows) ≡ Some (entry_of row).1
  found least [] i row up within is = absurd (omega arith)
  found least (r ∷ rows) zero row up within is =
      ap (λ (b : Bool). cond b (Some (entry_of r).1) (find nat_cmp (entry_of row).0 (map entry_of rows)))
      (tied (entry_of row).0 (entry_of r).0 (ap (λ x. (entry_of x).0) is))
      ∙ ap (λ x. Some (entry_of x).1) (sym is)
  found least (r ∷ rows) (suc i) row up within is =
      let behind = rising_at ((entry_of r).0 + 1) rows i row up.1 (omega arith) in
      let same = ap (λ x. (entry_of x).0) is in
      ap (λ (b : Bool). cond b (Some (entry_of r).1) (find nat_cmp (entry_of row).0 (map entry_of rows)))
      (more_untied (entry_of row).0 (entry_of r).0 (omega arith))
      ∙ found ((entry_of r).0 + 1) rows i row up.1 (omega arith) is

  -- numbers that are another at each place
  none_at : (number : ℕ) (rows : List X)
      → ((i : ℕ) (d : X) → i < length rows → eq_by_cmp nat_cmp number (entry_of (get_or rows i d)).0 ≡ false)
      → find nat_cmp number (map entry_of rows) ≡ None
  none_at number [] other = refl
  none_at number (r ∷ rows) other =
      other_first number (entry_of r) (map entry_of rows) (other zero r (omega arith))
      (none_at number rows (λ i d within. other (suc i) d (omega arith)))

  pub none_found : (number : ℕ) (rows : List X) (place : ℕ) → RisesFrom 0 (map entry_of rows)
      → IsPlaceOf entry_of number rows place
      → ((d : X) → place < length rows → (entry_of (get_or rows place d)).0 ≡ number → ⊥)
      → find nat_cmp number (map entry_of rows) ≡ None
  none_found number rows place up there other = none_at number rows at_place
    where
      at_place : (i : ℕ) (d : X) → i < length rows → eq_by_cmp nat_cmp number (entry_of (get_or rows i d)).0 ≡ false
      at_place i d within = by_order (nat_lt i place) refl
        where
          by_order : (b : Bool) → nat_lt i place ≡ b
              → eq_by_cmp nat_cmp number (entry_of (get_or rows i d)).0 ≡ false
          by_order true is = more_untied number _ (there.front i d (ltb-true i place is))
          by_order false is =
              let order : place ≤ i = ltb-false i place is in
              let here = there.behind d (omega arith) in
              let rest = rows_rise 0 rows up place i d order within in
              let differs = other d (omega arith) in
              less_untied number _ (not_equal here differs rest)
            where
              not_equal : {a b c : ℕ} → a ≤ b → (b ≡ a → ⊥) → b ≤ c → a < c
              not_equal {a} {b} {c} low differs high = by_test (nat_lt a c) refl
                where
                  by_test : (t : Bool) → nat_lt a c ≡ t → a < c
                  by_test true is = ltb-true a c is
                  by_test false is = let above : c ≤ a = ltb-false a c is in absurd (differs (omega arith))

  -- another number at the place
  pub none_there : (number : ℕ) (rows : List X) (place : ℕ) (row : X) → RisesFrom 0 (map entry_of rows)
      → IsPlaceOf entry_of number rows place → place < length rows → row ≡ get_or rows place row
      → ((entry_of row).0 ≡ number → ⊥)
      → find nat_cmp number (map entry_of rows) ≡ None
  none_there number rows place row up there within is differs = none_found number rows place up there
      (λ d _ same. differs (ap (λ x. (entry_of x).0) (is ∙ get_or_default rows place row d within) ∙ same))

  -- whether the row at the place has the number
  pub found_or_not : (number : ℕ) (rows : List X) (place : ℕ) (row : X) → RisesFrom 0 (map entry_of rows)
      → IsPlaceOf entry_of number rows place → place < length rows → row ≡ get_or rows place row
      → nat_eq (entry_of row).0 number ≡ is_some (find nat_cmp number (map entry_of rows))
  found_or_not number rows place row up there within is = by_test (nat_eq (entry_of row).0 number) refl
    where
      by_test : (b : Bool) → nat_eq (entry_of row).0 number ≡ b
          → b ≡ is_some (find nat_cmp number (map entry_of rows))
      by_test true same =
          let here : (entry_of row).0 ≡ number = grind (arith, nat_tests) in
          sym (ap (λ n. is_some (find nat_cmp n (map entry_of rows))) (sym here)
          ∙ ap is_some (found 0 rows place row up within is))
      by_test false other = sym (ap is_some (none_there number rows place row up there within is differs))
        where
          differs : (entry_of row).0 ≡ number → ⊥
          differs same = grind (arith, nat_tests)
