-- Whether the rows of a partition fit, told without them: each has values of the columns' types, and a number below
-- the next one where the last one has.
use Rattle.std.specs.Prelude.{◌≡◌, ℕ, ◌+◌, ◌<◌, ◌≤◌, Bool, true, false, ◌&&◌, nat_lt, List, [], ◌∷◌, length}
use Rattle.std.proofs.Common.{refl, ap, ◌∙◌, arith}
use Rattle.std.specs.List.{list_all}
use Rattle.std.proofs.lemmas.Bool.{ltb-true, lt-ltb}
use Rattle.wh_value.specs.Value.{Row}
use Rattle.wh_value.specs.Column.{Column}
use Rattle.wh_value.specs.Fits.{row_fits}
use Rattle.wh_frame.specs.Partition.{last_number}
use Rattle.wh_frame.specs.Spelling.{RisesFrom}
use Rattle.wh_part.specs.Outline.{rows_fit}
use Rattle.wh_table.specs.Conditions.{entry_fits}

exchanged : (a b x y : Bool) → ((a && b) && (x && y)) ≡ ((a && x) && (b && y))
exchanged false b x y = refl
exchanged true false false y = refl
exchanged true false true y = refl
exchanged true true x y = refl

pub both_all : (columns : List Column) (next : ℕ) (rows : List (ℕ × Row))
    → list_all (entry_fits columns next) rows ≡ (rows_fit columns rows && list_all (λ e. nat_lt e.0 next) rows)
both_all columns next [] = refl
both_all columns next (e ∷ es) =
    ap (λ b. (row_fits columns e.1 && nat_lt e.0 next) && b) (both_all columns next es)
    ∙ exchanged (row_fits columns e.1) (nat_lt e.0 next) (rows_fit columns es) (list_all (λ e. nat_lt e.0 next) es)

up_to_last : (e : ℕ × Row) (es : List (ℕ × Row)) → RisesFrom (e.0 + 1) es → e.0 ≤ last_number (e ∷ es)
up_to_last e [] rising = omega arith
up_to_last e (f ∷ es) rising =
    let behind = up_to_last f es rising.1 in
    let next = rising.0 in
    omega arith

lower_too : (a b next : ℕ) → a ≤ b → (nat_lt a next && nat_lt b next) ≡ nat_lt b next
lower_too a b next below = by_test (nat_lt b next) refl
  where
    by_test : (t : Bool) → nat_lt b next ≡ t → (nat_lt a next && t) ≡ t
    by_test true h =
        let high = ltb-true b next h in
        ap (λ t. t && true) (lt-ltb a next (omega arith))
    by_test false h = with_false (nat_lt a next)
      where
        with_false : (t : Bool) → (t && false) ≡ false
        with_false true = refl
        with_false false = refl

with_true : (t : Bool) → (t && true) ≡ t
with_true true = refl
with_true false = refl

all_below : (next : ℕ) (e : ℕ × Row) (es : List (ℕ × Row)) → RisesFrom (e.0 + 1) es
    → list_all (λ e. nat_lt e.0 next) (e ∷ es) ≡ nat_lt (last_number (e ∷ es)) next
all_below next e [] rising = with_true (nat_lt e.0 next)
all_below next e (f ∷ es) rising =
    let behind = up_to_last f es rising.1 in
    let above = rising.0 in
    ap (λ b. nat_lt e.0 next && b) (all_below next f es rising.1)
    ∙ lower_too e.0 (last_number (f ∷ es)) next (omega arith)

pub entries_fit : (columns : List Column) (next : ℕ) (rows : List (ℕ × Row)) → 0 < length rows → RisesFrom 0 rows
    → list_all (entry_fits columns next) rows ≡ (rows_fit columns rows && nat_lt (last_number rows) next)
entries_fit columns next [] some rising = absurd (omega arith)
entries_fit columns next (e ∷ es) some rising =
    both_all columns next (e ∷ es) ∙ ap (λ b. rows_fit columns (e ∷ es) && b) (all_below next e es rising.1)
