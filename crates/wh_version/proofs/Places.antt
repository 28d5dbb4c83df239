-- Places in lists of edits that rise by number.
--     Adjacent               numbers up to a place are below the next ones
--     adjacent_rise          so they rise
--     numbers_rise           numbers do not fall from place to place
--     both_halves            the halves of a list
--     IsCutAt                edits below a number in front of a place, and the others from it on
--     cut_at, cut_there      by tests of each number, and at the place of the first number that isn't below
--     behind_one, behind_all    the first of the others, and where there is none
use Rattle.std.proofs.Common.{◌≡◌, ℕ, zero, suc, ◌+◌, ◌-◌, ◌<◌, ◌≤◌, cond, Bool, true, false, T, List, [], ◌∷◌, ◌++◌}
use Rattle.std.proofs.Common.{length, get_or, take, drop, refl, sym, ap, subst, ◌∙◌, arith, nat_lt}
use Rattle.std.proofs.lemmas.List.{drop_more, drop_all, map-append, take-append-drop}
use Rattle.std.specs.Ordering.{nat_cmp}
use Rattle.std.specs.List.Sorted.{IsNonDecreasingBy}
use Rattle.std.specs.FinMap.{is_sorted}
use Rattle.std.specs.FinMap.Entries.{below_all}
use Rattle.std.proofs.lemmas.Bool.{lt-ltb, le-ltb}
use Rattle.wh_version.specs.declared.row_edit.RowEdit.{RowEdit}
use Rattle.wh_version.specs.RowEdits.{entry_of, entries_in, below, not_below, IsPlaceOf}
use Rattle.wh_value.proofs.TestLaws.{both_hold, together}
use Rattle.wh_version.proofs.RisingEdits.{holds, is_true, is_below, tests_below, above_all}
use Rattle.wh_version.proofs.RisingEdits.{head_below, rest_rises}

abbrev pub Adjacent : List RowEdit → ℕ → Type 0
Adjacent list count = (k : ℕ) (d : RowEdit) → suc k < count
    → (get_or list k d).number < (get_or list (suc k) d).number

pub adjacent_rise : (list : List RowEdit) → Adjacent list (length list) → is_sorted nat_cmp (entries_in list) ≡ true
adjacent_rise [] each = refl
adjacent_rise (e ∷ []) each = refl
adjacent_rise (e ∷ f ∷ list) each =
    let up : is_sorted nat_cmp (entries_in (f ∷ list)) ≡ true =
    adjacent_rise (f ∷ list) (λ k d within. each (suc k) d (omega arith)) in
    let low : e.number < f.number = each 0 e (omega arith) in
    let rest : T (below_all nat_cmp e.number (entries_in list)) =
    above_all e.number f.number (entries_in list) (omega arith) (head_below (f.number, f.row) (entries_in list) up) in
    is_true _ (together _ _ (together _ _ (tests_below e.number f.number low) rest) (holds up))

number_above : (least : ℕ) (list : List RowEdit) (i : ℕ) (d : RowEdit)
    → T (below_all nat_cmp least (entries_in list)) → i < length list → least < (get_or list i d).number
number_above least [] i d above within = absurd (omega arith)
number_above least (e ∷ list) zero d above within = is_below least e.number (both_hold _ _ above).0
number_above least (e ∷ list) (suc i) d above within = number_above least list i d (both_hold _ _ above).1 (omega arith)

pub numbers_rise : (list : List RowEdit) → is_sorted nat_cmp (entries_in list) ≡ true
    → IsNonDecreasingBy (λ e. e.number) list
numbers_rise [] up i j d order within = absurd (omega arith)
numbers_rise (e ∷ list) up zero zero d order within = omega arith
numbers_rise (e ∷ list) up zero (suc j) d order within =
    let here = number_above e.number list j d (head_below (e.number, e.row) (entries_in list) up) (omega arith) in
    omega arith
numbers_rise (e ∷ list) up (suc i) zero d order within = absurd (omega arith)
numbers_rise (e ∷ list) up (suc i) (suc j) d order within =
    numbers_rise list (rest_rises (e.number, e.row) (entries_in list) up) i j d (omega arith) (omega arith)

-- the edits in front of the place are those below the number, and those from it on are the others
pub record IsCutAt (number : ℕ) (list : List RowEdit) (place : ℕ) : Type 0 where
  pub front : entries_in (take place list) ≡ below number (entries_in list)
  pub behind : entries_in (drop place list) ≡ not_below number (entries_in list)

module _ (number : ℕ) where
  pub cut_at : (list : List RowEdit) (place : ℕ) → place ≤ length list
      → ((i : ℕ) (d : RowEdit) → i < place → nat_lt (get_or list i d).number number ≡ true)
      → ((d : RowEdit) → place < length list → nat_lt (get_or list place d).number number ≡ false)
      → IsCutAt number list place
  cut_at [] zero within low high = record { front = refl; behind = refl }
  cut_at [] (suc place) within low high = absurd (omega arith)
  cut_at (e ∷ list) zero within low high =
      let here = sym (high e (omega arith)) in
      record {
        front = ap (λ (b : Bool). cond b (entry_of e ∷ below number (entries_in list)) []) here;
        behind = ap (λ (b : Bool). cond b (not_below number (entries_in list)) (entries_in (e ∷ list))) here;
      }
  cut_at (e ∷ list) (suc place) within low high =
      let here = sym (low 0 e (omega arith)) in
      let rest = cut_at list place (omega arith)
      (λ i d below. low (suc i) d (omega arith)) (λ d below. high d (omega arith)) in
      record {
        front = ap ((entry_of e) ∷◌) rest.front
            ∙ ap (λ (b : Bool). cond b (entry_of e ∷ below number (entries_in list)) []) here;
        behind = rest.behind
            ∙ ap (λ (b : Bool). cond b (not_below number (entries_in list)) (entries_in (e ∷ list))) here;
      }

  pub cut_there : (list : List RowEdit) (place : ℕ) → is_sorted nat_cmp (entries_in list) ≡ true
      → IsPlaceOf number list place → IsCutAt number list place
  cut_there list place rises there = cut_at list place there.within low (λ d within. le-ltb _ _ (there.behind d within))
    where
      low : (i : ℕ) (d : RowEdit) → i < place → nat_lt (get_or list i d).number number ≡ true
      low i d below =
          let size = there.within in
          let order = numbers_rise list rises i (place - 1) d (omega arith) (omega arith) in
          let last = there.front d (omega arith) in
          lt-ltb _ _ (omega arith)

  -- where a search ends, by the list that a reference points to
  behind_in : (list seen : List RowEdit) (place : ℕ) → seen ≡ list
      → entries_in (drop place seen) ≡ not_below number (entries_in seen)
      → not_below number (entries_in list) ≡ entries_in (drop place list)
  behind_in list seen place same behind =
      sym (subst (λ l. entries_in (drop place l) ≡ not_below number (entries_in l)) same behind)

  pub behind_one : (list seen : List RowEdit) (place : ℕ) (edit : RowEdit) → seen ≡ list
      → entries_in (drop place seen) ≡ not_below number (entries_in seen) → place < length list
      → edit ≡ get_or list place edit
      → not_below number (entries_in list) ≡ entry_of edit ∷ entries_in (drop (place + 1) list)
  behind_one list seen place edit same behind within is =
      behind_in list seen place same behind
      ∙ ap entries_in (drop_more list place edit within ∙ ap (λ e. e ∷ drop (place + 1) list) (sym is))

  pub behind_all : (list seen : List RowEdit) (place : ℕ) → seen ≡ list
      → entries_in (drop place seen) ≡ not_below number (entries_in seen) → length list ≤ place
      → not_below number (entries_in list) ≡ []
  behind_all list seen place same behind past =
      behind_in list seen place same behind ∙ ap entries_in (drop_all place list past)

pub both_halves : (half : ℕ) (list front behind : List RowEdit) → front ≡ take half list → behind ≡ drop half list
    → entries_in front ++ entries_in behind ≡ entries_in list
both_halves half list front behind first second =
    sym (map-append entry_of front behind)
    ∙ ap entries_in ((λ i. first i ++ second i) ∙ take-append-drop half list)
