-- Entries that rise by number, and the entry of a number among them.
--     holds, is_true             a test as a fact, and back
--     is_below, tests_below      what the order of numbers says, and back
--     when_above, when_past      what tests say where they fail
--     above_all                  a lower number is below those that a number is below
--     head_below, rest_rises     the first entry, and the others
--     below_rises, not_below_rises    entries below a number rise, and those from it on
--     found_behind               the entry of a number stands behind those of lower numbers
--     none_above                 none has the number where the first one's is above it
--     found_none, found_first, found_other    by the entries from the number on
--     none_between, none_behind    none from a number on, up to another or to the end
use Rattle.std.proofs.Common.{◌≡◌, ℕ, ◌<◌, ◌≤◌, cond, Bool, true, false, T, List, [], ◌∷◌}
use Rattle.std.proofs.Common.{Some, None, refl, sym, ap, subst, ◌∙◌, arith, leb, nat_lt}
use Rattle.std.specs.declared.cmp.Ordering.{Ordering}
use Rattle.std.specs.declared.cmp.Ordering.TheVariants.{Less, Equal, Greater}
use Rattle.std.specs.Ordering.{nat_cmp, eq_by_cmp, is_lt, is_eq, MatchOrdering}
use Rattle.std.specs.Bool.{OnFalse}
use Rattle.std.specs.Cmp.{nat_cmp_is}
use Rattle.std.specs.FinMap.{find, is_sorted}
use Rattle.std.specs.FinMap.Entries.{below_all}
use Rattle.std.proofs.lemmas.Cmp.{ranked}
use Rattle.std.proofs.lemmas.Bool.{leb-false, ltb-true, ltb-false}
use Rattle.wh_value.proofs.TestLaws.{both_hold, together}
use Rattle.wh_version.specs.RowEdits.{below, not_below}

pub holds : {b : Bool} → b ≡ true → T b
holds is = subst T (sym is) tt

pub is_true : (b : Bool) → T b → b ≡ true
is_true true is = refl
is_true false is = absurd is

pub is_below : (a b : ℕ) → T (is_lt (nat_cmp a b)) → a < b
is_below a b is = by_order (nat_cmp a b) (ranked a b (nat_cmp a b) refl) is
  where
    by_order : (r : Ordering) → MatchOrdering r (a < b) (a ≡ b) (b < a) → T (is_lt r) → a < b
    by_order Less here is = here
    by_order Equal here is = absurd is
    by_order Greater here is = absurd is

pub tests_below : (a b : ℕ) → a < b → T (is_lt (nat_cmp a b))
tests_below a b below = subst (λ r. T (is_lt r)) (nat_cmp_is a b Less below) tt

pub tied : (a b : ℕ) → a ≡ b → eq_by_cmp nat_cmp a b ≡ true
tied a b same = ap is_eq (sym (nat_cmp_is a b Equal same))

pub less_untied : (a b : ℕ) → a < b → eq_by_cmp nat_cmp a b ≡ false
less_untied a b below = ap is_eq (sym (nat_cmp_is a b Less below))

pub more_untied : (a b : ℕ) → b < a → eq_by_cmp nat_cmp a b ≡ false
more_untied a b above = ap is_eq (sym (nat_cmp_is a b Greater above))

-- what a test says where it fails
pub when_above : {P : Type 0} (a b : ℕ) → (b < a → P) → OnFalse (leb a b) P
when_above {P = P} a b gives = by_test (leb a b) refl
  where
    by_test : (t : Bool) → leb a b ≡ t → OnFalse t P
    by_test true is = tt
    by_test false is = gives (leb-false a b is)

pub when_past : {P : Type 0} (a b : ℕ) → (b ≤ a → P) → OnFalse (nat_lt a b) P
when_past {P = P} a b gives = by_test (nat_lt a b) refl
  where
    by_test : (t : Bool) → nat_lt a b ≡ t → OnFalse t P
    by_test true is = tt
    by_test false is = gives (ltb-false a b is)

module _ {X : Type 0} where
  pub above_all : (a b : ℕ) (es : List (ℕ × X)) → a ≤ b → T (below_all nat_cmp b es) → T (below_all nat_cmp a es)
  above_all a b [] low above = tt
  above_all a b (e ∷ es) low above =
      let two = both_hold (is_lt (nat_cmp b e.0)) (below_all nat_cmp b es) above in
      let here : b < e.0 = is_below b e.0 two.0 in
      together _ _ (tests_below a e.0 (omega arith)) (above_all a b es low two.1)

  pub head_below : (e : ℕ × X) (es : List (ℕ × X)) → is_sorted nat_cmp (e ∷ es) ≡ true → T (below_all nat_cmp e.0 es)
  head_below e es rises = (both_hold (below_all nat_cmp e.0 es) (is_sorted nat_cmp es) (holds rises)).0

  pub rest_rises : (e : ℕ × X) (es : List (ℕ × X)) → is_sorted nat_cmp (e ∷ es) ≡ true → is_sorted nat_cmp es ≡ true
  rest_rises e es rises = is_true _ (both_hold (below_all nat_cmp e.0 es) (is_sorted nat_cmp es) (holds rises)).1

  pub not_below_rises : (number : ℕ) (es : List (ℕ × X)) → is_sorted nat_cmp es ≡ true
      → is_sorted nat_cmp (not_below number es) ≡ true
  not_below_rises number [] rises = refl
  not_below_rises number (e ∷ es) rises =
      elim (nat_lt e.0 number) as (λ b. is_sorted nat_cmp (cond b (not_below number es) (e ∷ es)) ≡ true) [
        | true ↦ not_below_rises number es (rest_rises e es rises)
        | false ↦ rises
      ]

  below_above : (least number : ℕ) (es : List (ℕ × X)) → T (below_all nat_cmp least es)
      → T (below_all nat_cmp least (below number es))
  below_above least number [] above = tt
  below_above least number (e ∷ es) above =
      let two = both_hold (is_lt (nat_cmp least e.0)) (below_all nat_cmp least es) above in
      elim (nat_lt e.0 number) as (λ b. T (below_all nat_cmp least (cond b (e ∷ below number es) []))) [
        | true ↦ together _ _ two.0 (below_above least number es two.1)
        | false ↦ tt
      ]

  pub below_rises : (number : ℕ) (es : List (ℕ × X)) → is_sorted nat_cmp es ≡ true
      → is_sorted nat_cmp (below number es) ≡ true
  below_rises number [] rises = refl
  below_rises number (e ∷ es) rises =
      elim (nat_lt e.0 number) as (λ b. is_sorted nat_cmp (cond b (e ∷ below number es) []) ≡ true) [
        | true ↦ is_true _ (together _ _ (below_above e.0 number es (head_below e es rises))
            (holds (below_rises number es (rest_rises e es rises))))
        | false ↦ refl
      ]

  pub found_behind : (least number : ℕ) (es : List (ℕ × X)) → least ≤ number
      → find nat_cmp number es ≡ find nat_cmp number (not_below least es)
  found_behind least number [] low = refl
  found_behind least number (e ∷ es) low = by_test (found_behind least number es low) (nat_lt e.0 least) refl
    where
      by_test : find nat_cmp number es ≡ find nat_cmp number (not_below least es)
          → (b : Bool) → nat_lt e.0 least ≡ b
          → find nat_cmp number (e ∷ es) ≡ find nat_cmp number (cond b (not_below least es) (e ∷ es))
      by_test rest true is =
          let here : e.0 < least = ltb-true e.0 least is in
          ap (λ (b : Bool). cond b (Some e.1) (find nat_cmp number es)) (more_untied number e.0 (omega arith)) ∙ rest
      by_test rest false is = refl

  none_below_all : (least number : ℕ) (es : List (ℕ × X)) → number ≤ least → T (below_all nat_cmp least es)
      → find nat_cmp number es ≡ None
  none_below_all least number [] low above = refl
  none_below_all least number (e ∷ es) low above =
      let two = both_hold (is_lt (nat_cmp least e.0)) (below_all nat_cmp least es) above in
      let here : least < e.0 = is_below least e.0 two.0 in
      ap (λ (b : Bool). cond b (Some e.1) (find nat_cmp number es)) (less_untied number e.0 (omega arith))
      ∙ none_below_all least number es low two.1

  pub none_above : (number : ℕ) (e : ℕ × X) (es : List (ℕ × X)) → is_sorted nat_cmp (e ∷ es) ≡ true → number < e.0
      → find nat_cmp number (e ∷ es) ≡ None
  none_above number e es rises low =
      ap (λ (b : Bool). cond b (Some e.1) (find nat_cmp number es)) (less_untied number e.0 low)
      ∙ none_below_all e.0 number es (omega arith) (head_below e es rises)

  pub first_not_below : (number : ℕ) (es : List (ℕ × X)) (e : ℕ × X) (rest : List (ℕ × X))
      → not_below number es ≡ e ∷ rest → number ≤ e.0
  first_not_below number [] e rest is = absurd (nil_not_cons is)
    where
      nil_not_cons : [] ≡ e ∷ rest → ⊥
      nil_not_cons same = subst (λ l. elim l as (λ _. Type 0) [ [] ↦ Unit {0} | x ∷ xs ↦ ⊥ ]) same tt
  first_not_below number (f ∷ es) e rest is =
      by_test (first_not_below number es e rest) (nat_lt f.0 number) refl is
    where
      by_test : (not_below number es ≡ e ∷ rest → number ≤ e.0) → (b : Bool) → nat_lt f.0 number ≡ b
          → cond b (not_below number es) (f ∷ es) ≡ e ∷ rest → number ≤ e.0
      by_test others true low is = others is
      by_test others false low is =
          let here : number ≤ f.0 = ltb-false f.0 number low in
          let same : f.0 ≡ e.0 = ap (λ l. elim l as (λ _. ℕ) [ [] ↦ 0 | x ∷ xs ↦ x.0 ]) is in
          omega arith

  -- the entry of a number, by the entries from the number on
  pub found_none : (number : ℕ) (es : List (ℕ × X)) → not_below number es ≡ [] → find nat_cmp number es ≡ None
  found_none number es none = found_behind number number es (omega arith) ∙ ap (find nat_cmp number) none

  pub found_first : (number : ℕ) (es : List (ℕ × X)) (e : ℕ × X) (rest : List (ℕ × X))
      → not_below number es ≡ e ∷ rest → e.0 ≡ number → find nat_cmp number es ≡ Some e.1
  found_first number es e rest is same =
      found_behind number number es (omega arith)
      ∙ ap (find nat_cmp number) is
      ∙ ap (λ (b : Bool). cond b (Some e.1) (find nat_cmp number rest)) (tied number e.0 (sym same))

  pub found_other : (number : ℕ) (es : List (ℕ × X)) (e : ℕ × X) (rest : List (ℕ × X))
      → is_sorted nat_cmp es ≡ true → not_below number es ≡ e ∷ rest → (e.0 ≡ number → ⊥)
      → find nat_cmp number es ≡ None
  found_other number es e rest rises is differs =
      let low : number ≤ e.0 = first_not_below number es e rest is in
      found_behind number number es (omega arith)
      ∙ ap (find nat_cmp number) is
      ∙ none_above number e rest (ap (is_sorted nat_cmp) (sym is) ∙ not_below_rises number es rises)
      (strictly low differs)
    where
      strictly : {a b : ℕ} → a ≤ b → (b ≡ a → ⊥) → a < b
      strictly {a} {b} low differs = by_test (nat_lt a b) refl
        where
          by_test : (t : Bool) → nat_lt a b ≡ t → a < b
          by_test true is = ltb-true a b is
          by_test false is = let high : b ≤ a = ltb-false a b is in absurd (differs (omega arith))

  -- none from the first of these numbers to the last
  pub none_between : (first last : ℕ) (es : List (ℕ × X)) (e : ℕ × X) (rest : List (ℕ × X))
      → is_sorted nat_cmp es ≡ true → not_below first es ≡ e ∷ rest → last < e.0
      → (number : ℕ) → first ≤ number → number ≤ last → find nat_cmp number es ≡ None
  none_between first last es e rest rises is high number above under =
      found_behind first number es above
      ∙ ap (find nat_cmp number) is
      ∙ none_above number e rest (ap (is_sorted nat_cmp) (sym is) ∙ not_below_rises first es rises) (omega arith)

  pub none_behind : (first : ℕ) (es : List (ℕ × X)) → not_below first es ≡ []
      → (number : ℕ) → first ≤ number → find nat_cmp number es ≡ None
  none_behind first es none number above = found_behind first number es above ∙ ap (find nat_cmp number) none
