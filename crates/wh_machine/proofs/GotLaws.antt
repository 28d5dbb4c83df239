-- What holds of the values of maps by numbers.
--     entries_hold, get_holds     of what stands at each number, and of each entry
--     rows_hold                   of rows that are put in
use Rattle.std.proofs.Common.{◌≡◌, ℕ, ◌<◌, Bool, true, false, cond, List, [], ◌∷◌, Some, T}
use Rattle.std.proofs.Common.{refl, sym, subst, ◌∙◌, arith}
use Rattle.std.specs.List.{AllByRecursion}
use Rattle.std.specs.FinMap.{FinMap, empty, get, insert, entries, entries_sorted, get-entries, get-empty}
use Rattle.std.specs.FinMap.Entries.{find, is_sorted, below_all}
use Rattle.std.specs.Ordering.{nat_cmp, eq_by_cmp, is_lt}
use Rattle.std.proofs.lemmas.Bool.Decides.{nat_tests}
use Rattle.wh_value.specs.Value.{Row}
use Rattle.wh_state.specs.State.{Rows, with_entries}
use Rattle.wh_state.proofs.AllLaws.{all_map, all_both}
use Rattle.wh_state.proofs.RisingEntries.{both_hold, less_is}
use Rattle.wh_state.proofs.RowLaws.{number_tied, put_get}

module _ {X : Type 0} where
  found_entry : (P : ℕ → X → Type 0) (q : ℕ) (x : X) (es : List (ℕ × X)) → AllByRecursion (λ e. P e.0 e.1) es
      → find nat_cmp q es ≡ Some x → P q x
  found_entry P q x [] h is = absurd cc
  found_entry P q x (e ∷ es) h is = by_tie (eq_by_cmp nat_cmp q e.0) refl is (found_entry P q x es h.1)
    where
      by_tie : (tie : Bool) → eq_by_cmp nat_cmp q e.0 ≡ tie → cond tie (Some e.1) (find nat_cmp q es) ≡ Some x
          → (find nat_cmp q es ≡ Some x → P q x) → P q x
      by_tie true tied is rest =
          let value : e.1 ≡ x = cc in
          subst (λ (y : X). P q y) value (subst (λ (n : ℕ). P n e.1) (sym (number_tied q e.0 tied)) h.0)
      by_tie false tied is rest = rest is

  pub get_holds : (P : ℕ → X → Type 0) (m : FinMap nat_cmp X) → AllByRecursion (λ e. P e.0 e.1) (entries m)
      → (q : ℕ) (x : X) → get m q ≡ Some x → P q x
  get_holds P m h q x is = found_entry P q x (entries m) h (sym (get-entries m q) ∙ is)

  found_later : (q : ℕ) (e : ℕ × X) (es : List (ℕ × X)) → e.0 < q → find nat_cmp q (e ∷ es) ≡ find nat_cmp q es
  found_later q e es less =
      let apart : eq_by_cmp nat_cmp q e.0 ≡ false = grind (arith, nat_tests) in
      rw apart refl

  above : (n : ℕ) (es : List (ℕ × X)) → T (below_all nat_cmp n es) → AllByRecursion (λ e. n < e.0) es
  above n [] h = tt
  above n (e ∷ es) h =
      let parts = both_hold (is_lt (nat_cmp n e.0)) (below_all nat_cmp n es) h in
      (less_is n e.0 parts.0, above n es parts.1)

  entries_found : (es : List (ℕ × X)) → T (is_sorted nat_cmp es) →
      AllByRecursion (λ e. find nat_cmp e.0 es ≡ Some e.1) es
  entries_found [] h = tt
  entries_found (e ∷ es) h =
      let parts = both_hold (below_all nat_cmp e.0 es) (is_sorted nat_cmp es) h in
      let self : eq_by_cmp nat_cmp e.0 e.0 ≡ true = grind (arith, nat_tests) in
      let first : find nat_cmp e.0 (e ∷ es) ≡ Some e.1 = rw self refl in (
        first,
        all_both (λ f. e.0 < f.0) (λ f. find nat_cmp f.0 es ≡ Some f.1) (λ f. find nat_cmp f.0 (e ∷ es) ≡ Some f.1)
            (λ f less found. found_later f.0 e es less ∙ found) es (above e.0 es parts.0) (entries_found es parts.1),
      )

  pub entries_hold : (P : ℕ → X → Type 0) (m : FinMap nat_cmp X) → ((q : ℕ) (x : X) → get m q ≡ Some x → P q x)
      → AllByRecursion (λ e. P e.0 e.1) (entries m)
  entries_hold P m so =
      all_map (λ e. find nat_cmp e.0 (entries m) ≡ Some e.1) (λ e. P e.0 e.1)
      (λ e found. so e.0 e.1 (get-entries m e.0 ∙ found)) (entries m) (entries_found (entries m) (entries_sorted m))

-- ---- rows

put_holds : (P : ℕ → Row → Type 0) (rows : Rows) (k : ℕ) (row : Row) → P k row
    → ((q : ℕ) (x : Row) → get rows q ≡ Some x → P q x) → (q : ℕ) (x : Row) → get (insert rows k row) q ≡ Some x → P q x
put_holds P rows k row here old q x is = by_tie (eq_by_cmp nat_cmp q k) refl (sym (put_get rows k row q) ∙ is)
  where
    by_tie : (tie : Bool) → eq_by_cmp nat_cmp q k ≡ tie → cond tie (Some row) (get rows q) ≡ Some x → P q x
    by_tie true tied is =
        let value : row ≡ x = cc in
        subst (λ (y : Row). P q y) value (subst (λ (n : ℕ). P n row) (sym (number_tied q k tied)) here)
    by_tie false tied is = old q x is

entries_put : (P : ℕ → Row → Type 0) (rows : Rows) (es : List (ℕ × Row))
    → ((q : ℕ) (x : Row) → get rows q ≡ Some x → P q x) → AllByRecursion (λ e. P e.0 e.1) es
    → (q : ℕ) (x : Row) → get (with_entries rows es) q ≡ Some x → P q x
entries_put P rows [] old h q x is = old q x is
entries_put P rows (e ∷ es) old h q x is =
    entries_put P (insert rows e.0 e.1) es (put_holds P rows e.0 e.1 h.0 old) h.1 q x is

-- of rows that are put in one after the other
pub rows_hold : (P : ℕ → Row → Type 0) (es : List (ℕ × Row)) → AllByRecursion (λ e. P e.0 e.1) es → (q : ℕ) (x : Row)
    → get (with_entries empty es) q ≡ Some x → P q x
rows_hold P es h q x is = entries_put P empty es (λ q x is. absurd (cc (get-empty nat_cmp q, is))) h q x is
