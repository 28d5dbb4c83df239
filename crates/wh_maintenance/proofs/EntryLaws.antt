-- What groups have behind entries, and lists of entries by rising key.
--     get-set_at             what stands at each key behind an entry
--     set_all-append         entries behind others
--     set_all-entries        behind entries by rising key what each says stands at its key
--     rises, is_rising       two ways to say that keys rise strictly
--     each_found             each entry of a finite map is what the map has at its key
use Rattle.std.specs.Prelude.{◌≡◌, true, false, cond, T, List, [], ◌∷◌, ◌++◌, map, Option, Some, None, unwrap_or}
use Rattle.std.proofs.Common.{refl, sym, ap, subst, ◌∙◌}
use Rattle.std.specs.declared.cmp.Ordering.{Ordering}
use Rattle.std.specs.declared.cmp.Ordering.TheVariants.{Less, Equal, Greater}
use Rattle.std.specs.Ordering.{is_eq, is_lt, ordering_reverse, eq_by_cmp}
use Rattle.std.specs.Cmp.{IsTotalOrder, tied_itself}
use Rattle.std.specs.List.{AllByRecursion}
use Rattle.std.specs.List.Sorted.{IsStrictlySortedBy}
use Rattle.std.specs.FinMap.{FinMap, get, entries, entries_sorted, find, is_sorted, get-entries, get-insert, get-remove}
use Rattle.std.specs.FinMap.Entries.{below_all}
use Rattle.wh_value.specs.Value.{Row, row_cmp}
use Rattle.wh_value.specs.Order.{row_total}
use Rattle.wh_value.proofs.TestLaws.{both_hold, together}
use Rattle.wh_value.proofs.ListLaws.{all_map}
use Rattle.wh_meaning.proofs.BagLaws.{tied_rows}
use Rattle.wh_maintenance.specs.Standing.{Standing, Groups}
use Rattle.wh_maintenance.specs.Entries.{GroupEntry, set_at, set_all, entry_of}

-- ---- keys that rise

pub less_is : (r : Ordering) → T (is_lt r) → r ≡ Less
less_is Less h = refl
less_is Equal h = absurd h
less_is Greater h = absurd h

less_tests : (r : Ordering) → r ≡ Less → T (is_lt r)
less_tests Less e = tt
less_tests Equal e = cc
less_tests Greater e = cc

not_tied : (r : Ordering) → T (is_lt r) → is_eq r ≡ false
not_tied Less h = refl
not_tied Equal h = absurd h
not_tied Greater h = absurd h

not_tied_back : (r : Ordering) → T (is_lt r) → is_eq (ordering_reverse r) ≡ false
not_tied_back Less h = refl
not_tied_back Equal h = absurd h
not_tied_back Greater h = absurd h

module _ {K X : Type 0} (cmp : K → K → Ordering) where
  above_all : (k : K) (es : List (K × X)) → T (below_all cmp k es)
      → AllByRecursion (λ y. cmp k y ≡ Less) (map (λ e. e.0) es)
  above_all k [] h = tt
  above_all k (e ∷ es) h =
      let parts = both_hold (is_lt (cmp k e.0)) (below_all cmp k es) h in
      (less_is (cmp k e.0) parts.0, above_all k es parts.1)

  all_below : (k : K) (es : List (K × X)) → AllByRecursion (λ y. cmp k y ≡ Less) (map (λ e. e.0) es)
      → T (below_all cmp k es)
  all_below k [] h = tt
  all_below k (e ∷ es) h =
      together (is_lt (cmp k e.0)) (below_all cmp k es) (less_tests (cmp k e.0) h.0) (all_below k es h.1)

  pub rises : (es : List (K × X)) → T (is_sorted cmp es) → IsStrictlySortedBy cmp (map (λ e. e.0) es)
  unfolding IsStrictlySortedBy
  rises [] h = tt
  rises (e ∷ es) h =
      let parts = both_hold (below_all cmp e.0 es) (is_sorted cmp es) h in
      (above_all e.0 es parts.0, rises es parts.1)

  pub is_rising : (es : List (K × X)) → IsStrictlySortedBy cmp (map (λ e. e.0) es) → T (is_sorted cmp es)
  unfolding IsStrictlySortedBy
  is_rising [] h = tt
  is_rising (e ∷ es) h =
      together (below_all cmp e.0 es) (is_sorted cmp es) (all_below e.0 es h.0) (is_rising es h.1)

  -- a key below those of entries is not among them
  pub not_among : (q : K) (es : List (K × X)) → T (below_all cmp q es) → find cmp q es ≡ None
  not_among q [] h = refl
  not_among q (e ∷ es) h =
      let parts = both_hold (is_lt (cmp q e.0)) (below_all cmp q es) h in
      ap (λ t. cond t (Some e.1) (find cmp q es)) (not_tied (cmp q e.0) parts.0) ∙ not_among q es parts.1

-- a key above another is not tied with it
pub apart_back : {K : Type 0} {cmp : K → K → Ordering} → IsTotalOrder cmp → (q k : K) → T (is_lt (cmp q k))
    → eq_by_cmp cmp k q ≡ false
apart_back {cmp = cmp} total q k h = ap is_eq (total.antisymm k q) ∙ not_tied_back (cmp q k) h

module _ {K X : Type 0} {cmp : K → K → Ordering} (total : IsTotalOrder cmp) where
  found_behind : (e : K × X) (all es : List (K × X)) → T (below_all cmp e.0 es)
      → AllByRecursion (λ f. find cmp f.0 all ≡ Some f.1) es
      → AllByRecursion (λ f. find cmp f.0 (e ∷ all) ≡ Some f.1) es
  found_behind e all [] below h = tt
  found_behind e all (f ∷ es) below h =
      let parts = both_hold (is_lt (cmp e.0 f.0)) (below_all cmp e.0 es) below in (
        ap (λ t. cond t (Some e.1) (find cmp f.0 all)) (apart_back total e.0 f.0 parts.0) ∙ h.0,
        found_behind e all es parts.1 h.1,
      )

  found_each : (es : List (K × X)) → T (is_sorted cmp es) → AllByRecursion (λ e. find cmp e.0 es ≡ Some e.1) es
  found_each [] h = tt
  found_each (e ∷ es) h =
      let parts = both_hold (below_all cmp e.0 es) (is_sorted cmp es) h in (
        ap (λ r. cond (is_eq r) (Some e.1) (find cmp e.0 es)) (tied_itself total e.0),
        found_behind e es es parts.0 (found_each es parts.1),
      )

  pub each_found : (m : FinMap cmp X) → AllByRecursion (λ e. get m e.0 ≡ Some e.1) (entries m)
  each_found m = all_map _ _ (λ e h. get-entries m e.0 ∙ h) (entries m) (found_each (entries m) (entries_sorted m))

-- ---- groups behind entries

pub get-set_at : (groups : Groups) (key : Row) (v : Option Standing) (q : Row)
    → get (set_at groups key v) q ≡ cond (eq_by_cmp row_cmp q key) v (get groups q)
get-set_at groups key None q = get-remove row_total groups key q
get-set_at groups key (Some s) q = get-insert row_total groups key s q

pub set_all-append : (xs ys : List GroupEntry) (groups : Groups)
    → set_all (xs ++ ys) groups ≡ set_all ys (set_all xs groups)
set_all-append [] ys groups = refl
set_all-append (x ∷ xs) ys groups = set_all-append xs ys (set_at groups x.key x.group)

pub set_all-entries : (es : List (Row × Option Standing)) (groups : Groups) (q : Row) → T (is_sorted row_cmp es)
    → get (set_all (map entry_of es) groups) q ≡ unwrap_or (find row_cmp q es) (get groups q)
set_all-entries [] groups q h = refl
set_all-entries (e ∷ es) groups q h =
    let parts = both_hold (below_all row_cmp e.0 es) (is_sorted row_cmp es) h in
    set_all-entries es (set_at groups e.0 e.1) q parts.1
    ∙ elim (eq_by_cmp row_cmp q e.0) as (λ t. eq_by_cmp row_cmp q e.0 ≡ t
    → get (set_at groups e.0 e.1) q ≡ cond t e.1 (get groups q)
    → unwrap_or (find row_cmp q es) (get (set_at groups e.0 e.1) q)
    ≡ unwrap_or (cond t (Some e.1) (find row_cmp q es)) (get groups q)) [
      | true ↦ λ t m.
          ap (λ o. unwrap_or o (get (set_at groups e.0 e.1) q))
          (not_among row_cmp q es (subst (λ k. T (below_all row_cmp k es)) (sym (tied_rows q e.0 t)) parts.0))
          ∙ m
      | false ↦ λ t m. ap (unwrap_or (find row_cmp q es)) m
    ] refl (get-set_at groups e.0 e.1 q)
