-- The groups of a bag by key, as they are made key by key.
--     groups_are        they are the bag's groups
--     groups_found      and the bag's groups are made so
--     groups_there      where the Group has its rows, each key and each argument has a value
use Rattle.std.specs.Prelude.{◌≡◌, ℕ, zero, suc, Bool, true, false, cond, List, [], ◌∷◌, ◌++◌, Option, Some, None}
use Rattle.std.specs.Prelude.{option_map}
use Rattle.std.proofs.Common.{refl, sym, ap, subst, ◌∙◌}
use Rattle.std.specs.Ordering.{eq_by_cmp}
use Rattle.std.specs.FinMap.{empty, get, insert, keys, get-empty, get-insert}
use Rattle.wh_value.specs.Value.{Row, row_cmp}
use Rattle.wh_value.specs.Order.{row_total}
use Rattle.wh_meaning.specs.Scalar.{Scalar, of_one}
use Rattle.wh_meaning.specs.Bag.{Bag, no_rows, one_row, bag_of, count}
use Rattle.wh_meaning.specs.Query.{Call, Total, values_on, projected, rows_in, is_row, with_key, group_row}
use Rattle.wh_meaning.specs.Query.{group_rows, distinct, grouped}
use Rattle.wh_meaning.proofs.BagLaws.{bag_of_same, count-no_rows, count-with_row, count-restricted, tied_rows}
use Rattle.wh_maintenance.specs.Standing.{Standing, calls_total, standing, answers, Groups, IsStandingOf, IsGroupsOf}
use Rattle.wh_maintenance.specs.Entries.{with_group, groups_at_keys, groups_of}
use Rattle.wh_maintenance.proofs.Sides.{beside-comm, beside_there}
use Rattle.wh_maintenance.proofs.Keys.{rows_in-no_rows, rows_with_key, once, count-keys, self_tied}
use Rattle.wh_maintenance.proofs.Totals.{calls_over-answers}
use Rattle.wh_maintenance.proofs.Undefined.{one_groups}

-- what is made at a key that is so often among keys
abbrev IsAt : List Call → Bag → ℕ → Option Standing → Type 0
IsAt calls b zero found = found ≡ None
IsAt calls b (suc n) found = (s : Standing) × ((found ≡ Some s) × (standing calls b ≡ Some s))

at_as : (calls : List Call) (b : Bag) (n m : ℕ) (found made : Option Standing) → n ≡ m → found ≡ made
    → IsAt calls b m made → IsAt calls b n found
at_as calls b n m found made e f h =
    subst (λ x. IsAt calls b x found) (sym e) (subst (IsAt calls b m) (sym f) h)

rows_before : (t : Bool) (n : ℕ) → cond t (suc n) n ≡ 0 → n ≡ 0
rows_before true n e = cc
rows_before false n e = e

stand_at : (calls : List Call) (b : Bag) (n : ℕ) (found : Option Standing) → rows_in b ≡ n
    → IsAt calls b (once n) found → IsStandingOf calls found b
stand_at calls b zero found r h = subst (λ x. IsStandingOf calls x b) (sym h) r
stand_at calls b (suc n) found r h =
    subst (λ x. IsStandingOf calls x b) (sym h.1.0) (λ none. cc (r, none), h.1.1)

told_at : (calls : List Call) (b : Bag) (found : Option Standing) → IsStandingOf calls found b
    → (rows_in b ≡ 0 → ⊥) → (s : Standing) × (standing calls b ≡ Some s)
told_at calls b None h some = absurd (some h)
told_at calls b (Some s) h some = (s, h.1)

-- a group that has a row has its totals
totals_told : (calls : List Call) (b : Bag) (k : Row) (found : Option (List Total)) (o : Bag)
    → option_map (λ values. one_row (k ++ values)) (of_one (answers calls) found) ≡ Some o
    → (s : Standing) × (option_map (λ totals. record { rows = rows_in b; totals = totals }) found ≡ Some s)
totals_told calls b k None o e = cc
totals_told calls b k (Some ts) o e = (record { rows = rows_in b; totals = ts }, refl)

module _ (by : List Scalar) (calls : List Call) (b : Bag) where
  abbrev IsToldIn : List Row → Type 0
  IsToldIn ks = (k : Row) → (count (bag_of ks) k ≡ 0 → ⊥) → (s : Standing) × (standing calls (with_key by k b) ≡ Some s)

  told_more : (key : Row) (ks : List Row) → IsToldIn (key ∷ ks) → IsToldIn ks
  told_more key ks h k some = h k (λ none. some
      (rows_before (eq_by_cmp row_cmp k key) (count (bag_of ks) k) (sym (count-with_row key (bag_of ks) k) ∙ none)))

  count_first : (key : Row) (ks : List Row) → count (bag_of (key ∷ ks)) key ≡ suc (count (bag_of ks) key)
  count_first key ks = count-with_row key (bag_of ks) key
      ∙ ap (λ t. cond t (suc (count (bag_of ks) key)) (count (bag_of ks) key)) (self_tied key)

  -- ---- what is made of keys

  one_more : (key : Row) (ks : List Row) (found : Option Standing) (rest : Option Groups) (groups : Groups)
      → standing calls (with_key by key b) ≡ found → of_one (λ g. option_map (insert g key) found) rest ≡ Some groups
      → ((g : Groups) → rest ≡ Some g → (k : Row) → IsAt calls (with_key by k b) (count (bag_of ks) k) (get g k))
      → (k : Row) → IsAt calls (with_key by k b) (count (bag_of (key ∷ ks)) k) (get groups k)
  one_more key ks None None groups f e ih k = cc
  one_more key ks (Some s) None groups f e ih k = cc
  one_more key ks None (Some g) groups f e ih k = cc
  one_more key ks (Some s) (Some g) groups f e ih k =
      let made : insert g key s ≡ groups = cc in
      let has = ap (λ m. get m k) (sym made) ∙ get-insert row_total g key s k in
      elim (eq_by_cmp row_cmp k key) as (λ t. eq_by_cmp row_cmp k key ≡ t
      → count (bag_of (key ∷ ks)) k ≡ cond t (suc (count (bag_of ks) k)) (count (bag_of ks) k)
      → get groups k ≡ cond t (Some s) (get g k)
      → IsAt calls (with_key by k b) (count (bag_of (key ∷ ks)) k) (get groups k)) [
        | true ↦ λ t n m. at_as calls (with_key by k b) _ _ _ _ n m
            (s, (refl, ap (λ q. standing calls (with_key by q b)) (tied_rows k key t) ∙ f))
        | false ↦ λ t n m. at_as calls (with_key by k b) _ _ _ _ n m (ih g refl k)
      ] refl (count-with_row key (bag_of ks) k) has

  at_keys : (ks : List Row) (groups : Groups) → groups_at_keys by calls b ks ≡ Some groups
      → (k : Row) → IsAt calls (with_key by k b) (count (bag_of ks) k) (get groups k)
  at_keys [] groups e k =
      let made : ◌≡◌ {A = Groups} empty groups = cc in
      at_as calls (with_key by k b) _ 0 _ None (count-no_rows k)
      (ap (λ m. get m k) (sym made) ∙ get-empty row_cmp k) refl
  at_keys (key ∷ ks) groups e k =
      one_more key ks (standing calls (with_key by key b)) (groups_at_keys by calls b ks) groups refl e
      (at_keys ks) k

  made_at : (ks : List Row) → IsToldIn ks → (groups : Groups) × (groups_at_keys by calls b ks ≡ Some groups)
  made_at [] told = (empty, refl)
  made_at (key ∷ ks) told =
      let rest = made_at ks (told_more key ks told) in
      let here = told key (λ none. cc (count_first key ks, none)) in (
        insert rest.0 key here.0,
        ap (of_one (with_group by calls b key)) rest.1 ∙ ap (option_map (insert rest.0 key)) here.1,
      )

  -- ---- the groups of the bag

  made_are : (keyed : Bag) → projected by b ≡ Some keyed → (groups : Groups)
      → groups_at_keys by calls b (keys keyed) ≡ Some groups → IsGroupsOf by calls b groups
  made_are keyed is groups e = record {
    keyed = keyed;
    keys_are = is;
    stand = λ k.
        let rows = rows_with_key by k b keyed is in
        stand_at calls (with_key by k b) (count keyed k) (get groups k) (sym rows)
        (subst (λ n. IsAt calls (with_key by k b) n (get groups k)) (count-keys keyed k) (at_keys (keys keyed) groups e k));
  }

  pub groups_are : (groups : Groups) → groups_of by calls b ≡ Some groups → IsGroupsOf by calls b groups
  unfolding groups_of
  groups_are groups = elim (projected by b) as (λ found. projected by b ≡ found
      → of_one (λ keyed. groups_at_keys by calls b (keys keyed)) found ≡ Some groups → IsGroupsOf by calls b groups) [
        | None ↦ λ is e. cc
        | Some keyed ↦ λ is e. made_are keyed is groups e
      ] refl

  -- groups are made where each key that stands has its standing
  made : (keyed : Bag) → projected by b ≡ Some keyed → IsToldIn (keys keyed)
      → (groups : Groups) × (groups_of by calls b ≡ Some groups)
  unfolding groups_of
  made keyed is told =
      let found = made_at (keys keyed) told in (
        found.0,
        ap (of_one (λ keyed. groups_at_keys by calls b (keys keyed))) is ∙ found.1,
      )

  pub groups_found : (groups : Groups) → IsGroupsOf by calls b groups → groups_of by calls b ≡ Some groups
  groups_found groups h =
      let found = made h.keyed h.keys_are (λ k some. told_at calls (with_key by k b) (get groups k) (h.stand k)
      (λ none. some (count-keys h.keyed k ∙ ap once (rows_with_key by k b h.keyed h.keys_are ∙ none)))) in
      found.1 ∙ ap Some (one_groups by calls b found.0 groups (groups_are found.0 found.1) h)

  -- ---- where the Group has its rows

  rows_told : (ks : List Row) (o : Bag) → group_rows by calls b ks ≡ Some o → IsToldIn ks
  rows_told [] o e k some = absurd (some (count-no_rows k))
  rows_told (key ∷ ks) o e k some =
      let first = beside_there (group_row by calls b key) (group_rows by calls b ks) o e in
      let rest = beside_there (group_rows by calls b ks) (group_row by calls b key) o
      (beside-comm (group_rows by calls b ks) (group_row by calls b key) ∙ e) in
      let here = totals_told calls (with_key by key b) key (calls_total (with_key by key b) calls) first.0
      (sym (ap (option_map (λ values. one_row (key ++ values))) (calls_over-answers (with_key by key b) calls))
      ∙ first.1) in
      elim (eq_by_cmp row_cmp k key) as (λ t. eq_by_cmp row_cmp k key ≡ t
      → count (bag_of (key ∷ ks)) k ≡ cond t (suc (count (bag_of ks) k)) (count (bag_of ks) k)
      → (s : Standing) × (standing calls (with_key by k b) ≡ Some s)) [
        | true ↦ λ t n. (here.0, ap (λ q. standing calls (with_key by q b)) (tied_rows k key t) ∙ here.1)
        | false ↦ λ t n. rows_told ks rest.0 rest.1 k (λ none. some (n ∙ none))
      ] refl (count-with_row key (bag_of ks) k)

-- without keys a row has the key of no values alone
no_key_else : (b : Bag) (k : Row) → eq_by_cmp row_cmp k [] ≡ false → with_key [] k b ≡ no_rows
unfolding values_on
no_key_else b k t = bag_of_same _ _ (λ q.
    count-restricted (λ row. is_row k (values_on [] row)) b q
    ∙ ap (λ s. cond s (count b q) 0) t
    ∙ sym (count-no_rows q))

-- the keys of rows are among those that the Group has
among_distinct : (by : List Scalar) (b keyed : Bag) → projected by b ≡ Some keyed → (k : Row)
    → (count (bag_of (keys keyed)) k ≡ 0 → ⊥) → count (bag_of (distinct by keyed)) k ≡ 0 → ⊥
among_distinct [] b keyed is k some none =
    elim (eq_by_cmp row_cmp k []) as (λ t. eq_by_cmp row_cmp k [] ≡ t
    → count (bag_of ([] ∷ [])) k ≡ cond t (suc (count no_rows k)) (count no_rows k) → ⊥) [
      | true ↦ λ t n. cc
      | false ↦ λ t n. some (count-keys keyed k ∙ ap once (rows_with_key [] k b keyed is
          ∙ ap rows_in (no_key_else b k t) ∙ rows_in-no_rows))
    ] refl (count-with_row [] no_rows k)
among_distinct (e ∷ es) b keyed is k some none = some none

pub groups_there : (by : List Scalar) (calls : List Call) (b o : Bag) → grouped by calls b ≡ Some o
    → (groups : Groups) × (groups_of by calls b ≡ Some groups)
groups_there by calls b o = elim (projected by b) as (λ found. projected by b ≡ found
    → of_one (λ keyed. group_rows by calls b (distinct by keyed)) found ≡ Some o
    → (groups : Groups) × (groups_of by calls b ≡ Some groups)) [
      | None ↦ λ is e. cc
      | Some keyed ↦ λ is e. made by calls b keyed is (λ k some. rows_told by calls b (distinct by keyed) o e k
          (among_distinct by b keyed is k some))
    ] refl
