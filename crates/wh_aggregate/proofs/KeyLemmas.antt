-- The keys of groups, and those of the bag of keys.
--     keys-insert_put       the keys of a map with a key more
--     keys-empty_none       the empty map has none
--     keys-insert           the keys of a map with a key more are those of any map with the same keys
--     find_below            entries above a key have nothing at it
--     entries_found         each entry of a map is what the map has at its key
use Rattle.std.specs.Prelude.{◌≡◌, true, false, cond, T, List, [], ◌∷◌, map, Some, None}
use Rattle.std.proofs.Common.{refl, sym, ap, ◌∙◌}
use Rattle.std.specs.List.{AllByRecursion}
use Rattle.std.proofs.lemmas.List.{nil_from_length}
use Rattle.std.specs.declared.cmp.Ordering.{Ordering}
use Rattle.std.specs.declared.cmp.Ordering.TheVariants.{Less, Equal, Greater}
use Rattle.std.specs.Ordering.{is_eq, is_lt, ordering_reverse}
use Rattle.std.specs.FinMap.{FinMap, empty, insert, get, keys, entries, entries_sorted, entries-insert, get-entries}
use Rattle.std.specs.FinMap.{len-entries, len-empty, find, put, is_sorted}
use Rattle.std.specs.Cmp.{tied_itself}
use Rattle.std.specs.FinMap.Entries.{below_all, by_order}
use Rattle.wh_value.specs.Value.{Row, row_cmp}
use Rattle.wh_value.specs.Order.{row_total}
use Rattle.wh_value.proofs.TestLaws.{both_hold}

-- ---- a key more

abbrev pub put_key : Row → List Row → List Row
put_key key [] = key ∷ []
put_key key (x ∷ xs) = by_order (row_cmp key x) (key ∷ x ∷ xs) (x ∷ xs) (x ∷ put_key key xs)

module _ {X : Type 0} where
  keys-put : (key : Row) (v : X) (es : List (Row × X))
      → map (λ e. e.0) (put row_cmp key v es) ≡ put_key key (map (λ e. e.0) es)
  keys-put key v [] = refl
  keys-put key v (e ∷ es) =
      elim (row_cmp key e.0)
      as (λ r. map (λ x. x.0) (by_order r ((key, v) ∷ e ∷ es) ((e.0, v) ∷ es) (e ∷ put row_cmp key v es)) ≡ by_order
      r (key ∷ e.0 ∷ map (λ x. x.0) es) (e.0 ∷ map (λ x. x.0) es) (e.0 ∷ put_key key (map (λ x. x.0) es))) [
        | Less ↦ refl
        | Equal ↦ refl
        | Greater ↦ ap (λ ks. e.0 ∷ ks) (keys-put key v es)
      ]

  pub keys-insert_put : (m : FinMap row_cmp X) (key : Row) (v : X) → keys (insert m key v) ≡ put_key key (keys m)
  keys-insert_put m key v = ap (λ es. map (λ e. e.0) es) (entries-insert row_total m key v) ∙ keys-put key v (entries m)

pub keys-empty_none : (X : Type 0) → keys (empty {X = X} {R = row_cmp}) ≡ []
keys-empty_none X =
    ap (λ es. map (λ e. e.0) es) (nil_from_length (entries empty) (sym (len-entries empty) ∙ len-empty row_cmp X))

module _ {X Y : Type 0} where
  pub keys-insert : (m : FinMap row_cmp X) (n : FinMap row_cmp Y) (key : Row) (v : X) (w : Y) → keys m ≡ keys n
      → keys (insert m key v) ≡ keys (insert n key w)
  keys-insert m n key v w same = keys-insert_put m key v ∙ ap (put_key key) same ∙ sym (keys-insert_put n key w)

pub keys-empty : (X Y : Type 0) → keys (empty {X = X} {R = row_cmp}) ≡ keys (empty {X = Y} {R = row_cmp})
keys-empty X Y = keys-empty_none X ∙ sym (keys-empty_none Y)

-- ---- each entry is found

pub tied : (key : Row) → is_eq (row_cmp key key) ≡ true
tied key = ap is_eq (tied_itself row_total key)

apart : (r : Ordering) → T (is_lt r) → is_eq (ordering_reverse r) ≡ false
apart Less h = refl
apart Equal h = absurd h
apart Greater h = absurd h

less_apart : (r : Ordering) → T (is_lt r) → is_eq r ≡ false
less_apart Less h = refl
less_apart Equal h = absurd h
less_apart Greater h = absurd h

module _ {X : Type 0} where
  pub find_below : (q : Row) (es : List (Row × X)) → T (below_all row_cmp q es) → find row_cmp q es ≡ None
  find_below q [] h = refl
  find_below q (e ∷ es) h =
      ap (λ b. cond b (Some e.1) (find row_cmp q es)) (less_apart (row_cmp q e.0) (both_hold _ _ h).0)
      ∙ find_below q es (both_hold _ _ h).1

  found_later : (e : Row × X) (rest es : List (Row × X)) → T (below_all row_cmp e.0 es)
      → AllByRecursion (λ f. find row_cmp f.0 rest ≡ Some f.1) es
      → AllByRecursion (λ f. find row_cmp f.0 (e ∷ rest) ≡ Some f.1) es
  found_later e rest [] h all = tt
  found_later e rest (f ∷ es) h all =
      let later : is_eq (row_cmp f.0 e.0) ≡ false =
      ap is_eq (row_total.antisymm f.0 e.0) ∙ apart (row_cmp e.0 f.0) (both_hold _ _ h).0 in (
        ap (λ b. cond b (Some e.1) (find row_cmp f.0 rest)) later ∙ all.0,
        found_later e rest es (both_hold _ _ h).1 all.1,
      )

  all_found : (es : List (Row × X)) → T (is_sorted row_cmp es) → AllByRecursion (λ e. find row_cmp e.0 es ≡ Some e.1) es
  all_found [] h = tt
  all_found (e ∷ es) h = (
    ap (λ b. cond b (Some e.1) (find row_cmp e.0 es)) (tied e.0),
    found_later e es es (both_hold _ _ h).0 (all_found es (both_hold _ _ h).1),
  )

  all_gotten : (m : FinMap row_cmp X) (es : List (Row × X))
      → AllByRecursion (λ e. find row_cmp e.0 (entries m) ≡ Some e.1) es
      → AllByRecursion (λ e. get m e.0 ≡ Some e.1) es
  all_gotten m [] all = tt
  all_gotten m (e ∷ es) all = (get-entries m e.0 ∙ all.0, all_gotten m es all.1)

  pub entries_found : (m : FinMap row_cmp X) → AllByRecursion (λ e. get m e.0 ≡ Some e.1) (entries m)
  entries_found m = all_gotten m (entries m) (all_found (entries m) (entries_sorted m))
