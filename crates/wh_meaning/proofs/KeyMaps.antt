-- A tree of the code whose keys are in a total order, and the finite map of its entries.
--     gotten              both have the same at each key
--     entries_in_order    both have the same entries
--     map_after           a tree with one key written, and the map with it, where only equal keys tie
use Rattle.std.specs.Prelude.{◌≡◌, cond, List, [], ◌∷◌, Some}
use Rattle.std.proofs.Common.{refl, sym, ap, ◌∙◌}
use Rattle.std.proofs.lemmas.List.{nil_from_length}
use Rattle.std.specs.declared.cmp.Ordering.{Ordering}
use Rattle.std.specs.Ordering.{is_eq}
use Rattle.std.specs.Cmp.{IsTotalOrder, eq_by_cmp_equiv}
use Rattle.std.specs.BTreeMap.{is_at}
use Rattle.std.specs.Map.{lookup, keys_of}
use Rattle.std.specs.List.Sorted.{IsStrictlySortedBy}
use Rattle.std.proofs.lemmas.Map.Keys.{sorted_head, sorted_tail}
use Rattle.std.specs.FinMap.{IsAntisymmetric, empty, get, insert, entries, from_entries, find, put, same_map}
use Rattle.std.specs.FinMap.{get-from_entries, get-insert, entries-insert, len-entries, len-empty}
use Rattle.std.specs.FinMap.Entries.{by_order}

module _ {K X : Type 0} (cmp : K → K → Ordering) where
  find-lookup : (q : K) (es : List (K × X)) → find cmp q es ≡ lookup (is_at (cmp q)) es
  find-lookup q [] = refl
  find-lookup q (e ∷ es) = ap (cond (is_eq (cmp q e.0)) (Some e.1)) (find-lookup q es)

  put_first : (e : K × X) (es : List (K × X)) → IsStrictlySortedBy cmp (keys_of (e ∷ es)) → put cmp e.0 e.1 es ≡ e ∷ es
  put_first e [] sorted = refl
  put_first e (f ∷ es) sorted =
      ap (λ r. by_order r (e ∷ f ∷ es) ((f.0, e.1) ∷ es) (f ∷ put cmp e.0 e.1 es))
      (sorted_head cmp e.0 (keys_of (f ∷ es)) sorted).0

module _ {K X : Type 0} {cmp : K → K → Ordering} (total : IsTotalOrder cmp) where
  pub gotten : (es : List (K × X)) (q : K) → get (from_entries {R = cmp} es) q ≡ lookup (is_at (cmp q)) es
  gotten es q = get-from_entries total es q ∙ find-lookup cmp q es

  pub entries_in_order : (es : List (K × X)) → IsStrictlySortedBy cmp (keys_of es)
      → entries (from_entries {R = cmp} es) ≡ es
  entries_in_order [] sorted = nil_from_length (entries empty) (sym (len-entries empty) ∙ len-empty cmp X)
  entries_in_order (e ∷ es) sorted =
      entries-insert total (from_entries es) e.0 e.1
      ∙ ap (put cmp e.0 e.1) (entries_in_order es (sorted_tail cmp e.0 (keys_of es) sorted))
      ∙ put_first cmp e es sorted

  pub map_after : IsAntisymmetric cmp → (m n : List (K × X)) (key : K) (v : X)
      → ((q : K) → lookup (is_at (cmp q)) n ≡ cond (is_eq (cmp key q)) (Some v) (lookup (is_at (cmp q)) m))
      → from_entries {R = cmp} n ≡ insert (from_entries m) key v
  map_after unique m n key v has = same_map total unique _ _ (λ q.
      gotten n q
      ∙ has q
      ∙ ap (λ b. cond b (Some v) (lookup (is_at (cmp q)) m)) ((eq_by_cmp_equiv total).symm key q)
      ∙ ap (cond (is_eq (cmp q key)) (Some v)) (sym (gotten m q))
      ∙ sym (get-insert total (from_entries m) key v q))
