-- The entries between groups and others.
--     same_group_is, same_group_itself     the test of groups
--     between_leads        they lead from the groups to the others
--     between_rises        their keys rise strictly
--     between_changes      each lets another group stand than stood
--     between_removes      one that removes a group finds it
--     between_alone        no other entries do all that
use Rattle.std.specs.Prelude.{◌≡◌, ◌≢◌, Bool, true, false, not, ◌&&◌, ◌||◌, cond, T, nat_eq, List, [], ◌∷◌, ◌++◌, map}
use Rattle.std.specs.Prelude.{Option, Some, None, unwrap_or, is_some}
use Rattle.std.proofs.Common.{refl, sym, ap, subst, ◌∙◌}
use Rattle.std.proofs.lemmas.Bool.{eqb-true, eq-eqb, true≢false}
use Rattle.std.proofs.lemmas.List.Folds.{list_any-append}
use Rattle.std.specs.Ordering.{is_eq, eq_by_cmp, int_cmp}
use Rattle.std.specs.Cmp.{tied_itself, int_cmp_total}
use Rattle.std.specs.List.{AllByRecursion, list_any}
use Rattle.std.specs.List.Sorted.{IsStrictlySortedBy}
use Rattle.std.specs.Option.{IsSomeAnd}
use Rattle.std.specs.FinMap.{FinMap, get, entries, entries_sorted, keys, find, is_sorted, from_sorted, retain_keys, same_map}
use Rattle.std.specs.FinMap.{int_cmp-IsAntisymmetric, contains_key-keys, get-retain_keys, get-from_entries}
use Rattle.std.specs.FinMap.{get-entries, entries-from_sorted, get-from_sorted}
use Rattle.wh_value.specs.Value.{Row, row_cmp}
use Rattle.wh_value.specs.Order.{row_total, row-IsAntisymmetric}
use Rattle.wh_value.proofs.TestLaws.{is-Equal}
use Rattle.wh_value.proofs.ListLaws.{all_map}
use Rattle.wh_meaning.specs.Query.{Total}
use Rattle.wh_meaning.proofs.BagLaws.{tied_rows}
use Rattle.wh_maintenance.specs.Standing.{Standing, Groups}
use Rattle.wh_maintenance.specs.Entries.{GroupEntry, set_all, same_total, same_totals, same_group, with_both_keys}
use Rattle.wh_maintenance.specs.Entries.{is_another, entry_of, entries_between}
use Rattle.wh_maintenance.proofs.LinearQuery.{both_true}
use Rattle.wh_maintenance.proofs.EntryLaws.{rises, is_rising, each_found, set_all-entries}

-- ---- the test of groups

same_total_is : (t u : Total) → same_total t u ≡ true → t ≡ u
same_total_is t u e =
    let both = both_true (eq_by_cmp int_cmp t.sum u.sum) (nat_eq t.values u.values) e in
    ap (λ z. record { sum = z; values = t.values })
    (int_cmp-IsAntisymmetric t.sum u.sum (is-Equal (int_cmp t.sum u.sum) both.0))
    ∙ ap (λ n. record { sum = u.sum; values = n }) (eqb-true t.values u.values both.1)

same_totals_are : (ts us : List Total) → same_totals ts us ≡ true → ts ≡ us
same_totals_are [] [] e = refl
same_totals_are [] (u ∷ us) e = cc
same_totals_are (t ∷ ts) [] e = cc
same_totals_are (t ∷ ts) (u ∷ us) e =
    let both = both_true (same_total t u) (same_totals ts us) e in
    (λ i. same_total_is t u both.0 i ∷ same_totals_are ts us both.1 i)

pub same_group_is : (a b : Option Standing) → same_group a b ≡ true → a ≡ b
same_group_is None None e = refl
same_group_is None (Some t) e = cc
same_group_is (Some s) None e = cc
same_group_is (Some s) (Some t) e =
    let both = both_true (nat_eq s.rows t.rows) (same_totals s.totals t.totals) e in
    ap (λ n. Some (record { rows = n; totals = s.totals })) (eqb-true s.rows t.rows both.0)
    ∙ ap (λ ts. Some (record { rows = t.rows; totals = ts })) (same_totals_are s.totals t.totals both.1)

both_are : (a b : Bool) → a ≡ true → b ≡ true → a && b ≡ true
both_are true b e f = f
both_are false b e f = cc

same_totals_itself : (ts : List Total) → same_totals ts ts ≡ true
same_totals_itself [] = refl
same_totals_itself (t ∷ ts) =
    both_are (same_total t t) (same_totals ts ts) (both_are (eq_by_cmp int_cmp t.sum t.sum) (nat_eq t.values t.values)
    (ap is_eq (tied_itself int_cmp_total t.sum)) (eq-eqb t.values t.values refl)) (same_totals_itself ts)

pub same_group_itself : (a : Option Standing) → same_group a a ≡ true
same_group_itself None = refl
same_group_itself (Some s) =
    both_are (nat_eq s.rows s.rows) (same_totals s.totals s.totals) (eq-eqb s.rows s.rows refl)
    (same_totals_itself s.totals)

-- ---- at each key

-- what is found at keys, where each has what a function gives
found_of : {X : Type 0} (f : Row → X) (ks : List Row) (q : Row)
    → find row_cmp q (map (λ k. (k, f k)) ks) ≡ cond (list_any (eq_by_cmp row_cmp q) ks) (Some (f q)) None
found_of f [] q = refl
found_of {X = X} f (k ∷ ks) q = elim (eq_by_cmp row_cmp q k) as (λ t. eq_by_cmp row_cmp q k ≡ t
    → cond t (Some (f k)) (find row_cmp q (map (λ k. (k, f k)) ks))
    ≡ cond (t || list_any (eq_by_cmp row_cmp q) ks) (Some (f q)) None) [
      | true ↦ λ t. ap (λ k. Some (f k)) (sym (tied_rows q k t))
      | false ↦ λ t. found_of f ks q
    ] refl

-- where another group stands afterwards, one stood or stands
one_stands : (was now : Option Standing) → cond (not (same_group was now))
    (cond (is_some was || is_some now) (Some now) None) None ≡ cond (not (same_group was now)) (Some now) None
one_stands None None = refl
one_stands None (Some t) = refl
one_stands (Some s) None = refl
one_stands (Some s) (Some t) = refl

-- an entry, or none, leads to what stands afterwards
leads_at : (was now : Option Standing)
    → unwrap_or (cond (not (same_group was now)) (Some now) None) was ≡ now
leads_at was now = elim (same_group was now) as (λ t. same_group was now ≡ t
    → unwrap_or (cond (not t) (Some now) None) was ≡ now) [
      | true ↦ λ t. same_group_is was now t
      | false ↦ λ t. refl
    ] refl

-- so does no other
alone_at : (was now : Option Standing) (found : Option (Option Standing)) → unwrap_or found was ≡ now
    → ((v : Option Standing) → found ≡ Some v → v ≢ was) → found ≡ cond (not (same_group was now)) (Some now) None
alone_at was now None leads changes =
    sym (ap (λ t. cond (not t) (Some now) None) (ap (same_group was) (sym leads) ∙ same_group_itself was))
alone_at was now (Some v) leads changes = elim (same_group was now) as (λ t. same_group was now ≡ t
    → ◌≡◌ {A = Option (Option Standing)} (Some v) (cond (not t) (Some now) None)) [
      | true ↦ λ t. absurd (changes v refl (leads ∙ sym (same_group_is was now t)))
      | false ↦ λ t. ap Some leads
    ] refl

-- what is found at a key is another group than stood
found_other : (was now v : Option Standing) → cond (not (same_group was now)) (Some now) None ≡ Some v → v ≢ was
found_other was now v = elim (same_group was now) as (λ t. same_group was now ≡ t
    → cond (not t) (Some now) None ≡ Some v → v ≢ was) [
      | true ↦ λ t e. cc
      | false ↦ λ t e same.
          let is : now ≡ v = cc in
          true≢false (sym (ap (same_group was) (is ∙ same) ∙ same_group_itself was) ∙ t)
    ] refl

stood : (found : Option Standing) → None ≢ found → IsSomeAnd found (λ s. Unit {0})
stood None other = absurd (other refl)
stood (Some s) other = tt

-- ---- lists of entries

keys_kept : (es : List (Row × Option Standing)) → map (λ x. x.key) (map entry_of es) ≡ map (λ e. e.0) es
keys_kept [] = refl
keys_kept (e ∷ es) = ap (λ ks. e.0 ∷ ks) (keys_kept es)

all_entries : (P : GroupEntry → Type 0) (es : List (Row × Option Standing)) → AllByRecursion (λ e. P (entry_of e)) es
    → AllByRecursion P (map entry_of es)
all_entries P [] h = tt
all_entries P (e ∷ es) h = (h.0, all_entries P es h.1)

-- ---- the entries

module _ (old new : Groups) where
  abbrev changed : FinMap row_cmp (Option Standing)
  changed = retain_keys (with_both_keys old new) (is_another old new)

  get-both : (q : Row)
      → get (with_both_keys old new) q ≡ cond (is_some (get old q) || is_some (get new q)) (Some (get new q)) None
  get-both q =
      get-from_entries row_total (map (λ key. (key, get new key)) (keys old ++ keys new)) q
      ∙ found_of (get new) (keys old ++ keys new) q
      ∙ ap (λ t. cond t (Some (get new q)) None) (list_any-append (eq_by_cmp row_cmp q) (keys old) (keys new)
      ∙ (λ i. sym (contains_key-keys old q) i || sym (contains_key-keys new q) i))

  get-changed : (q : Row) → get changed q ≡ cond (is_another old new q) (Some (get new q)) None
  get-changed q =
      get-retain_keys (with_both_keys old new) (is_another old new) q
      (λ x t. ap (is_another old new) (sym (row-IsAntisymmetric q x t)))
      ∙ ap (λ o. cond (is_another old new q) o None) (get-both q)
      ∙ one_stands (get old q) (get new q)

  pub between_leads : set_all (entries_between old new) old ≡ new
  unfolding entries_between
  between_leads = same_map row_total row-IsAntisymmetric _ _ (λ q.
      set_all-entries (entries changed) old q (entries_sorted changed)
      ∙ ap (λ o. unwrap_or o (get old q)) (sym (get-entries changed q) ∙ get-changed q)
      ∙ leads_at (get old q) (get new q))

  pub between_rises : IsStrictlySortedBy row_cmp (map (λ x. x.key) (entries_between old new))
  unfolding entries_between
  between_rises = subst (IsStrictlySortedBy row_cmp) (sym (keys_kept (entries changed)))
      (rises row_cmp (entries changed) (entries_sorted changed))

  pub between_changes : AllByRecursion (λ x. x.group ≢ get old x.key) (entries_between old new)
  unfolding entries_between
  between_changes = all_entries (λ x. x.group ≢ get old x.key) (entries changed)
      (all_map _ _ (λ e h. found_other (get old e.0) (get new e.0) e.1 (sym (get-changed e.0) ∙ h)) (entries changed)
      (each_found row_total changed))

  pub between_removes :
      AllByRecursion (λ x. x.group ≡ None → IsSomeAnd (get old x.key) (λ s. Unit {0})) (entries_between old new)
  between_removes = all_map _ _ (λ x other gone. stood (get old x.key) (λ same. other (gone ∙ same)))
      (entries_between old new) between_changes

-- ---- no other entries lead so

abbrev pair_of : GroupEntry → Row × Option Standing
pair_of x = (x.key, x.group)

pairs_back : (xs : List GroupEntry) → map entry_of (map pair_of xs) ≡ xs
pairs_back [] = refl
pairs_back (x ∷ xs) = ap (λ ys. x ∷ ys) (pairs_back xs)

pair_keys : (xs : List GroupEntry) → map (λ x. x.key) xs ≡ map (λ e. e.0) (map pair_of xs)
pair_keys [] = refl
pair_keys (x ∷ xs) = ap (λ ks. x.key ∷ ks) (pair_keys xs)

-- what is found of entries that change something is another group
found_changes : (old : Groups) (xs : List GroupEntry) (q : Row) (v : Option Standing)
    → AllByRecursion (λ x. x.group ≢ get old x.key) xs → find row_cmp q (map pair_of xs) ≡ Some v → v ≢ get old q
found_changes old [] q v all e = cc
found_changes old (x ∷ xs) q v all e = elim (eq_by_cmp row_cmp q x.key) as (λ t. eq_by_cmp row_cmp q x.key ≡ t
    → cond t (Some x.group) (find row_cmp q (map pair_of xs)) ≡ Some v → v ≢ get old q) [
      | true ↦ λ t is same.
          let here : x.group ≡ v = cc in
          all.0 (here ∙ same ∙ ap (get old) (tied_rows q x.key t))
      | false ↦ λ t is. found_changes old xs q v all.1 is
    ] refl e

pub between_alone : (es : List GroupEntry) (old new : Groups) → IsStrictlySortedBy row_cmp (map (λ x. x.key) es)
    → AllByRecursion (λ x. x.group ≢ get old x.key) es → set_all es old ≡ new → es ≡ entries_between old new
unfolding entries_between
between_alone es old new rising changes leads =
    let pairs = map pair_of es in
    let sorted : T (is_sorted row_cmp pairs) = is_rising row_cmp pairs (subst (IsStrictlySortedBy row_cmp)
    (pair_keys es) rising) in
    let at : (q : Row) → unwrap_or (find row_cmp q pairs) (get old q) ≡ get new q = λ q.
    sym (set_all-entries pairs old q sorted)
    ∙ ap (λ xs. get (set_all xs old) q) (pairs_back es)
    ∙ ap (λ g. get g q) leads in
    let same : from_sorted pairs ≡ changed old new = same_map row_total row-IsAntisymmetric _ _ (λ q.
    get-from_sorted row_cmp pairs q sorted
    ∙ alone_at (get old q) (get new q) (find row_cmp q pairs) (at q) (λ v. found_changes old es q v changes)
    ∙ sym (get-changed old new q)) in
    sym (pairs_back es) ∙ ap (map entry_of) (sym (entries-from_sorted row_cmp pairs sorted) ∙ ap entries same)
