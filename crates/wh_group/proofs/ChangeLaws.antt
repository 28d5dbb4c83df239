-- What the walk over the touched groups finds.
--     after_at               what stands at a key afterwards, where a move was found there
--     set_all-get            the groups with the entries that were found have that
--     moved_all-get          groups that have it are there, whatever rows they show
--     rising, all_change     the entries rise, and change what stood
--     befores_shown, afters_shown     the rows before and afterwards
use Rattle.std.specs.Prelude.{◌≡◌, ◌≢◌, true, false, cond, T, List, [], ◌∷◌, ◌++◌, map, Option, Some, None}
use Rattle.std.specs.Prelude.{option_map}
use Rattle.std.proofs.Common.{refl, sym, ap, subst, ◌∙◌, inl, inr}
use Rattle.std.specs.List.{AllByRecursion}
use Rattle.std.specs.List.Sorted.{IsStrictlySortedBy}
use Rattle.std.specs.declared.cmp.Ordering.TheVariants.{Less}
use Rattle.std.specs.Ordering.{is_lt, eq_by_cmp}
use Rattle.std.specs.FinMap.{get, find, is_sorted}
use Rattle.std.specs.FinMap.Entries.{below_all}
use Rattle.wh_value.specs.Value.{Row, row_cmp}
use Rattle.wh_value.specs.Order.{row_total}
use Rattle.wh_value.proofs.TestLaws.{both_hold}
use Rattle.wh_meaning.specs.Scalar.{of_two}
use Rattle.wh_meaning.specs.Bag.{one_row, bag_of, gathered}
use Rattle.wh_meaning.specs.Query.{Call}
use Rattle.wh_meaning.proofs.BagLaws.{tied_rows}
use Rattle.wh_meaning.proofs.Gathered.{each, gathered-each}
use Rattle.wh_maintenance.specs.Standing.{Standing, Groups, answers, shown}
use Rattle.wh_maintenance.specs.Entries.{GroupEntry, set_at, set_one, set_all}
use Rattle.wh_maintenance.proofs.EntryLaws.{less_is, not_among, apart_back, get-set_at}
use Rattle.wh_group.specs.Moves.{Move}
use Rattle.wh_group.specs.Settling.{now_at, shown_rows, appended, befores, afters, IsChange, AreChanges}
use Rattle.wh_group.specs.Updates.{keys_of}

module _ (calls : List Call) (groups : Groups) where
  abbrev pub after_at : Row → Option Move → Option Standing → Option Standing
  after_at k None was = was
  after_at k (Some mv) was = now_at calls groups (k, mv)

  -- groups have at the keys of entries what the others had
  abbrev Agree : Groups → List (Row × Move) → Type 0
  Agree g es = AllByRecursion (λ e. get g e.0 ≡ get groups e.0) es

  pub agree_with : (es : List (Row × Move)) → Agree groups es
  agree_with [] = tt
  agree_with (e ∷ es) = (refl, agree_with es)

  agree_set : (g : Groups) (k key : Row) (v : Option Standing) (es : List (Row × Move)) → key ≡ k
      → T (below_all row_cmp k es) → Agree g es → Agree (set_at g key v) es
  agree_set g k key v [] is below h = tt
  agree_set g k key v (e ∷ es) is below h =
      let parts = both_hold (is_lt (row_cmp k e.0)) (below_all row_cmp k es) below in
      let apart : eq_by_cmp row_cmp e.0 key ≡ false = ap (eq_by_cmp row_cmp e.0) is
      ∙ apart_back row_total k e.0 parts.0 in (
        get-set_at g key v e.0 ∙ ap (λ t. cond t v (get g e.0)) apart ∙ h.0,
        agree_set g k key v es is parts.1 h.1,
      )

  now_tied : (k : Row) (e : Row × Move) → eq_by_cmp row_cmp k e.0 ≡ true
      → now_at calls groups (k, e.1) ≡ now_at calls groups e
  now_tied k e t = ap (λ q. now_at calls groups (q, e.1)) (tied_rows k e.0 t)

  -- an entry that is as it was
  passed : (e : Row × Move) (es : List (Row × Move)) (g g' : Groups) (k : Row) → T (below_all row_cmp e.0 es)
      → now_at calls groups e ≡ get groups e.0 → get g e.0 ≡ get groups e.0
      → get g' k ≡ after_at k (find row_cmp k es) (get g k)
      → get g' k ≡ after_at k (find row_cmp k (e ∷ es)) (get g k)
  passed e es g g' k below same agrees rest = elim (eq_by_cmp row_cmp k e.0) as (λ t. eq_by_cmp row_cmp k e.0 ≡ t
      → get g' k ≡ after_at k (cond t (Some e.1) (find row_cmp k es)) (get g k)) [
        | true ↦ λ t.
            rest
            ∙ ap (λ o. after_at k o (get g k))
            (not_among row_cmp k es (subst (λ q. T (below_all row_cmp q es)) (sym (tied_rows k e.0 t)) below))
            ∙ ap (get g) (tied_rows k e.0 t) ∙ agrees ∙ sym same ∙ sym (now_tied k e t)
        | false ↦ λ t. rest
      ] refl

  -- an entry that is other than before
  changed : (e : Row × Move) (es : List (Row × Move)) (x : GroupEntry) (g g' : Groups) (k : Row)
      → T (below_all row_cmp e.0 es) → IsChange calls groups e x
      → get g' k ≡ after_at k (find row_cmp k es) (get (set_one g x) k)
      → get g' k ≡ after_at k (find row_cmp k (e ∷ es)) (get g k)
  changed e es x g g' k below change rest =
      let here : get (set_one g x) k ≡ cond (eq_by_cmp row_cmp k e.0) x.group (get g k) =
      get-set_at g x.key x.group k
      ∙ ap (λ q. cond (eq_by_cmp row_cmp k q) x.group (get g k)) change.1 in
      elim (eq_by_cmp row_cmp k e.0) as (λ t. eq_by_cmp row_cmp k e.0 ≡ t
      → get (set_one g x) k ≡ cond t x.group (get g k)
      → get g' k ≡ after_at k (cond t (Some e.1) (find row_cmp k es)) (get g k)) [
        | true ↦ λ t h.
            rest
            ∙ ap (λ o. after_at k o (get (set_one g x) k))
            (not_among row_cmp k es (subst (λ q. T (below_all row_cmp q es)) (sym (tied_rows k e.0 t)) below))
            ∙ h ∙ change.2 ∙ sym (now_tied k e t)
        | false ↦ λ t h. rest ∙ ap (after_at k (find row_cmp k es)) h
      ] refl here

  pub set_all-get : (es : List (Row × Move)) (xs : List GroupEntry) (g : Groups) (k : Row) → T (is_sorted row_cmp es)
      → AreChanges calls groups es xs → Agree g es
      → get (set_all xs g) k ≡ after_at k (find row_cmp k es) (get g k)
  set_all-get [] [] g k sorted h agree = refl
  set_all-get [] (x ∷ xs) g k sorted h agree = absurd h
  set_all-get (e ∷ es) [] g k sorted h agree =
      let s = both_hold (below_all row_cmp e.0 es) (is_sorted row_cmp es) sorted in
      passed e es g g k s.0 h.0 agree.0 (set_all-get es [] g k s.1 h.1 agree.1)
  set_all-get (e ∷ es) (x ∷ xs) g k sorted (inl h) agree =
      let s = both_hold (below_all row_cmp e.0 es) (is_sorted row_cmp es) sorted in
      passed e es g (set_all (x ∷ xs) g) k s.0 h.0 agree.0 (set_all-get es (x ∷ xs) g k s.1 h.1 agree.1)
  set_all-get (e ∷ es) (x ∷ xs) g k sorted (inr h) agree =
      let s = both_hold (below_all row_cmp e.0 es) (is_sorted row_cmp es) sorted in
      changed e es x g (set_all xs (set_one g x)) k s.0 h.0
      (set_all-get es xs (set_one g x) k s.1 h.1 (agree_set g e.0 x.key x.group es h.0.1 s.0 agree.1))

  -- ---- groups that have what stands at each key afterwards

  abbrev pub moved_all : List (Row × Move) → Groups
  moved_all [] = groups
  moved_all (e ∷ es) = set_at (moved_all es) e.0 (now_at calls groups e)

  pub moved_all-get : (es : List (Row × Move)) (k : Row)
      → get (moved_all es) k ≡ after_at k (find row_cmp k es) (get groups k)
  moved_all-get [] k = refl
  moved_all-get (e ∷ es) k =
      get-set_at (moved_all es) e.0 (now_at calls groups e) k
      ∙ elim (eq_by_cmp row_cmp k e.0) as (λ t. eq_by_cmp row_cmp k e.0 ≡ t
      → cond t (now_at calls groups e) (get (moved_all es) k)
      ≡ after_at k (cond t (Some e.1) (find row_cmp k es)) (get groups k)) [
        | true ↦ λ t. sym (now_tied k e t)
        | false ↦ λ t. moved_all-get es k
      ] refl

  -- ---- the entries

  all_above : (k : Row) (es : List (Row × Move)) (xs : List GroupEntry) → T (below_all row_cmp k es)
      → AreChanges calls groups es xs → AllByRecursion (λ y. row_cmp k y ≡ Less) (keys_of xs)
  all_above k [] [] below h = tt
  all_above k [] (x ∷ xs) below h = absurd h
  all_above k (e ∷ es) [] below h = tt
  all_above k (e ∷ es) (x ∷ xs) below (inl h) =
      all_above k es (x ∷ xs) (both_hold (is_lt (row_cmp k e.0)) (below_all row_cmp k es) below).1 h.1
  all_above k (e ∷ es) (x ∷ xs) below (inr h) =
      let parts = both_hold (is_lt (row_cmp k e.0)) (below_all row_cmp k es) below in
      (ap (row_cmp k) h.0.1 ∙ less_is (row_cmp k e.0) parts.0, all_above k es xs parts.1 h.1)

  pub rising : (es : List (Row × Move)) (xs : List GroupEntry) → T (is_sorted row_cmp es)
      → AreChanges calls groups es xs → IsStrictlySortedBy row_cmp (keys_of xs)
  unfolding IsStrictlySortedBy
  rising [] [] sorted h = tt
  rising [] (x ∷ xs) sorted h = absurd h
  rising (e ∷ es) [] sorted h = tt
  rising (e ∷ es) (x ∷ xs) sorted (inl h) =
      rising es (x ∷ xs) (both_hold (below_all row_cmp e.0 es) (is_sorted row_cmp es) sorted).1 h.1
  rising (e ∷ es) (x ∷ xs) sorted (inr h) =
      let s = both_hold (below_all row_cmp e.0 es) (is_sorted row_cmp es) sorted in (
        subst (λ k. AllByRecursion (λ y. row_cmp k y ≡ Less) (keys_of xs)) (sym h.0.1) (all_above e.0 es xs s.0 h.1),
        rising es xs s.1 h.1,
      )

  pub all_change : (es : List (Row × Move)) (xs : List GroupEntry) → AreChanges calls groups es xs
      → AllByRecursion (λ x. x.group ≢ get groups x.key) xs
  all_change [] [] h = tt
  all_change [] (x ∷ xs) h = absurd h
  all_change (e ∷ es) [] h = tt
  all_change (e ∷ es) (x ∷ xs) (inl h) = all_change es (x ∷ xs) h.1
  all_change (e ∷ es) (x ∷ xs) (inr h) = (
    λ same. h.0.0 (sym h.0.2 ∙ same ∙ ap (get groups) h.0.1),
    all_change es xs h.1,
  )

  -- ---- the rows

  shown_listed : (k : Row) (found : Option Standing)
      → shown calls k found ≡ option_map bag_of (shown_rows calls k found)
  shown_listed k None = refl
  shown_listed k (Some s) = elim (answers calls s.totals) as (λ a.
      option_map (λ values. one_row (k ++ values)) a
      ≡ option_map bag_of (option_map (λ row. row ∷ []) (option_map (λ values. k ++ values) a))) [
        | None ↦ refl
        | Some values ↦ refl
      ]

  befores_each : (es : List (Row × Move))
      → befores calls groups es ≡ each (λ k. shown_rows calls k (get groups k)) (map (λ e. e.0) es)
  befores_each [] = refl
  befores_each (e ∷ es) = ap (of_two appended (shown_rows calls e.0 (get groups e.0))) (befores_each es)

  afters_each : (g : Groups) (es : List (Row × Move)) → AllByRecursion (λ e. get g e.0 ≡ now_at calls groups e) es
      → afters calls groups es ≡ each (λ k. shown_rows calls k (get g k)) (map (λ e. e.0) es)
  afters_each g [] all = refl
  afters_each g (e ∷ es) all =
      ap (λ o. of_two appended (shown_rows calls e.0 o) (afters calls groups es)) (sym all.0)
      ∙ ap (of_two appended (shown_rows calls e.0 (get g e.0))) (afters_each g es all.1)

  pub befores_shown : (es : List (Row × Move))
      → gathered (λ k. shown calls k (get groups k)) (bag_of (map (λ e. e.0) es))
      ≡ option_map bag_of (befores calls groups es)
  befores_shown es =
      gathered-each (λ k. shown calls k (get groups k)) (λ k. shown_rows calls k (get groups k))
      (λ k. shown_listed k (get groups k)) (map (λ e. e.0) es)
      ∙ ap (option_map bag_of) (sym (befores_each es))

  pub afters_shown : (g : Groups) (es : List (Row × Move))
      → AllByRecursion (λ e. get g e.0 ≡ now_at calls groups e) es
      → gathered (λ k. shown calls k (get g k)) (bag_of (map (λ e. e.0) es))
      ≡ option_map bag_of (afters calls groups es)
  afters_shown g es all =
      gathered-each (λ k. shown calls k (get g k)) (λ k. shown_rows calls k (get g k))
      (λ k. shown_listed k (get g k)) (map (λ e. e.0) es)
      ∙ ap (option_map bag_of) (sym (afters_each g es all))
