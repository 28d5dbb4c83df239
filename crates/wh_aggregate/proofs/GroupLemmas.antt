-- What the walk over the rows computes is what a Group means.
--     step_of               what the walk over one row more tells of its parts
--     own_totals            the totals at a key are those of the rows that have it
--     keyed_rows            the keys of the groups are those of the rows
--     grouped-listed        where it ends, the rows of its groups are those that are meant
--     grouped-undefined     where it stops, none are meant
use Rattle.std.specs.Prelude.{◌≡◌, ℕ, Bool, true, false, cond, ◌||◌, ◌⊎◌, List, [], ◌∷◌, ◌++◌, map, Option}
use Rattle.std.specs.Prelude.{Some, None, option_map, is_some, unwrap_or}
use Rattle.std.proofs.Common.{refl, sym, ap, ◌∙◌, inl, inr}
use Rattle.std.specs.List.{AllByRecursion, list_any}
use Rattle.std.proofs.lemmas.Bool.{or_left, or_right}
use Rattle.std.specs.Ordering.{is_eq, eq_by_cmp}
use Rattle.std.specs.FinMap.{empty, insert, get, keys, entries, get-empty, get-insert, contains_key, contains_key-keys}
use Rattle.wh_value.specs.Value.{Row, row_cmp}
use Rattle.wh_value.specs.Order.{row_total}
use Rattle.wh_meaning.specs.Scalar.{Scalar, of_one, of_two}
use Rattle.wh_meaning.specs.Bag.{Bag, no_rows, one_row, with_row, count, bag_of, beside}
use Rattle.wh_meaning.specs.Query.{Call, Total, values_on, image_by, projected, calls_over, is_row, with_key}
use Rattle.wh_meaning.specs.Query.{distinct, grouped}
use Rattle.wh_meaning.specs.Query as meaning
use Rattle.wh_meaning.proofs.BagLaws.{tied_rows, one_row-plus, restricted-bag_of}
use Rattle.wh_meaning.proofs.Gathered.{gathered-no_rows, gathered-with_row}
use Rattle.wh_meaning.proofs.Listed.{rows_with}
use Rattle.wh_aggregate.specs.Tally.{begun, tallied, answers}
use Rattle.wh_aggregate.specs.Groups.{Groups, begun_groups, totals_at, noted, groups_of, row_before, listed}
use Rattle.wh_aggregate.proofs.CallLemmas.{totals_from, answers-bag_of, nothing_beside}
use Rattle.wh_aggregate.proofs.KeyLemmas.{put_key, keys-insert, keys-insert_put, keys-empty, keys-empty_none}
use Rattle.wh_aggregate.proofs.KeyLemmas.{tied, entries_found}

abbrev has_key : List Scalar → Row → Row → Bool
has_key by key row = is_row key (values_on by row)

-- ---- what a step that ends tells of its parts

mapped : {A B : Type 0} (f : A → B) (o : Option A) (y : B) → option_map f o ≡ Some y
    → (x : A) × (o ≡ Some x) × (y ≡ f x)
mapped f None y e = cc
mapped f (Some x) y e = (x, refl, cc)

pub record Step (calls : List Call) (row : Row) (key_found : Option Row) (found : Option Groups) (groups : Groups)
    : Type 0 where
  pub key : Row
  pub before : Groups
  pub totals : List Total
  pub key_is : key_found ≡ Some key
  pub before_is : found ≡ Some before
  pub totals_is : tallied calls row (totals_at calls before key) ≡ Some totals
  pub groups_is : groups ≡ insert before key totals

pub step_of : (calls : List Call) (row : Row) (k : Option Row) (g : Option Groups) (groups : Groups)
    → of_two (noted calls row) k g ≡ Some groups
    → Step calls row k g groups
step_of calls row None g groups e = cc
step_of calls row (Some key) None groups e = cc
step_of calls row (Some key) (Some before) groups e =
    let found = mapped (insert before key) (tallied calls row (totals_at calls before key)) groups e in
    record {
      key = key;
      before = before;
      totals = found.0;
      key_is = refl;
      before_is = refl;
      totals_is = found.1;
      groups_is = found.2;
    }

-- ---- the totals at a key are those of the rows that have it

module _ (calls : List Call) (row : Row) (key : Row) (before : Groups) (totals : List Total)
    (totals_is : tallied calls row (totals_at calls before key) ≡ Some totals) where
  totals_step : (q : Row) (rows : List Row) (b : Bool) → is_eq (row_cmp q key) ≡ b
      → totals_from calls rows ≡ Some (totals_at calls before q)
      → totals_from calls (cond b (row ∷ rows) rows)
      ≡ Some (unwrap_or (cond b (Some totals) (get before q)) (begun calls))
  totals_step q rows true t e =
      ap (of_one (tallied calls row)) e
      ∙ ap (λ k. tallied calls row (totals_at calls before k)) (tied_rows q key t) ∙ totals_is
  totals_step q rows false t e = e

begun_at : (by : List Scalar) (calls : List Call) (q : Row) → totals_at calls (begun_groups by calls) q ≡ begun calls
begun_at [] calls q =
    ap (λ o. unwrap_or o (begun calls)) (get-insert row_total empty [] (begun calls) q)
    ∙ elim (is_eq (row_cmp q []))
    as (λ t. unwrap_or (cond t (Some (begun calls)) (get (empty {R = row_cmp}) q)) (begun calls) ≡ begun calls) [
      | true ↦ refl
      | false ↦ ap (λ o. unwrap_or o (begun calls)) (get-empty row_cmp q)
    ]
begun_at (e ∷ es) calls q = ap (λ o. unwrap_or o (begun calls)) (get-empty row_cmp q)

pub own_totals : (by : List Scalar) (calls : List Call) (rows : List Row) (groups : Groups)
    → groups_of by calls rows ≡ Some groups → (q : Row)
    → totals_from calls (rows_with by q rows) ≡ Some (totals_at calls groups q)
own_totals by calls [] groups e q =
    let is : begun_groups by calls ≡ groups = cc in
    ap Some (sym (begun_at by calls q)) ∙ ap (λ m. Some (totals_at calls m q)) is
own_totals by calls (row ∷ rows) groups e q =
    let s = step_of calls row (values_on by row) (groups_of by calls rows) groups e in
    ap (λ k. totals_from calls (cond (is_row q k) (row ∷ rows_with by q rows) (rows_with by q rows))) s.key_is
    ∙ totals_step calls row s.key s.before s.totals s.totals_is q (rows_with by q rows) (is_eq (row_cmp q s.key)) refl
    (own_totals by calls rows s.before s.before_is q)
    ∙ ap (λ o. Some (unwrap_or o (begun calls)))
    (sym (ap (λ m. get m q) s.groups_is ∙ get-insert row_total s.before s.key s.totals q))

-- ---- the keys of the groups are those of the rows

projected-more : (by : List Scalar) (row : Row) (rows : List Row)
    → projected by (bag_of (row ∷ rows)) ≡ beside (image_by by row) (projected by (bag_of rows))
projected-more by row rows = gathered-with_row (image_by by) row (bag_of rows)

one_more : (key : Row) (o : Option Row) (p : Option Bag) (keyed : Bag) → o ≡ Some key → p ≡ Some keyed
    → beside (option_map one_row o) p ≡ Some (with_row key keyed)
one_more key o p keyed o_is p_is =
    ap (λ x. beside (option_map one_row x) p) o_is ∙ ap (beside (Some (one_row key))) p_is
    ∙ ap Some (one_row-plus key keyed)

begun_keys : (by : List Scalar) (calls : List Call) → keys (begun_groups by calls) ≡ distinct by no_rows
begun_keys [] calls = keys-insert_put empty [] (begun calls) ∙ ap (put_key []) (keys-empty_none (List Total))
begun_keys (e ∷ es) calls = keys-empty (List Total) ℕ

keys_more : (by : List Scalar) (row key : Row) (totals : List Total) (groups : Groups) (keyed : Bag)
    → values_on by row ≡ Some key → keys groups ≡ distinct by keyed
    → keys (insert groups key totals) ≡ distinct by (with_row key keyed)
unfolding values_on
keys_more [] row key totals groups keyed key_is same =
    let none : [] ≡ key = cc in
    ap (λ k. keys (insert groups k totals)) (sym none) ∙ keys-insert_put groups [] totals ∙ ap (put_key []) same
keys_more (e ∷ es) row key totals groups keyed key_is same = keys-insert groups keyed key totals (count keyed key) same

pub keyed_rows : (by : List Scalar) (calls : List Call) (rows : List Row) (groups : Groups)
    → groups_of by calls rows ≡ Some groups
    → (keyed : Bag) × (projected by (bag_of rows) ≡ Some keyed) × (keys groups ≡ distinct by keyed)
keyed_rows by calls [] groups e =
    let is : groups ≡ begun_groups by calls = cc in
    (no_rows, gathered-no_rows (image_by by), ap keys is ∙ begun_keys by calls)
keyed_rows by calls (row ∷ rows) groups e =
    let s = step_of calls row (values_on by row) (groups_of by calls rows) groups e in
    let rest = keyed_rows by calls rows s.before s.before_is in (
      with_row s.key rest.0,
      projected-more by row rows
          ∙ one_more s.key (values_on by row) (projected by (bag_of rows)) rest.0 s.key_is rest.1,
      ap keys s.groups_is ∙ keys_more by row s.key s.totals s.before rest.0 s.key_is rest.2,
    )

-- a key that a row has is among them
keyed_has_more : (key q : Row) (keyed : Bag)
    → contains_key (with_row key keyed) q ≡ (is_eq (row_cmp q key) || contains_key keyed q)
keyed_has_more key q keyed =
    ap is_some (get-insert row_total keyed key (count keyed key) q)
    ∙ elim (is_eq (row_cmp q key)) as (λ b. is_some (cond b (Some (count keyed key)) (get keyed q))
    ≡ (b || is_some (get keyed q))) [ true ↦ refl | false ↦ refl ]

record Image (o : Option Row) (p : Option Bag) (keyed : Bag) : Type 0 where
  key : Row
  rest : Bag
  key_is : o ≡ Some key
  rest_is : p ≡ Some rest
  keyed_is : keyed ≡ with_row key rest

image_of : (o : Option Row) (p : Option Bag) (keyed : Bag) → beside (option_map one_row o) p ≡ Some keyed
    → Image o p keyed
image_of None p keyed e = cc
image_of (Some key) None keyed e = cc
image_of (Some key) (Some rest) keyed e =
    let joined : Some (with_row key rest) ≡ Some keyed = ap Some (sym (one_row-plus key rest)) ∙ e in
    record { key = key; rest = rest; key_is = refl; rest_is = refl; keyed_is = cc joined }

keyed_has : (by : List Scalar) (q : Row) (rows : List Row) (keyed : Bag) → projected by (bag_of rows) ≡ Some keyed
    → contains_key keyed q ≡ list_any (has_key by q) rows
keyed_has by q [] keyed e =
    let is : Some no_rows ≡ Some keyed = sym (gathered-no_rows (image_by by)) ∙ e in
    let same : keyed ≡ no_rows = cc is in
    ap (λ b. contains_key b q) same ∙ ap is_some (get-empty row_cmp q)
keyed_has by q (row ∷ rows) keyed e =
    let i = image_of (values_on by row) (projected by (bag_of rows)) keyed (sym (projected-more by row rows) ∙ e) in
    ap (λ b. contains_key b q) i.keyed_is
    ∙ keyed_has_more i.key q i.rest
    ∙ ap (λ b. is_eq (row_cmp q i.key) || b) (keyed_has by q rows i.rest i.rest_is)
    ∙ ap (λ k. is_row q k || list_any (has_key by q) rows) (sym i.key_is)

-- without keys a row has the empty key alone
own_key : (q : Row) (rows : List Row) → list_any (has_key [] q) rows ≡ true → is_eq (row_cmp q []) ≡ true
unfolding values_on
own_key q [] any = cc
own_key q (row ∷ rows) any =
    elim (is_eq (row_cmp q [])) as (λ t. is_eq (row_cmp q []) ≡ t → (t || list_any (has_key [] q) rows) ≡ true
    → t ≡ true) [
      | true ↦ λ _ _. refl
      | false ↦ λ t later. sym t ∙ own_key q rows later
    ] refl any

distinct_has : (by : List Scalar) (q : Row) (rows : List Row) (keyed : Bag) → projected by (bag_of rows) ≡ Some keyed
    → list_any (has_key by q) rows ≡ true
    → list_any (eq_by_cmp row_cmp q) (distinct by keyed) ≡ true
distinct_has [] q rows keyed p any = or_left (is_eq (row_cmp q [])) _ (own_key q rows any)
distinct_has (e ∷ es) q rows keyed p any =
    sym (contains_key-keys keyed q) ∙ keyed_has (e ∷ es) q rows keyed p ∙ any

-- ---- where the walk ends

calls_of_key : (by : List Scalar) (calls : List Call) (rows : List Row) (key : Row)
    → calls_over (with_key by key (bag_of rows)) calls
    ≡ of_one (answers calls) (totals_from calls (rows_with by key rows))
calls_of_key by calls rows key =
    ap (λ b. calls_over b calls) (restricted-bag_of (has_key by key) rows)
    ∙ answers-bag_of calls (rows_with by key rows)

group_before : (key : Row) (a : Option Row) (rest : Option (List Row)) →
    beside (option_map (λ values. one_row (key ++ values)) a) (option_map bag_of rest)
    ≡ option_map bag_of (of_two row_before (option_map (λ values. key ++ values) a) rest)
group_before key None rest = refl
group_before key (Some values) None = refl
group_before key (Some values) (Some rows) = ap Some (one_row-plus (key ++ values) (bag_of rows))

rows_listed : (by : List Scalar) (calls : List Call) (b : Bag) (es : List (Row × List Total))
    → AllByRecursion (λ e. calls_over (with_key by e.0 b) calls ≡ answers calls e.1) es
    → meaning.group_rows by calls b (map (λ e. e.0) es) ≡ option_map bag_of (listed calls es)
rows_listed by calls b [] all = refl
rows_listed by calls b (e ∷ es) all =
    ap (λ a. beside (option_map (λ values. one_row (e.0 ++ values)) a)
    (meaning.group_rows by calls b (map (λ x. x.0) es))) all.0
    ∙ ap (beside (option_map (λ values. one_row (e.0 ++ values)) (answers calls e.1))) (rows_listed by calls b es all.1)
    ∙ group_before e.0 (answers calls e.1) (listed calls es)

entries_answered : (by : List Scalar) (calls : List Call) (rows : List Row) (groups : Groups)
    → groups_of by calls rows ≡ Some groups → (es : List (Row × List Total))
    → AllByRecursion (λ e. get groups e.0 ≡ Some e.1) es
    → AllByRecursion (λ e. calls_over (with_key by e.0 (bag_of rows)) calls ≡ answers calls e.1) es
entries_answered by calls rows groups is [] all = tt
entries_answered by calls rows groups is (e ∷ es) all = (
  calls_of_key by calls rows e.0
      ∙ ap (of_one (answers calls)) (own_totals by calls rows groups is e.0)
      ∙ ap (λ o. answers calls (unwrap_or o (begun calls))) all.0,
  entries_answered by calls rows groups is es all.1,
)

pub grouped-listed : (by : List Scalar) (calls : List Call) (rows : List Row) (groups : Groups)
    → groups_of by calls rows ≡ Some groups
    → grouped by calls (bag_of rows) ≡ option_map bag_of (listed calls (entries groups))
grouped-listed by calls rows groups is =
    let keyed = keyed_rows by calls rows groups is in
    ap (of_one (λ k. meaning.group_rows by calls (bag_of rows) (distinct by k))) keyed.1
    ∙ ap (meaning.group_rows by calls (bag_of rows)) (sym keyed.2)
    ∙ rows_listed by calls (bag_of rows) (entries groups)
    (entries_answered by calls rows groups is (entries groups) (entries_found groups))

-- ---- where it stops

record KeyWithout (by : List Scalar) (calls : List Call) (rows : List Row) : Type 0 where
  key : Row
  stands : list_any (has_key by key) rows ≡ true
  without : totals_from calls (rows_with by key rows) ≡ None

-- no key of some row, or no totals at a key that a row has
abbrev Undefined : List Scalar → List Call → List Row → Type 0
Undefined by calls rows = (projected by (bag_of rows) ≡ None) ⊎ KeyWithout by calls rows

none_before : (calls : List Call) (row : Row) (rows : List Row) (b : Bool) → totals_from calls rows ≡ None
    → totals_from calls (cond b (row ∷ rows) rows) ≡ None
none_before calls row rows true e = ap (of_one (tallied calls row)) e
none_before calls row rows false e = e

mapped_none : {A B : Type 0} (f : A → B) (o : Option A) → option_map f o ≡ None → o ≡ None
mapped_none f None e = refl
mapped_none f (Some x) e = cc

undefined_step : (by : List Scalar) (calls : List Call) (row : Row) (rows : List Row) (k : Option Row)
    → values_on by row ≡ k → (g : Option Groups) → groups_of by calls rows ≡ g
    → (groups_of by calls rows ≡ None → Undefined by calls rows) → of_two (noted calls row) k g ≡ None
    → Undefined by calls (row ∷ rows)
undefined_step by calls row rows None k_is g g_is earlier e =
    inl (projected-more by row rows ∙ ap (λ o. beside (option_map one_row o) (projected by (bag_of rows))) k_is)
undefined_step by calls row rows (Some key) k_is None g_is earlier e =
    elim (earlier g_is) as (λ _. Undefined by calls (row ∷ rows)) [
      | inl none ↦
          inl (projected-more by row rows ∙ ap (beside (image_by by row)) none ∙ nothing_beside _ (image_by by row))
      | inr w ↦ inr (record {
        key = w.key;
        stands = or_right (has_key by w.key row) _ w.stands;
        without = none_before calls row (rows_with by w.key rows) (has_key by w.key row) w.without;
      })
    ]
undefined_step by calls row rows (Some key) k_is (Some groups) g_is earlier e =
    let has : has_key by key row ≡ true = ap (is_row key) k_is ∙ tied key in
    inr (record {
      key = key;
      stands = or_left (has_key by key row) _ has;
      without = ap (λ b. totals_from calls (cond b (row ∷ rows_with by key rows) (rows_with by key rows))) has
          ∙ ap (of_one (tallied calls row)) (own_totals by calls rows groups g_is key)
          ∙ mapped_none (insert groups key) (tallied calls row (totals_at calls groups key)) e;
    })

undefined : (by : List Scalar) (calls : List Call) (rows : List Row) → groups_of by calls rows ≡ None
    → Undefined by calls rows
undefined by calls [] e = cc
undefined by calls (row ∷ rows) e =
    undefined_step by calls row rows (values_on by row) refl (groups_of by calls rows) refl
    (undefined by calls rows) e

no_group_rows : (by : List Scalar) (calls : List Call) (b : Bag) (key : Row)
    → calls_over (with_key by key b) calls ≡ None → (ks : List Row) → list_any (eq_by_cmp row_cmp key) ks ≡ true
    → meaning.group_rows by calls b ks ≡ None
no_group_rows by calls b key none [] any = cc
no_group_rows by calls b key none (k ∷ ks) any =
    elim (is_eq (row_cmp key k)) as (λ t. is_eq (row_cmp key k) ≡ t → (t || list_any (eq_by_cmp row_cmp key) ks) ≡ true
    → meaning.group_rows by calls b (k ∷ ks) ≡ None) [
      | true ↦
          λ t _. ap (λ a. beside (option_map (λ values. one_row (k ++ values)) a) (meaning.group_rows by calls b ks))
          (ap (λ q. calls_over (with_key by q b) calls) (sym (tied_rows key k t)) ∙ none)
      | false ↦ λ t later. ap (beside (meaning.group_row by calls b k)) (no_group_rows by calls b key none ks later)
          ∙ nothing_beside _ (meaning.group_row by calls b k)
    ] refl any

pub grouped-undefined : (by : List Scalar) (calls : List Call) (rows : List Row) → groups_of by calls rows ≡ None
    → grouped by calls (bag_of rows) ≡ None
grouped-undefined by calls rows is =
    let b = bag_of rows in
    elim (undefined by calls rows is) as (λ _. grouped by calls b ≡ None) [
      | inl none ↦ ap (of_one (λ k. meaning.group_rows by calls b (distinct by k))) none
      | inr w ↦
          let none : calls_over (with_key by w.key b) calls ≡ None =
          calls_of_key by calls rows w.key ∙ ap (of_one (answers calls)) w.without in
          elim (projected by b)
          as (λ p. projected by b ≡ p → of_one (λ k. meaning.group_rows by calls b (distinct by k)) p ≡ None) [
            | None ↦ λ _. refl
            | Some keyed ↦ λ p. no_group_rows by calls b w.key none (distinct by keyed)
                (distinct_has by w.key rows keyed p w.stands)
          ] refl
    ]
