-- Groups of some rows, joined with groups of others, are the groups of all of them.
--     with_groups     groups with listed groups more, from the first to the last
--     with_all        groups with all of other groups
--     both_over       groups of a bag with all groups of another are those of both bags
use Rattle.std.specs.Prelude.{◌≡◌, ℤ, true, false, cond, T, List, [], ◌∷◌, ◌++◌, Option, Some, None}
use Rattle.std.specs.Prelude.{option_map, is_some, unwrap_or}
use Rattle.std.proofs.Common.{arith, refl, sym, ap, subst, ◌∙◌}
use Rattle.std.proofs.lemmas.Int.{ints}
use Rattle.std.proofs.lemmas.Bool.{or_left}
use Rattle.std.specs.List.{list_any}
use Rattle.std.specs.Ordering.{is_eq, eq_by_cmp}
use Rattle.std.specs.FinMap.{empty, insert, get, find, entries, entries_sorted, is_sorted, same_map}
use Rattle.std.specs.FinMap.{get-empty, get-insert, get-entries, contains_key, contains_key-keys}
use Rattle.std.specs.FinMap.Entries.{below_all}
use Rattle.wh_value.specs.Value.{Value, Number, Truth, Text, Null, Row, row_cmp}
use Rattle.wh_value.specs.Order.{row_total, row-IsAntisymmetric}
use Rattle.wh_value.proofs.TestLaws.{both_hold}
use Rattle.wh_meaning.specs.Scalar.{Scalar, of_two}
use Rattle.wh_meaning.specs.Bag.{Bag, bag_of, plus}
use Rattle.wh_meaning.specs.Query.{Call, Total, with_number, with_argument, values_on}
use Rattle.wh_meaning.proofs.BagLaws.{tied_rows, bag_of-append}
use Rattle.wh_meaning.proofs.Listed.{rows_with}
use Rattle.wh_aggregate.specs.Tally.{argument_of, nothing, before, begun, tallied, both_totals, together}
use Rattle.wh_aggregate.specs.Groups.{Groups, begun_groups, totals_at, noted, groups_of, AreOver}
use Rattle.wh_aggregate.specs.Groups.{with_totals, with_group}
use Rattle.wh_aggregate.proofs.CallLemmas.{totals_from, total_from, totals_from-none, totals_from-both}
use Rattle.wh_aggregate.proofs.KeyLemmas.{tied, find_below}
use Rattle.wh_aggregate.proofs.GroupLemmas.{step_of, own_totals, keyed_rows}

-- ---- a row more, before totals are taken together or after

total_is : (a b : Total) → a.sum ≡ b.sum → a.values ≡ b.values → a ≡ b
total_is a b sums values =
    ap (λ (z : ℤ). let t : Total = record { sum = z; values = a.values } in t) sums
    ∙ ap (λ n. let t : Total = record { sum = b.sum; values = n } in t) values

number-both : (v : Value) (t u : Total) → with_number v (both_totals t u) ≡ both_totals (with_number v t) u
number-both (Number z) t u = total_is _ _ (omega (arith, ints)) (omega arith)
number-both (Truth b) t u = total_is _ _ refl (omega arith)
number-both (Text bytes) t u = total_is _ _ refl (omega arith)
number-both Null t u = refl

argument-both : (a : Option Value) (t u : Total)
    → with_argument a (Some (both_totals t u)) ≡ option_map (λ x. both_totals x u) (with_argument a (Some t))
argument-both None t u = refl
argument-both (Some v) t u = ap Some (number-both v t u)

before-both : (u : Total) (us : List Total) (t : Option Total) (ts : Option (List Total)) →
    of_two before (option_map (λ x. both_totals x u) t) (option_map (λ x. together x us) ts)
    ≡ option_map (λ x. together x (u ∷ us)) (of_two before t ts)
before-both u us None ts = refl
before-both u us (Some t) None = refl
before-both u us (Some t) (Some ts) = refl

alone : (ts : Option (List Total)) → option_map (λ x. together x []) ts ≡ ts
alone None = refl
alone (Some []) = refl
alone (Some (t ∷ ts)) = refl

tallied-together : (calls : List Call) (row : Row) (ts us : List Total)
    → tallied calls row (together ts us) ≡ option_map (λ x. together x us) (tallied calls row ts)
tallied-together [] row ts us = refl
tallied-together (call ∷ calls) row [] us = refl
tallied-together (call ∷ calls) row (t ∷ ts) [] = sym (alone (tallied (call ∷ calls) row (t ∷ ts)))
tallied-together (call ∷ calls) row (t ∷ ts) (u ∷ us) =
    ap (λ a. of_two before a (tallied calls row (together ts us))) (argument-both (argument_of call row) t u)
    ∙ ap (of_two before (option_map (λ x. both_totals x u) (with_argument (argument_of call row) (Some t))))
    (tallied-together calls row ts us)
    ∙ before-both u us (with_argument (argument_of call row) (Some t)) (tallied calls row ts)

-- ---- the totals of no rows change nothing

nothing-both : (t : Total) → both_totals nothing t ≡ t
nothing-both t = total_is _ _ (omega (arith, ints)) (omega arith)

begun-before : (begins : List Total) (t : Option Total) (ts : Option (List Total)) (found : List Total)
    → ((us : List Total) → ts ≡ Some us → together begins us ≡ us) → of_two before t ts ≡ Some found
    → together (nothing ∷ begins) found ≡ found
begun-before begins None ts found rest e = cc
begun-before begins (Some t) None found rest e = cc
begun-before begins (Some t) (Some us) found rest e =
    let is : t ∷ us ≡ found = cc in
    ap (together (nothing ∷ begins)) (sym is)
    ∙ ap (λ x. x ∷ together begins us) (nothing-both t)
    ∙ ap (λ xs. t ∷ xs) (rest us refl)
    ∙ is

begun-together : (calls : List Call) (rows : List Row) (ts : List Total) → totals_from calls rows ≡ Some ts
    → together (begun calls) ts ≡ ts
begun-together [] rows ts e = let is : Some [] ≡ Some ts = sym (totals_from-none rows) ∙ e in cc
begun-together (call ∷ calls) rows ts e =
    begun-before (begun calls) (total_from call rows) (totals_from calls rows) ts (begun-together calls rows)
    (sym (totals_from-both call calls rows) ∙ e)

-- ---- what stands at a key

abbrev both_found : Option (List Total) → Option (List Total) → Option (List Total)
both_found found None = found
both_found found (Some more) = Some (with_totals found more)

abbrev with_more : List Total → Option (List Total) → List Total
with_more totals None = totals
with_more totals (Some more) = together totals more

abbrev pub with_groups : List (Row × List Total) → Groups → Groups
with_groups [] groups = groups
with_groups (e ∷ es) groups = with_groups es (with_group e.0 e.1 groups)

get-with_groups : (q : Row) (es : List (Row × List Total)) (groups : Groups) → T (is_sorted row_cmp es)
    → get (with_groups es groups) q ≡ both_found (get groups q) (find row_cmp q es)
get-with_groups q [] groups h = refl
get-with_groups q (e ∷ es) groups h =
    get-with_groups q es (with_group e.0 e.1 groups) (both_hold _ _ h).1
    ∙ ap (λ o. both_found o (find row_cmp q es)) (get-insert row_total groups e.0 (with_totals (get groups e.0) e.1) q)
    ∙ elim (is_eq (row_cmp q e.0)) as (λ t. is_eq (row_cmp q e.0) ≡ t
    → both_found (cond t (Some (with_totals (get groups e.0) e.1)) (get groups q)) (find row_cmp q es)
    ≡ both_found (get groups q) (cond t (Some e.1) (find row_cmp q es))) [
      | true ↦ λ t.
          let key : q ≡ e.0 = tied_rows q e.0 t in
          let none : find row_cmp q es ≡ None =
          find_below q es (subst (λ k. T (below_all row_cmp k es)) (sym key) (both_hold _ _ h).0) in
          ap (both_found (Some (with_totals (get groups e.0) e.1))) none
          ∙ ap (λ k. Some (with_totals (get groups k) e.1)) (sym key)
      | false ↦ λ t. refl
    ] refl

abbrev pub with_all : Groups → Groups → Groups
with_all others groups = with_groups (entries others) groups

get-with_all : (others groups : Groups) (q : Row)
    → get (with_all others groups) q ≡ both_found (get groups q) (get others q)
get-with_all others groups q =
    get-with_groups q (entries others) groups (entries_sorted others)
    ∙ ap (both_found (get groups q)) (sym (get-entries others q))

found-none : (o : Option (List Total)) → both_found None o ≡ o
found-none None = refl
found-none (Some ts) = refl

found-some : (ts : List Total) (o : Option (List Total)) → both_found (Some ts) o ≡ Some (with_more ts o)
found-some ts None = refl
found-some ts (Some more) = refl

-- ---- a row more, before groups are joined or after

tallied-more : (calls : List Call) (row : Row) (ts us : List Total) (o : Option (List Total))
    → tallied calls row ts ≡ Some us
    → tallied calls row (with_more ts o) ≡ Some (with_more us o)
tallied-more calls row ts us None e = e
tallied-more calls row ts us (Some more) e =
    tallied-together calls row ts more ∙ ap (option_map (λ x. together x more)) e

or_begun : (begins : List Total) (found o : Option (List Total))
    → with_more begins o ≡ unwrap_or o begins
    → unwrap_or (both_found found o) begins ≡ with_more (unwrap_or found begins) o
or_begun begins None None e = refl
or_begun begins None (Some more) e = sym e
or_begun begins (Some ts) None e = refl
or_begun begins (Some ts) (Some more) e = refl

some_is : (o : Option (List Total)) (begins : List Total) → is_some o ≡ true → Some (unwrap_or o begins) ≡ o
some_is None begins e = cc
some_is (Some ts) begins e = refl

one_key : (calls : List Call) (rows : List Row) (groups : Groups) → groups_of [] calls rows ≡ Some groups
    → contains_key groups [] ≡ true
one_key calls rows groups is =
    contains_key-keys groups []
    ∙ ap (list_any (eq_by_cmp row_cmp [])) (keyed_rows [] calls rows groups is).2
    ∙ or_left (is_eq (row_cmp [] [])) false (tied [])

module _ (calls : List Call) (others : Groups)
    (whole : (q : Row) → with_more (begun calls) (get others q) ≡ totals_at calls others q) where
  noted-joined : (row key : Row) (groups : Groups) (totals : List Total)
      → tallied calls row (totals_at calls groups key) ≡ Some totals
      → noted calls row key (with_all others groups) ≡ Some (with_all others (insert groups key totals))
  noted-joined row key groups totals is =
      let all = with_more totals (get others key) in
      ap (λ o. option_map (insert (with_all others groups) key) (tallied calls row (unwrap_or o (begun calls))))
      (get-with_all others groups key)
      ∙ ap (λ ts. option_map (insert (with_all others groups) key) (tallied calls row ts))
      (or_begun (begun calls) (get groups key) (get others key) (whole key))
      ∙ ap (option_map (insert (with_all others groups) key))
      (tallied-more calls row (totals_at calls groups key) totals (get others key) is)
      ∙ ap Some (same_map row_total row-IsAntisymmetric _ _ (λ q.
      get-insert row_total (with_all others groups) key all q
      ∙ ap (cond (is_eq (row_cmp q key)) (Some all)) (get-with_all others groups q)
      ∙ elim (is_eq (row_cmp q key)) as (λ t. is_eq (row_cmp q key) ≡ t
      → cond t (Some all) (both_found (get groups q) (get others q))
      ≡ both_found (cond t (Some totals) (get groups q)) (get others q)) [
        | true ↦ λ t. ap (λ k. Some (with_more totals (get others k))) (sym (tied_rows q key t))
            ∙ sym (found-some totals (get others q))
        | false ↦ λ t. refl
      ] refl
      ∙ sym (get-with_all others (insert groups key totals) q
      ∙ ap (λ o. both_found o (get others q)) (get-insert row_total groups key totals q))))

  found-begun : (by : List Scalar) (rows : List Row) → groups_of by calls rows ≡ Some others → (q : Row)
      → both_found (get (begun_groups by calls) q) (get others q) ≡ get others q
  found-begun [] rows is q =
      ap (λ o. both_found o (get others q)) (get-insert row_total empty [] (begun calls) q)
      ∙ elim (is_eq (row_cmp q [])) as (λ t. is_eq (row_cmp q []) ≡ t
      → both_found (cond t (Some (begun calls)) (get (empty {R = row_cmp}) q)) (get others q) ≡ get others q) [
        | true ↦ λ t. found-some (begun calls) (get others q)
            ∙ ap Some (whole q)
            ∙ some_is (get others q) (begun calls)
            (ap (contains_key others) (tied_rows q [] t) ∙ one_key calls rows others is)
        | false ↦ λ t. ap (λ o. both_found o (get others q)) (get-empty row_cmp q) ∙ found-none (get others q)
      ] refl
  found-begun (e ∷ es) rows is q =
      ap (λ o. both_found o (get others q)) (get-empty row_cmp q) ∙ found-none (get others q)

  begun-joined : (by : List Scalar) (rows : List Row) → groups_of by calls rows ≡ Some others
      → with_all others (begun_groups by calls) ≡ others
  begun-joined by rows is = same_map row_total row-IsAntisymmetric _ _ (λ q.
      get-with_all others (begun_groups by calls) q ∙ found-begun by rows is q)

-- ---- the groups of all rows

module _ (by : List Scalar) (calls : List Call) (behind : List Row) (others : Groups)
    (others_are : groups_of by calls behind ≡ Some others) where
  whole_or : (q : Row) (o : Option (List Total)) → get others q ≡ o
      → with_more (begun calls) o ≡ unwrap_or o (begun calls)
  whole_or q None e = refl
  whole_or q (Some ts) e =
      begun-together calls (rows_with by q behind) ts
      (own_totals by calls behind others others_are q ∙ ap (λ o. Some (unwrap_or o (begun calls))) e)

  groups_of-joined : (rows : List Row) (groups : Groups) → groups_of by calls rows ≡ Some groups
      → groups_of by calls (rows ++ behind) ≡ Some (with_all others groups)
  groups_of-joined [] groups e =
      let is : begun_groups by calls ≡ groups = cc in
      let unchanged : with_all others (begun_groups by calls) ≡ others =
      begun-joined calls others (λ q. whole_or q (get others q) refl) by behind others_are in
      others_are ∙ ap Some (sym unchanged ∙ ap (with_all others) is)
  groups_of-joined (row ∷ rows) groups e =
      let s = step_of calls row (values_on by row) (groups_of by calls rows) groups e in
      ap (of_two (noted calls row) (values_on by row)) (groups_of-joined rows s.before s.before_is)
      ∙ ap (λ k. of_two (noted calls row) k (Some (with_all others s.before))) s.key_is
      ∙ noted-joined calls others (λ q. whole_or q (get others q) refl) row s.key s.before s.totals s.totals_is
      ∙ ap (λ m. Some (with_all others m)) (sym s.groups_is)

pub both_over : (by : List Scalar) (calls : List Call) (b c : Bag) (groups others : Groups)
    → AreOver by calls b groups → AreOver by calls c others → AreOver by calls (plus b c) (with_all others groups)
both_over by calls b c groups others over behind = record {
  rows = over.rows ++ behind.rows;
  bag_is = bag_of-append over.rows behind.rows
      ∙ ap (λ x. plus x (bag_of behind.rows)) over.bag_is
      ∙ ap (plus b) behind.bag_is;
  groups_are = groups_of-joined by calls behind.rows others behind.groups_are over.rows groups over.groups_are;
}
