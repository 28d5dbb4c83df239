-- The net changes from one version to another lead from it to the other.
--     without_get, with_get     what stands at a number behind records that are deleted, and inserted
--     patched                   rows with the net changes to others are the others
use Rattle.std.proofs.Common.{◌≡◌, ℕ, Bool, true, false, cond, ◌&&◌, ◌||◌, List, [], ◌∷◌, ◌++◌, Option, Some, None}
use Rattle.std.proofs.Common.{refl, sym, ap, ◌∙◌, Less, Equal, Greater}
use Rattle.std.specs.declared.cmp.Ordering.{Ordering}
use Rattle.std.specs.Prelude.{not, is_some}
use Rattle.std.specs.List.{filter, flat_map, list_any}
use Rattle.std.specs.FinMap.{get, entries, get-entries, get-insert, get-remove, same_map, nat_cmp-IsAntisymmetric}
use Rattle.std.specs.FinMap.Entries.{is_some-find}
use Rattle.std.specs.Ordering.{nat_cmp, eq_by_cmp, is_eq}
use Rattle.std.specs.Cmp.{nat_cmp_total}
use Rattle.std.proofs.lemmas.List.Folds.{list_any-append}
use Rattle.std.proofs.lemmas.Map.Views.{any-filter_same}
use Rattle.wh_value.specs.Value.{Row, row_cmp}
use Rattle.wh_value.specs.Order.{row-IsAntisymmetric}
use Rattle.wh_state.specs.State.{Rows}
use Rattle.wh_state.proofs.RowLaws.{number_tied}
use Rattle.wh_net.specs.Net.{RowAction, Delete, Insert, RowChange, deleted, inserted, net_change, numbers_in}
use Rattle.wh_net.specs.Net.{numbers_in_either, net, patch, taken_out, put_back, without_deleted, with_inserted}

-- ---- records one after the other

abbrev is_delete : RowAction → Bool
is_delete Delete = true
is_delete Insert = false

abbrev is_at : ℕ → ℕ → Bool
is_at q number = eq_by_cmp nat_cmp q number

abbrev deletes : ℕ → RowChange → Bool
deletes q r = is_delete r.action && is_at q r.number

either_none : (a b : Bool) (found : Option Row) → cond b None (cond a None found) ≡ cond (a || b) None found
either_none true true found = refl
either_none true false found = refl
either_none false b found = refl

without_get : (rows : Rows) (rs : List RowChange) (q : ℕ)
    → get (without_deleted rows rs) q ≡ cond (list_any (deletes q) rs) None (get rows q)
without_get rows [] q = refl
without_get rows (r ∷ rs) q =
    without_get (taken_out r.action r.number rows) rs q
    ∙ ap (cond (list_any (deletes q) rs) None) (one r.action)
    ∙ either_none (deletes q r) (list_any (deletes q) rs) (get rows q)
  where
    one : (a : RowAction) → get (taken_out a r.number rows) q ≡ cond (is_delete a && is_at q r.number) None (get rows q)
    one Delete = get-remove nat_cmp_total rows r.number q
    one Insert = refl

-- what a record leaves at a number
abbrev left_by : RowAction → Bool → Row → Option Row → Option Row
left_by Delete same row found = found
left_by Insert same row found = cond same (Some row) found

abbrev stands : ℕ → List RowChange → Option Row → Option Row
stands q [] found = found
stands q (r ∷ rs) found = stands q rs (left_by r.action (is_at q r.number) r.row found)

with_get : (rows : Rows) (rs : List RowChange) (q : ℕ) → get (with_inserted rows rs) q ≡ stands q rs (get rows q)
with_get rows [] q = refl
with_get rows (r ∷ rs) q =
    with_get (put_back r.action r.number r.row rows) rs q ∙ ap (stands q rs) (one r.action)
  where
    one : (a : RowAction) → get (put_back a r.number r.row rows) q ≡ left_by a (is_at q r.number) r.row (get rows q)
    one Delete = refl
    one Insert = get-insert nat_cmp_total rows r.number r.row q

stands_append : (q : ℕ) (rs more : List RowChange) (found : Option Row)
    → stands q (rs ++ more) found ≡ stands q more (stands q rs found)
stands_append q [] more found = refl
stands_append q (r ∷ rs) more found = stands_append q rs more (left_by r.action (is_at q r.number) r.row found)

-- ---- the records of one number

abbrev goes : Option Row → Option Row → Bool
goes None new = false
goes (Some old) None = true
goes (Some old) (Some new) = not (eq_by_cmp row_cmp old new)

abbrev comes : Option Row → Option Row → Bool
comes None None = false
comes None (Some new) = true
comes (Some old) None = false
comes (Some old) (Some new) = not (eq_by_cmp row_cmp old new)

and_false : (b : Bool) → false ≡ (b && false)
and_false true = refl
and_false false = refl

and_true : (b : Bool) → b ≡ (b && true)
and_true true = refl
and_true false = refl

or_nothing : (b : Bool) → (b || false) ≡ (b && true)
or_nothing true = refl
or_nothing false = refl

change_deletes : (q n : ℕ) (old new : Option Row)
    → list_any (deletes q) (net_change n old new) ≡ (is_at q n && goes old new)
change_deletes q n None None = and_false (is_at q n)
change_deletes q n None (Some new) = and_false (is_at q n)
change_deletes q n (Some old) None = or_nothing (is_at q n)
change_deletes q n (Some old) (Some new) = by_rows (eq_by_cmp row_cmp old new)
  where
    by_rows : (b : Bool) → list_any (deletes q) (cond b [] (deleted n true old ∷ inserted n true new ∷ []))
        ≡ (is_at q n && not b)
    by_rows true = and_false (is_at q n)
    by_rows false = or_nothing (is_at q n)

-- where nothing is left, and where a row is
none_left : (b : Bool) (new found : Option Row) → found ≡ cond (b && false) new found
none_left b new found = ap (λ (c : Bool). cond c new found) (and_false b)

one_left : (b : Bool) (new found : Option Row) → cond b new found ≡ cond (b && true) new found
one_left b new found = ap (λ (c : Bool). cond c new found) (and_true b)

change_stands : (q n : ℕ) (old new found : Option Row)
    → stands q (net_change n old new) found ≡ cond (is_at q n && comes old new) new found
change_stands q n None None found = none_left (is_at q n) None found
change_stands q n None (Some new) found = one_left (is_at q n) (Some new) found
change_stands q n (Some old) None found = none_left (is_at q n) None found
change_stands q n (Some old) (Some new) found = by_rows (eq_by_cmp row_cmp old new)
  where
    by_rows : (b : Bool) → stands q (cond b [] (deleted n true old ∷ inserted n true new ∷ [])) found
        ≡ cond (is_at q n && not b) (Some new) found
    by_rows true = none_left (is_at q n) (Some new) found
    by_rows false = one_left (is_at q n) (Some new) found

-- ---- the records of many

both_or : (a b g : Bool) → ((a && g) || (b && g)) ≡ ((a || b) && g)
both_or true true true = refl
both_or true true false = refl
both_or true false true = refl
both_or true false false = refl
both_or false b g = refl

-- the one behind leaves what the one before has left, or the same
twice : (a b g : Bool) (new found : Option Row)
    → cond (b && g) new (cond (a && g) new found) ≡ cond ((a || b) && g) new found
twice true true true new found = refl
twice true true false new found = refl
twice true false true new found = refl
twice true false false new found = refl
twice false b g new found = refl

-- from the numbers of a list, at one of them
abbrev among : ℕ → List ℕ → Bool
among q ns = list_any (is_at q) ns

-- what says nothing of other numbers is the same at the two
at_same : {X : Type 0} (q n : ℕ) (f : Bool → ℕ → X) → f false n ≡ f false q → f (is_at q n) n ≡ f (is_at q n) q
at_same q n f otherwise = by_number (is_at q n) refl
  where
    by_number : (same : Bool) → is_at q n ≡ same → f same n ≡ f same q
    by_number true is = ap (f true) (sym (number_tied q n is))
    by_number false is = otherwise

module _ (old new : Rows) where
  abbrev change_of : ℕ → List RowChange
  change_of n = net_change n (get old n) (get new n)

  one_deletes : (q n : ℕ) → list_any (deletes q) (change_of n) ≡ (is_at q n && goes (get old q) (get new q))
  one_deletes q n = change_deletes q n (get old n) (get new n)
      ∙ at_same q n (λ (b : Bool) (k : ℕ). b && goes (get old k) (get new k)) refl

  all_delete : (q : ℕ) (ns : List ℕ)
      → list_any (deletes q) (flat_map change_of ns) ≡ (among q ns && goes (get old q) (get new q))
  all_delete q [] = refl
  all_delete q (n ∷ ns) =
      list_any-append (deletes q) (change_of n) (flat_map change_of ns)
      ∙ ap (λ (b : Bool). b || list_any (deletes q) (flat_map change_of ns)) (one_deletes q n)
      ∙ ap (λ (b : Bool). (is_at q n && goes (get old q) (get new q)) || b) (all_delete q ns)
      ∙ both_or (is_at q n) (among q ns) (goes (get old q) (get new q))

  one_stands : (q n : ℕ) (found : Option Row)
      → stands q (change_of n) found ≡ cond (is_at q n && comes (get old q) (get new q)) (get new q) found
  one_stands q n found = change_stands q n (get old n) (get new n) found
      ∙ at_same q n (λ (b : Bool) (k : ℕ). cond (b && comes (get old k) (get new k)) (get new k) found) refl

  all_stand : (q : ℕ) (ns : List ℕ) (found : Option Row)
      → stands q (flat_map change_of ns) found ≡ cond (among q ns && comes (get old q) (get new q)) (get new q) found
  all_stand q [] found = refl
  all_stand q (n ∷ ns) found =
      stands_append q (change_of n) (flat_map change_of ns) found
      ∙ ap (stands q (flat_map change_of ns)) (one_stands q n found)
      ∙ all_stand q ns (cond (is_at q n && comes (get old q) (get new q)) (get new q) found)
      ∙ twice (is_at q n) (among q ns) (comes (get old q) (get new q)) (get new q) found

-- ---- at each number

-- only equal rows tie
row_tied : (a b : Row) → eq_by_cmp row_cmp a b ≡ true → a ≡ b
row_tied a b tie = by_order (row_cmp a b) refl tie
  where
    by_order : (o : Ordering) → row_cmp a b ≡ o → is_eq o ≡ true → a ≡ b
    by_order Equal is e = row-IsAntisymmetric a b is
    by_order Less is e = absurd cc
    by_order Greater is e = absurd cc

is_there : (rows : Rows) (q : ℕ) → among q (numbers_in rows) ≡ is_some (get rows q)
is_there rows q = sym (is_some-find nat_cmp q (entries rows)) ∙ ap is_some (sym (get-entries rows q))

abbrev is_in_either : Option Row → Option Row → Bool
is_in_either old new = is_some old || (not (is_some old) && is_some new)

in_either : (old new : Rows) (q : ℕ) → among q (numbers_in_either old new) ≡ is_in_either (get old q) (get new q)
in_either old new q =
    list_any-append (is_at q) (numbers_in old) (filter lacks (numbers_in new))
    ∙ ap (λ (b : Bool). b || among q (filter lacks (numbers_in new))) (is_there old q)
    ∙ ap (λ (b : Bool). is_some (get old q) || b)
    (any-filter_same (is_at q) lacks (lacks q) (λ k is. ap lacks (sym (number_tied q k is))) (numbers_in new)
    ∙ ap (λ (b : Bool). lacks q && b) (is_there new q))
  where
    lacks : ℕ → Bool
    lacks n = not (is_some (get old n))

ends : (old new : Option Row) → cond (is_in_either old new && comes old new) new
    (cond (is_in_either old new && goes old new) None old) ≡ new
ends None None = refl
ends None (Some new) = refl
ends (Some old) None = refl
ends (Some old) (Some new) = by_rows (eq_by_cmp row_cmp old new) refl
  where
    by_rows : (same : Bool) → eq_by_cmp row_cmp old new ≡ same
        → cond (not same) (Some new) (cond (not same) None (Some old)) ≡ Some new
    by_rows true is = ap Some (row_tied old new is)
    by_rows false is = refl

pub patched : (old new : Rows) → patch old (net old new) ≡ new
unfolding patch net
patched old new = same_map nat_cmp_total nat_cmp-IsAntisymmetric _ _ at_number
  where
    ns : List ℕ
    ns = numbers_in_either old new

    rs : List RowChange
    rs = flat_map (change_of old new) ns

    at_number : (q : ℕ) → get (with_inserted (without_deleted old rs) rs) q ≡ get new q
    at_number q =
        with_get (without_deleted old rs) rs q
        ∙ all_stand old new q ns (get (without_deleted old rs) q)
        ∙ ap (cond (among q ns && comes (get old q) (get new q)) (get new q))
        (without_get old rs q ∙ ap (λ (b : Bool). cond b None (get old q)) (all_delete old new q ns))
        ∙ ap (λ (b : Bool). cond (b && comes (get old q) (get new q)) (get new q)
        (cond (b && goes (get old q) (get new q)) None (get old q))) (in_either old new q)
        ∙ ends (get old q) (get new q)
