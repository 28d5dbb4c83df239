-- The types of the rows that queries give.
--     values_fit                          the values of scalars on a row
--     rows_project, rows_filter, rows_join, rows_union, rows_group     of each operator
use Rattle.std.proofs.Common.{◌≡◌, ℕ, zero, suc, Bool, true, false, cond, List, [], ◌∷◌, ◌++◌, map}
use Rattle.std.proofs.Common.{Option, Some, None, option_map, refl, subst}
use Rattle.std.specs.Prelude.{pos, ℤ}
use Rattle.std.specs.List.{AllByRecursion}
use Rattle.wh_value.specs.Value.{Value, Null, Row}
use Rattle.wh_value.specs.Column.{ColumnType, NumberType}
use Rattle.wh_meaning.specs.Scalar.{Scalar, val, is_true, of_one, of_two}
use Rattle.wh_meaning.specs.Bag.{Bag, no_rows, one_row}
use Rattle.wh_meaning.specs.Query.{Call, Sum, CountRows, Count, Query, Filter, Project, Join, UnionAll, Group, Instance}
use Rattle.wh_meaning.specs.Query.{if_true, kept_by, with_value, values_on, image_by, filtered, projected, paired_with}
use Rattle.wh_meaning.specs.Query.{joined, Total, total_of, rows_in, sum_value, call_over, calls_over, with_key}
use Rattle.wh_meaning.specs.Query.{group_row}
use Rattle.wh_meaning.specs.Query.{group_rows, distinct, grouped, eval}
use Rattle.wh_machine.proofs.BagRows.{AllRows, GivesAll, all_none, all_one, beside_all, all_gathered, all_keys}
use Rattle.wh_machine.proofs.ValueTypes.{FitsTypes, CellsFit, type_at, cells_fit, fits_append, head_type, val_fits}
use Rattle.wh_machine.proofs.ValueTypes.{GivesType, ranged_gives, some_gives}

-- ---- values of scalars

pub values_fit : (types : ℕ → Option ColumnType) (items : List Scalar) (row : Row) → CellsFit types row
    → (new : Row) → values_on items row ≡ Some new → FitsTypes (map (head_type types) items) new
unfolding values_on
values_fit types [] row h new is = let same : [] ≡ new = cc in subst (FitsTypes []) same tt
values_fit types (e ∷ es) row h new is =
    by_both (val e row) refl (values_on es row) refl is (values_fit types es row h)
  where
    by_both : (first : Option Value) → val e row ≡ first → (rest : Option Row) → values_on es row ≡ rest
        → with_value first rest ≡ Some new
        → ((new : Row) → values_on es row ≡ Some new → FitsTypes (map (head_type types) es) new)
        → FitsTypes (map (head_type types) (e ∷ es)) new
    by_both None v_is rest r_is is more = absurd cc
    by_both (Some v) v_is None r_is is more = absurd cc
    by_both (Some v) v_is (Some r) r_is is more =
        let same : v ∷ r ≡ new = cc in
        subst (FitsTypes (map (head_type types) (e ∷ es))) same (val_fits types e row h v v_is, more r r_is)

one_gives_all : (Q : Row → Type 0) (row : Row) → Q row → GivesAll Q (Some (one_row row))
one_gives_all Q row h b is = let same : one_row row ≡ b = cc in subst (AllRows Q) same (all_one Q row h)

kept_gives : (Q : Row → Type 0) (condition : Scalar) (row kept : Row) → Q kept
    → GivesAll Q (option_map (if_true kept) (val condition row))
kept_gives Q condition row kept h = by_value (val condition row)
  where
    by_test : (b : Bool) → GivesAll Q (Some (cond b (one_row kept) no_rows))
    by_test true b is = one_gives_all Q kept h b is
    by_test false b is = let same : no_rows ≡ b = cc in subst (AllRows Q) same (all_none Q)

    by_value : (found : Option Value) → GivesAll Q (option_map (if_true kept) found)
    by_value None b is = absurd cc
    by_value (Some v) b is = by_test (is_true v) b is

image_gives : (types : List (Option ColumnType)) (items : List Scalar) (row : Row) → FitsTypes types row
    → GivesAll (FitsTypes (map (head_type (type_at types)) items)) (image_by items row)
image_gives types items row h = by_values (values_on items row) refl
  where
    by_values : (found : Option Row) → values_on items row ≡ found
        → GivesAll (FitsTypes (map (head_type (type_at types)) items)) (option_map one_row found)
    by_values None is b none = absurd cc
    by_values (Some new) is b some =
        one_gives_all (FitsTypes (map (head_type (type_at types)) items)) new
        (values_fit (type_at types) items row (cells_fit types row h) new is) b some

pub projected_gives : (types : List (Option ColumnType)) (items : List Scalar) (b : Bag) → AllRows (FitsTypes types) b
    → GivesAll (FitsTypes (map (head_type (type_at types)) items)) (projected items b)
projected_gives types items b h =
    all_gathered (FitsTypes types) (FitsTypes (map (head_type (type_at types)) items)) (image_by items)
    (image_gives types items) b h

-- ---- operators

of_bag : (P Q : Row → Type 0) (f : Bag → Option Bag) (found : Option Bag) → GivesAll P found
    → ((b : Bag) → AllRows P b → GivesAll Q (f b)) → GivesAll Q (of_one f found)
of_bag P Q f None h so c is = absurd cc
of_bag P Q f (Some b) h so c is = so b (h b refl) c is

pub rows_project : (types : List (Option ColumnType)) (q : Query) (items : List Scalar) (instance : Instance)
    → GivesAll (FitsTypes types) (eval q instance)
    → GivesAll (FitsTypes (map (head_type (type_at types)) items)) (eval (Project q items) instance)
unfolding eval
rows_project types q items instance h =
    of_bag (FitsTypes types) (FitsTypes (map (head_type (type_at types)) items)) (projected items) (eval q instance) h
    (projected_gives types items)

pub rows_filter : (P : Row → Type 0) (q : Query) (condition : Scalar) (instance : Instance)
    → GivesAll P (eval q instance) → GivesAll P (eval (Filter q condition) instance)
unfolding eval
rows_filter P q condition instance h =
    of_bag P P (filtered condition) (eval q instance) h (λ b all.
    all_gathered P P (kept_by condition) (λ row is. kept_gives P condition row row is) b all)

two_bags : (P Q R : Row → Type 0) (f : Bag → Bag → Option Bag) (a b : Option Bag) → GivesAll P a → GivesAll Q b
    → ((x y : Bag) → AllRows P x → AllRows Q y → GivesAll R (f x y)) → GivesAll R (of_two f a b)
two_bags P Q R f None b h k so c is = absurd cc
two_bags P Q R f (Some a) None h k so c is = absurd cc
two_bags P Q R f (Some a) (Some b) h k so c is = so a b (h a refl) (k b refl) c is

pub rows_join : (ts us : List (Option ColumnType)) (l r : Query) (on : Scalar) (instance : Instance)
    → GivesAll (FitsTypes ts) (eval l instance) → GivesAll (FitsTypes us) (eval r instance)
    → GivesAll (FitsTypes (ts ++ us)) (eval (Join l r on) instance)
unfolding eval
rows_join ts us l r on instance h k =
    two_bags (FitsTypes ts) (FitsTypes us) (FitsTypes (ts ++ us)) (joined on) (eval l instance) (eval r instance) h k
    (λ x y left right.
    all_gathered (FitsTypes ts) (FitsTypes (ts ++ us)) (paired_with on y) (λ a a_fits.
    all_gathered (FitsTypes us) (FitsTypes (ts ++ us)) (λ b. kept_by on (a ++ b)) (λ b b_fits.
    kept_gives (FitsTypes (ts ++ us)) on (a ++ b) (a ++ b) (fits_append ts us a b a_fits b_fits)) y right) x left)

pub rows_union : (P : Row → Type 0) (l r : Query) (instance : Instance) → GivesAll P (eval l instance)
    → GivesAll P (eval r instance) → GivesAll P (eval (UnionAll l r) instance)
unfolding eval
rows_union P l r instance h k =
    beside_all P (eval l instance) (eval r instance) h k

-- ---- Group

abbrev pub number_types : List Call → List (Option ColumnType)
number_types calls = map (λ c. Some NumberType) calls

sum_gives : (sum : ℤ) (n : ℕ) → GivesType (Some NumberType) (sum_value sum n)
sum_gives sum zero = some_gives (Some NumberType) Null refl
sum_gives sum (suc n) = ranged_gives sum

total_gives : (f : Total → Option Value) (found : Option Total) → ((t : Total) → GivesType (Some NumberType) (f t))
    → GivesType (Some NumberType) (of_one f found)
total_gives f None h v is = absurd cc
total_gives f (Some t) h v is = h t v is

call_gives : (b : Bag) (c : Call) → GivesType (Some NumberType) (call_over b c)
unfolding call_over
call_gives b (Sum e) = total_gives _ (total_of e b) (λ t. sum_gives t.sum t.values)
call_gives b CountRows = ranged_gives (pos (rows_in b))
call_gives b (Count e) = total_gives _ (total_of e b) (λ t. ranged_gives (pos t.values))

calls_fit : (b : Bag) (calls : List Call) (row : Row) → calls_over b calls ≡ Some row →
    FitsTypes (number_types calls) row
calls_fit b [] row is = let same : [] ≡ row = cc in subst (FitsTypes []) same tt
calls_fit b (c ∷ cs) row is = by_both (call_over b c) refl (calls_over b cs) refl is (calls_fit b cs)
  where
    by_both : (first : Option Value) → call_over b c ≡ first → (rest : Option Row) → calls_over b cs ≡ rest
        → with_value first rest ≡ Some row
        → ((row : Row) → calls_over b cs ≡ Some row → FitsTypes (number_types cs) row)
        → FitsTypes (number_types (c ∷ cs)) row
    by_both None v_is rest r_is is more = absurd cc
    by_both (Some v) v_is None r_is is more = absurd cc
    by_both (Some v) v_is (Some r) r_is is more =
        let same : v ∷ r ≡ row = cc in
        subst (FitsTypes (number_types (c ∷ cs))) same (call_gives b c v v_is, more r r_is)

group_gives : (kts : List (Option ColumnType)) (by : List Scalar) (calls : List Call) (b : Bag) (key : Row)
    → FitsTypes kts key → GivesAll (FitsTypes (kts ++ number_types calls)) (group_row by calls b key)
group_gives kts by calls b key h = by_values (calls_over (with_key by key b) calls) refl
  where
    by_values : (found : Option Row) → calls_over (with_key by key b) calls ≡ found
        → GivesAll (FitsTypes (kts ++ number_types calls)) (option_map (λ values. one_row (key ++ values)) found)
    by_values None is c none = absurd cc
    by_values (Some values) is c some =
        one_gives_all (FitsTypes (kts ++ number_types calls)) (key ++ values)
        (fits_append kts (number_types calls) key values h (calls_fit (with_key by key b) calls values is)) c some

groups_give : (kts : List (Option ColumnType)) (by : List Scalar) (calls : List Call) (b : Bag) (found : List Row)
    → AllByRecursion (FitsTypes kts) found →
    GivesAll (FitsTypes (kts ++ number_types calls)) (group_rows by calls b found)
groups_give kts by calls b [] h c is =
    let same : no_rows ≡ c = cc in subst (AllRows (FitsTypes (kts ++ number_types calls))) same
    (all_none (FitsTypes (kts ++ number_types calls)))
groups_give kts by calls b (key ∷ rest) h c is =
    beside_all (FitsTypes (kts ++ number_types calls)) (group_row by calls b key) (group_rows by calls b rest)
    (group_gives kts by calls b key h.0) (groups_give kts by calls b rest h.1) c is

distinct_fit : (types : ℕ → Option ColumnType) (by : List Scalar) (keyed : Bag)
    → AllRows (FitsTypes (map (head_type types) by)) keyed
    → AllByRecursion (FitsTypes (map (head_type types) by)) (distinct by keyed)
distinct_fit types [] keyed h = (tt, tt)
distinct_fit types (e ∷ es) keyed h = all_keys (FitsTypes (map (head_type types) (e ∷ es))) keyed h

pub rows_group : (types : List (Option ColumnType)) (q : Query) (by : List Scalar) (calls : List Call)
    (instance : Instance)
    → GivesAll (FitsTypes types) (eval q instance)
    → GivesAll (FitsTypes (map (head_type (type_at types)) by ++ number_types calls)) (eval (Group q by calls) instance)
unfolding eval
rows_group types q by calls instance h =
    let kts : List (Option ColumnType) = map (head_type (type_at types)) by in
    of_bag (FitsTypes types) (FitsTypes (kts ++ number_types calls)) (grouped by calls) (eval q instance) h (λ b all.
    of_bag (FitsTypes kts) (FitsTypes (kts ++ number_types calls)) (λ keyed. group_rows by calls b (distinct by keyed))
    (projected by b) (projected_gives types by b all) (λ keyed keyed_fit.
    groups_give kts by calls b (distinct by keyed) (distinct_fit (type_at types) by keyed keyed_fit)))
