-- The types of rows that are given values.
--     row_under, changed_under     new rows and changed ones have the types of their columns
--     places_ok                    the places of columns that are named
--     set_fits, rows_fit_places    values that nothing is found wrong with
use Rattle.std.proofs.Common.{◌≡◌, ℕ, suc, Bool, true, false, cond, List, [], ◌∷◌, ◌++◌, map}
use Rattle.std.proofs.Common.{Option, Some, None, refl, sym, ap, subst, ◌∙◌, arith}
use Rattle.std.specs.Prelude.{slice_get, ◌||◌, not}
use Rattle.std.specs.List.{AllByRecursion}
use Rattle.std.proofs.lemmas.Bool.Decides.{nat_tests}
use Rattle.wh_value.specs.Value.{Null}
use Rattle.wh_value.specs.Column as table
use Rattle.wh_value.specs.Column.{ColumnType, NumberType, VarcharType, BooleanType}
use Rattle.wh_ast.specs.declared.expr.Expr.{Expr}
use Rattle.wh_ast.specs.declared.dml.Assignment.{Assignment}
use Rattle.wh_meaning.specs.Scalar.{Scalar, Const, Column}
use Rattle.wh_naming.specs.Findings.{Name}
use Rattle.wh_naming.specs.Scope.{Entry, Place}
use Rattle.wh_naming.specs.Typing.{alike}
use Rattle.wh_naming.specs.Select.{plain}
use Rattle.wh_naming.specs.Changes as changes
use Rattle.wh_naming.specs.Changes.{places_from, place_in, given_places, place_type, fit_places, is_at, given_at}
use Rattle.wh_naming.specs.Changes.{row_from}
use Rattle.wh_naming.specs.Changes.{changed_from, typed_all, new_row, NewRow, changed_row, set_findings, outputs_from}
use Rattle.wh_machine.proofs.ValueTypes.{type_or, type_at, head_type, types_of}
use Rattle.wh_machine.proofs.TypedLaws.{Under, entry_types, typed_under, column_type_at, column_got, get_front}
use Rattle.wh_machine.proofs.GroupedLaws.{AllUnder}
use Rattle.wh_machine.proofs.BoundLaws.{same_types}

pub neither : (a b : Bool) → (a || b) ≡ false → (a ≡ false) × (b ≡ false)
neither true b is = absurd cc
neither false b is = (refl, is)

-- ---- places

abbrev pub PlaceOk : List (Option ColumnType) → Option Place → Type 0
PlaceOk types None = Unit {0}
PlaceOk types (Some p) = type_at types p.place ≡ Some p.column_type

pub alike_under : (h t : Option ColumnType) (c : ColumnType) → Under h t → alike (Some c) t ≡ true → Under h (Some c)
alike_under None t c under is = tt
alike_under (Some s) None c under is = absurd cc
alike_under (Some s) (Some t) c under is = under ∙ ap Some (sym (same_types c t is))

given_under : (env : ℕ → Option ColumnType) (all : List (Option ColumnType)) (place : ℕ) (c : ColumnType)
    (places : List (Option Place)) (scalars : List Scalar) (types : List (Option ColumnType)) (otherwise : Scalar)
    → AllUnder (map (head_type env) scalars) types → fit_places places types ≡ true →
    AllByRecursion (PlaceOk all) places
    → type_at all place ≡ Some c → Under (head_type env otherwise) (Some c)
    → Under (head_type env (given_at place places scalars otherwise)) (Some c)
given_under env all place c [] scalars types otherwise under fit ok at else_ = else_
given_under env all place c (p ∷ ps) [] types otherwise under fit ok at else_ = else_
given_under env all place c (p ∷ ps) (s ∷ ss) [] otherwise under fit ok at else_ = absurd under
given_under env all place c (p ∷ ps) (s ∷ ss) (t ∷ ts) otherwise under fit ok at else_ =
    by_alike (alike (place_type p) t) refl fit
    (λ rest. given_under env all place c ps ss ts otherwise under.1 rest ok.1 at else_)
  where
    here : (q : Option Place) → PlaceOk all q → is_at place q ≡ true → alike (place_type q) t ≡ true
        → Under (head_type env s) (Some c)
    here None ok is like = absurd cc
    here (Some q) ok is like =
        let same : q.place ≡ place = grind (arith, nat_tests) in
        let type_is : Some q.column_type ≡ Some c = sym ok ∙ ap (type_at all) same ∙ at in
        subst (Under (head_type env s)) type_is (alike_under (head_type env s) t q.column_type under.0 like)

    by_place : (b : Bool) → is_at place p ≡ b → alike (place_type p) t ≡ true
        → Under (head_type env (given_at place ps ss otherwise)) (Some c)
        → Under (head_type env (cond b s (given_at place ps ss otherwise))) (Some c)
    by_place true is like rest = here p ok.0 is like
    by_place false is like rest = rest

    by_alike : (b : Bool) → alike (place_type p) t ≡ b → cond b (fit_places ps ts) false ≡ true
        → (fit_places ps ts ≡ true → Under (head_type env (given_at place ps ss otherwise)) (Some c))
        → Under (head_type env (cond (is_at place p) s (given_at place ps ss otherwise))) (Some c)
    by_alike true like fit rest = by_place (is_at place p) refl like (rest fit)
    by_alike false like fit rest = absurd cc

-- columns from a place on
abbrev pub Stand : List (Option ColumnType) → ℕ → List table.Column → Type 0
Stand all place [] = Unit {0}
Stand all place (c ∷ cs) = (type_at all place ≡ Some c.column_type) × Stand all (suc place) cs

shifted : (t : Option ColumnType) (all : List (Option ColumnType)) (place : ℕ) (cs : List table.Column)
    → Stand all place cs → Stand (t ∷ all) (suc place) cs
shifted t all place [] stand = tt
shifted t all place (c ∷ cs) stand = (stand.0, shifted t all (suc place) cs stand.1)

pub all_stand : (columns : List table.Column) (more : List (Option ColumnType)) →
    Stand (types_of columns ++ more) 0 columns
all_stand [] more = tt
all_stand (c ∷ cs) more = (refl, shifted (Some c.column_type) (types_of cs ++ more) 0 cs (all_stand cs more))

-- a new row
pub row_under : (env : ℕ → Option ColumnType) (all : List (Option ColumnType)) (place : ℕ) (columns : List table.Column)
    (places : List (Option Place)) (scalars : List Scalar) (types : List (Option ColumnType))
    → AllUnder (map (head_type env) scalars) types → fit_places places types ≡ true →
    AllByRecursion (PlaceOk all) places
    → Stand all place columns
    → AllUnder (map (head_type env) (row_from place columns places scalars)) (types_of columns)
row_under env all place [] places scalars types under fit ok stand = tt
row_under env all place (c ∷ cs) places scalars types under fit ok stand = (
  given_under env all place c.column_type places scalars types (Const Null) under fit ok stand.0 tt,
  row_under env all (suc place) cs places scalars types under fit ok stand.1,
)

-- a changed row, over rows that begin with the columns
pub changed_under : (env : ℕ → Option ColumnType) (all : List (Option ColumnType)) (place : ℕ)
    (columns : List table.Column)
    (places : List (Option Place)) (scalars : List Scalar) (types : List (Option ColumnType))
    → AllUnder (map (head_type env) scalars) types → fit_places places types ≡ true →
    AllByRecursion (PlaceOk all) places
    → Stand all place columns → ((n : ℕ) → env n ≡ type_at all n)
    → AllUnder (map (head_type env) (changed_from place columns places scalars)) (types_of columns)
changed_under env all place [] places scalars types under fit ok stand same = tt
changed_under env all place (c ∷ cs) places scalars types under fit ok stand same = (
  given_under env all place c.column_type places scalars types (Column place) under fit ok stand.0
      (subst (λ (t : Option ColumnType). Under t (Some c.column_type)) (sym (same place ∙ stand.0)) refl),
  changed_under env all (suc place) cs places scalars types under fit ok stand.1 same,
)

-- ---- the places of columns

pub append_nil : {X : Type 0} (xs : List X) → xs ++ [] ≡ xs
append_nil [] = refl
append_nil (x ∷ xs) = ap (λ (ys : List _). x ∷ ys) (append_nil xs)

pub entry_one : (name : Name) (columns : List table.Column)
    → entry_types ((record { name = name; columns = columns }) ∷ []) ≡ types_of columns
entry_one name columns = ap types_of (append_nil columns)

pub place_ok : (columns : List table.Column) (name : Name) → PlaceOk (types_of columns) (place_in columns name)
place_ok columns name = by_found (place_in columns name) refl
  where
    by_found : (found : Option Place) → place_in columns name ≡ found → PlaceOk (types_of columns) found
    by_found None is = tt
    by_found (Some p) is =
        subst (λ (ts : List (Option ColumnType)). type_at ts p.place ≡ Some p.column_type) (entry_one [] columns)
        (column_type_at None name ((record { name = []; columns = columns }) ∷ []) p is)

pub place_wide : (columns : List table.Column) (more : List (Option ColumnType)) (name : Name)
    → PlaceOk (types_of columns ++ more) (place_in columns name)
place_wide columns more name = by_found (place_in columns name) refl
  where
    by_found : (found : Option Place) → place_in columns name ≡ found → PlaceOk (types_of columns ++ more) found
    by_found None is = tt
    by_found (Some p) is =
        let got : slice_get (types_of columns) p.place ≡ Some (Some p.column_type) =
        ap (λ (ts : List (Option ColumnType)). slice_get ts p.place) (sym (entry_one [] columns))
        ∙ column_got None name ((record { name = []; columns = columns }) ∷ []) p is in
        ap type_or (get_front (types_of columns) more p.place (Some p.column_type) got)

pub stand_ok : (all : List (Option ColumnType)) (place : ℕ) (columns : List table.Column) → Stand all place columns
    → AllByRecursion (PlaceOk all) (places_from place columns)
stand_ok all place [] stand = tt
stand_ok all place (c ∷ cs) stand = (stand.0, stand_ok all (suc place) cs stand.1)

all_types_stand : (columns : List table.Column) → Stand (types_of columns) 0 columns
all_types_stand columns =
    subst (λ (ts : List (Option ColumnType)). Stand ts 0 columns) (append_nil (types_of columns)) (all_stand columns [])

pub own_stand : (columns : List table.Column) → Stand (types_of columns) 0 columns
own_stand columns = all_types_stand columns

names_ok : (columns : List table.Column) (names : List Name)
    → AllByRecursion (PlaceOk (types_of columns)) (map (place_in columns) names)
names_ok columns [] = tt
names_ok columns (name ∷ names) = (place_ok columns name, names_ok columns names)

pub given_ok : (columns : List table.Column) (listed : Option (List Name))
    → AllByRecursion (PlaceOk (types_of columns)) (given_places columns listed)
given_ok columns None = stand_ok (types_of columns) 0 columns (own_stand columns)
given_ok columns (Some names) = names_ok columns names

-- ---- values

pub typed_all_under : (entries : List Entry) (values : List Expr)
    → AllUnder (map (head_type (type_at (entry_types entries))) (map (λ x. x.scalar) (typed_all entries values)))
    (map (λ x. x.type_of) (typed_all entries values))
typed_all_under entries [] = tt
typed_all_under entries (e ∷ es) = (typed_under e _ 0, typed_all_under entries es)

pub true_of : (b : Bool) → not b ≡ false → b ≡ true
true_of true is = refl
true_of false is = absurd cc

-- a new row of values
pub new_row_under : (columns : List table.Column) (listed : Option (List Name)) (entries : List Entry)
    (values : List Expr)
    → (new_row columns (given_places columns listed) (typed_all entries values)).findings.is_mistyped ≡ false
    → AllUnder (map (head_type (type_at (entry_types entries)))
    (new_row columns (given_places columns listed) (typed_all entries values)).scalars) (types_of columns)
new_row_under columns listed entries values well =
    row_under (type_at (entry_types entries)) (types_of columns) 0 columns (given_places columns listed)
    (map (λ x. x.scalar) (typed_all entries values)) (map (λ x. x.type_of) (typed_all entries values))
    (typed_all_under entries values)
    (true_of (fit_places (given_places columns listed) (map (λ x. x.type_of) (typed_all entries values)))
    (neither (changes.all_findings (typed_all entries values)).is_mistyped _ well).1)
    (given_ok columns listed) (own_stand columns)

-- ---- SET

pub parts_fit : (columns : List table.Column) (entries : List Entry) (parts : List Assignment)
    → (set_findings columns entries parts).is_mistyped ≡ false
    → fit_places (map (λ part. place_in columns part.column) parts)
    (map (λ part. (plain entries part.value).type_of) parts)
    ≡ true
parts_fit columns entries [] well = refl
parts_fit columns entries (part ∷ parts) well =
    let both = neither _ (set_findings columns entries parts).is_mistyped well in
    let value = neither _ ((plain entries part.value).findings.is_mistyped
    || not (alike (place_type (place_in columns part.column)) (plain entries part.value).type_of)) both.0 in
    let like = neither (plain entries part.value).findings.is_mistyped
    (not (alike (place_type (place_in columns part.column)) (plain entries part.value).type_of)) value.1 in
    let here : alike (place_type (place_in columns part.column)) (plain entries part.value).type_of ≡ true =
    true_of (alike (place_type (place_in columns part.column)) (plain entries part.value).type_of) like.1 in
    rw here (parts_fit columns entries parts both.1)

pub parts_ok : (columns : List table.Column) (more : List (Option ColumnType)) (parts : List Assignment)
    → ((name : Name) → PlaceOk (types_of columns ++ more) (place_in columns name))
    → AllByRecursion (PlaceOk (types_of columns ++ more)) (map (λ part. place_in columns part.column) parts)
parts_ok columns more [] ok = tt
parts_ok columns more (part ∷ parts) ok = (ok part.column, parts_ok columns more parts ok)

pub parts_under : (entries : List Entry) (parts : List Assignment)
    → AllUnder (map (head_type (type_at (entry_types entries))) (map (λ part. (plain entries part.value).scalar) parts))
    (map (λ part. (plain entries part.value).type_of) parts)
parts_under entries [] = tt
parts_under entries (part ∷ parts) = (typed_under part.value _ 0, parts_under entries parts)
