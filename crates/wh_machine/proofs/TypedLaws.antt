-- The types of expressions are those of their scalars.
--     Under              a type, or that of NULL
--     entry_types        the types of the columns of entries
--     typed_under        an expression's scalar has its type
use Rattle.std.proofs.Common.{◌≡◌, ℕ, zero, suc, ◌+◌, Bool, true, false, cond, List, [], ◌∷◌}
use Rattle.std.proofs.Common.{◌++◌, length, Option, Some, None, refl, sym, ap, subst, ◌∙◌, arith}
use Rattle.std.proofs.Common.{length-append}
use Rattle.std.specs.Prelude.{slice_get, bytes_eq}
use Rattle.std.specs.List.{AllByRecursion}
use Rattle.std.proofs.lemmas.List.{map-append}
use Rattle.wh_state.proofs.AllLaws.{all_map, all_append}
use Rattle.wh_value.specs.Value.{Value, Null}
use Rattle.wh_value.specs.Column as table
use Rattle.wh_value.specs.Column.{ColumnType, NumberType, BooleanType}
use Rattle.wh_ast.specs.declared.expr.Operator.{Operator}
use Rattle.wh_ast.specs.declared.expr.Operator.TheVariants as operators
use Rattle.wh_ast.specs.declared.expr.Expr.{Expr, out-Expr, fold_out-Expr, map-Expr, fold-Expr}
use Rattle.wh_ast.specs.declared.expr.Expr.TheOpen.{Expr-F}
use Rattle.wh_meaning.specs.Scalar.{Const, Column}
use Rattle.wh_meaning.specs.Query.{Call}
use Rattle.wh_naming.specs.Findings.{Name, Findings, followed, mistyped_if}
use Rattle.wh_naming.specs.Scope.{Entry, width, Place, places_among, may_be_of, places_of, only, column_at}
use Rattle.wh_naming.specs.Typing.{Typed, Context, Reading, leaf, column_typed, combined, inverted_if, null_test, among}
use Rattle.wh_naming.specs.Typing.{more_items, or_equal, between, called, step, typed}
use Rattle.wh_naming.specs.Select.{all_columns}
use Rattle.wh_machine.proofs.ValueTypes.{OfType, null_fits, type_or, type_at, head_type, types_of}

-- no type but that one, or that of NULL
abbrev pub Under : Option ColumnType → Option ColumnType → Type 0
Under None t = Unit {0}
Under (Some s) t = Some s ≡ t

pub under_fits : (s t : Option ColumnType) → Under s t → (v : Value) → OfType s v → OfType t v
under_fits None None is v h = h
under_fits None (Some t) is v h = subst (OfType (Some t)) (sym h) (null_fits (Some t))
under_fits (Some s) t is v h = subst (λ (u : Option ColumnType). OfType u v) is h

pub under_same : (t : Option ColumnType) → Under t t
under_same None = tt
under_same (Some t) = refl

abbrev pub entry_types : List Entry → List (Option ColumnType)
entry_types entries = types_of (all_columns entries)

-- ---- places

-- a place among columns, and what its type is
abbrev TypeAt : List (Option ColumnType) → ℕ → Place → Type 0
TypeAt types from p = (k : ℕ) × ((p.place ≡ from + k) × (slice_get types k ≡ Some (Some p.column_type)))

among_typed : (name : Name) (from : ℕ) (columns : List table.Column)
    → AllByRecursion (TypeAt (types_of columns) from) (places_among name from columns)
among_typed name from [] = tt
among_typed name from (c ∷ cs) =
    by_name (bytes_eq c.name name)
    (all_map (TypeAt (types_of cs) (suc from)) (TypeAt (types_of (c ∷ cs)) from)
    (λ p at. (suc at.0, (omega (arith, at.1.0), at.1.1))) (places_among name (suc from) cs)
    (among_typed name (suc from) cs))
  where
    by_name : (same : Bool) → AllByRecursion (TypeAt (types_of (c ∷ cs)) from) (places_among name (suc from) cs)
        → AllByRecursion (TypeAt (types_of (c ∷ cs)) from)
        (cond same ((record { place = from; column_type = c.column_type }) ∷ []) [] ++ places_among name (suc from) cs)
    by_name true rest = ((0, (omega arith, refl)), rest)
    by_name false rest = rest

pub get_front : (ts us : List (Option ColumnType)) (k : ℕ) (t : Option ColumnType) → slice_get ts k ≡ Some t
    → slice_get (ts ++ us) k ≡ Some t
get_front [] us k t is = absurd cc
get_front (x ∷ ts) us zero t is = is
get_front (x ∷ ts) us (suc k) t is = get_front ts us k t is

pub get_behind : {X : Type 0} (ts us : List X) (place k : ℕ) → place ≡ length ts + k
    → slice_get (ts ++ us) place ≡ slice_get us k
get_behind [] us place k is = let same : place ≡ k = omega arith in ap (slice_get us) same
get_behind (x ∷ ts) us zero k is = absurd (omega arith)
get_behind (x ∷ ts) us (suc place) k is = get_behind ts us place k (omega arith)

pub types_length : (columns : List table.Column) → length (types_of columns) ≡ length columns
types_length [] = refl
types_length (c ∷ cs) = let rest = types_length cs in omega (arith, rest)

entries_typed : (entry : Option Name) (name : Name) (from : ℕ) (entries : List Entry)
    → AllByRecursion (TypeAt (entry_types entries) from) (places_of entry name from entries)
entries_typed entry name from [] = tt
entries_typed entry name from (e ∷ es) =
    by_entry (may_be_of entry e)
    (all_map (TypeAt (entry_types es) (from + length e.columns)) (TypeAt (entry_types (e ∷ es)) from) behind
    (places_of entry name (from + length e.columns) es) (entries_typed entry name (from + length e.columns) es))
  where
    both : entry_types (e ∷ es) ≡ types_of e.columns ++ entry_types es
    both = map-append (λ (c : table.Column). Some c.column_type) e.columns (all_columns es)

    behind : (p : Place) → TypeAt (entry_types es) (from + length e.columns) p → TypeAt (entry_types (e ∷ es)) from p
    behind p at = (
      length (types_of e.columns) + at.0,
      (
        omega (arith, at.1.0, types_length e.columns),
        ap (λ (ts : List (Option ColumnType)). slice_get ts (length (types_of e.columns) + at.0)) both
            ∙ get_behind (types_of e.columns) (entry_types es) (length (types_of e.columns) + at.0) at.0 refl ∙ at.1.1,
      ),
    )

    before : (p : Place) → TypeAt (types_of e.columns) from p → TypeAt (entry_types (e ∷ es)) from p
    before p at = (
      at.0,
      (
        at.1.0,
        ap (λ (ts : List (Option ColumnType)). slice_get ts at.0) both
            ∙ get_front (types_of e.columns) (entry_types es) at.0 (Some p.column_type) at.1.1,
      ),
    )

    by_entry : (may : Bool)
        → AllByRecursion (TypeAt (entry_types (e ∷ es)) from) (places_of entry name (from + length e.columns) es)
        → AllByRecursion (TypeAt (entry_types (e ∷ es)) from)
        (cond may (places_among name from e.columns) [] ++ places_of entry name (from + length e.columns) es)
    by_entry true rest =
        all_append (TypeAt (entry_types (e ∷ es)) from) (places_among name from e.columns)
        (places_of entry name (from + length e.columns) es)
        (all_map (TypeAt (types_of e.columns) from) (TypeAt (entry_types (e ∷ es)) from) before
        (places_among name from e.columns) (among_typed name from e.columns)) rest
    by_entry false rest = rest

-- the one column of a name
pub column_got : (entry : Option Name) (name : Name) (entries : List Entry) (p : Place)
    → column_at entry name entries ≡ Some p → slice_get (entry_types entries) p.place ≡ Some (Some p.column_type)
unfolding column_at
column_got entry name entries p is = of_only (places_of entry name 0 entries) is (entries_typed entry name 0 entries)
  where
    of_only : (ps : List Place) → only ps ≡ Some p → AllByRecursion (TypeAt (entry_types entries) 0) ps
        → slice_get (entry_types entries) p.place ≡ Some (Some p.column_type)
    of_only [] is all = absurd cc
    of_only (q ∷ []) is all =
        let same : q ≡ p = cc in
        let at : TypeAt (entry_types entries) 0 p = subst (TypeAt (entry_types entries) 0) same all.0 in
        let place : p.place ≡ at.0 = omega (arith, at.1.0) in
        ap (slice_get (entry_types entries)) place ∙ at.1.1
    of_only (q ∷ r ∷ qs) is all = absurd cc

pub column_type_at : (entry : Option Name) (name : Name) (entries : List Entry) (p : Place)
    → column_at entry name entries ≡ Some p → type_at (entry_types entries) p.place ≡ Some p.column_type
column_type_at entry name entries p is = ap type_or (column_got entry name entries p is)

pub width_is : (entries : List Entry) → width entries ≡ length (entry_types entries)
width_is [] = refl
width_is (e ∷ es) =
    let rest = width_is es in
    let both : entry_types (e ∷ es) ≡ types_of e.columns ++ entry_types es =
    map-append (λ (c : table.Column). Some c.column_type) e.columns (all_columns es) in
    let here = types_length e.columns in
    omega (arith, rest, here, ap length both, length-append (types_of e.columns) (entry_types es))

beyond_none : {X : Type 0} (xs : List X) (place k : ℕ) → place ≡ length xs + k → slice_get xs place ≡ None
beyond_none [] place k is = refl
beyond_none (x ∷ xs) zero k is = absurd (omega arith)
beyond_none (x ∷ xs) (suc place) k is = beyond_none xs place k (omega arith)

pub number_beyond : (types : List (Option ColumnType)) (place k : ℕ) → place ≡ length types + k
    → type_at types place ≡ Some NumberType
number_beyond types place k is = ap type_or (beyond_none types place k is)

-- ---- expressions

abbrev pub TypedUnder : List Entry → Typed → Type 0
TypedUnder entries x = Under (head_type (type_at (entry_types entries)) x.scalar) x.type_of

column_under : (entries : List Entry) (name : Name) (found : Option Place)
    → ((p : Place) → found ≡ Some p → type_at (entry_types entries) p.place ≡ Some p.column_type)
    → TypedUnder entries (column_typed name found)
column_under entries name None at = tt
column_under entries name (Some p) at = subst (λ (t : Option ColumnType). Under t (Some p.column_type))
    (sym (at p refl)) refl

combined_under : (entries : List Entry) (o : Operator) (x y : Typed) → TypedUnder entries (combined o x y)
combined_under entries operators.Or x y = refl
combined_under entries operators.And x y = refl
combined_under entries (operators.Compare c) x y = refl
combined_under entries operators.Add x y = refl
combined_under entries operators.Sub x y = refl
combined_under entries operators.Mul x y = refl

inverted_under : (entries : List Entry) (negated : Bool) (x : Typed) → x.type_of ≡ Some BooleanType
    → TypedUnder entries x → TypedUnder entries (inverted_if negated x)
inverted_under entries true x is h = sym is
inverted_under entries false x is h = h

more_truth : (x : Typed) (items : List Reading) (context : Context) (calls : ℕ) (tests : Typed)
    → tests.type_of ≡ Some BooleanType → (more_items x items context calls tests).type_of ≡ Some BooleanType
more_truth x [] context calls tests is = is
more_truth x (item ∷ items) context calls tests is =
    more_truth x items context calls (or_equal x tests (item context (calls + length tests.calls))) refl

more_under : (entries : List Entry) (x : Typed) (items : List Reading) (context : Context) (calls : ℕ) (tests : Typed)
    → TypedUnder entries tests → TypedUnder entries (more_items x items context calls tests)
more_under entries x [] context calls tests h = h
more_under entries x (item ∷ items) context calls tests h =
    more_under entries x items context calls (or_equal x tests (item context (calls + length tests.calls))) refl

among_truth : (x : Typed) (items : List Reading) (context : Context) (calls : ℕ)
    → (among x items context calls).type_of ≡ Some BooleanType
among_truth x [] context calls = refl
among_truth x (item ∷ items) context calls = more_truth x items context calls _ refl

among_under : (entries : List Entry) (x : Typed) (items : List Reading) (context : Context) (calls : ℕ)
    → TypedUnder entries (among x items context calls)
among_under entries x [] context calls = refl
among_under entries x (item ∷ items) context calls = more_under entries x items context calls _ refl

called_under : (context : Context) (number : ℕ) (call : Call) (findings : Findings)
    → TypedUnder context.entries (called context number call findings)
called_under context number call findings = by_test context.takes_calls
  where
    by_test : (b : Bool) → TypedUnder context.entries (cond b (record {
      scalar = Column (width context.entries + number);
      type_of = Some NumberType;
      calls = call ∷ [];
      findings = findings;
    }) (leaf (Const Null) (Some NumberType) (followed findings (mistyped_if true))))
    by_test true =
        subst (λ (t : Option ColumnType). Under t (Some NumberType))
        (sym (number_beyond (entry_types context.entries) (width context.entries + number) number
        (omega (arith, width_is context.entries)))) refl
    by_test false = tt

step_under : (e : Expr-F Reading) (context : Context) (calls : ℕ) → TypedUnder context.entries (step e context calls)
unfolding step
step_under (Expr-F.Const v) context calls = under_same _
step_under (Expr-F.Column entry name) context calls =
    column_under context.entries name (column_at entry name context.entries)
    (λ p is. column_type_at entry name context.entries p is)
step_under (Expr-F.Neg x) context calls = refl
step_under (Expr-F.Not x) context calls = refl
step_under (Expr-F.Binary o x y) context calls = combined_under context.entries o _ _
step_under (Expr-F.IsNull negated x) context calls =
    inverted_under context.entries negated (null_test (x context calls)) refl refl
step_under (Expr-F.In negated x items) context calls =
    inverted_under context.entries negated (among (x context calls) items context calls)
    (among_truth (x context calls) items context calls)
    (among_under context.entries (x context calls) items context calls)
step_under (Expr-F.Between negated x low high) context calls =
    inverted_under context.entries negated (between (x context calls) low high context calls) refl refl
step_under (Expr-F.Sum x) context calls = called_under context calls _ _
step_under Expr-F.CountRows context calls = called_under context calls _ _
step_under (Expr-F.Count x) context calls = called_under context calls _ _

-- an expression as it is written
pub typed_under : (e : Expr) (context : Context) (calls : ℕ) → TypedUnder context.entries (typed e context calls)
typed_under e context calls =
    subst (λ (r : Reading). TypedUnder context.entries (r context calls)) (sym (fold_out-Expr Reading step e))
    (step_under (map-Expr Expr Reading (fold-Expr Reading step) (out-Expr e)) context calls)
