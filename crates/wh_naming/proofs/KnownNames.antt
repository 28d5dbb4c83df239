-- What SELECTs stand for, worked by hand over the objects of Written.
--     entries of FROM     an_alias_hides_the_name, a_column_of_two_entries, on_sees_no_later_entry, one_name_twice,
--                         two_names_twice
--     output names        stars_over_two_entries, names_of_columns, names_of_the_first_core
--     types               cores_fit, null_in_each_core, conditions, two_sides, in_two, one_or_other,
--                         between_is_two_comparisons, arithmetic_gives_numbers
--     groups and calls    keys_are_expressions, keys_by_meaning, columns_outside_keys, calls_stand_behind_keys,
--                         no_star_in_groups, calls_out_of_place, types_of_calls
--     order of tests      sources_are_read, objects_come_first, types_come_last, the_first_in_the_text
--     ORDER BY            positions, order_by_sees_output_names
--     sources             sources_by_number
use Rattle.std.specs.Prelude.{◌≡◌, refl, ℕ, Bool, true, false, List, [], ◌∷◌, Option, Some, None, codes, pos}
use Rattle.std.proofs.Common.{ap, ◌∙◌}
use Rattle.std.specs.Fmt.{digits}
use Rattle.wh_value.specs.Value as value
use Rattle.wh_value.specs.Column.{BooleanType}
use Rattle.wh_value.specs.declared.comparison.Comparison.TheVariants as comparisons
use Rattle.wh_ast.specs.declared.expr.Expr.{Expr}
use Rattle.wh_ast.specs.declared.query.Item.{Item}
use Rattle.wh_ast.specs.declared.query.Item.TheVariants as items
use Rattle.wh_ast.specs.declared.query.Sort.{Sort}
use Rattle.wh_ast.specs.declared.query.OrderKey.{OrderKey}
use Rattle.wh_ast.specs.declared.query.OrderKey.TheVariants as keys
use Rattle.wh_meaning.specs.Scalar.{Scalar, Const, Column, Add, Compare, Or}
use Rattle.wh_meaning.specs.Query as meaning
use Rattle.wh_meaning.specs.Query.{Scan, Project, Join as Joined, UnionAll, Group, Sum, CountRows}
use Rattle.wh_meaning.specs.Listing.{SortKey}
use Rattle.wh_naming.specs.Findings.{Name, Failing, UnknownName, WrongKind, NameTaken, TypeMismatch, first_failing}
use Rattle.wh_naming.specs.Findings.{nothing_found}
use Rattle.wh_naming.specs.Scope.{column_at, columns_of_entry}
use Rattle.wh_naming.specs.Typing.{Typed, Context, step, typed}
use Rattle.wh_naming.specs.Grouping.{is_same, regrouped}
use Rattle.wh_naming.specs.Select.{QueryReading, BoundSelect, ordered, bound_select, source_step, core_step}
use Rattle.wh_naming.specs.Select.{join_step, query_step}
use Rattle.wh_naming.proofs.Written.{WrittenSource, WrittenJoin, WrittenCore, WrittenQuery, k, v, name_a, name_b}
use Rattle.wh_naming.proofs.Written.{name_d, name_n, name_q, name_s, name_t, name_u, name_w, name_x, name_y, name_z}
use Rattle.wh_naming.proofs.Written.{t_columns, objects, number, truth, text, null, column, column_in, negative}
use Rattle.wh_naming.proofs.Written.{between, compare, both, count_of, plus, equal, or, not_, is_null, among, sum}
use Rattle.wh_naming.proofs.Written.{count_rows, only, shown, shown_as, object, object_as, subquery, join, core}
use Rattle.wh_naming.proofs.Written.{query, select, layers}

-- what is read of a SELECT over the objects
pub record Has (A : Type 0) (of : BoundSelect → A) (q : WrittenQuery) (sorts : List Sort) (x : A) : Type 0 where
  pub is_so : of (bound_select objects q.tree sorts) ≡ x

read : {A : Type 0} {of : BoundSelect → A} {q : WrittenQuery} {sorts : List Sort} {x : A}
    → of (ordered (q.reading objects 0) sorts) ≡ x → Has A of q sorts x
unfolding bound_select
read {of = of} {q = q} {sorts = sorts} e =
    record { is_so = ap (λ (r : QueryReading). of (ordered (r objects 0) sorts)) q.is ∙ e }

-- what is answered: None where nothing is found wrong; with ORDER BY, and without
abbrev answer : BoundSelect → Option Failing
answer s = first_failing s.findings

abbrev PassesBy : WrittenQuery → List Sort → Type 0
PassesBy q sorts = Has (Option Failing) answer q sorts None

abbrev IsUnknownBy : Name → WrittenQuery → List Sort → Type 0
IsUnknownBy name q sorts = Has (Option Failing) answer q sorts (Some (UnknownName name))

abbrev Passes : WrittenQuery → Type 0
Passes q = PassesBy q []

abbrev IsUnknown : Name → WrittenQuery → Type 0
IsUnknown name q = IsUnknownBy name q []

abbrev IsWrong : Name → WrittenQuery → Type 0
IsWrong name q = Has (Option Failing) answer q [] (Some (WrongKind name))

abbrev IsTaken : Name → WrittenQuery → Type 0
IsTaken name q = Has (Option Failing) answer q [] (Some (NameTaken name))

abbrev IsMistyped : WrittenQuery → Type 0
IsMistyped q = Has (Option Failing) answer q [] (Some TypeMismatch)

abbrev Sorts : WrittenQuery → List Sort → List SortKey → Type 0
Sorts q sorts keys = Has (List SortKey) (λ s. s.keys) q sorts keys

abbrev Names : WrittenQuery → List Name → Type 0
Names q names = Has (List Name) (λ s. s.names) q [] names

abbrev Means : WrittenQuery → meaning.Query → Type 0
Means q meant = Has meaning.Query (λ s. s.query) q [] meant

abbrev Sources : WrittenQuery → List ℕ → Type 0
Sources q ids = Has (List ℕ) (λ s. s.sources) q [] ids

abbrev t : WrittenSource
t = object name_t

abbrev u : WrittenSource
u = object name_u

abbrev w : WrittenSource
w = object name_w

-- JOIN source ON TRUE
abbrev also : WrittenSource → WrittenJoin
also source = join source truth

-- SELECT 1
abbrev one : List Item
one = only (number 1)

abbrev joined : List Item → WrittenSource → List WrittenJoin → WrittenQuery
joined shown from joins = query (core shown from joins None [] ∷ [])

-- SELECT items FROM T WHERE filter
abbrev filtered : List Item → Expr → WrittenQuery
filtered shown filter = query (core shown t [] (Some filter) [] ∷ [])

-- SELECT items FROM T GROUP BY keys
abbrev grouped : List Item → List Expr → WrittenQuery
grouped shown group = query (core shown t [] None group ∷ [])

abbrev plain : List Item → WrittenSource → WrittenCore
plain shown from = core shown from [] None []

-- K + 1, K = n, K = 1 OR K = 2, K >= n, K <= n
abbrev next : Expr
next = plus (column k) (number 1)

abbrev is_number : ℕ → Expr
is_number n = equal (column k) (number n)

abbrev one_or_two : Expr
one_or_two = or (is_number 1) (is_number 2)

abbrev at_least : ℕ → Expr
at_least n = compare comparisons.GreaterOrEqual (column k) (number n)

abbrev at_most : ℕ → Expr
at_most n = compare comparisons.LessOrEqual (column k) (number n)

-- the entry T
abbrev over_t : Bool → Context
over_t takes_calls = record {
  entries = (record { name = name_t; columns = t_columns }) ∷ [];
  takes_calls = takes_calls;
}

abbrev up : OrderKey → Sort
up key = record { key = key; descending = false }

abbrev literal : ℕ → Scalar
literal n = Const (value.Number (pos n))

-- items over `T JOIN U ON TRUE`, or over two entries of T
abbrev crossed : List Scalar → meaning.Query
crossed items = Project (Joined (Scan 0) (Scan 1) (Const (value.Truth true))) items

-- ---- entries

-- X.K, T.K and T.* of `FROM T AS X`
pub an_alias_hides_the_name : Passes (select (only (column_in name_x k)) (object_as name_t name_x))
    × IsUnknown k (select (only (column_in name_t k)) (object_as name_t name_x))
    × IsUnknown name_t (select (items.StarOf name_t ∷ []) (object_as name_t name_x))
unfolding first_failing source_step core_step query_step step column_at columns_of_entry
an_alias_hides_the_name = (read (simp layers), read (simp layers), read refl)

-- K, then V and U.K, of `FROM T JOIN U ON TRUE`
pub a_column_of_two_entries : IsUnknown k (joined (only (column k)) t (also u ∷ []))
    × Means (joined (shown (column v) ∷ shown (column_in name_u k) ∷ []) t (also u ∷ []))
    (crossed (Column 1 ∷ Column 2 ∷ []))
unfolding first_failing source_step core_step query_step join_step step column_at
a_column_of_two_entries = (read (simp layers), read (simp layers))

-- `T JOIN U ON B JOIN W ON TRUE`, `T JOIN U ON TRUE JOIN W ON B`, and `U JOIN T AS X ON V = 1 JOIN T AS Y ON TRUE`
pub on_sees_no_later_entry : IsUnknown name_b (joined one t (join u (column name_b) ∷ also w ∷ []))
    × Passes (joined one t (also u ∷ join w (column name_b) ∷ []))
    × Passes (joined one u (join (object_as name_t name_x) (equal (column v) (number 1)) ∷ also
    (object_as name_t name_y) ∷ []))
unfolding first_failing source_step core_step query_step join_step step column_at
on_sees_no_later_entry = (read (simp layers), read (simp layers), read (simp layers))

-- `T JOIN T`: a column that both have comes before the name that comes twice; T.* has no meaning, * has one
pub one_name_twice : IsUnknown k (joined (only (column_in name_t k)) t (also t ∷ []))
    × IsUnknown name_t (joined (items.StarOf name_t ∷ []) t (also t ∷ []))
    × IsTaken name_t (joined (items.Star ∷ []) t (also t ∷ []))
    × Passes (joined one t (also (object_as name_t name_x) ∷ []))
unfolding first_failing source_step core_step query_step join_step step column_at columns_of_entry
one_name_twice = (read (simp layers), read (simp layers), read (simp layers), read (simp layers))

-- `T JOIN U JOIN U JOIN T`, and `T AS U JOIN U`
pub two_names_twice : IsTaken name_t (joined one t (also u ∷ also u ∷ also t ∷ []))
    × IsTaken name_u (joined one (object_as name_t name_u) (also u ∷ []))
unfolding first_failing source_step core_step query_step join_step step column_at
two_names_twice = (read (simp layers), read (simp layers))

-- ---- output names

-- `SELECT * FROM T JOIN U ON TRUE`, and `SELECT U.*`
pub stars_over_two_entries : Names (joined (items.Star ∷ []) t (also u ∷ [])) (k ∷ v ∷ k ∷ [])
    × Means (joined (items.Star ∷ []) t (also u ∷ [])) (crossed (Column 0 ∷ Column 1 ∷ Column 2 ∷ []))
    × Means (joined (items.StarOf name_u ∷ []) t (also u ∷ [])) (crossed (Column 2 ∷ []))
unfolding source_step core_step query_step join_step step column_at columns_of_entry
stars_over_two_entries = (read refl, read (simp layers), read (simp layers))

-- `SELECT *, K + 1 FROM T`, and `SELECT K + 1 AS X, 1, T.V, SUM(K) FROM T`
pub names_of_columns : Names (select (items.Star ∷ shown (plus (column k) (number 1)) ∷ []) t)
    (k ∷ v ∷ codes "COL3" ∷ [])
    × Names (select (shown_as (plus (column k) (number 1)) name_x ∷ shown (number 1) ∷ shown (column_in name_t v) ∷
    shown (sum (column k)) ∷ []) t) (name_x ∷ codes "COL2" ∷ v ∷ codes "COL4" ∷ [])
unfolding source_step core_step query_step step column_at is_same regrouped digits
names_of_columns = (read (simp layers), read (simp layers))

-- `SELECT K AS X FROM T UNION ALL SELECT V FROM T`
pub names_of_the_first_core : Names (query (plain (shown_as (column k) name_x ∷ []) t ∷ plain (only (column v)) t ∷
    [])) (name_x ∷ [])
unfolding source_step core_step query_step step column_at
names_of_the_first_core = read refl

-- ---- types

-- K with K and V; K with a text; NULL with K, then with a text
pub cores_fit : IsMistyped (query (plain (only (column k)) t ∷ plain (items.Star ∷ []) t ∷ []))
    × IsMistyped (query (plain (only (column k)) t ∷ plain (only text) t ∷ []))
    × Passes (query (plain (only null) t ∷ plain (only (column k)) t ∷ []))
    × IsMistyped (query (plain (only null) t ∷ plain (only (column k)) t ∷ plain (only text) t ∷ []))
unfolding first_failing source_step core_step query_step step column_at
cores_fit = (read (simp layers), read (simp layers), read (simp layers), read (simp layers))

-- X + 1 over `(SELECT NULL AS X FROM T UNION ALL SELECT .. FROM T) Q`, where `..` is NULL, and where it is K
pub null_in_each_core : IsMistyped (select (only (plus (column name_x) (number 1)))
    (subquery (query (plain (shown_as null name_x ∷ []) t ∷ plain (only null) t ∷ [])) name_q))
    × Passes (select (only (plus (column name_x) (number 1)))
    (subquery (query (plain (shown_as null name_x ∷ []) t ∷ plain (only (column k)) t ∷ [])) name_q))
unfolding first_failing source_step core_step query_step step column_at
null_in_each_core = (read (simp layers), read (simp layers))

-- WHERE takes a BOOLEAN, which NULL fits: K, K = 1, NULL, K + NULL
pub conditions : IsMistyped (filtered one (column k))
    × Passes (filtered one (equal (column k) (number 1)))
    × Passes (filtered one null)
    × IsMistyped (filtered one (plus (column k) null))
unfolding first_failing source_step core_step query_step step column_at
conditions = (read (simp layers), read (simp layers), read (simp layers), read (simp layers))

-- K = 'a', K IN (1, 'a'), and NULL IN (1, 'a'), where each is typed against the left side alone
pub two_sides : IsMistyped (filtered one (equal (column k) text))
    × IsMistyped (filtered one (among (column k) (number 1 ∷ text ∷ [])))
    × Passes (filtered one (among null (number 1 ∷ text ∷ [])))
unfolding first_failing source_step core_step query_step step column_at
two_sides = (read (simp layers), read (simp layers), read (simp layers))

-- ---- groups

-- `SELECT T.K + 1 FROM T GROUP BY K + 1`, `SELECT 1 + K ..`, and `SELECT K + 1, T.K + 1 + 1 ..`
pub keys_are_expressions : Passes (grouped (only (plus (column_in name_t k) (number 1))) (next ∷ []))
    × IsMistyped (grouped (only (plus (number 1) (column k))) (next ∷ []))
    × Means (grouped (shown next ∷ shown (plus next (number 1)) ∷ []) (next ∷ []))
    (Project (Group (Scan 0) (Add (Column 0) (literal 1) ∷ []) []) (Column 0 ∷ Add (Column 0) (literal 1) ∷ []))
unfolding first_failing source_step core_step query_step step column_at is_same regrouped
keys_are_expressions = (read (simp layers), read (simp layers), read (simp layers))

abbrev is_one_of : ℕ → ℕ → Typed
is_one_of a b = record {
  scalar = Or (Compare comparisons.Equal (Column 0) (literal a)) (Compare comparisons.Equal (Column 0) (literal b));
  type_of = Some BooleanType;
  calls = [];
  findings = nothing_found;
}

-- K IN (a, b), and K = a OR K = b
pub in_two : (takes_calls : Bool) (a b : ℕ)
    → typed (among (column k) (number a ∷ number b ∷ [])) (over_t takes_calls) 0 ≡ is_one_of a b
unfolding step column_at
in_two takes_calls a b = simp layers

pub one_or_other : (takes_calls : Bool) (a b : ℕ)
    → typed (or (is_number a) (is_number b)) (over_t takes_calls) 0 ≡ is_one_of a b
unfolding step column_at
one_or_other takes_calls a b = simp layers

-- `K BETWEEN 1 AND 2` is `K >= 1 AND K <= 2`
pub between_is_two_comparisons : (takes_calls : Bool) (low high : ℕ)
    → typed (between (column k) (number low) (number high)) (over_t takes_calls) 0 ≡ typed
    (both (at_least low) (at_most high)) (over_t takes_calls) 0
unfolding step column_at
between_is_two_comparisons takes_calls low high = simp layers

-- - NULL and NULL + 1 are NUMBERs, as no text is
pub arithmetic_gives_numbers : IsMistyped (filtered one (equal (negative null) text))
    × IsMistyped (filtered one (equal (plus null (number 1)) text))
    × IsMistyped (select (only (negative text)) t)
    × Passes (select (only (equal (negative null) (count_of text))) t)
unfolding first_failing source_step core_step query_step step column_at is_same regrouped
arithmetic_gives_numbers = (read (simp layers), read (simp layers), read (simp layers), read (simp layers))

-- `K IN (1, 2)`, then `K IN (2, 1)`, by the key `K = 1 OR K = 2`; `K IS NOT NULL` by `NOT K IS NULL`
pub keys_by_meaning : Passes (grouped (only (among (column k) (number 1 ∷ number 2 ∷ []))) (one_or_two ∷ []))
    × IsMistyped (grouped (only (among (column k) (number 2 ∷ number 1 ∷ []))) (one_or_two ∷ []))
    × Passes (grouped (only (is_null true (column k))) (not_ (is_null false (column k)) ∷ []))
unfolding first_failing core_step source_step query_step step column_at is_same regrouped
keys_by_meaning = (read (simp (in_two, one_or_other)), read (simp (in_two, one_or_other)), read (simp layers))

-- V, then 1, by the key K; K, then 1, by the key 1, which is no position
pub columns_outside_keys : IsMistyped (grouped (only (column v)) (column k ∷ []))
    × Passes (grouped one (column k ∷ []))
    × IsMistyped (grouped (only (column k)) (number 1 ∷ []))
    × Means (grouped one (number 1 ∷ [])) (Project (Group (Scan 0) (literal 1 ∷ []) []) (Column 0 ∷ []))
unfolding first_failing source_step core_step query_step step column_at is_same regrouped
columns_outside_keys = (read (simp layers), read (simp layers), read (simp layers), read (simp layers))

-- `SELECT SUM(V), K, COUNT(*) FROM T GROUP BY K`, `SELECT K, COUNT(*) FROM T`, and `SELECT 1, COUNT(*) FROM T`
pub calls_stand_behind_keys : Means (grouped (shown (sum (column v)) ∷ shown (column k) ∷ shown count_rows ∷ [])
    (column k ∷ [])) (Project (Group (Scan 0) (Column 0 ∷ []) (Sum (Column 1) ∷ CountRows ∷ []))
    (Column 1 ∷ Column 0 ∷ Column 2 ∷ []))
    × IsMistyped (select (shown (column k) ∷ shown count_rows ∷ []) t)
    × Means (select (shown (number 1) ∷ shown count_rows ∷ []) t)
    (Project (Group (Scan 0) [] (CountRows ∷ [])) (literal 1 ∷ Column 0 ∷ []))
unfolding first_failing source_step core_step query_step step column_at is_same regrouped
calls_stand_behind_keys = (read (simp layers), read (simp layers), read (simp layers))

-- `SELECT * FROM T GROUP BY K, V`, `SELECT *, COUNT(*) FROM T`, and K and Z of the latter: K is a column of it
pub no_star_in_groups : IsMistyped (grouped (items.Star ∷ []) (column k ∷ column v ∷ []))
    × IsMistyped (select (items.Star ∷ shown count_rows ∷ []) t)
    × IsMistyped (select (only (column k)) (subquery (select (items.Star ∷ shown count_rows ∷ []) t) name_q))
    × IsUnknown name_z (select (only (column name_z)) (subquery (select (items.Star ∷ shown count_rows ∷ []) t) name_q))
unfolding first_failing source_step core_step query_step step column_at is_same regrouped
no_star_in_groups = (read (simp layers), read (simp layers), read (simp layers), read (simp layers))

-- a call in WHERE, ON, GROUP BY and in a call
pub calls_out_of_place : IsMistyped (filtered one (equal count_rows (number 1)))
    × IsMistyped (joined one t (join u (equal count_rows (number 1)) ∷ []))
    × IsMistyped (grouped one (sum (column k) ∷ []))
    × IsMistyped (select (only (sum count_rows)) t)
unfolding first_failing source_step core_step query_step join_step step column_at is_same regrouped
calls_out_of_place = (read (simp layers), read (simp layers), read (simp layers), read (simp layers))

-- SUM takes NUMBER, which NULL fits, and COUNT any type; both give NUMBER
pub types_of_calls : IsMistyped (select (only (sum text)) t)
    × Passes (select (only (equal (sum null) (count_of text))) t)
    × IsMistyped (select (only (equal (sum null) text)) t)
    × IsMistyped (select (only (equal (count_of text) text)) t)
unfolding first_failing source_step core_step query_step step column_at is_same regrouped
types_of_calls = (read (simp layers), read (simp layers), read (simp layers), read (simp layers))

-- ---- the order of tests

-- a table, a stream and a dynamic table are read, a task isn't
pub sources_are_read : Passes (joined (items.Star ∷ []) t (also (object name_s) ∷ also (object name_d) ∷ []))
    × IsWrong name_a (joined one t (also (object name_a) ∷ []))
unfolding first_failing source_step core_step query_step join_step step column_at
sources_are_read = (read (simp layers), read (simp layers))

-- Z of a table that isn't there, also as the second entry; Z of a task; a task beside a table that isn't there
pub objects_come_first : IsUnknown name_n (select (only (column name_z)) (object name_n))
    × IsUnknown name_n (joined (only (column name_z)) t (also (object name_n) ∷ []))
    × IsWrong name_a (select (only (column name_z)) (object name_a))
    × IsUnknown name_n (joined one (object name_a) (also (object name_n) ∷ []))
unfolding first_failing source_step core_step query_step join_step step column_at
objects_come_first = (read (simp layers), read (simp layers), read (simp layers), read (simp layers))

-- 1 + TRUE beside Z, and over `T JOIN T`
pub types_come_last : IsUnknown name_z (select (shown (plus (number 1) truth) ∷ shown (column name_z) ∷ []) t)
    × IsTaken name_t (joined (only (plus (number 1) truth)) t (also t ∷ []))
    × IsMistyped (select (only (plus (number 1) truth)) t)
unfolding first_failing source_step core_step query_step join_step step column_at
types_come_last = (read (simp layers), read (simp layers), read (simp layers))

-- of two columns without a meaning: items, ON, WHERE, GROUP BY; of a column in an entry its own name is answered
pub the_first_in_the_text : IsUnknown name_y (query (core (only (column name_y)) t (join u (column name_z) ∷ []) None
    [] ∷ []))
    × IsUnknown name_y (query (core one t (join u (column name_y) ∷ []) (Some (column name_z)) [] ∷ []))
    × IsUnknown name_y (query (core one t [] (Some (column name_y)) (column name_z ∷ []) ∷ []))
    × IsUnknown name_y (select (only (column_in name_n name_y)) t)
unfolding first_failing source_step core_step query_step join_step step column_at
the_first_in_the_text = (read (simp layers), read (simp layers), read (simp layers), read (simp layers))

-- ---- ORDER BY

-- positions 0, 1 and 2 of one column
pub positions : IsUnknownBy (codes "0") (select (only (column k)) t) (up (keys.Position 0) ∷ [])
    × Sorts (select (only (column k)) t) (up (keys.Position 1) ∷ [])
    ((record { place = 0; is_descending = false }) ∷ [])
    × IsUnknownBy (codes "2") (select (only (column k)) t) (up (keys.Position 2) ∷ [])
unfolding first_failing source_step core_step query_step step column_at digits
positions = (read (simp layers), read refl, read (simp layers))

-- K, then X, of `SELECT V, K AS X FROM T`, and K of `SELECT K, K FROM T`
pub order_by_sees_output_names : IsUnknownBy k (select (shown (column v) ∷ shown_as (column k) name_x ∷ []) t)
    (up (keys.Name k) ∷ [])
    × Sorts (select (shown (column v) ∷ shown_as (column k) name_x ∷ []) t) (up (keys.Name name_x) ∷ [])
    ((record { place = 1; is_descending = false }) ∷ [])
    × IsUnknownBy k (select (shown (column k) ∷ shown (column k) ∷ []) t) (up (keys.Name k) ∷ [])
unfolding first_failing source_step core_step query_step step column_at
order_by_sees_output_names = (read (simp layers), read (simp layers), read (simp layers))

-- ---- sources

-- each name of an object has a number: `T AS X JOIN T AS Y`; `(SELECT K FROM U) Q JOIN T`;
-- `SELECT K FROM T UNION ALL SELECT K FROM U`
pub sources_by_number : Sources (joined one (object_as name_t name_x) (also (object_as name_t name_y) ∷ []))
    (1 ∷ 1 ∷ [])
    × Means (joined one (object_as name_t name_x) (also (object_as name_t name_y) ∷ [])) (crossed (literal 1 ∷ []))
    × Sources (joined one (subquery (select (only (column k)) u) name_q) (also t ∷ [])) (2 ∷ 1 ∷ [])
    × Sources (query (plain (only (column k)) t ∷ plain (only (column k)) u ∷ [])) (1 ∷ 2 ∷ [])
    × Means (query (plain (only (column k)) t ∷ plain (only (column k)) u ∷ []))
    (UnionAll (Project (Scan 0) (Column 0 ∷ [])) (Project (Scan 1) (Column 0 ∷ [])))
unfolding source_step core_step query_step join_step step column_at
sources_by_number = (read refl, read (simp layers), read refl, read refl, read (simp layers))
