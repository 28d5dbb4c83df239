-- What changing statements stand for, worked by hand over the objects of Written.
--     INSERT     rows_in_column_order, columns_not_named, repeated_columns, as_many_values, null_of_a_query,
--                values_see_no_column, one_test_after_the_other
--     UPDATE     parts_read_the_old_row, order_of_set_names, set_takes_its_column
--     DELETE     condition_of_delete
--     MERGE      entries_of_merge, rows_of_merge, unmatched_sees_the_source, one_name_for_both
--     targets    targets_are_tables, target_before_source
use Rattle.std.specs.Prelude.{◌≡◌, refl, ℕ, true, List, [], ◌∷◌, Option, Some, None, unwrap_or, pos}
use Rattle.std.proofs.Common.{ap, ◌∙◌}
use Rattle.wh_value.specs.Value as value
use Rattle.wh_value.specs.declared.comparison.Comparison.TheVariants as comparisons
use Rattle.wh_ast.specs.declared.expr.Expr.{Expr}
use Rattle.wh_ast.specs.declared.dml.Dml.{Dml}
use Rattle.wh_ast.specs.declared.dml.Dml.TheVariants as dml
use Rattle.wh_ast.specs.declared.dml.Rows.TheVariants as rows
use Rattle.wh_ast.specs.declared.dml.Assignment.{Assignment}
use Rattle.wh_ast.specs.declared.dml.MergeClause.{MergeClause}
use Rattle.wh_ast.specs.declared.dml.MergeClause.TheVariants as clauses
use Rattle.wh_meaning.specs.Scalar.{Scalar, Const, Column, Add, Compare}
use Rattle.wh_meaning.specs.Query.{Scan, Project}
use Rattle.wh_naming.specs.Findings.{Name, Failing, UnknownName, WrongKind, NameTaken, TypeMismatch, first_failing}
use Rattle.wh_naming.specs.Scope.{column_at}
use Rattle.wh_naming.specs.Typing.{step}
use Rattle.wh_naming.specs.Select.{QueryReading, SourcePart, source_step, core_step, query_step}
use Rattle.wh_naming.specs.Changes.{Modification, InsertRows, InsertQuery, Update, Delete, Merge, UpdateMatched}
use Rattle.wh_naming.specs.Changes.{DeleteMatched, InsertUnmatched, BoundChange, target_at, condition_of}
use Rattle.wh_naming.specs.Changes.{insert_query, bound_merge, bound_change}
use Rattle.wh_naming.proofs.Written.{WrittenSource, WrittenQuery, k, v, name_a, name_d, name_n}
use Rattle.wh_naming.proofs.Written.{name_s, name_t, name_u, name_x, name_y, name_z, objects, number, truth}
use Rattle.wh_naming.proofs.Written.{text, null, column, column_in, plus, equal, count_rows, only, shown}
use Rattle.wh_naming.proofs.Written.{shown_as, object, object_as, subquery, select, layers}

-- a statement with what it stands for by its query's or source's parts
pub record WrittenChange : Type 0 where
  pub tree : Dml
  pub bound : BoundChange
  pub is : bound_change objects tree ≡ bound

-- what is read of one over the objects
pub record Has (A : Type 0) (of : BoundChange → A) (c : WrittenChange) (x : A) : Type 0 where
  pub is_so : of (bound_change objects c.tree) ≡ x

read : {A : Type 0} {of : BoundChange → A} {c : WrittenChange} {x : A} → of c.bound ≡ x → Has A of c x
read {of = of} {c = c} e = record { is_so = ap of c.is ∙ e }

-- what is answered: None where nothing is found wrong
abbrev answer : BoundChange → Option Failing
answer b = first_failing b.findings

abbrev Passes : WrittenChange → Type 0
Passes c = Has (Option Failing) answer c None

abbrev IsUnknown : Name → WrittenChange → Type 0
IsUnknown name c = Has (Option Failing) answer c (Some (UnknownName name))

abbrev IsWrong : Name → WrittenChange → Type 0
IsWrong name c = Has (Option Failing) answer c (Some (WrongKind name))

abbrev IsTaken : Name → WrittenChange → Type 0
IsTaken name c = Has (Option Failing) answer c (Some (NameTaken name))

abbrev IsMistyped : WrittenChange → Type 0
IsMistyped c = Has (Option Failing) answer c (Some TypeMismatch)

abbrev Means : WrittenChange → Modification → Type 0
Means c meant = Has Modification (λ b. b.change) c meant

-- ---- statements

abbrev plain : Dml → WrittenChange
plain tree = record { tree = tree; bound = bound_change objects tree; is = refl }

-- INSERT INTO target (names) VALUES rows
abbrev insert : Name → Option (List Name) → List (List Expr) → WrittenChange
insert target names found = plain (dml.Insert target names (rows.Values found))

pub of_insert : (target : Name) (names : Option (List Name)) (q : WrittenQuery)
    → bound_change objects (dml.Insert target names (rows.Query q.tree)) ≡ insert_query (target_at objects target)
    names (q.reading objects 0)
unfolding bound_change
of_insert target names q = ap (λ (r : QueryReading). insert_query (target_at objects target) names (r objects 0)) q.is

abbrev insert_from : Name → Option (List Name) → WrittenQuery → WrittenChange
insert_from target names q = record {
  tree = dml.Insert target names (rows.Query q.tree);
  bound = insert_query (target_at objects target) names (q.reading objects 0);
  is = of_insert target names q;
}

abbrev set : Name → Expr → Assignment
set name x = record { column = name; value = x }

abbrev update : List Assignment → Option Expr → WrittenChange
update parts filter = plain (dml.Update name_t parts filter)

pub of_merge : (target : Name) (alias : Option Name) (source : WrittenSource) (on : Expr) (found : List MergeClause)
    → bound_change objects (dml.Merge target alias source.tree on found)
    ≡ bound_merge (target_at objects target) (unwrap_or alias target) source.part objects on found
unfolding bound_change
of_merge target alias source on found =
    ap (λ (p : SourcePart). bound_merge (target_at objects target) (unwrap_or alias target) p objects on found)
    source.is

-- MERGE INTO target alias USING source ON ..
abbrev merge_into : Name → Option Name → WrittenSource → Expr → List MergeClause → WrittenChange
merge_into target alias source on found = record {
  tree = dml.Merge target alias source.tree on found;
  bound = bound_merge (target_at objects target) (unwrap_or alias target) source.part objects on found;
  is = of_merge target alias source on found;
}

-- MERGE INTO T AS X
abbrev merge : WrittenSource → Expr → List MergeClause → WrittenChange
merge source on found = merge_into name_t (Some name_x) source on found

abbrev u : WrittenSource
u = object name_u

abbrev literal : ℕ → Scalar
literal n = Const (value.Number (pos n))

abbrev nothing : Scalar
nothing = Const value.Null

-- X.K = U.K
abbrev same_keys : Expr
same_keys = equal (column_in name_x k) (column_in name_u k)

abbrev on_keys : List MergeClause → WrittenChange
on_keys found = merge u same_keys found

-- the same over a row of T and then one of U
abbrev keys_meet : Scalar
keys_meet = Compare comparisons.Equal (Column 0) (Column 2)

abbrev always : Scalar
always = Const (value.Truth true)

-- ---- INSERT

-- `INSERT INTO T VALUES (1, 2), (3, NULL)`, and `SELECT V, K FROM T` for its rows
pub rows_in_column_order : Means (insert name_t None ((number 1 ∷ number 2 ∷ []) ∷ (number 3 ∷ null ∷ []) ∷ []))
    (InsertRows ((literal 1 ∷ literal 2 ∷ []) ∷ (literal 3 ∷ nothing ∷ []) ∷ []))
    × Means (insert_from name_t None (select (shown (column v) ∷ shown (column k) ∷ []) (object name_t)))
    (InsertQuery (Project (Scan 0) (Column 1 ∷ Column 0 ∷ [])) (Column 0 ∷ Column 1 ∷ []))
unfolding bound_change first_failing source_step core_step query_step step column_at
rows_in_column_order = (read (simp layers), read (simp layers))

-- `T (V) VALUES (1)`, `T (V, K) VALUES (1, 2)`, and `T (V) SELECT K FROM U`
pub columns_not_named : Means (insert name_t (Some (v ∷ [])) ((number 1 ∷ []) ∷ []))
    (InsertRows ((nothing ∷ literal 1 ∷ []) ∷ []))
    × Means (insert name_t (Some (v ∷ k ∷ [])) ((number 1 ∷ number 2 ∷ []) ∷ []))
    (InsertRows ((literal 2 ∷ literal 1 ∷ []) ∷ []))
    × Means (insert_from name_t (Some (v ∷ [])) (select (only (column k)) u))
    (InsertQuery (Project (Scan 0) (Column 0 ∷ [])) (nothing ∷ Column 0 ∷ []))
unfolding bound_change first_failing source_step core_step query_step step column_at
columns_not_named = (read (simp layers), read (simp layers), read (simp layers))

-- (K, V, V, K); (K, K, Z), where Z has no meaning
pub repeated_columns : IsTaken k (insert name_t (Some (k ∷ v ∷ v ∷ k ∷ []))
    ((number 1 ∷ number 2 ∷ number 3 ∷ number 4 ∷ []) ∷ []))
    × IsUnknown name_z (insert name_t (Some (k ∷ k ∷ name_z ∷ [])) ((number 1 ∷ number 2 ∷ number 3 ∷ []) ∷ []))
unfolding bound_change first_failing source_step core_step query_step step column_at
repeated_columns = (read (simp layers), read (simp layers))

-- one too few in the second row, one too many, as many as are named, and one too few of a query
pub as_many_values : IsMistyped (insert name_t None ((number 1 ∷ number 2 ∷ []) ∷ (number 3 ∷ []) ∷ []))
    × IsMistyped (insert name_t (Some (k ∷ [])) ((number 1 ∷ number 2 ∷ []) ∷ []))
    × Passes (insert name_t (Some (k ∷ [])) ((number 1 ∷ []) ∷ []))
    × IsMistyped (insert_from name_t None (select (only (column k)) u))
unfolding bound_change first_failing source_step core_step query_step step column_at
as_many_values = (read (simp layers), read (simp layers), read (simp layers), read (simp layers))

-- `T (K) SELECT NULL FROM T`, `T (K) VALUES (NULL)`, and a text in its place
pub null_of_a_query : IsMistyped (insert_from name_t (Some (k ∷ [])) (select (only null) (object name_t)))
    × Passes (insert name_t (Some (k ∷ [])) ((null ∷ []) ∷ []))
    × IsMistyped (insert name_t (Some (k ∷ [])) ((text ∷ []) ∷ []))
unfolding bound_change first_failing source_step core_step query_step step column_at
null_of_a_query = (read (simp layers), read (simp layers), read (simp layers))

-- K, then T.V, then a call
pub values_see_no_column : IsUnknown k (insert name_t None ((column k ∷ number 1 ∷ []) ∷ []))
    × IsUnknown v (insert name_t None ((number 1 ∷ column_in name_t v ∷ []) ∷ []))
    × IsMistyped (insert name_t None ((number 1 ∷ count_rows ∷ []) ∷ []))
unfolding bound_change first_failing source_step core_step query_step step column_at
values_see_no_column = (read (simp layers), read (simp layers), read (simp layers))

-- `N SELECT Z FROM A`, `T (Z) SELECT K FROM A`, `T (Z) SELECT Y FROM T`, and `T (K, K) SELECT 1 + TRUE, 1 FROM T`
pub one_test_after_the_other : IsUnknown name_n (insert_from name_n None
    (select (only (column name_z)) (object name_a)))
    × IsWrong name_a (insert_from name_t (Some (name_z ∷ [])) (select (only (column k)) (object name_a)))
    × IsUnknown name_z (insert_from name_t (Some (name_z ∷ [])) (select (only (column name_y)) (object name_t)))
    × IsTaken k (insert_from name_t (Some (k ∷ k ∷ [])) (select
    (shown (plus (number 1) truth) ∷ shown (number 1) ∷ []) (object name_t)))
unfolding bound_change first_failing source_step core_step query_step step column_at
one_test_after_the_other = (read refl, read (simp layers), read (simp layers), read (simp layers))

-- ---- UPDATE and DELETE

-- `UPDATE T SET V = K, K = T.V + 1`, and `SET V = 1 WHERE K = 1`
pub parts_read_the_old_row : Means (update (set v (column k) ∷ set k (plus (column_in name_t v) (number 1)) ∷ [])
    None) (Update always (Add (Column 1) (literal 1) ∷ Column 0 ∷ []))
    × Means (update (set v (number 1) ∷ []) (Some (equal (column k) (number 1))))
    (Update (Compare comparisons.Equal (Column 0) (literal 1)) (Column 0 ∷ literal 1 ∷ []))
unfolding bound_change first_failing source_step core_step query_step step column_at
parts_read_the_old_row = (read (simp layers), read (simp (layers, condition_of)))

-- `SET K = Y, Z = 1`, `SET Z = Y`, `SET K = 1, V = 1, V = 1, K = 1`, and `SET K = 1, K = 2 WHERE Z = 1`
pub order_of_set_names : IsUnknown name_y (update (set k (column name_y) ∷ set name_z (number 1) ∷ []) None)
    × IsUnknown name_z (update (set name_z (column name_y) ∷ []) None)
    × IsTaken k (update (set k (number 1) ∷ set v (number 1) ∷ set v (number 1) ∷ set k (number 1) ∷ []) None)
    × IsUnknown name_z (update (set k (number 1) ∷ set k (number 2) ∷ []) (Some (equal (column name_z) (number 1))))
unfolding bound_change first_failing source_step core_step query_step step column_at
order_of_set_names = (read (simp layers), read (simp layers), read (simp layers), read (simp layers))

-- a text, NULL, a call, and a condition that is a NUMBER
pub set_takes_its_column : IsMistyped (update (set k text ∷ []) None)
    × Passes (update (set k null ∷ []) None)
    × IsMistyped (update (set k count_rows ∷ []) None)
    × IsMistyped (update (set k (number 1) ∷ []) (Some (column k)))
unfolding bound_change first_failing source_step core_step query_step step column_at
set_takes_its_column = (read (simp layers), read (simp layers), read (simp layers), read (simp layers))

-- K, K = T.V, NULL, U.K, and none, which is TRUE
pub condition_of_delete : IsMistyped (plain (dml.Delete name_t (Some (column k))))
    × Passes (plain (dml.Delete name_t (Some (equal (column k) (column_in name_t v)))))
    × Passes (plain (dml.Delete name_t (Some null)))
    × IsUnknown k (plain (dml.Delete name_t (Some (equal (column_in name_u k) (number 1)))))
    × Means (plain (dml.Delete name_t None)) (Delete always)
unfolding bound_change first_failing source_step core_step query_step step column_at
condition_of_delete = (read (simp layers), read (simp layers), read (simp layers), read (simp layers), read refl)

-- ---- MERGE INTO T AS X

-- X.K = U.K, T.K = U.K, K = 1, which both have, V = 1, which one has, and X.V
pub entries_of_merge : Passes (on_keys (clauses.Delete None ∷ []))
    × IsUnknown k (merge u (equal (column_in name_t k) (column_in name_u k)) (clauses.Delete None ∷ []))
    × IsUnknown k (merge u (equal (column k) (number 1)) (clauses.Delete None ∷ []))
    × Passes (merge u (equal (column v) (number 1)) (clauses.Delete None ∷ []))
    × IsMistyped (merge u (column_in name_x v) (clauses.Delete None ∷ []))
unfolding bound_change first_failing source_step core_step query_step step column_at
entries_of_merge = (read (simp layers), read (simp layers), read (simp layers), read (simp layers), read (simp layers))

-- UPDATE SET V = U.K, DELETE where X.K = U.K, and INSERT (V) VALUES (K)
pub rows_of_merge : Means (on_keys (clauses.Update None (set v (column_in name_u k) ∷ []) ∷ []))
    (Merge (Scan 0) keys_meet (UpdateMatched always (Column 0 ∷ Column 2 ∷ []) ∷ []))
    × Means (on_keys (clauses.Delete (Some same_keys) ∷ [])) (Merge (Scan 0) keys_meet (DeleteMatched keys_meet ∷ []))
    × Means (on_keys (clauses.Insert None (Some (v ∷ [])) (column k ∷ []) ∷ []))
    (Merge (Scan 0) keys_meet (InsertUnmatched always (nothing ∷ Column 0 ∷ []) ∷ []))
unfolding bound_change first_failing source_step core_step query_step step column_at
rows_of_merge = (read (simp layers), read (simp (layers, condition_of)), read (simp layers))

-- X.K as a value, as a condition, and V; the columns that are given values are the target's
pub unmatched_sees_the_source : IsUnknown k (on_keys (clauses.Insert None (Some (v ∷ [])) (column_in name_x k ∷ []) ∷
    []))
    × IsUnknown k (on_keys (clauses.Insert (Some same_keys) (Some (v ∷ [])) (column k ∷ []) ∷ []))
    × IsUnknown v (on_keys (clauses.Insert None (Some (k ∷ [])) (column v ∷ []) ∷ []))
    × IsMistyped (on_keys (clauses.Insert None None (column k ∷ []) ∷ []))
unfolding bound_change first_failing source_step core_step query_step step column_at
unmatched_sees_the_source = (read (simp layers), read (simp layers), read (simp layers), read (simp layers))

-- USING U AS X: TRUE, then X.K = 1, which both have, then X.V = 1; and USING `(SELECT 1 AS Z FROM N) X`
pub one_name_for_both : IsTaken name_x (merge (object_as name_u name_x) truth (clauses.Delete None ∷ []))
    × IsUnknown k (merge (object_as name_u name_x) (equal (column_in name_x k) (number 1)) (clauses.Delete None ∷ []))
    × IsTaken name_x (merge (object_as name_u name_x) (equal (column_in name_x v) (number 1))
    (clauses.Delete None ∷ []))
    × IsUnknown name_n (merge (subquery (select (shown_as (number 1) name_z ∷ []) (object name_n)) name_x) truth
    (clauses.Delete None ∷ []))
unfolding bound_change first_failing source_step core_step query_step step column_at
one_name_for_both = (read (simp layers), read (simp layers), read (simp layers), read (simp layers))

-- ---- targets

-- a task A, a stream S, a dynamic table D, and N, which isn't there
pub targets_are_tables : IsWrong name_a (insert name_a None ((number 1 ∷ []) ∷ []))
    × IsWrong name_s (plain (dml.Delete name_s (Some (column name_z))))
    × IsWrong name_d (plain (dml.Update name_d (set name_z (number 1) ∷ []) None))
    × IsUnknown name_n (plain (dml.Delete name_n (Some (column name_z))))
    × IsWrong name_a (merge_into name_a None u same_keys (clauses.Delete None ∷ []))
unfolding bound_change first_failing source_step core_step query_step step column_at
targets_are_tables = (read (simp layers), read (simp layers), read (simp layers), read refl, read (simp layers))

-- MERGE INTO A USING N, MERGE INTO N USING A, and MERGE INTO T USING A
pub target_before_source : IsUnknown name_n (merge_into name_a None (object name_n) truth (clauses.Delete None ∷ []))
    × IsUnknown name_n (merge_into name_n None (object name_a) truth (clauses.Delete None ∷ []))
    × IsWrong name_a (merge_into name_t None (object name_a) truth (clauses.Delete None ∷ []))
unfolding bound_change first_failing source_step core_step query_step step column_at
target_before_source = (read refl, read refl, read (simp layers))
