-- What stands for something has a token or more.
use Rattle.std.proofs.Common.{ℕ, ◌<◌, ◌≤◌, List, Option, length, arith}
use Rattle.wh_ast.specs.declared.expr.Expr.{Expr}
use Rattle.wh_ast.specs.declared.dml.Assignment.{Assignment}
use Rattle.wh_ast.specs.declared.dml.MergeClause.{MergeClause}
use Rattle.wh_grammar.specs.Token.{Token}
use Rattle.wh_grammar.specs.Changing as g
use Rattle.wh_grammar.specs.Changing.{AreNames, MayHaveColumns, IsValuesRow, IsAssignment, AreAssignments}
use Rattle.wh_grammar.specs.Changing.{MayHaveCondition, IsMergeClause}
use Rattle.wh_cursor.proofs.Combine.{name_shorter}
use Rattle.wh_expr_parse.proofs.ExprSteps.{expr_shorter, exprs_shorter}

pub row-shorter : {d : ℕ} {ts us : List Token} {xs : List Expr} → IsValuesRow d ts xs us → length us < length ts
row-shorter (g.values_row h) =
    let inside = exprs_shorter h in
    omega (arith, inside)

names-shorter : {ts us : List Token} {names : List (List ℕ)} → AreNames ts names us → length us < length ts
names-shorter (g.last_name h) = name_shorter h
names-shorter (g.more_names h more) =
    let one = name_shorter h in
    let all = names-shorter more in
    omega (arith, one, all)

columns-shorter : {ts us : List Token} {names : Option (List (List ℕ))} → MayHaveColumns ts names us
    → length us ≤ length ts
columns-shorter g.no_columns = omega arith
columns-shorter (g.columns h) =
    let inside = names-shorter h in
    omega (arith, inside)

pub assignment-shorter : {d : ℕ} {ts us : List Token} {a : Assignment} → IsAssignment d ts a us → length us < length ts
assignment-shorter (g.assignment column value) =
    let one = name_shorter column in
    let two = expr_shorter value in
    omega (arith, one, two)

assignments-shorter : {d : ℕ} {ts us : List Token} {set : List Assignment} → AreAssignments d ts set us
    → length us < length ts
assignments-shorter (g.last_assignment h) = assignment-shorter h
assignments-shorter (g.more_assignments h more) =
    let one = assignment-shorter h in
    let all = assignments-shorter more in
    omega (arith, one, all)

condition-shorter : {d : ℕ} {ts us : List Token} {condition : Option Expr} → MayHaveCondition d ts condition us
    → length us < length ts
condition-shorter g.no_condition = omega arith
condition-shorter (g.a_condition h) =
    let one = expr_shorter h in
    omega (arith, one)

pub clause-shorter : {d : ℕ} {ts us : List Token} {c : MergeClause} → IsMergeClause d ts c us → length us < length ts
clause-shorter (g.merge_update condition set) =
    let one = condition-shorter condition in
    let two = assignments-shorter set in
    omega (arith, one, two)
clause-shorter (g.merge_delete condition) =
    let one = condition-shorter condition in
    omega (arith, one)
clause-shorter (g.merge_insert condition names row) =
    let one = condition-shorter condition in
    let two = columns-shorter names in
    let three = row-shorter row in
    omega (arith, one, two, three)
