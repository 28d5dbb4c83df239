-- Which tokens are a statement that changes rows: INSERT, UPDATE, DELETE, MERGE.
use Rattle.std.specs.Prelude.{ℕ, suc, List, [], ◌∷◌, Option, Some, None, codes}
use Rattle.wh_ast.specs.declared.expr.Expr.{Expr}
use Rattle.wh_ast.specs.declared.query.Query.{Query}
use Rattle.wh_ast.specs.declared.query.FromItem.{FromItem}
use Rattle.wh_ast.specs.declared.dml.Assignment.{Assignment}
use Rattle.wh_ast.specs.declared.dml.Dml.{Dml}
use Rattle.wh_ast.specs.declared.dml.Dml.TheVariants as dml
use Rattle.wh_ast.specs.declared.dml.Rows.{Rows}
use Rattle.wh_ast.specs.declared.dml.Rows.TheVariants as rows
use Rattle.wh_ast.specs.declared.dml.MergeClause.{MergeClause}
use Rattle.wh_ast.specs.declared.dml.MergeClause.TheVariants as clause
use Rattle.wh_grammar.specs.Token.{Token, Word, SignToken, LParen, RParen, Comma, Equal}
use Rattle.wh_grammar.specs.Name.{IsName}
use Rattle.wh_grammar.specs.Expression.{IsExpr, AreExprs}
use Rattle.wh_grammar.specs.Query.{IsQuery, IsSource, MayHaveAlias, MayHaveFilter}

-- one or more, with commas between them
pub data AreNames : List Token → List (List ℕ) → List Token → Type 0 where
  last_name : {ts us : List Token} {name : List ℕ} → IsName ts name us → AreNames ts (name ∷ []) us
  more_names : {ts us vs : List Token} {name : List ℕ} {names : List (List ℕ)}
      → IsName ts name (SignToken Comma ∷ us)
      → AreNames us names vs
      → AreNames ts (name ∷ names) vs

-- [( name {, name} )]
pub data MayHaveColumns : List Token → Option (List (List ℕ)) → List Token → Type 0 where
  no_columns : {ts : List Token} → MayHaveColumns ts None ts
  columns : {ts us : List Token} {names : List (List ℕ)}
      → AreNames ts names (SignToken RParen ∷ us)
      → MayHaveColumns (SignToken LParen ∷ ts) (Some names) us

-- ( expr {, expr} )
pub data IsValuesRow : ℕ → List Token → List Expr → List Token → Type 0 where
  values_row : {d : ℕ} {ts us : List Token} {xs : List Expr}
      → AreExprs d ts xs (SignToken RParen ∷ us)
      → IsValuesRow (suc d) (SignToken LParen ∷ ts) xs us

pub data AreValuesRows (d : ℕ) : List Token → List (List Expr) → List Token → Type 0 where
  last_row : {ts us : List Token} {row : List Expr} → IsValuesRow d ts row us → AreValuesRows d ts (row ∷ []) us
  more_rows : {ts us vs : List Token} {row : List Expr} {more : List (List Expr)}
      → IsValuesRow d ts row (SignToken Comma ∷ us)
      → AreValuesRows d us more vs
      → AreValuesRows d ts (row ∷ more) vs

-- VALUES vrow {, vrow} | query
pub data AreRows (d : ℕ) : List Token → Rows → List Token → Type 0 where
  values : {ts us : List Token} {found : List (List Expr)}
      → AreValuesRows d ts found us
      → AreRows d (Word (codes "VALUES") ∷ ts) (rows.Values found) us
  query : {ts us : List Token} {found : Query} → IsQuery d ts found us → AreRows d ts (rows.Query found) us

-- name = expr
pub data IsAssignment (d : ℕ) : List Token → Assignment → List Token → Type 0 where
  assignment : {ts us vs : List Token} {column : List ℕ} {value : Expr}
      → IsName ts column (SignToken Equal ∷ us)
      → IsExpr d us value vs
      → IsAssignment d ts (record { column = column; value = value }) vs

pub data AreAssignments (d : ℕ) : List Token → List Assignment → List Token → Type 0 where
  last_assignment : {ts us : List Token} {a : Assignment} → IsAssignment d ts a us → AreAssignments d ts (a ∷ []) us
  more_assignments : {ts us vs : List Token} {a : Assignment} {more : List Assignment}
      → IsAssignment d ts a (SignToken Comma ∷ us)
      → AreAssignments d us more vs
      → AreAssignments d ts (a ∷ more) vs

-- [AND expr] THEN
pub data MayHaveCondition (d : ℕ) : List Token → Option Expr → List Token → Type 0 where
  no_condition : {ts : List Token} → MayHaveCondition d (Word (codes "THEN") ∷ ts) None ts
  a_condition : {ts us : List Token} {x : Expr}
      → IsExpr d ts x (Word (codes "THEN") ∷ us)
      → MayHaveCondition d (Word (codes "AND") ∷ ts) (Some x) us

-- WHEN [NOT] MATCHED, and what is done then
pub data IsMergeClause (d : ℕ) : List Token → MergeClause → List Token → Type 0 where
  merge_update : {ts us vs : List Token} {condition : Option Expr} {set : List Assignment}
      → MayHaveCondition d ts condition (Word (codes "UPDATE") ∷ Word (codes "SET") ∷ us)
      → AreAssignments d us set vs
      → IsMergeClause d (Word (codes "WHEN") ∷ Word (codes "MATCHED") ∷ ts) (clause.Update condition set) vs
  merge_delete : {ts us : List Token} {condition : Option Expr}
      → MayHaveCondition d ts condition (Word (codes "DELETE") ∷ us)
      → IsMergeClause d (Word (codes "WHEN") ∷ Word (codes "MATCHED") ∷ ts) (clause.Delete condition) us
  merge_insert : {ts us vs ws : List Token} {condition : Option Expr} {names : Option (List (List ℕ))} {row : List Expr}
      → MayHaveCondition d ts condition (Word (codes "INSERT") ∷ us)
      → MayHaveColumns us names (Word (codes "VALUES") ∷ vs)
      → IsValuesRow d vs row ws
      → IsMergeClause d
      (Word (codes "WHEN") ∷ Word (codes "NOT") ∷ Word (codes "MATCHED") ∷ ts) (clause.Insert condition names row) ws

pub data AreMergeClauses (d : ℕ) : List Token → List MergeClause → List Token → Type 0 where
  last_clause : {ts us : List Token} {c : MergeClause} → IsMergeClause d ts c us → AreMergeClauses d ts (c ∷ []) us
  more_clauses : {ts us vs : List Token} {c : MergeClause} {more : List MergeClause}
      → IsMergeClause d ts c us
      → AreMergeClauses d us more vs
      → AreMergeClauses d ts (c ∷ more) vs

pub data IsDml (d : ℕ) : List Token → Dml → List Token → Type 0 where
  insert : {ts us vs ws : List Token} {table : List ℕ} {names : Option (List (List ℕ))} {found : Rows}
      → IsName ts table us
      → MayHaveColumns us names vs
      → AreRows d vs found ws
      → IsDml d (Word (codes "INSERT") ∷ Word (codes "INTO") ∷ ts) (dml.Insert table names found) ws
  update : {ts us vs ws : List Token} {table : List ℕ} {set : List Assignment} {filter : Option Expr}
      → IsName ts table (Word (codes "SET") ∷ us)
      → AreAssignments d us set vs
      → MayHaveFilter d vs filter ws
      → IsDml d (Word (codes "UPDATE") ∷ ts) (dml.Update table set filter) ws
  delete : {ts us vs : List Token} {table : List ℕ} {filter : Option Expr}
      → IsName ts table us
      → MayHaveFilter d us filter vs
      → IsDml d (Word (codes "DELETE") ∷ Word (codes "FROM") ∷ ts) (dml.Delete table filter) vs
  merge : {ts us vs ws rs ends : List Token} {target : List ℕ} {alias : Option (List ℕ)}
      {source : FromItem} {on : Expr} {clauses : List MergeClause}
      → IsName ts target us
      → MayHaveAlias us alias (Word (codes "USING") ∷ vs)
      → IsSource d vs source (Word (codes "ON") ∷ ws)
      → IsExpr d ws on rs
      → AreMergeClauses d rs clauses ends
      → IsDml d (Word (codes "MERGE") ∷ Word (codes "INTO") ∷ ts) (dml.Merge target alias source on clauses) ends
