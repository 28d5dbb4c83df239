-- How expressions are read from the front of tokens.
--     read_exprs    one or more, with commas between them
--     read_expr     an expression with at most 1,000 operators and IN items, where no token behind it goes on with it
use Rattle.std.specs.Prelude.{ℕ, zero, suc, Bool, true, false, ◌==◌, List, [], ◌∷◌, ◌++◌, Option, Some}
use Rattle.std.specs.Prelude.{None, pos, if◌then◌else◌}
use Rattle.wh_value.specs.declared.value.Value.TheVariants as v
use Rattle.wh_value.specs.declared.comparison.Comparison.{Comparison}
use Rattle.wh_value.specs.declared.comparison.Comparison.TheVariants as c
use Rattle.wh_ast.specs.declared.expr.Operator.{Operator}
use Rattle.wh_ast.specs.declared.expr.Operator.TheVariants as o
use Rattle.wh_ast.specs.declared.expr.Expr.{Expr}
use Rattle.wh_ast.specs.declared.expr.Expr.TheVariants as e
use Rattle.wh_grammar.specs.Token.{Token, Word, Quoted, TextToken, NumberToken, SignToken}
use Rattle.wh_cursor.specs.declared.key.TokenClass.{TokenClass}
use Rattle.wh_cursor.specs.declared.key.TokenClass.TheVariants as k
use Rattle.wh_expr_parse.specs.declared.grammar.Level.{Level}
use Rattle.wh_expr_parse.specs.declared.grammar.Level.TheVariants.{Whole, Negation, Unary, Rows}
use Rattle.wh_cursor.specs.Keys.{key_of, key_binds}
use Rattle.wh_expr_parse.specs.Operators.{joins}
use Rattle.wh_expr_parse.specs.State.{State, at, Reader, peek, skip, eat, expect, spend, plainly}
use Rattle.wh_cursor.specs.Chains as chains
use Rattle.wh_cursor.specs.Chains.{Links}
use Rattle.wh_cursor.specs.Lists.{listed}
use Rattle.wh_cursor.specs.Steps.{tail, ◌>>=◌, ◌>>◌, pure, refuse, sees, read_name}

-- ---- what takes no operator

unfoldable pub read_literal : List Token → Option (Expr × List Token)
read_literal [] = None
read_literal (Word w ∷ us) = None
read_literal (Quoted name ∷ us) = None
read_literal (TextToken bytes ∷ us) = Some (e.Const (v.Text bytes), us)
read_literal (NumberToken n ∷ us) = Some (e.Const (v.Number (pos n)), us)
read_literal (SignToken s ∷ us) = None

-- behind an entry's name, or a column's
unfoldable pub column_of : List ℕ → Bool → Reader Expr
column_of first true = do
  column ← plainly read_name
  pure (e.Column (Some first) column)
column_of first false = pure (e.Column None first)

unfoldable pub column : Reader Expr
column = do
  first ← plainly read_name
  dotted ← eat k.Dot
  column_of first dotted

-- the star of `COUNT ( * )`
unfoldable pub rows : Reader Expr
rows = skip >> pure e.CountRows

-- ---- operators of one level, from the left

abbrev pub operator_by : Option Operator → Reader (Option Operator)
operator_by None = pure None
operator_by (Some op) = do
  skip
  spend
  pure (Some op)

-- the operator of a level, if it comes next
unfoldable pub read_operator : ℕ → Reader (Option Operator)
read_operator level = λ s. operator_by (joins level (key_of s.left)) s

abbrev pub links : ℕ → Reader Expr → Links State Expr Operator
links level item = record { operator = read_operator level; operand = item; make = λ op x y. e.Binary op x y }

-- each turn spends one
abbrev pub chain : ℕ → Reader Expr → Reader Expr
chain level item = chains.chain (links level item) (λ s. s.room)

-- ---- the levels, over what stands inside parentheses, NOT and minus signs

module _ (inner : Level → Reader Expr) where
  -- behind the `(`
  unfoldable pub parenthesized : Reader Expr
  parenthesized = do
    x ← inner Whole
    expect k.RParen
    pure x

  -- behind `SUM`
  unfoldable pub sum_call : Reader Expr
  sum_call = do
    skip
    x ← parenthesized
    pure (e.Sum x)

  -- behind `COUNT (`, and whether a star stands there
  unfoldable pub count_by : Bool → Reader Expr
  count_by true = do
    x ← inner Rows
    expect k.RParen
    pure x
  count_by false = do
    x ← parenthesized
    pure (e.Count x)

  -- behind `COUNT`
  unfoldable pub count_call : Reader Expr
  count_call = do
    skip
    λ s. count_by (sees k.Star s.left) s

  -- the word SUM or COUNT, and whether a `(` stands behind it
  abbrev pub call_or_column : Reader Expr → Reader Expr
  call_or_column call = λ s. if sees k.LParen (tail s.left) then (skip >> call) s else column s

  abbrev pub primary_by : TokenClass → Reader Expr
  primary_by k.LParen = skip >> parenthesized
  primary_by k.Number = plainly read_literal
  primary_by k.Text = plainly read_literal
  primary_by k.True = skip >> pure (e.Const (v.Bool true))
  primary_by k.False = skip >> pure (e.Const (v.Bool false))
  primary_by k.Null = skip >> pure (e.Const v.Null)
  primary_by k.Sum = call_or_column sum_call
  primary_by k.Count = call_or_column count_call
  primary_by k.Name = column
  primary_by _ = refuse

  unfoldable pub primary : Reader Expr
  primary = peek >>= primary_by

  unfoldable pub negative : Reader Expr
  negative = do
    skip
    spend
    x ← inner Unary
    pure (e.Neg x)

  abbrev pub unary_by : Bool → Reader Expr
  unary_by true = negative
  unary_by false = primary

  unfoldable pub unary : Reader Expr
  unary = λ s. unary_by (sees k.Minus s.left) s

  unfoldable pub product : Reader Expr
  product = chain 5 unary

  unfoldable pub sum : Reader Expr
  sum = chain 4 product

  -- behind a sign that compares
  unfoldable pub compared : Expr → Comparison → Reader Expr
  compared x comparison = do
    skip
    spend
    y ← sum
    pure (e.Binary (o.Compare comparison) x y)

  -- at `IS`
  unfoldable pub null_test : Expr → Reader Expr
  null_test x = do
    skip
    negated ← eat k.Not
    expect k.Null
    spend
    pure (e.IsNull negated x)

  unfoldable pub items_from : ℕ → List Expr → Reader (List Expr)
  items_from zero found = refuse
  items_from (suc n) found = do
    spend
    x ← inner Whole
    more ← eat k.Comma
    if more then items_from n (found ++ x ∷ []) else pure (found ++ x ∷ [])

  unfoldable pub items : Reader (List Expr)
  items = λ s. items_from s.room [] s

  -- at `IN`
  unfoldable pub among : Bool → Expr → Reader Expr
  among negated x = do
    skip
    expect k.LParen
    spend
    ys ← items
    expect k.RParen
    pure (e.In negated x ys)

  -- at `BETWEEN`
  unfoldable pub between : Bool → Expr → Reader Expr
  between negated x = do
    skip
    spend
    y ← sum
    expect k.And
    z ← sum
    pure (e.Between negated x y z)

  -- behind `NOT`
  abbrev pub negated_by : Expr → TokenClass → Reader Expr
  negated_by x k.In = among true x
  negated_by x k.Between = between true x
  negated_by x _ = refuse

  unfoldable pub negated_test : Expr → Reader Expr
  negated_test x = do
    skip
    key ← peek
    negated_by x key

  abbrev pub test_by : Expr → TokenClass → Reader Expr
  test_by x k.Equal = compared x c.Equal
  test_by x k.Unequal = compared x c.Unequal
  test_by x k.Less = compared x c.Less
  test_by x k.AtMost = compared x c.LessOrEqual
  test_by x k.Greater = compared x c.Greater
  test_by x k.AtLeast = compared x c.GreaterOrEqual
  test_by x k.Is = null_test x
  test_by x k.In = among false x
  test_by x k.Between = between false x
  test_by x k.Not = negated_test x
  test_by x _ = pure x

  unfoldable pub predicate : Reader Expr
  predicate = do
    x ← sum
    key ← peek
    test_by x key

  unfoldable pub not_test : Reader Expr
  not_test = do
    skip
    spend
    x ← inner Negation
    pure (e.Not x)

  abbrev pub negation_by : Bool → Reader Expr
  negation_by true = not_test
  negation_by false = predicate

  unfoldable pub negation : Reader Expr
  negation = λ s. negation_by (sees k.Not s.left) s

  unfoldable pub conjunction : Reader Expr
  conjunction = chain 2 negation

  unfoldable pub whole : Reader Expr
  whole = chain 1 conjunction

  -- what the operators of a level stand between
  unfoldable pub operand : ℕ → Reader Expr
  operand level =
      if level == 1 then conjunction else (if level == 2 then negation else (if level == 4 then product else unary))

-- ---- inside one another, as deep as the number says

abbrev pub level : (Level → Reader Expr) → Level → Reader Expr
level inner Whole = whole inner
level inner Negation = negation inner
level inner Unary = unary inner
level inner Rows = rows

unfoldable pub nested : ℕ → Level → Reader Expr
nested zero l = refuse
nested (suc depth) l = level (nested depth) l

-- ---- an expression

abbrev pub ended : Option (Expr × State) → Option (Expr × List Token)
ended None = None
ended (Some p) = if key_binds (key_of p.1.left) == 0 then Some (p.0, p.1.left) else None

unfoldable pub read_expr : ℕ → List Token → Option (Expr × List Token)
read_expr depth ts = ended (whole (nested depth) (at ts 1000))

-- one or more, with commas between them
unfoldable pub read_exprs : ℕ → List Token → Option (List Expr × List Token)
read_exprs d = listed (read_expr d)
