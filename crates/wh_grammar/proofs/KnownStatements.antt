-- Tokens and what they stand for, worked out by hand.
use Rattle.std.proofs.Common.{ℕ, List, [], ◌∷◌, None, false, pos, refl}
use Rattle.std.specs.Prelude.{codes}
use Rattle.wh_value.specs.declared.value.Value.TheVariants as v
use Rattle.wh_value.specs.declared.comparison.Comparison.TheVariants as c
use Rattle.wh_value.specs.declared.column.ColumnType.TheVariants as types
use Rattle.wh_ast.specs.declared.expr.Operator.TheVariants as o
use Rattle.wh_ast.specs.declared.expr.Expr.{Expr}
use Rattle.wh_ast.specs.declared.expr.Expr.TheVariants as e
use Rattle.wh_ast.specs.declared.statement.Statement.TheVariants as st
use Rattle.wh_grammar.specs.Words.{is_reserved, is_call}
use Rattle.wh_grammar.specs.Token.{Token, Word, NumberToken, SignToken, LParen, RParen, Comma, Minus, Plus, Star, Equal}
use Rattle.wh_grammar.specs.Name.{IsName, word}
use Rattle.wh_grammar.specs.Expression.{IsWhole, one_and, or, one_not, one_test, not, one_sum, compared, equal}
use Rattle.wh_grammar.specs.Expression.{one_product, plus, one_unary, times, one_prim, negative, number, column}
use Rattle.wh_grammar.specs.Parts.{no_replace, last_column, more_columns, int, varchar, no_retention}
use Rattle.wh_grammar.specs.Spelled.{IsPlain, of_table, create_table, of_transaction, begin_work}

abbrev name : List ℕ → Expr
name bytes = e.Column None bytes

is_a : (us : List Token) → IsName (Word (codes "A") ∷ us) (codes "A") us
unfolding is_reserved is_call
is_a us = word refl refl

is_b : (us : List Token) → IsName (Word (codes "B") ∷ us) (codes "B") us
unfolding is_reserved is_call
is_b us = word refl refl

-- `-A + 2 * B` has three operators, and one minus sign inside
sums : IsWhole 1 3
    (SignToken Minus ∷ Word (codes "A") ∷ SignToken Plus ∷ NumberToken 2 ∷ SignToken Star ∷ Word (codes "B") ∷ [])
    (e.Binary o.Add (e.Neg (name (codes "A"))) (e.Binary o.Mul (e.Const (v.Number (pos 2))) (name (codes "B")))) []
sums = one_and (one_not (one_test (one_sum
    (plus (one_product (one_unary (negative (one_prim (column (is_a _))))))
    (times (one_unary (one_prim number)) (one_prim (column (is_b _))))))))

-- `NOT A = 1 OR B` has three, and one NOT inside
tests : IsWhole 1 3 (Word (codes "NOT") ∷ Word (codes "A") ∷ SignToken Equal ∷ NumberToken 1 ∷ Word (codes "OR")
    ∷ Word (codes "B") ∷ [])
    (e.Binary o.Or (e.Not (e.Binary (o.Compare c.Equal) (name (codes "A")) (e.Const (v.Number (pos 1)))))
    (name (codes "B"))) []
tests = or (one_and (one_not (not (one_test (compared equal (one_product (one_unary (one_prim (column (is_a _)))))
    (one_product (one_unary (one_prim number))))))))
    (one_not (one_test (one_sum (one_product (one_unary (one_prim (column (is_b _))))))))

-- `CREATE TABLE A(B INT, A VARCHAR)`
table : IsPlain (Word (codes "CREATE") ∷ Word (codes "TABLE") ∷ Word (codes "A") ∷ SignToken LParen ∷ Word (codes "B")
    ∷ Word (codes "INT") ∷ SignToken Comma ∷ Word (codes "A") ∷ Word (codes "VARCHAR") ∷ SignToken RParen ∷ [])
    (st.CreateTable (record {
      replace = false;
      name = codes "A";
      columns = (record { name = codes "B"; column_type = types.Number })
          ∷ (record { name = codes "A"; column_type = types.Varchar }) ∷ [];
      retention = None;
    }))
table = of_table (create_table no_replace (is_a _) (more_columns (is_b _) int (last_column (is_a _) varchar))
    no_retention)

begun : IsPlain (Word (codes "BEGIN") ∷ Word (codes "WORK") ∷ []) st.Begin
begun = of_transaction begin_work
