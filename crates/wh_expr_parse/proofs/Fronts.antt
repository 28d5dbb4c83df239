-- What stands for an expression is a front of the tokens, and not empty.
use Rattle.std.proofs.Common.{ℕ, Bool, List}
use Rattle.wh_ast.specs.declared.expr.Expr.{Expr}
use Rattle.wh_grammar.specs.Token.{Token}
use Rattle.wh_grammar.specs.Expression as g
use Rattle.wh_grammar.specs.Expression.{IsWhole, IsAnd, IsNot, IsTest, AreItems, IsSum, IsProduct, IsUnary, IsPrim}
use Rattle.wh_grammar.specs.Expression.{IsExpr, IsNegation}
use Rattle.wh_cursor.specs.Laws.{Follows}
use Rattle.wh_cursor.proofs.Fronts.{Behind, loose, cons, on, onto, first, here, name-front}

negation-front : {negated : Bool} {us vs : List Token} → IsNegation negated us vs → Behind us vs
negation-front (g.negated {us}) = cons _ (here us)
negation-front (g.plain {us}) = here us

mutual
  whole-front : {d n : ℕ} {ts us : List Token} {x : Expr} → IsWhole d n ts x us → Follows ts us
  whole-front (g.one_and a) = and-front a
  whole-front (g.or l r) = on (whole-front l) (cons _ (loose (and-front r)))

  and-front : {d n : ℕ} {ts us : List Token} {x : Expr} → IsAnd d n ts x us → Follows ts us
  and-front (g.one_not a) = not-front a
  and-front (g.and l r) = on (and-front l) (cons _ (loose (not-front r)))

  not-front : {d n : ℕ} {ts us : List Token} {x : Expr} → IsNot d n ts x us → Follows ts us
  not-front (g.one_test a) = test-front a
  not-front (g.not a) = first _ (loose (not-front a))

  test-front : {d n : ℕ} {ts us : List Token} {x : Expr} → IsTest d n ts x us → Follows ts us
  test-front (g.one_sum a) = sum-front a
  test-front (g.compared is l r) = on (sum-front l) (cons _ (loose (sum-front r)))
  test-front (g.is_null {vs = vs} a not) = on (sum-front a) (cons _ (onto (negation-front not) (cons _ (here vs))))
  test-front (g.among {ws = ws} a not items) = on (sum-front a)
      (onto (negation-front not) (cons _ (cons _ (onto (loose (items-front items)) (cons _ (here ws))))))
  test-front (g.between a not b c) =
      on (sum-front a) (onto (negation-front not) (cons _ (onto (loose (sum-front b)) (cons _ (loose (sum-front c))))))

  items-front : {d n : ℕ} {ts us : List Token} {xs : List Expr} → AreItems d n ts xs us → Follows ts us
  items-front (g.last_item a) = whole-front a
  items-front (g.item a more) = on (whole-front a) (cons _ (loose (items-front more)))

  sum-front : {d n : ℕ} {ts us : List Token} {x : Expr} → IsSum d n ts x us → Follows ts us
  sum-front (g.one_product a) = product-front a
  sum-front (g.plus l r) = on (sum-front l) (cons _ (loose (product-front r)))
  sum-front (g.minus l r) = on (sum-front l) (cons _ (loose (product-front r)))

  product-front : {d n : ℕ} {ts us : List Token} {x : Expr} → IsProduct d n ts x us → Follows ts us
  product-front (g.one_unary a) = unary-front a
  product-front (g.times l r) = on (product-front l) (cons _ (loose (unary-front r)))

  unary-front : {d n : ℕ} {ts us : List Token} {x : Expr} → IsUnary d n ts x us → Follows ts us
  unary-front (g.one_prim a) = prim-front a
  unary-front (g.negative a) = first _ (loose (unary-front a))

  prim-front : {d n : ℕ} {ts us : List Token} {x : Expr} → IsPrim d n ts x us → Follows ts us
  prim-front (g.number {us = us}) = first _ (here us)
  prim-front (g.text {us = us}) = first _ (here us)
  prim-front (g.true_word {us = us}) = first _ (here us)
  prim-front (g.false_word {us = us}) = first _ (here us)
  prim-front (g.null_word {us = us}) = first _ (here us)
  prim-front (g.column name) = name-front name
  prim-front (g.column_of entry name) = on (name-front entry) (cons _ (loose (name-front name)))
  prim-front (g.parenthesized {us = us} a) = first _ (onto (loose (whole-front a)) (cons _ (here us)))
  prim-front (g.sum {us = us} a) = first _ (cons _ (onto (loose (whole-front a)) (cons _ (here us))))
  prim-front (g.count_rows {us = us}) = first _ (cons _ (cons _ (cons _ (here us))))
  prim-front (g.count {us = us} a) = first _ (cons _ (onto (loose (whole-front a)) (cons _ (here us))))

pub expr-front : (d : ℕ) (ts : List Token) (x : Expr) (us : List Token) → IsExpr d ts x us → Follows ts us
expr-front d ts x us h = whole-front h.whole
