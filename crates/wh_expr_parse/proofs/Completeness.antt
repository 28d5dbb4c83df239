-- What the rules say is read.
use Rattle.std.proofs.Common.{◌≡◌, ℕ, suc, ◌-◌, ◌<◌, Bool, false, List, ◌∷◌, Some, refl, sym, ap, ◌∙◌, subst, arith}
use Rattle.std.specs.Prelude.{codes}
use Rattle.std.proofs.lemmas.Option.{same_Some}
use Rattle.wh_ast.specs.declared.expr.Operator.TheVariants as o
use Rattle.wh_ast.specs.declared.expr.Expr.{Expr}
use Rattle.wh_ast.specs.declared.expr.Expr.TheVariants as e
use Rattle.wh_grammar.specs.Words.{is_reserved}
use Rattle.wh_grammar.specs.Token as token
use Rattle.wh_grammar.specs.Token.{Token, Word, SignToken}
use Rattle.wh_grammar.specs.Expression as g
use Rattle.wh_grammar.specs.Expression.{IsWhole, IsAnd, IsNot, IsTest, AreItems, IsSum, IsProduct, IsUnary, IsPrim}
use Rattle.wh_grammar.specs.Expression.{IsNegation, IsComparison}
use Rattle.wh_expr_parse.specs.Laws.{IsExprAt}
use Rattle.wh_cursor.specs.Binds.{binds}
use Rattle.wh_value.specs.declared.comparison.Comparison.{Comparison}
use Rattle.wh_cursor.specs.declared.key.TokenClass.TheVariants as k
use Rattle.wh_expr_parse.specs.declared.grammar.Level.TheVariants.{Whole, Negation, Unary, Rows}
use Rattle.wh_cursor.specs.Keys.{key_of, key_binds, same_key}
use Rattle.wh_expr_parse.specs.Operators.{joins}
use Rattle.wh_expr_parse.specs.State.{State, Reader, next}
use Rattle.wh_cursor.specs.Steps.{sees}
use Rattle.wh_expr_parse.specs.Read.{rows, primary, unary, product, sum, predicate, negation, conjunction, whole}
use Rattle.wh_expr_parse.specs.Read.{nested, read_expr}
use Rattle.wh_cursor.proofs.KeyLemmas.{binds_key}
use Rattle.wh_expr_parse.proofs.RuleSteps.{Gives, column-primary, column_of-primary, number-primary, text-primary}
use Rattle.wh_expr_parse.proofs.RuleSteps.{true-primary, false-primary, null-primary, parenthesized-primary}
use Rattle.wh_expr_parse.proofs.RuleSteps.{sum-primary, count-primary, rows-primary, negative-gives, primary-unary}
use Rattle.wh_expr_parse.proofs.RuleSteps.{not-gives, test-negation, whole-starless, sum-test, compared-test, null-test}
use Rattle.wh_expr_parse.proofs.RuleSteps.{GivesItems, last-item, more-items, among-test, between-test, Comes}
use Rattle.wh_expr_parse.proofs.RuleSteps.{comes-first, comes-next, comes-ends}

-- ---- one more inside

inner-whole : (d : ℕ) {n : ℕ} {ts us : List Token} {x : Expr} → Gives (whole (nested d)) n ts x us
    → Gives (nested (suc d) Whole) n ts x us
unfolding nested
inner-whole d h = record { run = λ room left i. h.run room left i }

inner-negation : (d : ℕ) {n : ℕ} {ts us : List Token} {x : Expr} → Gives (negation (nested d)) n ts x us
    → Gives (nested (suc d) Negation) n ts x us
unfolding nested
inner-negation d h = record { run = λ room left i. h.run room left i }

inner-unary : (d : ℕ) {n : ℕ} {ts us : List Token} {x : Expr} → Gives (unary (nested d)) n ts x us
    → Gives (nested (suc d) Unary) n ts x us
unfolding nested
inner-unary d h = record { run = λ room left i. h.run room left i }

inner-rows : (d : ℕ) (s : State) → nested (suc d) Rows s ≡ Some (e.CountRows, next s)
unfolding nested rows
inner-rows d s = refl

-- ---- the operators

or-joins : (us : List Token) → joins 1 (key_of (Word (codes "OR") ∷ us)) ≡ Some o.Or
unfolding joins key_of is_reserved
or-joins us = refl

and-joins : (us : List Token) → joins 2 (key_of (Word (codes "AND") ∷ us)) ≡ Some o.And
unfolding joins key_of is_reserved
and-joins us = refl

plus-joins : (us : List Token) → joins 4 (key_of (SignToken token.Plus ∷ us)) ≡ Some o.Add
unfolding joins key_of
plus-joins us = refl

minus-joins : (us : List Token) → joins 4 (key_of (SignToken token.Minus ∷ us)) ≡ Some o.Sub
unfolding joins key_of
minus-joins us = refl

star-joins : (us : List Token) → joins 5 (key_of (SignToken token.Star ∷ us)) ≡ Some o.Mul
unfolding joins key_of
star-joins us = refl

whole-first : (d : ℕ) {n : ℕ} {ts us : List Token} {x : Expr} → Gives (conjunction (nested d)) n ts x us
    → Comes 1 (conjunction (nested d)) (whole (nested d)) n ts x us
unfolding whole
whole-first d h = comes-first h

and-first : (d : ℕ) {n : ℕ} {ts us : List Token} {x : Expr} → Gives (negation (nested d)) n ts x us
    → Comes 2 (negation (nested d)) (conjunction (nested d)) n ts x us
unfolding conjunction
and-first d h = comes-first h

sum-first : (d : ℕ) {n : ℕ} {ts us : List Token} {x : Expr} → Gives (product (nested d)) n ts x us
    → Comes 4 (product (nested d)) (sum (nested d)) n ts x us
unfolding sum
sum-first d h = comes-first h

product-first : (d : ℕ) {n : ℕ} {ts us : List Token} {x : Expr} → Gives (unary (nested d)) n ts x us
    → Comes 5 (unary (nested d)) (product (nested d)) n ts x us
unfolding product
product-first d h = comes-first h

negation-binds : {negated : Bool} {us vs : List Token} → IsNegation negated us vs → binds vs < 4 → binds us < 4
negation-binds g.negated h = omega arith
negation-binds g.plain h = h

comma-none : (us : List Token) → sees k.Comma (SignToken token.RParen ∷ us) ≡ false
unfolding sees same_key key_of
comma-none us = refl

compared-ends : {s : token.Sign} {comparison : Comparison} (us : List Token) → IsComparison s comparison
    → binds (SignToken s ∷ us) < 4
compared-ends us g.equal = omega arith
compared-ends us _ = omega arith

compared-binds : {s : token.Sign} {comparison : Comparison} (us : List Token) → IsComparison s comparison
    → binds (SignToken s ∷ us) < 5
compared-binds us g.equal = omega arith
compared-binds us _ = omega arith

counted : {m n : ℕ} {r : Reader Expr} {ts us : List Token} {x : Expr} → m ≡ n → Gives r m ts x us → Gives r n ts x us
counted {r = r} {ts} {us} {x} e h = subst (λ (n : ℕ). Gives r n ts x us) e h

-- ---- by the rules

mutual
  whole-run : {d n : ℕ} {ts us : List Token} {x : Expr} → IsWhole d n ts x us → binds us < 2
      → Comes 1 (conjunction (nested d)) (whole (nested d)) n ts x us
  whole-run (g.one_and a) h = whole-first _ (comes-ends (and-run a (omega (arith, h))) h)
  whole-run (g.or l r) h = comes-next o.Or (Word (codes "OR")) or-joins (whole-run l (omega arith))
      (comes-ends (and-run r (omega (arith, h))) h)

  and-run : {d n : ℕ} {ts us : List Token} {x : Expr} → IsAnd d n ts x us → binds us < 3
      → Comes 2 (negation (nested d)) (conjunction (nested d)) n ts x us
  and-run (g.one_not a) h = and-first _ (not-run a h)
  and-run (g.and l r) h = comes-next o.And (Word (codes "AND")) and-joins (and-run l (omega arith)) (not-run r h)

  not-run : {d n : ℕ} {ts us : List Token} {x : Expr} → IsNot d n ts x us → binds us < 3
      → Gives (negation (nested d)) n ts x us
  not-run (g.one_test a) h = test-negation _ (test-run a h)
  not-run (g.not a) h = not-gives _ (inner-negation _ (not-run a h))

  test-run : {d n : ℕ} {ts us : List Token} {x : Expr} → IsTest d n ts x us → binds us < 3
      → Gives (predicate (nested d)) n ts x us
  test-run (g.one_sum a) h = sum-test _ (comes-ends (sum-run a (omega (arith, h))) (omega (arith, h))) h
  test-run (g.compared {us = us} is l r) h =
      compared-test _ is (comes-ends (sum-run l (compared-binds us is)) (compared-ends us is))
      (comes-ends (sum-run r (omega (arith, h))) (omega (arith, h)))
  test-run (g.is_null a not) h = null-test _ (comes-ends (sum-run a (omega arith)) (omega arith)) not
  test-run (g.among {m = m} {n = n} a not items) h =
      counted (omega arith)
      (among-test _ (comes-ends (sum-run a (let low = negation-binds not (omega arith) in omega (arith, low)))
      (negation-binds not (omega arith))) not (items-run items (omega arith) (comma-none _)))
  test-run (g.between {l = l} {m = m} {n = n} a not b c) h =
      counted (omega arith) (between-test _ (comes-ends (sum-run a
      (let low = negation-binds not (omega arith) in omega (arith, low))) (negation-binds not (omega arith))) not
      (comes-ends (sum-run b (omega arith)) (omega arith))
      (comes-ends (sum-run c (omega (arith, h))) (omega (arith, h))))

  items-run : {d n : ℕ} {ts us : List Token} {xs : List Expr} → AreItems d n ts xs us → binds us < 1
      → sees k.Comma us ≡ false
      → GivesItems (nested (suc d)) n ts xs us
  items-run (g.last_item a) h stops = last-item _ (inner-whole _ (comes-ends (whole-run a (omega (arith, h))) h)) stops
  items-run (g.item a more) h stops =
      more-items _ (inner-whole _ (comes-ends (whole-run a (omega arith)) (omega arith))) (items-run more h stops)

  sum-run : {d n : ℕ} {ts us : List Token} {x : Expr} → IsSum d n ts x us → binds us < 5
      → Comes 4 (product (nested d)) (sum (nested d)) n ts x us
  sum-run (g.one_product a) h = sum-first _ (comes-ends (product-run a (omega (arith, h))) h)
  sum-run (g.plus l r) h = comes-next o.Add (SignToken token.Plus) plus-joins (sum-run l (omega arith))
      (comes-ends (product-run r (omega (arith, h))) h)
  sum-run (g.minus l r) h = comes-next o.Sub (SignToken token.Minus) minus-joins (sum-run l (omega arith))
      (comes-ends (product-run r (omega (arith, h))) h)

  product-run : {d n : ℕ} {ts us : List Token} {x : Expr} → IsProduct d n ts x us → binds us < 6
      → Comes 5 (unary (nested d)) (product (nested d)) n ts x us
  product-run (g.one_unary a) h = product-first _ (unary-run a h)
  product-run (g.times l r) h =
      comes-next o.Mul (SignToken token.Star) star-joins (product-run l (omega arith)) (unary-run r h)

  unary-run : {d n : ℕ} {ts us : List Token} {x : Expr} → IsUnary d n ts x us → binds us < 6
      → Gives (unary (nested d)) n ts x us
  unary-run (g.one_prim a) h = primary-unary _ (prim-run a h)
  unary-run (g.negative a) h = negative-gives _ (inner-unary _ (unary-run a h))

  prim-run : {d n : ℕ} {ts us : List Token} {x : Expr} → IsPrim d n ts x us → binds us < 6
      → Gives (primary (nested d)) n ts x us
  prim-run g.number h = number-primary _ _ _
  prim-run g.text h = text-primary _ _ _
  prim-run g.true_word h = true-primary _ _
  prim-run g.false_word h = false-primary _ _
  prim-run g.null_word h = null-primary _ _
  prim-run (g.column name) h = column-primary _ name h
  prim-run (g.column_of entry name) h = column_of-primary _ entry name
  prim-run (g.parenthesized a) h =
      parenthesized-primary _ (inner-whole _ (comes-ends (whole-run a (omega arith)) (omega arith)))
  prim-run (g.sum a) h = sum-primary _ (inner-whole _ (comes-ends (whole-run a (omega arith)) (omega arith)))
  prim-run (g.count_rows {d}) h = rows-primary _ (inner-rows d)
  prim-run (g.count a) h =
      let inside = comes-ends (whole-run a (omega arith)) (omega arith) in
      count-primary _ (whole-starless _ inside) (inner-whole _ inside)

-- ---- an expression is read

pub read_complete : (d : ℕ) (ts : List Token) (x : Expr) (us : List Token) → IsExprAt d ts x us
    → read_expr d ts ≡ Some (x, us)
unfolding read_expr
read_complete d ts x us h =
    let end : binds us < 1 = omega (arith, h.ends) in
    let read = (comes-ends (whole-run h.expr.whole (omega (arith, h.ends))) end).run 1000
    (1000 - h.expr.count) (omega (arith, h.expr.few)) in
    let none : key_binds (key_of us) ≡ 0 = binds_key us ∙ h.ends in
    rw (read, none) refl

-- no tokens begin with two expressions that end there
pub one_expr : (d : ℕ) (ts : List Token) (x y : Expr) (us vs : List Token) → IsExprAt d ts x us → IsExprAt d ts y vs
    → (x ≡ y) × (us ≡ vs)
one_expr d ts x y us vs h l =
    let same : (x, us) ≡ (y, vs) = same_Some _ _ (sym (read_complete d ts x us h) ∙ read_complete d ts y vs l) in
    (ap (λ (q : Expr × List Token). q.0) same, ap (λ (q : Expr × List Token). q.1) same)
