-- No expression begins with a star or a dot, and behind a first token and `. *` none goes on.
use Rattle.std.proofs.Common.{◌≡◌, ℕ, Bool, List, ◌∷◌, ap, subst}
use Rattle.wh_value.specs.declared.comparison.Comparison.{Comparison}
use Rattle.wh_ast.specs.declared.expr.Expr.{Expr}
use Rattle.wh_grammar.specs.Token.{Token, Word, SignToken, Sign, Dot, Star}
use Rattle.wh_grammar.specs.Name.{IsName, word, quoted}
use Rattle.wh_grammar.specs.Expression as g
use Rattle.wh_grammar.specs.Expression.{IsWhole, IsAnd, IsNot, IsTest, IsSum, IsProduct, IsUnary, IsPrim}
use Rattle.wh_grammar.specs.Expression.{IsComparison, IsNegation}
use Rattle.wh_cursor.specs.Steps.{tail}

-- neither a star nor a dot comes first
abbrev pub Opens : List Token → Type 0
Opens (SignToken Star ∷ us) = ⊥
Opens (SignToken Dot ∷ us) = ⊥
Opens _ = Unit {0}

pub name-opens : {ts us : List Token} {name : List ℕ} → IsName ts name us → Opens ts
name-opens (word r c) = tt
name-opens quoted = tt

mutual
  pub whole-opens : {d n : ℕ} {ts us : List Token} {x : Expr} → IsWhole d n ts x us → Opens ts
  whole-opens (g.one_and a) = and-opens a
  whole-opens (g.or l r) = whole-opens l

  and-opens : {d n : ℕ} {ts us : List Token} {x : Expr} → IsAnd d n ts x us → Opens ts
  and-opens (g.one_not a) = not-opens a
  and-opens (g.and l r) = and-opens l

  not-opens : {d n : ℕ} {ts us : List Token} {x : Expr} → IsNot d n ts x us → Opens ts
  not-opens (g.one_test a) = test-opens a
  not-opens (g.not a) = tt

  test-opens : {d n : ℕ} {ts us : List Token} {x : Expr} → IsTest d n ts x us → Opens ts
  test-opens (g.one_sum a) = sum-opens a
  test-opens (g.compared is l r) = sum-opens l
  test-opens (g.is_null a not) = sum-opens a
  test-opens (g.among a not items) = sum-opens a
  test-opens (g.between a not b c) = sum-opens a

  sum-opens : {d n : ℕ} {ts us : List Token} {x : Expr} → IsSum d n ts x us → Opens ts
  sum-opens (g.one_product a) = product-opens a
  sum-opens (g.plus l r) = sum-opens l
  sum-opens (g.minus l r) = sum-opens l

  product-opens : {d n : ℕ} {ts us : List Token} {x : Expr} → IsProduct d n ts x us → Opens ts
  product-opens (g.one_unary a) = unary-opens a
  product-opens (g.times l r) = product-opens l

  unary-opens : {d n : ℕ} {ts us : List Token} {x : Expr} → IsUnary d n ts x us → Opens ts
  unary-opens (g.one_prim a) = prim-opens a
  unary-opens (g.negative a) = tt

  prim-opens : {d n : ℕ} {ts us : List Token} {x : Expr} → IsPrim d n ts x us → Opens ts
  prim-opens g.number = tt
  prim-opens g.text = tt
  prim-opens g.true_word = tt
  prim-opens g.false_word = tt
  prim-opens g.null_word = tt
  prim-opens (g.column name) = name-opens name
  prim-opens (g.column_of entry name) = name-opens entry
  prim-opens (g.parenthesized a) = tt
  prim-opens (g.sum a) = tt
  prim-opens g.count_rows = tt
  prim-opens (g.count a) = tt

-- ---- `. *` behind the first token

abbrev Ahead : List Token → List Token → Type 0
Ahead ts us = (t : Token) (more : List Token) → ts ≡ t ∷ SignToken Dot ∷ SignToken Star ∷ more
    → us ≡ SignToken Dot ∷ SignToken Star ∷ more

shut : {us vs : List Token} → Opens us → us ≡ SignToken Dot ∷ vs → ⊥
shut o e = subst Opens e o

starless : {us vs : List Token} → Opens us → us ≡ SignToken Star ∷ vs → ⊥
starless o e = subst Opens e o

undotted : {s : Sign} {comparison : Comparison} {us vs : List Token} → IsComparison s comparison
    → SignToken s ∷ us ≡ SignToken Dot ∷ vs
    → ⊥
undotted g.equal e = cc
undotted g.unequal e = cc
undotted g.less e = cc
undotted g.at_most e = cc
undotted g.greater e = cc
undotted g.at_least e = cc

behind-negation : {negated : Bool} {w : List ℕ} {us vs ws : List Token} → IsNegation negated us (Word w ∷ vs)
    → us ≡ SignToken Dot ∷ ws
    → ⊥
behind-negation g.negated e = cc
behind-negation g.plain e = cc

name-ahead : {ts us : List Token} {name : List ℕ} → IsName ts name us → Ahead ts us
name-ahead (word r c) t more e = ap tail e
name-ahead quoted t more e = ap tail e

mutual
  pub whole-ahead : {d n : ℕ} {ts us : List Token} {x : Expr} → IsWhole d n ts x us → Ahead ts us
  whole-ahead (g.one_and a) t more e = and-ahead a t more e
  whole-ahead (g.or l r) t more e = absurd (let f = whole-ahead l t more e in cc)

  and-ahead : {d n : ℕ} {ts us : List Token} {x : Expr} → IsAnd d n ts x us → Ahead ts us
  and-ahead (g.one_not a) t more e = not-ahead a t more e
  and-ahead (g.and l r) t more e = absurd (let f = and-ahead l t more e in cc)

  not-ahead : {d n : ℕ} {ts us : List Token} {x : Expr} → IsNot d n ts x us → Ahead ts us
  not-ahead (g.one_test a) t more e = test-ahead a t more e
  not-ahead (g.not a) t more e = absurd (shut (not-opens a) (ap tail e))

  test-ahead : {d n : ℕ} {ts us : List Token} {x : Expr} → IsTest d n ts x us → Ahead ts us
  test-ahead (g.one_sum a) t more e = sum-ahead a t more e
  test-ahead (g.compared is l r) t more e = absurd (undotted is (sum-ahead l t more e))
  test-ahead (g.is_null a not) t more e = absurd (let f = sum-ahead a t more e in cc)
  test-ahead (g.among a not items) t more e = absurd (behind-negation not (sum-ahead a t more e))
  test-ahead (g.between a not b c) t more e = absurd (behind-negation not (sum-ahead a t more e))

  sum-ahead : {d n : ℕ} {ts us : List Token} {x : Expr} → IsSum d n ts x us → Ahead ts us
  sum-ahead (g.one_product a) t more e = product-ahead a t more e
  sum-ahead (g.plus l r) t more e = absurd (let f = sum-ahead l t more e in cc)
  sum-ahead (g.minus l r) t more e = absurd (let f = sum-ahead l t more e in cc)

  product-ahead : {d n : ℕ} {ts us : List Token} {x : Expr} → IsProduct d n ts x us → Ahead ts us
  product-ahead (g.one_unary a) t more e = unary-ahead a t more e
  product-ahead (g.times l r) t more e = absurd (let f = product-ahead l t more e in cc)

  unary-ahead : {d n : ℕ} {ts us : List Token} {x : Expr} → IsUnary d n ts x us → Ahead ts us
  unary-ahead (g.one_prim a) t more e = prim-ahead a t more e
  unary-ahead (g.negative a) t more e = absurd (shut (unary-opens a) (ap tail e))

  prim-ahead : {d n : ℕ} {ts us : List Token} {x : Expr} → IsPrim d n ts x us → Ahead ts us
  prim-ahead g.number t more e = ap tail e
  prim-ahead g.text t more e = ap tail e
  prim-ahead g.true_word t more e = ap tail e
  prim-ahead g.false_word t more e = ap tail e
  prim-ahead g.null_word t more e = ap tail e
  prim-ahead (g.column name) t more e = name-ahead name t more e
  prim-ahead (g.column_of entry name) t more e =
      absurd (starless (name-opens name) (ap tail (name-ahead entry t more e)))
  prim-ahead (g.parenthesized a) t more e = absurd (shut (whole-opens a) (ap tail e))
  prim-ahead (g.sum a) t more e = absurd (let f = ap tail e in cc)
  prim-ahead g.count_rows t more e = absurd (let f = ap tail e in cc)
  prim-ahead (g.count a) t more e = absurd (let f = ap tail e in cc)
