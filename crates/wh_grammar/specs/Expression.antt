-- Which tokens are an expression.
--     IsWhole d n ts x us     the tokens ts begin with an expression that stands for x, and us follow it: it has n
--                             operators and IN items, and at most d parentheses, NOT and minus signs inside one another
--     IsExpr                  the same with at most 1,000
use Rattle.std.specs.Prelude.{ℕ, suc, ◌+◌, ◌≤◌, Bool, true, false, List, [], ◌∷◌, Some, None, codes, pos}
use Rattle.wh_value.specs.declared.value.Value.TheVariants as v
use Rattle.wh_value.specs.declared.comparison.Comparison.{Comparison}
use Rattle.wh_value.specs.declared.comparison.Comparison.TheVariants as c
use Rattle.wh_ast.specs.declared.expr.Operator.TheVariants as o
use Rattle.wh_ast.specs.declared.expr.Expr.{Expr}
use Rattle.wh_ast.specs.declared.expr.Expr.TheVariants as e
use Rattle.wh_grammar.specs.Token.{Token, Word, TextToken, NumberToken, SignToken, Sign, LParen, RParen, Comma, Dot}
use Rattle.wh_grammar.specs.Token.{Star, Plus, Minus, Equal, Unequal, Less, AtMost, Greater, AtLeast}
use Rattle.wh_grammar.specs.Name.{IsName}

-- a sign between two sums
pub data IsComparison : Sign → Comparison → Type 0 where
  equal : IsComparison Equal c.Equal
  unequal : IsComparison Unequal c.Unequal
  less : IsComparison Less c.Less
  at_most : IsComparison AtMost c.LessOrEqual
  greater : IsComparison Greater c.Greater
  at_least : IsComparison AtLeast c.GreaterOrEqual

-- `NOT`, or nothing
pub data IsNegation : Bool → List Token → List Token → Type 0 where
  negated : {us : List Token} → IsNegation true (Word (codes "NOT") ∷ us) us
  plain : {us : List Token} → IsNegation false us us

mutual
  -- and {OR and}
  pub data IsWhole : ℕ → ℕ → List Token → Expr → List Token → Type 0 where
    one_and : {d n : ℕ} {ts us : List Token} {x : Expr} → IsAnd d n ts x us → IsWhole d n ts x us
    or : {d m n : ℕ} {ts us vs : List Token} {x y : Expr}
        → IsWhole d m ts x (Word (codes "OR") ∷ us)
        → IsAnd d n us y vs
        → IsWhole d (suc (m + n)) ts (e.Binary o.Or x y) vs

  -- not {AND not}
  pub data IsAnd : ℕ → ℕ → List Token → Expr → List Token → Type 0 where
    one_not : {d n : ℕ} {ts us : List Token} {x : Expr} → IsNot d n ts x us → IsAnd d n ts x us
    and : {d m n : ℕ} {ts us vs : List Token} {x y : Expr}
        → IsAnd d m ts x (Word (codes "AND") ∷ us)
        → IsNot d n us y vs
        → IsAnd d (suc (m + n)) ts (e.Binary o.And x y) vs

  -- NOT not | test
  pub data IsNot : ℕ → ℕ → List Token → Expr → List Token → Type 0 where
    one_test : {d n : ℕ} {ts us : List Token} {x : Expr} → IsTest d n ts x us → IsNot d n ts x us
    not : {d n : ℕ} {ts us : List Token} {x : Expr}
        → IsNot d n ts x us
        → IsNot (suc d) (suc n) (Word (codes "NOT") ∷ ts) (e.Not x) us

  -- sum, and what may follow it
  pub data IsTest : ℕ → ℕ → List Token → Expr → List Token → Type 0 where
    one_sum : {d n : ℕ} {ts us : List Token} {x : Expr} → IsSum d n ts x us → IsTest d n ts x us
    compared : {d m n : ℕ} {ts us vs : List Token} {x y : Expr} {s : Sign} {comparison : Comparison}
        → IsComparison s comparison
        → IsSum d m ts x (SignToken s ∷ us)
        → IsSum d n us y vs
        → IsTest d (suc (m + n)) ts (e.Binary (o.Compare comparison) x y) vs
    is_null : {d n : ℕ} {ts us vs : List Token} {x : Expr} {negated : Bool}
        → IsSum d n ts x (Word (codes "IS") ∷ us)
        → IsNegation negated us (Word (codes "NULL") ∷ vs)
        → IsTest d (suc n) ts (e.IsNull negated x) vs
    among : {d m n : ℕ} {ts us vs ws : List Token} {x : Expr} {ys : List Expr} {negated : Bool}
        → IsSum (suc d) m ts x us
        → IsNegation negated us (Word (codes "IN") ∷ SignToken LParen ∷ vs)
        → AreItems d n vs ys (SignToken RParen ∷ ws)
        → IsTest (suc d) (suc (m + n)) ts (e.In negated x ys) ws
    between : {d l m n : ℕ} {ts us vs ws rs : List Token} {x y z : Expr} {negated : Bool}
        → IsSum d l ts x us
        → IsNegation negated us (Word (codes "BETWEEN") ∷ vs)
        → IsSum d m vs y (Word (codes "AND") ∷ ws)
        → IsSum d n ws z rs
        → IsTest d (suc (l + (m + n))) ts (e.Between negated x y z) rs

  -- one or more, with commas between them; each counts one more
  pub data AreItems : ℕ → ℕ → List Token → List Expr → List Token → Type 0 where
    last_item : {d n : ℕ} {ts us : List Token} {x : Expr} → IsWhole d n ts x us → AreItems d (suc n) ts (x ∷ []) us
    item : {d m n : ℕ} {ts us vs : List Token} {x : Expr} {xs : List Expr}
        → IsWhole d m ts x (SignToken Comma ∷ us)
        → AreItems d n us xs vs
        → AreItems d (suc (m + n)) ts (x ∷ xs) vs

  -- prod {+ prod | - prod}
  pub data IsSum : ℕ → ℕ → List Token → Expr → List Token → Type 0 where
    one_product : {d n : ℕ} {ts us : List Token} {x : Expr} → IsProduct d n ts x us → IsSum d n ts x us
    plus : {d m n : ℕ} {ts us vs : List Token} {x y : Expr}
        → IsSum d m ts x (SignToken Plus ∷ us)
        → IsProduct d n us y vs
        → IsSum d (suc (m + n)) ts (e.Binary o.Add x y) vs
    minus : {d m n : ℕ} {ts us vs : List Token} {x y : Expr}
        → IsSum d m ts x (SignToken Minus ∷ us)
        → IsProduct d n us y vs
        → IsSum d (suc (m + n)) ts (e.Binary o.Sub x y) vs

  -- unary {* unary}
  pub data IsProduct : ℕ → ℕ → List Token → Expr → List Token → Type 0 where
    one_unary : {d n : ℕ} {ts us : List Token} {x : Expr} → IsUnary d n ts x us → IsProduct d n ts x us
    times : {d m n : ℕ} {ts us vs : List Token} {x y : Expr}
        → IsProduct d m ts x (SignToken Star ∷ us)
        → IsUnary d n us y vs
        → IsProduct d (suc (m + n)) ts (e.Binary o.Mul x y) vs

  -- - unary | prim
  pub data IsUnary : ℕ → ℕ → List Token → Expr → List Token → Type 0 where
    one_prim : {d n : ℕ} {ts us : List Token} {x : Expr} → IsPrim d n ts x us → IsUnary d n ts x us
    negative : {d n : ℕ} {ts us : List Token} {x : Expr}
        → IsUnary d n ts x us
        → IsUnary (suc d) (suc n) (SignToken Minus ∷ ts) (e.Neg x) us

  pub data IsPrim : ℕ → ℕ → List Token → Expr → List Token → Type 0 where
    number : {d k : ℕ} {us : List Token} → IsPrim d 0 (NumberToken k ∷ us) (e.Const (v.Number (pos k))) us
    text : {d : ℕ} {bytes : List ℕ} {us : List Token} → IsPrim d 0 (TextToken bytes ∷ us) (e.Const (v.Text bytes)) us
    true_word : {d : ℕ} {us : List Token} → IsPrim d 0 (Word (codes "TRUE") ∷ us) (e.Const (v.Bool true)) us
    false_word : {d : ℕ} {us : List Token} → IsPrim d 0 (Word (codes "FALSE") ∷ us) (e.Const (v.Bool false)) us
    null_word : {d : ℕ} {us : List Token} → IsPrim d 0 (Word (codes "NULL") ∷ us) (e.Const v.Null) us
    column : {d : ℕ} {name : List ℕ} {ts us : List Token} → IsName ts name us → IsPrim d 0 ts (e.Column None name) us
    column_of : {d : ℕ} {entry name : List ℕ} {ts us vs : List Token}
        → IsName ts entry (SignToken Dot ∷ us)
        → IsName us name vs
        → IsPrim d 0 ts (e.Column (Some entry) name) vs
    parenthesized : {d n : ℕ} {ts us : List Token} {x : Expr}
        → IsWhole d n ts x (SignToken RParen ∷ us)
        → IsPrim (suc d) n (SignToken LParen ∷ ts) x us
    sum : {d n : ℕ} {ts us : List Token} {x : Expr}
        → IsWhole d n ts x (SignToken RParen ∷ us)
        → IsPrim (suc d) n (Word (codes "SUM") ∷ SignToken LParen ∷ ts) (e.Sum x) us
    count_rows : {d : ℕ} {us : List Token}
        → IsPrim (suc d) 0
        (Word (codes "COUNT") ∷ SignToken LParen ∷ SignToken Star ∷ SignToken RParen ∷ us) e.CountRows us
    count : {d n : ℕ} {ts us : List Token} {x : Expr}
        → IsWhole d n ts x (SignToken RParen ∷ us)
        → IsPrim (suc d) n (Word (codes "COUNT") ∷ SignToken LParen ∷ ts) (e.Count x) us

-- an expression with at most 1,000 operators and IN items
pub record IsExpr (d : ℕ) (ts : List Token) (x : Expr) (us : List Token) : Type 0 where
  pub count : ℕ
  pub few : count ≤ 1000
  pub whole : IsWhole d count ts x us

-- one or more, with commas between them
pub data AreExprs (d : ℕ) : List Token → List Expr → List Token → Type 0 where
  last_expr : {ts us : List Token} {x : Expr} → IsExpr d ts x us → AreExprs d ts (x ∷ []) us
  more_exprs : {ts us vs : List Token} {x : Expr} {xs : List Expr}
      → IsExpr d ts x (SignToken Comma ∷ us)
      → AreExprs d us xs vs
      → AreExprs d ts (x ∷ xs) vs
