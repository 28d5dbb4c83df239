-- How deep parentheses may stand, and how much an expression may count, worked out by hand.
use Rattle.std.proofs.Common.{◌≡◌, ℕ, zero, suc, ◌+◌, ◌<◌, ◌≤◌, Bool, true, false, if◌then◌else◌, List, [], ◌∷◌, None}
use Rattle.std.proofs.Common.{refl, sym, ap, subst, arith}
use Rattle.std.specs.Prelude.{codes, bytes_eq}
use Rattle.std.proofs.lemmas.Slice.Eq.{bytes_eq-Decides}
use Rattle.wh_value.specs.declared.comparison.Comparison.{Comparison}
use Rattle.wh_ast.specs.declared.expr.Operator.TheVariants as o
use Rattle.wh_ast.specs.declared.expr.Expr.{Expr}
use Rattle.wh_ast.specs.declared.expr.Expr.TheVariants as e
use Rattle.wh_grammar.specs.Words.{is_reserved, is_call}
use Rattle.wh_grammar.specs.Token.{Token, Word, Sign, SignToken, LParen, RParen, Comma, Plus}
use Rattle.wh_grammar.specs.Name.{IsName, word, quoted}
use Rattle.wh_grammar.specs.Expression as g
use Rattle.wh_grammar.specs.Expression.{IsComparison, IsNegation, IsWhole, IsAnd, IsNot, IsTest, AreItems, IsSum}
use Rattle.wh_grammar.specs.Expression.{IsProduct, IsUnary, IsPrim, IsExpr}
use Rattle.wh_grammar.specs.Spelled.{most_nested}

abbrev a : Expr
a = e.Column None (codes "A")

is_a : (us : List Token) → IsName (Word (codes "A") ∷ us) (codes "A") us
unfolding is_reserved is_call
is_a us = word refl refl

prim-a : (d : ℕ) (us : List Token) → IsPrim d 0 (Word (codes "A") ∷ us) a us
prim-a d us = g.column (is_a us)

-- ---- parentheses inside one another

abbrev wrapped : ℕ → List Token → List Token
wrapped zero us = Word (codes "A") ∷ us
wrapped (suc k) us = SignToken LParen ∷ wrapped k (SignToken RParen ∷ us)

whole : {d n : ℕ} {ts us : List Token} {x : Expr} → IsPrim d n ts x us → IsWhole d n ts x us
whole h = g.one_and (g.one_not (g.one_test (g.one_sum (g.one_product (g.one_unary (g.one_prim h))))))

-- so many are taken at that depth
parens : (k : ℕ) (us : List Token) → IsWhole k 0 (wrapped k us) a us
parens zero us = whole (prim-a 0 us)
parens (suc k) us = whole (g.parenthesized (parens k (SignToken RParen ∷ us)))

-- how many parentheses open at the front
abbrev opened : List Token → ℕ
opened (SignToken LParen ∷ us) = suc (opened us)
opened _ = 0

opened-wrapped : (k : ℕ) (us : List Token) → opened (wrapped k us) ≡ k
opened-wrapped zero us = refl
opened-wrapped (suc k) us = rw (opened-wrapped k (SignToken RParen ∷ us)) refl

none-opened : {ts us : List Token} {name : List ℕ} (d : ℕ) → IsName ts name us → opened ts ≤ d
none-opened d (word r c) = omega arith
none-opened d quoted = omega arith

mutual
  whole-opened : {d n : ℕ} {ts us : List Token} {x : Expr} → IsWhole d n ts x us → opened ts ≤ d
  whole-opened (g.one_and h) = and-opened h
  whole-opened (g.or l r) = whole-opened l

  and-opened : {d n : ℕ} {ts us : List Token} {x : Expr} → IsAnd d n ts x us → opened ts ≤ d
  and-opened (g.one_not h) = not-opened h
  and-opened (g.and l r) = and-opened l

  not-opened : {d n : ℕ} {ts us : List Token} {x : Expr} → IsNot d n ts x us → opened ts ≤ d
  not-opened (g.one_test h) = test-opened h
  not-opened (g.not h) = omega arith

  test-opened : {d n : ℕ} {ts us : List Token} {x : Expr} → IsTest d n ts x us → opened ts ≤ d
  test-opened (g.one_sum h) = sum-opened h
  test-opened (g.compared is l r) = sum-opened l
  test-opened (g.is_null h not) = sum-opened h
  test-opened (g.among h not items) = sum-opened h
  test-opened (g.between h not b c) = sum-opened h

  sum-opened : {d n : ℕ} {ts us : List Token} {x : Expr} → IsSum d n ts x us → opened ts ≤ d
  sum-opened (g.one_product h) = product-opened h
  sum-opened (g.plus l r) = sum-opened l
  sum-opened (g.minus l r) = sum-opened l

  product-opened : {d n : ℕ} {ts us : List Token} {x : Expr} → IsProduct d n ts x us → opened ts ≤ d
  product-opened (g.one_unary h) = unary-opened h
  product-opened (g.times l r) = product-opened l

  unary-opened : {d n : ℕ} {ts us : List Token} {x : Expr} → IsUnary d n ts x us → opened ts ≤ d
  unary-opened (g.one_prim h) = prim-opened h
  unary-opened (g.negative h) = omega arith

  prim-opened : {d n : ℕ} {ts us : List Token} {x : Expr} → IsPrim d n ts x us → opened ts ≤ d
  prim-opened g.number = omega arith
  prim-opened g.text = omega arith
  prim-opened g.true_word = omega arith
  prim-opened g.false_word = omega arith
  prim-opened g.null_word = omega arith
  prim-opened (g.column {d} name) = none-opened d name
  prim-opened (g.column_of {d} entry name) = none-opened d entry
  prim-opened (g.parenthesized h) = let inside = whole-opened h in omega (arith, inside)
  prim-opened (g.sum h) = omega arith
  prim-opened g.count_rows = omega arith
  prim-opened (g.count h) = omega arith

-- as many as the depth says are taken, and one more isn't
taken : (depth : ℕ) (us : List Token) → IsExpr depth (wrapped depth us) a us
taken depth us = record { count = 0; few = omega arith; whole = parens depth us }

refused : (depth : ℕ) (us : List Token) {x : Expr} {vs : List Token} → IsExpr depth (wrapped (suc depth) us) x vs → ⊥
refused depth us h = let deep = subst (λ (n : ℕ). n ≤ depth) (opened-wrapped (suc depth) us) (whole-opened h.whole) in
    omega (arith, deep)

-- 64 are taken in a statement, and 65 aren't
nested_64 : IsExpr most_nested (wrapped 64 []) a []
nested_64 = taken 64 []

nested_65 : {x : Expr} {us : List Token} → IsExpr most_nested (wrapped 65 []) x us → ⊥
nested_65 h = refused 64 [] h

-- ---- what counts

-- what a token adds at least: a plus sign and a comma one each, since a comma stands between items alone,
-- and IN two, with its first item
abbrev weight : Token → ℕ
weight (SignToken Plus) = 1
weight (SignToken Comma) = 1
weight (Word w) = if bytes_eq w (codes "IN") then 2 else 0
weight _ = 0

abbrev weights : List Token → ℕ
weights [] = 0
weights (t ∷ ts) = weight t + weights ts

not-in : (w : List ℕ) → is_reserved w ≡ false → bytes_eq w (codes "IN") ≡ false
unfolding is_reserved
not-in w r = by (bytes_eq w (codes "IN")) refl
  where
    by : (b : Bool) → bytes_eq w (codes "IN") ≡ b → b ≡ false
    by false e = refl
    by true e = absurd (let same : is_reserved w ≡ true = ap is_reserved ((bytes_eq-Decides w (codes "IN")).0 e) in cc)

name-weighs : {ts us : List Token} {name : List ℕ} → IsName ts name us → weights ts ≡ weights us
name-weighs (word {w} {us} r c) = rw (not-in w r) (omega arith)
name-weighs quoted = omega arith

comparison-weighs : {s : Sign} {c : Comparison} → IsComparison s c → weight (SignToken s) ≡ 0
comparison-weighs g.equal = refl
comparison-weighs g.unequal = refl
comparison-weighs g.less = refl
comparison-weighs g.at_most = refl
comparison-weighs g.greater = refl
comparison-weighs g.at_least = refl

negation-weighs : {negated : Bool} {ts us : List Token} → IsNegation negated ts us → weights ts ≡ weights us
negation-weighs g.negated = omega arith
negation-weighs g.plain = refl

-- every derivation counts what its tokens add
mutual
  whole-weighs : {d n : ℕ} {ts us : List Token} {x : Expr} → IsWhole d n ts x us → weights ts ≤ n + weights us
  whole-weighs (g.one_and h) = and-weighs h
  whole-weighs (g.or l r) = let left = whole-weighs l in let right = and-weighs r in omega (arith, left, right)

  and-weighs : {d n : ℕ} {ts us : List Token} {x : Expr} → IsAnd d n ts x us → weights ts ≤ n + weights us
  and-weighs (g.one_not h) = not-weighs h
  and-weighs (g.and l r) = let left = and-weighs l in let right = not-weighs r in omega (arith, left, right)

  not-weighs : {d n : ℕ} {ts us : List Token} {x : Expr} → IsNot d n ts x us → weights ts ≤ n + weights us
  not-weighs (g.one_test h) = test-weighs h
  not-weighs (g.not h) = let inside = not-weighs h in omega (arith, inside)

  test-weighs : {d n : ℕ} {ts us : List Token} {x : Expr} → IsTest d n ts x us → weights ts ≤ n + weights us
  test-weighs (g.one_sum h) = sum-weighs h
  test-weighs (g.compared is l r) = let left = sum-weighs l in let right = sum-weighs r in
      omega (arith, comparison-weighs is, left, right)
  test-weighs (g.is_null h not) = let left = sum-weighs h in omega (arith, negation-weighs not, left)
  test-weighs (g.among h not items) = let left = sum-weighs h in let right = items-weigh items in
      omega (arith, negation-weighs not, left, right)
  test-weighs (g.between h not b c) =
      let first = sum-weighs h in let second = sum-weighs b in let third = sum-weighs c in
      omega (arith, negation-weighs not, first, second, third)

  items-weigh : {d n : ℕ} {ts us : List Token} {xs : List Expr} → AreItems d n ts xs us
      → suc (weights ts) ≤ n + weights us
  items-weigh (g.last_item h) = let one = whole-weighs h in omega (arith, one)
  items-weigh (g.item h more) = let one = whole-weighs h in let others = items-weigh more in omega (arith, one, others)

  sum-weighs : {d n : ℕ} {ts us : List Token} {x : Expr} → IsSum d n ts x us → weights ts ≤ n + weights us
  sum-weighs (g.one_product h) = product-weighs h
  sum-weighs (g.plus l r) = let left = sum-weighs l in let right = product-weighs r in omega (arith, left, right)
  sum-weighs (g.minus l r) = let left = sum-weighs l in let right = product-weighs r in omega (arith, left, right)

  product-weighs : {d n : ℕ} {ts us : List Token} {x : Expr} → IsProduct d n ts x us → weights ts ≤ n + weights us
  product-weighs (g.one_unary h) = unary-weighs h
  product-weighs (g.times l r) = let left = product-weighs l in let right = unary-weighs r in omega (arith, left, right)

  unary-weighs : {d n : ℕ} {ts us : List Token} {x : Expr} → IsUnary d n ts x us → weights ts ≤ n + weights us
  unary-weighs (g.one_prim h) = prim-weighs h
  unary-weighs (g.negative h) = let inside = unary-weighs h in omega (arith, inside)

  prim-weighs : {d n : ℕ} {ts us : List Token} {x : Expr} → IsPrim d n ts x us → weights ts ≤ n + weights us
  prim-weighs g.number = omega arith
  prim-weighs g.text = omega arith
  prim-weighs g.true_word = omega arith
  prim-weighs g.false_word = omega arith
  prim-weighs g.null_word = omega arith
  prim-weighs (g.column name) = let same = name-weighs name in omega (arith, same)
  prim-weighs (g.column_of entry name) = let before = name-weighs entry in let same = name-weighs name in
      omega (arith, before, same)
  prim-weighs (g.parenthesized h) = let inside = whole-weighs h in omega (arith, inside)
  prim-weighs (g.sum h) = let inside = whole-weighs h in omega (arith, inside)
  prim-weighs g.count_rows = omega arith
  prim-weighs (g.count h) = let inside = whole-weighs h in omega (arith, inside)

-- ---- operators

-- A + A + ..
abbrev added : ℕ → List Token → List Token
added zero us = us
added (suc n) us = SignToken Plus ∷ Word (codes "A") ∷ added n us

abbrev sum : ℕ → Expr → Expr
sum zero x = x
sum (suc n) x = sum n (e.Binary o.Add x a)

sums : (n m k : ℕ) {ts us : List Token} {x : Expr} → k ≡ m + n → IsSum 0 m ts x (added n us) → IsSum 0 k ts (sum n x) us
sums zero m k {ts} {us} {x} e h = let same : k ≡ m = omega (arith, e) in
    subst (λ (i : ℕ). IsSum 0 i ts x us) (sym same) h
sums (suc n) m k {us = us} e h =
    sums n (suc (m + 0)) k (omega (arith, e)) (g.plus h (g.one_unary (g.one_prim (prim-a 0 (added n us)))))

-- up to 1,000 operators are taken
sums_taken : (n : ℕ) (us : List Token) → n ≤ 1000 → IsExpr 0 (Word (codes "A") ∷ added n us) (sum n a) us
sums_taken n us few = record {
  count = n;
  few = few;
  whole = g.one_and (g.one_not (g.one_test
      (g.one_sum (sums n 0 n (omega arith) (g.one_product (g.one_unary (g.one_prim (prim-a 0 (added n us)))))))));
}

-- and more aren't
added-weigh : (n : ℕ) (us : List Token) → weights (added n us) ≡ n + weights us
added-weigh zero us = omega arith
added-weigh (suc n) us = let more = added-weigh n us in omega (arith, more)

sums_refused : (d n : ℕ) (us : List Token) {x : Expr} → 1000 < n → IsExpr d (Word (codes "A") ∷ added n us) x us → ⊥
sums_refused d n us many h = let weighed = whole-weighs h.whole in let few = h.few in
    omega (arith, weighed, added-weigh n us)

operators_1000 : IsExpr 0 (Word (codes "A") ∷ added 1000 []) (sum 1000 a) []
operators_1000 = sums_taken 1000 [] (omega arith)

operators_1001 : {x : Expr} → IsExpr most_nested (Word (codes "A") ∷ added 1001 []) x [] → ⊥
operators_1001 h = sums_refused most_nested 1001 [] (omega arith) h

-- ---- items

-- A, A, .., so many
abbrev commas : ℕ → List Token → List Token
commas zero us = us
commas (suc zero) us = Word (codes "A") ∷ us
commas (suc (suc n)) us = Word (codes "A") ∷ SignToken Comma ∷ commas (suc n) us

abbrev copies : ℕ → List Expr
copies zero = []
copies (suc n) = a ∷ copies n

-- A IN (A, A, ..)
abbrev among : ℕ → List Token → List Token
among n us = Word (codes "A") ∷ Word (codes "IN") ∷ SignToken LParen ∷ commas n (SignToken RParen ∷ us)

items : (n k : ℕ) (us : List Token) → k ≡ suc n → AreItems 0 k (commas (suc n) us) (copies (suc n)) us
items zero k us e = rw e (g.last_item (whole (prim-a 0 us)))
items (suc n) k us e =
    let same : k ≡ suc (0 + suc n) = omega (arith, e) in
    rw same (g.item (whole (prim-a 0 (SignToken Comma ∷ commas (suc n) us))) (items n (suc n) us refl))

-- IN itself counts one, so up to 999 items are taken
items_taken : (n : ℕ) (us : List Token) → suc n ≤ 999 → IsExpr 1 (among (suc n) us) (e.In false a (copies (suc n))) us
items_taken n us few = record {
  count = suc (0 + suc n);
  few = omega arith;
  whole = g.one_and (g.one_not (g.one_test (g.among (g.one_product (g.one_unary (g.one_prim (prim-a 1 _)))) g.plain
      (items n (suc n) (SignToken RParen ∷ us) refl))));
}

-- and more aren't
commas-weigh : (n : ℕ) (us : List Token) → weights (commas (suc n) us) ≡ n + weights us
commas-weigh zero us = omega arith
commas-weigh (suc n) us = let more = commas-weigh n us in omega (arith, more)

items_refused : (d n : ℕ) (us : List Token) {x : Expr} → 999 < suc n → IsExpr d (among (suc n) us) x us → ⊥
items_refused d n us many h = let weighed = whole-weighs h.whole in let few = h.few in
    omega (arith, weighed, commas-weigh n (SignToken RParen ∷ us))

items_999 : IsExpr 1 (among 999 []) (e.In false a (copies 999)) []
items_999 = items_taken 998 [] (omega arith)

items_1000 : {x : Expr} → IsExpr most_nested (among 1000 []) x [] → ⊥
items_1000 h = items_refused most_nested 999 [] (omega arith) h
