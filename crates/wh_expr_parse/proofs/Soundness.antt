-- What is read is what the rules say.
use Rattle.std.proofs.Common.{◌≡◌, ℕ, zero, suc, ◌+◌, ◌-◌, ◌==◌, Bool, true, false, not, if◌then◌else◌, List, [], ◌∷◌}
use Rattle.std.proofs.Common.{◌++◌, Option, Some, None, refl, sym, ap, ◌∙◌, subst, append_assoc, arith}
use Rattle.std.specs.Prelude.{codes}
use Rattle.std.proofs.lemmas.Bool.Decides.{Decides-eqb}
use Rattle.std.proofs.lemmas.Option.{same_Some}
use Rattle.wh_value.specs.declared.comparison.Comparison.{Comparison}
use Rattle.wh_value.specs.declared.value.Value.TheVariants as v
use Rattle.wh_ast.specs.declared.expr.Operator.{Operator}
use Rattle.wh_ast.specs.declared.expr.Operator.TheVariants as o
use Rattle.wh_ast.specs.declared.expr.Expr.{Expr}
use Rattle.wh_ast.specs.declared.expr.Expr.TheVariants as e
use Rattle.wh_grammar.specs.Token as token
use Rattle.wh_grammar.specs.Token.{Token, Word, Quoted, TextToken, NumberToken, SignToken}
use Rattle.wh_grammar.specs.Name.{IsName}
use Rattle.wh_grammar.specs.Expression as g
use Rattle.wh_grammar.specs.Expression.{IsWhole, IsAnd, IsNot, IsTest, AreItems, IsSum, IsProduct, IsUnary, IsPrim}
use Rattle.wh_grammar.specs.Expression.{IsComparison, IsNegation}
use Rattle.wh_expr_parse.specs.Laws.{IsExprAt}
use Rattle.wh_cursor.specs.declared.key.TokenClass.{TokenClass}
use Rattle.wh_cursor.specs.declared.key.TokenClass.TheVariants as k
use Rattle.wh_expr_parse.specs.declared.grammar.Level.{Level}
use Rattle.wh_expr_parse.specs.declared.grammar.Level.TheVariants.{Whole, Negation, Unary, Rows}
use Rattle.wh_cursor.specs.Keys.{key_of, key_binds}
use Rattle.wh_expr_parse.specs.Operators.{joins}
use Rattle.wh_expr_parse.specs.State.{State, at, next, Reader, plainly, moved, expect, spend}
use Rattle.wh_cursor.specs.Steps.{tail, and_then, sees, read_name}
use Rattle.wh_expr_parse.specs.Read.{read_literal, column_of, column, rows, operator_by, read_operator, links, chain}
use Rattle.wh_expr_parse.specs.Read.{parenthesized, sum_call}
use Rattle.wh_expr_parse.specs.Read.{count_by, count_call, call_or_column, primary_by, primary, negative, unary_by}
use Rattle.wh_expr_parse.specs.Read.{unary, product, sum, compared, null_test, items_from, items, among, between}
use Rattle.wh_expr_parse.specs.Read.{negated_by, negated_test, test_by, predicate, not_test, negation_by, negation}
use Rattle.wh_expr_parse.specs.Read.{conjunction, whole, level, nested, ended, read_expr}
use Rattle.wh_cursor.proofs.Names.{name-sound}
use Rattle.wh_cursor.proofs.KeyLemmas.{fixed, Heads, heads, heads_at, binds_key}
use Rattle.wh_cursor.proofs.ChainLemmas as chains
use Rattle.wh_cursor.proofs.ChainLemmas.{Joins}
use Rattle.wh_cursor.proofs.Yields.{Is, Yields, yields, nothing, follow, mapped}
use Rattle.wh_expr_parse.proofs.Outcomes.{then_expect, then_spend, if_eaten, Took}

-- ---- what takes no operator

-- what is read plainly takes none of the room
plainly-sound : {A : Type 0} {P : List Token → A → List Token → Type 0} (read : List Token → Option (A × List Token))
    → ((ts : List Token) → Yields (read ts) (P ts)) → (s : State)
    → Yields (plainly read s) (λ x t. (t.room ≡ s.room) × P s.left x t.left)
plainly-sound {A = A} {P = P} read sound s = record { is = by (read s.left) (sound s.left).is }
  where
    by : (o : Option (A × List Token)) → Is (P s.left) o
        → Is (λ x t. (t.room ≡ s.room) × P s.left x t.left) (moved s.room o)
    by None h = tt
    by (Some p) h = (refl, h)

name-plain : (s : State) → Yields (plainly read_name s) (λ name t. (t.room ≡ s.room) × IsName s.left name t.left)
name-plain = plainly-sound read_name name-sound

literal_by : (d room : ℕ) (ts : List Token)
    → Yields (moved room (read_literal ts)) (λ x t. (t.room ≡ room) × IsPrim d 0 ts x t.left)
unfolding read_literal
literal_by d room [] = nothing
literal_by d room (Word w ∷ us) = nothing
literal_by d room (Quoted name ∷ us) = nothing
literal_by d room (TextToken bytes ∷ us) = yields _ (at us room) (refl, g.text)
literal_by d room (NumberToken n ∷ us) = yields _ (at us room) (refl, g.number)
literal_by d room (SignToken s ∷ us) = nothing

literal-sound : (d : ℕ) (s : State) → Yields (plainly read_literal s) (Took (IsPrim d) s)
literal-sound d s =
    mapped (literal_by d s.room s.left) (λ x t h. record { count = 0; spent = omega (arith, h.0); is = h.1 })

column-sound : (d : ℕ) (s : State) → Yields (column s) (Took (IsPrim d) s)
unfolding column column_of
column-sound d s = follow (name-plain s) (λ first t h.
    if_eaten k.Dot t (column_of first)
    (λ dot. follow (name-plain (next t)) (λ name u i.
    yields _ u (record {
      count = 0;
      spent = omega (arith, h.0, i.0);
      is = g.column_of (subst (λ (us : List Token). IsName s.left first us) dot h.1) i.1;
    })))
    (yields _ t (record { count = 0; spent = omega (arith, h.0); is = g.column h.1 })))

-- ---- what stands inside

-- it has one parenthesis, NOT or minus sign less around it
pub record Inside (inner : Level → Reader Expr) (d : ℕ) : Type 0 where
  pub whole : (s : State) → Yields (inner Whole s) (λ x t. (d ≡ suc (d - 1)) × Took (IsWhole (d - 1)) s x t)
  pub negation : (s : State) → Yields (inner Negation s) (λ x t. (d ≡ suc (d - 1)) × Took (IsNot (d - 1)) s x t)
  pub rows : (s : State)
      → Yields (inner Rows s)
      (λ x t. (d ≡ suc (d - 1)) × (x ≡ e.CountRows) × (t.room ≡ s.room) × (t.left ≡ tail s.left))
  pub unary : (s : State) → Yields (inner Unary s) (λ x t. (d ≡ suc (d - 1)) × Took (IsUnary (d - 1)) s x t)

-- a rule for one more inside, at what the tokens are
at_front : (P : ℕ → List Token → Type 0) (d : ℕ) {ts us : List Token} → d ≡ suc (d - 1) → ts ≡ us → P (suc (d - 1)) us
    → P d ts
at_front P d {ts = ts} deeper is h = subst (λ (n : ℕ). P n ts) (sym deeper) (subst (P (suc (d - 1))) (sym is) h)

abbrev Parens : ℕ → ℕ → List Token → Expr → List Token → Type 0
Parens d n ts x us = (d ≡ suc (d - 1)) × IsWhole (d - 1) n ts x (SignToken token.RParen ∷ us)

-- ---- operators of one level

level-turn : (level : ℕ) (item : Reader Expr) (P Q : ℕ → List Token → Expr → List Token → Type 0)
    → ((m n : ℕ) (op : Operator) (ts us : List Token) (x y : Expr) (vs : List Token) → joins level (key_of us) ≡ Some op
    → P m ts x us → Q n (tail us) y vs → P (suc (m + n)) ts (e.Binary op x y) vs)
    → ((s : State) → Yields (item s) (Took Q s)) → (s₀ : State) (x : Expr) (s : State) → Took P s₀ x s
    → Yields (read_operator level s) (Joins (links level item) (Took P s₀) x)
unfolding read_operator
level-turn level item P Q joined items s₀ x s h = by (joins level (key_of s.left)) refl
  where
    by : (op : Option Operator) → joins level (key_of s.left) ≡ op
        → Yields (operator_by op s) (Joins (links level item) (Took P s₀) x)
    by None is = yields None s h
    by (Some op) is = then_spend (next s) _ (λ n one.
        yields (Some op) (at (tail s.left) n) (mapped (items (at (tail s.left) n)) (λ y t i. record {
          count = suc (h.count + i.count);
          spent = omega (arith, one, h.spent, i.spent);
          is = joined h.count i.count op s₀.left s.left x y t.left is h.is i.is;
        })))

chain-sound : (level : ℕ) (item : Reader Expr) (P Q : ℕ → List Token → Expr → List Token → Type 0)
    → ((n : ℕ) (ts : List Token) (x : Expr) (us : List Token) → Q n ts x us → P n ts x us)
    → ((m n : ℕ) (op : Operator) (ts us : List Token) (x y : Expr) (vs : List Token) → joins level (key_of us) ≡ Some op
    → P m ts x us → Q n (tail us) y vs → P (suc (m + n)) ts (e.Binary op x y) vs)
    → ((s : State) → Yields (item s) (Took Q s)) → (s : State)
    → Yields (chain level item s) (Took P s)
chain-sound level item P Q first joined items s =
    chains.chain-sound (links level item) (Took P s) (level-turn level item P Q joined items s) (λ t. t.room) s
    (mapped (items s) (λ x t h. record { count = h.count; spent = h.spent; is = first h.count s.left x t.left h.is }))

or-joined : (P : Operator → Type 0) (us : List Token) (op : Operator) → joins 1 (key_of us) ≡ Some op
    → (us ≡ Word (codes "OR") ∷ tail us → P o.Or)
    → P op
unfolding joins
or-joined P us op h f0 = or-by (key_of us) (heads_at (key_of us) us refl) h
  where
    or-by : (key : TokenClass) → Heads (fixed key) us → joins 1 key ≡ Some op → P op
    or-by k.Or front h = subst P (same_Some _ _ h) (f0 front)
    or-by _ front h = absurd (cc)

and-joined : (P : Operator → Type 0) (us : List Token) (op : Operator) → joins 2 (key_of us) ≡ Some op
    → (us ≡ Word (codes "AND") ∷ tail us → P o.And)
    → P op
unfolding joins
and-joined P us op h f0 = and-by (key_of us) (heads_at (key_of us) us refl) h
  where
    and-by : (key : TokenClass) → Heads (fixed key) us → joins 2 key ≡ Some op → P op
    and-by k.And front h = subst P (same_Some _ _ h) (f0 front)
    and-by _ front h = absurd (cc)

sign-joined : (P : Operator → Type 0) (us : List Token) (op : Operator) → joins 4 (key_of us) ≡ Some op
    → (us ≡ SignToken token.Plus ∷ tail us → P o.Add) → (us ≡ SignToken token.Minus ∷ tail us → P o.Sub)
    → P op
unfolding joins
sign-joined P us op h f0 f1 = sign-by (key_of us) (heads_at (key_of us) us refl) h
  where
    sign-by : (key : TokenClass) → Heads (fixed key) us → joins 4 key ≡ Some op → P op
    sign-by k.Plus front h = subst P (same_Some _ _ h) (f0 front)
    sign-by k.Minus front h = subst P (same_Some _ _ h) (f1 front)
    sign-by _ front h = absurd (cc)

star-joined : (P : Operator → Type 0) (us : List Token) (op : Operator) → joins 5 (key_of us) ≡ Some op
    → (us ≡ SignToken token.Star ∷ tail us → P o.Mul)
    → P op
unfolding joins
star-joined P us op h f0 = star-by (key_of us) (heads_at (key_of us) us refl) h
  where
    star-by : (key : TokenClass) → Heads (fixed key) us → joins 5 key ≡ Some op → P op
    star-by k.Star front h = subst P (same_Some _ _ h) (f0 front)
    star-by _ front h = absurd (cc)

-- ---- the rules, over it

module _ (inner : Level → Reader Expr) (d : ℕ) (inside : Inside inner d) where
  parenthesized-sound : (s : State) → Yields (parenthesized inner s) (Took (Parens d) s)
  unfolding parenthesized
  parenthesized-sound s = follow (inside.whole s) (λ x t h.
      then_expect k.RParen t _ (λ end.
      yields x (next t) (record {
        count = h.1.count;
        spent = h.1.spent;
        is = (h.0, subst (λ (us : List Token). IsWhole (d - 1) h.1.count s.left x us) end h.1.is);
      })))

  sum_call-sound : (s : State) → s.left ≡ Word (codes "SUM") ∷ tail s.left
      → tail s.left ≡ SignToken token.LParen ∷ tail (tail s.left)
      → Yields (sum_call inner (next s)) (Took (IsPrim d) s)
  unfolding sum_call
  sum_call-sound s one two = follow (parenthesized-sound (next (next s))) (λ x t h.
      yields _ t (record {
        count = h.count;
        spent = h.spent;
        is = at_front (λ n ts. IsPrim n h.count ts (e.Sum x) t.left) d h.is.0
            (one ∙ ap (λ (us : List Token). Word (codes "SUM") ∷ us) two) (g.sum h.is.1);
      }))

  rows-sound : (s t : State) → t.room ≡ s.room → s.left ≡ Word (codes "COUNT") ∷ SignToken token.LParen ∷ t.left
      → t.left ≡ SignToken token.Star ∷ tail t.left
      → Yields (count_by inner true t) (Took (IsPrim d) s)
  unfolding count_by
  rows-sound s t room front star = follow (inside.rows t) (λ x u h. then_expect k.RParen u _ (λ end.
      yields x (next u) (record {
        count = 0;
        spent = omega (arith, room, h.2);
        is = at_front (λ n ts. IsPrim n 0 ts x (tail u.left)) d h.0
            (front ∙ ap (λ (us : List Token). Word (codes "COUNT") ∷ SignToken token.LParen ∷ us)
            (star ∙ ap (λ (us : List Token). SignToken token.Star ∷ us) (sym h.3 ∙ end)))
            (subst (λ (y : Expr). IsPrim (suc (d - 1)) 0 (Word (codes "COUNT") ∷ SignToken token.LParen ∷ SignToken
            token.Star ∷ SignToken token.RParen ∷ tail u.left) y (tail u.left)) (sym h.1) g.count_rows);
      })))

  counted-sound : (s t : State) → t.room ≡ s.room → s.left ≡ Word (codes "COUNT") ∷ SignToken token.LParen ∷ t.left
      → Yields (count_by inner false t) (Took (IsPrim d) s)
  unfolding count_by
  counted-sound s t room front = follow (parenthesized-sound t) (λ x u h.
      yields _ u (record {
        count = h.count;
        spent = omega (arith, room, h.spent);
        is = at_front (λ n ts. IsPrim n h.count ts (e.Count x) u.left) d h.is.0 front (g.count h.is.1);
      }))

  count_call-sound : (s : State) → s.left ≡ Word (codes "COUNT") ∷ tail s.left
      → tail s.left ≡ SignToken token.LParen ∷ tail (tail s.left)
      → Yields (count_call inner (next s)) (Took (IsPrim d) s)
  unfolding count_call
  count_call-sound s one two = by (sees k.Star (tail (tail s.left))) refl
    where
      front : s.left ≡ Word (codes "COUNT") ∷ SignToken token.LParen ∷ tail (tail s.left)
      front = one ∙ ap (λ (us : List Token). Word (codes "COUNT") ∷ us) two

      by : (r : Bool) → sees k.Star (tail (tail s.left)) ≡ r
          → Yields (count_by inner r (next (next s))) (Took (IsPrim d) s)
      by true r = rows-sound s (next (next s)) refl front (heads k.Star (tail (tail s.left)) r)
      by false r = counted-sound s (next (next s)) refl front

  called : (call : Reader Expr) (s : State)
      → (tail s.left ≡ SignToken token.LParen ∷ tail (tail s.left) → Yields (call (next s)) (Took (IsPrim d) s))
      → Yields (call_or_column inner call s) (Took (IsPrim d) s)
  called call s f = by (sees k.LParen (tail s.left)) (λ r. f (heads k.LParen (tail s.left) r))
    where
      by : (r : Bool) → (r ≡ true → Yields (call (next s)) (Took (IsPrim d) s))
          → Yields (if r then call (next s) else column s) (Took (IsPrim d) s)
      by true h = h refl
      by false h = column-sound d s

  constant-sound : (s : State) (x : Expr) → IsPrim d 0 s.left x (tail s.left)
      → Yields (Some (x, next s)) (Took (IsPrim d) s)
  constant-sound s x h = yields x (next s) (record { count = 0; spent = omega arith; is = h })

  primary_by-sound : (s : State) (key : TokenClass) → Heads (fixed key) s.left
      → Yields (primary_by inner key s) (Took (IsPrim d) s)
  primary_by-sound s k.LParen h = mapped (parenthesized-sound (next s)) (λ x t i.
      record {
        count = i.count;
        spent = i.spent;
        is = at_front (λ n ts. IsPrim n i.count ts x t.left) d i.is.0 h (g.parenthesized i.is.1);
      })
  primary_by-sound s k.Number h = literal-sound d s
  primary_by-sound s k.Text h = literal-sound d s
  primary_by-sound s k.True h = constant-sound s _
      (subst (λ (ts : List Token). IsPrim d 0 ts (e.Const (v.Bool true)) (tail s.left)) (sym h) g.true_word)
  primary_by-sound s k.False h = constant-sound s _
      (subst (λ (ts : List Token). IsPrim d 0 ts (e.Const (v.Bool false)) (tail s.left)) (sym h) g.false_word)
  primary_by-sound s k.Null h =
      constant-sound s _ (subst (λ (ts : List Token). IsPrim d 0 ts (e.Const v.Null) (tail s.left)) (sym h) g.null_word)
  primary_by-sound s k.Sum h = called (sum_call inner) s (sum_call-sound s h)
  primary_by-sound s k.Count h = called (count_call inner) s (count_call-sound s h)
  primary_by-sound s k.Name h = column-sound d s
  primary_by-sound s _ h = nothing

  primary-sound : (s : State) → Yields (primary inner s) (Took (IsPrim d) s)
  unfolding primary
  primary-sound s = primary_by-sound s (key_of s.left) (heads_at (key_of s.left) s.left refl)

  negative-sound : (s : State) → s.left ≡ SignToken token.Minus ∷ tail s.left
      → Yields (negative inner s) (Took (IsUnary d) s)
  unfolding negative
  negative-sound s minus = then_spend (next s) _ (λ n one. follow (inside.unary (at (tail s.left) n)) (λ x t h.
      yields _ t (record {
        count = suc h.1.count;
        spent = omega (arith, one, h.1.spent);
        is = at_front (λ n ts. IsUnary n (suc h.1.count) ts (e.Neg x) t.left) d h.0 minus (g.negative h.1.is);
      })))

  unary-sound : (s : State) → Yields (unary inner s) (Took (IsUnary d) s)
  unfolding unary
  unary-sound s = by (sees k.Minus s.left) (heads k.Minus s.left)
    where
      by : (r : Bool) → (r ≡ true → s.left ≡ SignToken token.Minus ∷ tail s.left)
          → Yields (unary_by inner r s) (Took (IsUnary d) s)
      by true h = negative-sound s (h refl)
      by false h = mapped (primary-sound s) (λ x t i. record { count = i.count; spent = i.spent; is = g.one_prim i.is })

  -- ---- operators of one level

  product-sound : (s : State) → Yields (product inner s) (Took (IsProduct d) s)
  unfolding product
  product-sound = chain-sound 5 (unary inner) (IsProduct d) (IsUnary d) (λ n ts x us. g.one_unary)
      (λ m n op ts us x y vs h one two. star-joined (λ op. IsProduct d (suc (m + n)) ts (e.Binary op x y) vs) us op h
      (λ is. g.times (subst (λ (us : List Token). IsProduct d m ts x us) is one) two)) unary-sound

  sum-sound : (s : State) → Yields (sum inner s) (Took (IsSum d) s)
  unfolding sum
  sum-sound = chain-sound 4 (product inner) (IsSum d) (IsProduct d) (λ n ts x us. g.one_product)
      (λ m n op ts us x y vs h one two. sign-joined (λ op. IsSum d (suc (m + n)) ts (e.Binary op x y) vs) us op h
      (λ is. g.plus (subst (λ (us : List Token). IsSum d m ts x us) is one) two)
      (λ is. g.minus (subst (λ (us : List Token). IsSum d m ts x us) is one) two)) product-sound

  -- ---- what may follow a sum

  compared-sound : (s₀ s : State) (x : Expr) (sign : token.Sign) (comparison : Comparison)
      → IsComparison sign comparison → Took (IsSum d) s₀ x s → s.left ≡ SignToken sign ∷ tail s.left
      → Yields (compared inner x comparison s) (Took (IsTest d) s₀)
  unfolding compared
  compared-sound s₀ s x sign comparison is h front =
      then_spend (next s) _ (λ n one. follow (sum-sound (at (tail s.left) n)) (λ y t i.
      yields _ t (record {
        count = suc (h.count + i.count);
        spent = omega (arith, one, h.spent, i.spent);
        is = g.compared is (subst (λ (us : List Token). IsSum d h.count s₀.left x us) front h.is) i.is;
      })))

  null_test-sound : (s₀ s : State) (x : Expr) → Took (IsSum d) s₀ x s → s.left ≡ Word (codes "IS") ∷ tail s.left
      → Yields (null_test inner x s) (Took (IsTest d) s₀)
  unfolding null_test
  null_test-sound s₀ s x h front = if_eaten k.Not (next s)
      (λ negated u. and_then (expect k.Null u) (λ _ v. and_then (spend v) (λ _ w. Some (e.IsNull negated x, w))))
      (λ is. rest true (next (next s)) refl
      (subst (λ (us : List Token). IsNegation true us (tail (tail s.left))) (sym is) g.negated))
      (rest false (next s) refl g.plain)
    where
      rest : (negated : Bool) (t : State) → t.room ≡ s.room → IsNegation negated (tail s.left) t.left
          → Yields (and_then (expect k.Null t) (λ _ v. and_then (spend v) (λ _ w. Some (e.IsNull negated x, w))))
          (Took (IsTest d) s₀)
      rest negated t room not = then_expect k.Null t _ (λ null. then_spend (next t) _ (λ n one.
          yields (e.IsNull negated x) (at (tail t.left) n) (record {
            count = suc h.count;
            spent = omega (arith, one, room, h.spent);
            is = g.is_null (subst (λ (us : List Token). IsSum d h.count s₀.left x us) front h.is)
                (subst (λ (us : List Token). IsNegation negated (tail s.left) us) null not);
          })))

  -- items behind those so far
  record MoreItems (found : List Expr) (s : State) (ys : List Expr) (t : State) : Type 0 where
    deeper : d ≡ suc (d - 1)
    more : List Expr
    is : ys ≡ found ++ more
    took : Took (AreItems (d - 1)) s more t

  items_from-sound : (n : ℕ) (found : List Expr) (s : State) → Yields (items_from inner n found s) (MoreItems found s)
  unfolding items_from
  items_from-sound zero found s = nothing
  items_from-sound (suc n) found s = then_spend s _ (λ m one. follow (inside.whole (at s.left m)) (λ x t h.
      if_eaten k.Comma t
      (λ more. if more then items_from inner n (found ++ x ∷ []) else (λ u. Some (found ++ x ∷ [], u)))
      (λ comma. mapped (items_from-sound n (found ++ x ∷ []) (next t)) (λ ys u i.
      record {
        deeper = h.0;
        more = x ∷ i.more;
        is = i.is ∙ append_assoc found (x ∷ []) i.more;
        took = record {
          count = suc (h.1.count + i.took.count);
          spent = omega (arith, one, h.1.spent, i.took.spent);
          is = g.item (subst (λ (us : List Token). IsWhole (d - 1) h.1.count s.left x us) comma h.1.is) i.took.is;
        };
      }))
      (yields _ t (record {
        deeper = h.0;
        more = x ∷ [];
        is = refl;
        took = record { count = suc h.1.count; spent = omega (arith, one, h.1.spent); is = g.last_item h.1.is };
      }))))

  among-sound : (s₀ s : State) (x : Expr) (us : List Token) (count : ℕ) (negated : Bool) → s₀.room ≡ count + s.room
      → IsSum d count s₀.left x us → IsNegation negated us s.left → s.left ≡ Word (codes "IN") ∷ tail s.left
      → Yields (among inner negated x s) (Took (IsTest d) s₀)
  unfolding among items
  among-sound s₀ s x us count negated room h not front =
      then_expect k.LParen (next s) _ (λ opened. then_spend (next (next s)) _ (λ n one.
      follow (items_from-sound n [] (at (tail (tail s.left)) n)) (λ ys t i. then_expect k.RParen t _ (λ close.
      yields _ (next t) (record {
        count = suc (count + i.took.count);
        spent = omega (arith, room, one, i.took.spent);
        is = subst (λ (c : ℕ). IsTest c (suc (count + i.took.count)) s₀.left (e.In negated x ys) (tail t.left))
            (sym i.deeper) (g.among
            (subst (λ (c : ℕ). IsSum c count s₀.left x us) i.deeper h)
            (subst (λ (vs : List Token). IsNegation negated us vs)
            (front ∙ ap (λ (vs : List Token). Word (codes "IN") ∷ vs) opened) not)
            (subst (λ (zs : List Expr). AreItems (d - 1) i.took.count (tail (tail s.left)) zs
            (SignToken token.RParen ∷ tail t.left)) (sym i.is)
            (subst (λ (vs : List Token). AreItems (d - 1) i.took.count (tail (tail s.left)) i.more vs)
            close i.took.is)));
      })))))

  between-sound : (s₀ s : State) (x : Expr) (us : List Token) (count : ℕ) (negated : Bool) → s₀.room ≡ count + s.room
      → IsSum d count s₀.left x us → IsNegation negated us s.left → s.left ≡ Word (codes "BETWEEN") ∷ tail s.left
      → Yields (between inner negated x s) (Took (IsTest d) s₀)
  unfolding between
  between-sound s₀ s x us count negated room h not front =
      then_spend (next s) _ (λ n one. follow (sum-sound (at (tail s.left) n)) (λ y t i.
      then_expect k.And t _ (λ and. follow (sum-sound (next t)) (λ z u j.
      yields _ u (record {
        count = suc (count + (i.count + j.count));
        spent = omega (arith, room, one, i.spent, j.spent);
        is = g.between h (subst (λ (vs : List Token). IsNegation negated us vs) front not)
            (subst (λ (vs : List Token). IsSum d i.count (tail s.left) y vs) and i.is) j.is;
      })))))

  negated_by-sound : (s₀ s : State) (x : Expr) (key : TokenClass) → Took (IsSum d) s₀ x s
      → s.left ≡ Word (codes "NOT") ∷ tail s.left → Heads (fixed key) (tail s.left)
      → Yields (negated_by inner x key (next s)) (Took (IsTest d) s₀)
  negated_by-sound s₀ s x k.In h not front = among-sound s₀ (next s) x s.left h.count true h.spent h.is
      (subst (λ (us : List Token). IsNegation true us (tail s.left)) (sym not) g.negated) front
  negated_by-sound s₀ s x k.Between h not front = between-sound s₀ (next s) x s.left h.count true h.spent h.is
      (subst (λ (us : List Token). IsNegation true us (tail s.left)) (sym not) g.negated) front
  negated_by-sound s₀ s x _ h not front = nothing

  negated_test-sound : (s₀ s : State) (x : Expr) → Took (IsSum d) s₀ x s → s.left ≡ Word (codes "NOT") ∷ tail s.left
      → Yields (negated_test inner x s) (Took (IsTest d) s₀)
  unfolding negated_test
  negated_test-sound s₀ s x h not =
      negated_by-sound s₀ s x (key_of (tail s.left)) h not (heads_at (key_of (tail s.left)) (tail s.left) refl)

  test_by-sound : (s₀ s : State) (x : Expr) (key : TokenClass) → Took (IsSum d) s₀ x s → Heads (fixed key) s.left
      → Yields (test_by inner x key s) (Took (IsTest d) s₀)
  test_by-sound s₀ s x k.Equal h front = compared-sound s₀ s x token.Equal _ g.equal h front
  test_by-sound s₀ s x k.Unequal h front = compared-sound s₀ s x token.Unequal _ g.unequal h front
  test_by-sound s₀ s x k.Less h front = compared-sound s₀ s x token.Less _ g.less h front
  test_by-sound s₀ s x k.AtMost h front = compared-sound s₀ s x token.AtMost _ g.at_most h front
  test_by-sound s₀ s x k.Greater h front = compared-sound s₀ s x token.Greater _ g.greater h front
  test_by-sound s₀ s x k.AtLeast h front = compared-sound s₀ s x token.AtLeast _ g.at_least h front
  test_by-sound s₀ s x k.Is h front = null_test-sound s₀ s x h front
  test_by-sound s₀ s x k.In h front = among-sound s₀ s x s.left h.count false h.spent h.is g.plain front
  test_by-sound s₀ s x k.Between h front = between-sound s₀ s x s.left h.count false h.spent h.is g.plain front
  test_by-sound s₀ s x k.Not h front = negated_test-sound s₀ s x h front
  test_by-sound s₀ s x _ h front = yields x s (record { count = h.count; spent = h.spent; is = g.one_sum h.is })

  test-sound : (s : State) → Yields (predicate inner s) (Took (IsTest d) s)
  unfolding predicate
  test-sound s =
      follow (sum-sound s) (λ x t h. test_by-sound s t x (key_of t.left) h (heads_at (key_of t.left) t.left refl))

  not_test-sound : (s : State) → s.left ≡ Word (codes "NOT") ∷ tail s.left
      → Yields (not_test inner s) (Took (IsNot d) s)
  unfolding not_test
  not_test-sound s not = then_spend (next s) _ (λ n one. follow (inside.negation (at (tail s.left) n)) (λ x t h.
      yields _ t (record {
        count = suc h.1.count;
        spent = omega (arith, one, h.1.spent);
        is = at_front (λ n ts. IsNot n (suc h.1.count) ts (e.Not x) t.left) d h.0 not (g.not h.1.is);
      })))

  negation-sound : (s : State) → Yields (negation inner s) (Took (IsNot d) s)
  unfolding negation
  negation-sound s = by (sees k.Not s.left) (heads k.Not s.left)
    where
      by : (r : Bool) → (r ≡ true → s.left ≡ Word (codes "NOT") ∷ tail s.left)
          → Yields (negation_by inner r s) (Took (IsNot d) s)
      by true h = not_test-sound s (h refl)
      by false h = mapped (test-sound s) (λ x t i. record { count = i.count; spent = i.spent; is = g.one_test i.is })

  conjunction-sound : (s : State) → Yields (conjunction inner s) (Took (IsAnd d) s)
  unfolding conjunction
  conjunction-sound = chain-sound 2 (negation inner) (IsAnd d) (IsNot d) (λ n ts x us. g.one_not)
      (λ m n op ts us x y vs h one two. and-joined (λ op. IsAnd d (suc (m + n)) ts (e.Binary op x y) vs) us op h
      (λ is. g.and (subst (λ (us : List Token). IsAnd d m ts x us) is one) two)) negation-sound

  whole-sound : (s : State) → Yields (whole inner s) (Took (IsWhole d) s)
  unfolding whole
  whole-sound = chain-sound 1 (conjunction inner) (IsWhole d) (IsAnd d) (λ n ts x us. g.one_and)
      (λ m n op ts us x y vs h one two. or-joined (λ op. IsWhole d (suc (m + n)) ts (e.Binary op x y) vs) us op h
      (λ is. g.or (subst (λ (us : List Token). IsWhole d m ts x us) is one) two)) conjunction-sound

-- ---- inside one another

nested-sound : (d : ℕ) → Inside (nested d) d
unfolding nested rows
nested-sound zero = record { whole = λ s. nothing; negation = λ s. nothing; rows = λ s. nothing; unary = λ s. nothing }
nested-sound (suc d) =
    let same : suc d - 1 ≡ d = omega arith in
    let deeper : suc d ≡ suc (suc d - 1) = omega arith in
    record {
      whole = λ s. mapped (whole-sound (nested d) d (nested-sound d) s)
          (λ x t h. (deeper, subst (λ (n : ℕ). Took (IsWhole n) s x t) (sym same) h));
      negation = λ s. mapped (negation-sound (nested d) d (nested-sound d) s)
          (λ x t h. (deeper, subst (λ (n : ℕ). Took (IsNot n) s x t) (sym same) h));
      rows = λ s. yields e.CountRows (next s) (deeper, refl, refl, refl);
      unary = λ s. mapped (unary-sound (nested d) d (nested-sound d) s)
          (λ x t h. (deeper, subst (λ (n : ℕ). Took (IsUnary n) s x t) (sym same) h));
    }

-- ---- what is read is an expression

ended-sound : (d : ℕ) (ts : List Token) (x : Expr) (us : List Token) (o : Option (Expr × State))
    → Is (Took (IsWhole d) (at ts 1000)) o → ended o ≡ Some (x, us)
    → IsExprAt d ts x us
ended-sound d ts x us None h k = absurd (cc)
ended-sound d ts x us (Some p) h k = by (key_binds (key_of p.1.left) == 0) refl k
  where
    by : (r : Bool) → (key_binds (key_of p.1.left) == 0) ≡ r → if◌then◌else◌ {A = Option (Expr × List Token)} r
        (Some (p.0, p.1.left)) None ≡ Some (x, us) → IsExprAt d ts x us
    by false e k = absurd (cc)
    by true e k =
        let same : ◌≡◌ {A = Expr × List Token} (p.0, p.1.left) (x, us) = same_Some _ _ k in
        let here : IsExprAt d ts p.0 p.1.left = record {
          expr = record { count = h.count; few = omega (arith, h.spent); whole = h.is };
          ends = sym (binds_key p.1.left) ∙ (Decides-eqb (key_binds (key_of p.1.left)) 0).0 e;
        } in
        subst (λ (q : Expr × List Token). IsExprAt d ts q.0 q.1) same here

pub read_sound : (d : ℕ) (ts : List Token) (x : Expr) (us : List Token) → read_expr d ts ≡ Some (x, us)
    → IsExprAt d ts x us
unfolding read_expr
read_sound d ts x us h =
    ended-sound d ts x us (whole (nested d) (at ts 1000)) (whole-sound (nested d) d (nested-sound d) (at ts 1000)).is h
