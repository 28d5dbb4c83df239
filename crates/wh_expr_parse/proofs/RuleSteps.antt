-- What each step of a rule reads, where its tokens stand.
use Rattle.std.proofs.Common.{◌≡◌, ℕ, zero, suc, ◌+◌, ◌-◌, ◌<◌, ◌≤◌, ◌==◌, Bool, true, false, not, ◌&&◌, List, [], ◌∷◌}
use Rattle.std.proofs.Common.{◌++◌, Some, None, refl, sym, ap, ◌∙◌, subst, append_assoc, ne_eqb, bytes_eq, rules, arith}
use Rattle.std.specs.Prelude.{codes}
use denote.Enum.Bare.{same_true}
use Rattle.wh_value.specs.declared.comparison.Comparison.{Comparison}
use Rattle.wh_ast.specs.declared.expr.Operator.{Operator}
use Rattle.wh_ast.specs.declared.expr.Operator.TheVariants as o
use Rattle.wh_ast.specs.declared.expr.Expr.{Expr}
use Rattle.wh_ast.specs.declared.expr.Expr.TheVariants as e
use Rattle.wh_value.specs.declared.value.Value.TheVariants as v
use Rattle.std.specs.Prelude.{pos}
use Rattle.wh_grammar.specs.Words.{is_reserved, is_call}
use Rattle.wh_grammar.specs.Token as token
use Rattle.wh_grammar.specs.Token.{Token, Word, TextToken, NumberToken, SignToken}
use Rattle.wh_grammar.specs.Name.{IsName, opens, word, quoted}
use Rattle.wh_grammar.specs.Expression as g
use Rattle.wh_grammar.specs.Expression.{IsComparison, IsNegation}
use Rattle.wh_cursor.specs.Binds.{binds}
use Rattle.wh_cursor.specs.declared.key.TokenClass.{TokenClass}
use Rattle.wh_cursor.specs.declared.key.TokenClass.TheVariants as k
use Rattle.wh_cursor.specs.contracts.key.TokenClass.{the_type}
use Rattle.wh_expr_parse.specs.declared.grammar.Level.{Level}
use Rattle.wh_expr_parse.specs.declared.grammar.Level.TheVariants.{Whole, Negation, Unary, Rows}
use Rattle.wh_cursor.specs.Keys.{key_of, key_binds, same_key}
use Rattle.wh_expr_parse.specs.Operators.{joins}
use Rattle.wh_expr_parse.specs.State.{State, at, next, Reader, expect, spend}
use Rattle.wh_cursor.specs.Steps.{tail, sees}
use Rattle.wh_expr_parse.specs.Read.{read_literal, column_of, column, read_operator, links, chain, parenthesized}
use Rattle.wh_expr_parse.specs.Read.{sum_call, count_by}
use Rattle.wh_expr_parse.specs.Read.{count_call, primary, negative, unary, product, sum, compared, null_test}
use Rattle.wh_expr_parse.specs.Read.{items_from, items, among, between, negated_test, test_by, predicate, not_test}
use Rattle.wh_expr_parse.specs.Read.{negation, conjunction, whole}
use Rattle.wh_cursor.proofs.ChainLemmas as chains
use Rattle.wh_cursor.proofs.Names.{name-complete}
use Rattle.wh_cursor.proofs.KeyLemmas.{binds_key, heads}

-- with n of the room it reads x, and us are left
pub record Gives {A : Type 0} (r : Reader A) (n : ℕ) (ts : List Token) (x : A) (us : List Token) : Type 0 where
  pub run : (room left : ℕ) → room ≡ n + left → r (at ts room) ≡ Some (x, at us left)

-- ---- single tokens

pub spend-some : (us : List Token) (room left : ℕ) → room ≡ suc left → spend (at us room) ≡ Some (tt, at us left)
unfolding spend
spend-some us room left h =
    let some : (room == 0) ≡ false = ne_eqb room 0 (λ none. omega (arith, h, none)) in
    let less : room - 1 ≡ left = omega (arith, h) in
    rw (some, less) refl

pub expect-some : (key : TokenClass) (ts : List Token) (room : ℕ) → sees key ts ≡ true
    → expect key (at ts room) ≡ Some (tt, at (tail ts) room)
unfolding expect
expect-some key ts room h = rw h refl

pub not_seen : (key : TokenClass) (us : List Token) → binds us < key_binds key → sees key us ≡ false
unfolding sees same_key
not_seen key us h = by (same_key (key_of us) key) refl
  where
    by : (b : Bool) → same_key (key_of us) key ≡ b → b ≡ false
    by false is = refl
    by true is =
        let same : key_of us ≡ key = same_true the_type (search rules) (key_of us) key is in
        let same_binds : binds us ≡ key_binds key = sym (binds_key us) ∙ ap key_binds same in
        absurd (omega (arith, h, same_binds))

pub joins-none : (level : ℕ) (us : List Token) → binds us < level → joins level (key_of us) ≡ None
unfolding joins
joins-none level us h =
    let other : (key_binds (key_of us) == level) ≡ false =
    ne_eqb (key_binds (key_of us)) level (λ same. let b = binds_key us in omega (arith, h, same, b)) in
    rw other refl

-- ---- names and columns

dot-seen : (us : List Token) → sees k.Dot (SignToken token.Dot ∷ us) ≡ true
unfolding sees same_key key_of
dot-seen us = refl

pub column-gives : {ts us : List Token} {name : List ℕ} → IsName ts name us → binds us < 6
    → Gives column 0 ts (e.Column None name) us
unfolding column column_of
column-gives {us = us} h end = record {
  run = λ room left i.
      let same : room ≡ left = omega (arith, i) in
      rw (name-complete h, not_seen k.Dot us end, same) refl;
}

pub column_of-gives : {ts us vs : List Token} {entry name : List ℕ} → IsName ts entry (SignToken token.Dot ∷ us)
    → IsName us name vs
    → Gives column 0 ts (e.Column (Some entry) name) vs
unfolding column column_of
column_of-gives {us = us} h l = record {
  run = λ room left i.
      let same : room ≡ left = omega (arith, i) in
      rw (name-complete h, dot-seen us, name-complete l, same) refl;
}

-- a name isn't read as anything else
data Named (ts : List Token) : Type 0 where
  plain_name : key_of ts ≡ k.Name → Named ts
  sum_name : key_of ts ≡ k.Sum → sees k.LParen (tail ts) ≡ false → Named ts
  count_name : key_of ts ≡ k.Count → sees k.LParen (tail ts) ≡ false → Named ts

opened : (us : List Token) → sees k.LParen us ≡ true → opens us ≡ true
opened us h = let front = heads k.LParen us h in rw front refl

word-named : (w : List ℕ) (us : List Token) → is_reserved w ≡ false → (is_call w && opens us) ≡ false
    → Named (Word w ∷ us)
unfolding key_of is_call
word-named w us r c = by (bytes_eq w (codes "SUM")) (bytes_eq w (codes "COUNT")) refl refl
  where
    none : is_call w ≡ true → sees k.LParen us ≡ false
    none call = by_seen (sees k.LParen us) refl
      where
        by_seen : (b : Bool) → sees k.LParen us ≡ b → b ≡ false
        by_seen false is = refl
        by_seen true is =
            absurd (let open_ = opened us is in let both : (true && true) ≡ false = rw (call, open_) at c in cc)

    by : (a b : Bool) → bytes_eq w (codes "SUM") ≡ a → bytes_eq w (codes "COUNT") ≡ b → Named (Word w ∷ us)
    by true b ea eb = sum_name (rw (r, ea) refl) (none (rw ea refl))
    by false true ea eb = count_name (rw (r, ea, eb) refl) (none (rw (ea, eb) refl))
    by false false ea eb = plain_name (rw (r, ea, eb) refl)

named : {ts us : List Token} {name : List ℕ} → IsName ts name us → Named ts
unfolding key_of
named (word {w} {us} r c) = word-named w us r c
named quoted = plain_name refl

-- ---- the rules, over what stands inside

module _ (inner : Level → Reader Expr) where
  name-primary : {n : ℕ} {ts us : List Token} {x : Expr} → Named ts → Gives column n ts x us
      → Gives (primary inner) n ts x us
  unfolding primary
  name-primary (plain_name is) h = record { run = λ room left i. rw is (h.run room left i) }
  name-primary (sum_name is other) h = record { run = λ room left i. rw (is, other) (h.run room left i) }
  name-primary (count_name is other) h = record { run = λ room left i. rw (is, other) (h.run room left i) }

  pub column-primary : {ts us : List Token} {name : List ℕ} → IsName ts name us → binds us < 6
      → Gives (primary inner) 0 ts (e.Column None name) us
  column-primary h end = name-primary (named h) (column-gives h end)

  pub column_of-primary : {ts us vs : List Token} {entry name : List ℕ} → IsName ts entry (SignToken token.Dot ∷ us)
      → IsName us name vs
      → Gives (primary inner) 0 ts (e.Column (Some entry) name) vs
  column_of-primary h l = name-primary (named h) (column_of-gives h l)

  pub number-primary : (n : ℕ) (us : List Token)
      → Gives (primary inner) 0 (NumberToken n ∷ us) (e.Const (v.Number (pos n))) us
  unfolding primary key_of read_literal
  number-primary n us = record { run = λ room left i. let same : room ≡ left = omega (arith, i) in rw same refl }

  pub text-primary : (bytes : List ℕ) (us : List Token)
      → Gives (primary inner) 0 (TextToken bytes ∷ us) (e.Const (v.Text bytes)) us
  unfolding primary key_of read_literal
  text-primary bytes us = record { run = λ room left i. let same : room ≡ left = omega (arith, i) in rw same refl }

  pub true-primary : (us : List Token) → Gives (primary inner) 0 (Word (codes "TRUE") ∷ us) (e.Const (v.Bool true)) us
  unfolding primary key_of is_reserved
  true-primary us = record { run = λ room left i. let same : room ≡ left = omega (arith, i) in rw same refl }

  pub false-primary : (us : List Token)
      → Gives (primary inner) 0 (Word (codes "FALSE") ∷ us) (e.Const (v.Bool false)) us
  unfolding primary key_of is_reserved
  false-primary us = record { run = λ room left i. let same : room ≡ left = omega (arith, i) in rw same refl }

  pub null-primary : (us : List Token) → Gives (primary inner) 0 (Word (codes "NULL") ∷ us) (e.Const v.Null) us
  unfolding primary key_of is_reserved
  null-primary us = record { run = λ room left i. let same : room ≡ left = omega (arith, i) in rw same refl }

  close-seen : (us : List Token) → sees k.RParen (SignToken token.RParen ∷ us) ≡ true
  unfolding sees same_key key_of
  close-seen us = refl

  open-seen : (us : List Token) → sees k.LParen (SignToken token.LParen ∷ us) ≡ true
  unfolding sees same_key key_of
  open-seen us = refl

  pub parenthesized-gives : {n : ℕ} {ts us : List Token} {x : Expr}
      → Gives (inner Whole) n ts x (SignToken token.RParen ∷ us)
      → Gives (parenthesized inner) n ts x us
  unfolding parenthesized
  parenthesized-gives {us = us} h = record {
    run = λ room left i.
        rw (h.run room left i, expect-some k.RParen (SignToken token.RParen ∷ us) left (close-seen us)) refl;
  }

  pub parenthesized-primary : {n : ℕ} {ts us : List Token} {x : Expr}
      → Gives (inner Whole) n ts x (SignToken token.RParen ∷ us)
      → Gives (primary inner) n (SignToken token.LParen ∷ ts) x us
  unfolding primary key_of
  parenthesized-primary h = record { run = λ room left i. (parenthesized-gives h).run room left i }

  pub sum-primary : {n : ℕ} {ts us : List Token} {x : Expr} → Gives (inner Whole) n ts x (SignToken token.RParen ∷ us)
      → Gives (primary inner) n (Word (codes "SUM") ∷ SignToken token.LParen ∷ ts) (e.Sum x) us
  unfolding primary sum_call key_of is_reserved
  sum-primary {ts = ts} h =
      record { run = λ room left i. rw (open-seen ts, (parenthesized-gives h).run room left i) refl }

  pub count-primary : {n : ℕ} {ts us : List Token} {x : Expr} → sees k.Star ts ≡ false
      → Gives (inner Whole) n ts x (SignToken token.RParen ∷ us)
      → Gives (primary inner) n (Word (codes "COUNT") ∷ SignToken token.LParen ∷ ts) (e.Count x) us
  unfolding primary count_call count_by key_of is_reserved
  count-primary {ts = ts} star h =
      record { run = λ room left i. rw (open-seen ts, star, (parenthesized-gives h).run room left i) refl }

  star-seen : (us : List Token) → sees k.Star (SignToken token.Star ∷ us) ≡ true
  unfolding sees same_key key_of
  star-seen us = refl

  pub rows-primary : {us : List Token} → ((s : State) → inner Rows s ≡ Some (e.CountRows, next s))
      → Gives (primary inner) 0 (Word (codes "COUNT") ∷ SignToken token.LParen ∷ SignToken token.Star
      ∷ SignToken token.RParen ∷ us) e.CountRows us
  unfolding primary count_call count_by key_of is_reserved
  rows-primary {us = us} h = record {
    run = λ room left i.
        let same : room ≡ left = omega (arith, i) in
        let rest : List Token = SignToken token.RParen ∷ us in
        rw (
          open-seen (SignToken token.Star ∷ rest),
          star-seen rest,
          h (at (SignToken token.Star ∷ rest) room),
          expect-some k.RParen rest room (close-seen us),
          same,
        ) refl;
  }

  -- ---- minus signs and NOT

  minus-seen : (us : List Token) → sees k.Minus (SignToken token.Minus ∷ us) ≡ true
  unfolding sees same_key key_of
  minus-seen us = refl

  pub negative-gives : {n : ℕ} {ts us : List Token} {x : Expr} → Gives (inner Unary) n ts x us
      → Gives (unary inner) (suc n) (SignToken token.Minus ∷ ts) (e.Neg x) us
  unfolding unary negative
  negative-gives {n = n} {ts = ts} h = record {
    run = λ room left i.
        rw (minus-seen ts, spend-some ts room (n + left) (omega (arith, i)), h.run (n + left) left refl) refl;
  }

  not-seen : (us : List Token) → sees k.Not (Word (codes "NOT") ∷ us) ≡ true
  unfolding sees same_key key_of is_reserved
  not-seen us = refl

  pub not-gives : {n : ℕ} {ts us : List Token} {x : Expr} → Gives (inner Negation) n ts x us
      → Gives (negation inner) (suc n) (Word (codes "NOT") ∷ ts) (e.Not x) us
  unfolding negation not_test
  not-gives {n = n} {ts = ts} h = record {
    run = λ room left i.
        rw (not-seen ts, spend-some ts room (n + left) (omega (arith, i)), h.run (n + left) left refl) refl;
  }

  -- ---- what begins neither

  refuses-minus : (ts : List Token) (room : ℕ) → key_of ts ≡ k.Minus → primary inner (at ts room) ≡ None
  unfolding primary
  refuses-minus ts room h = rw h refl

  refuses-not : (ts : List Token) (room : ℕ) → key_of ts ≡ k.Not → predicate inner (at ts room) ≡ None
  unfolding predicate sum product unary primary sees same_key
  refuses-not ts room h = rw h (rw h refl)

  refuses-star : (ts : List Token) (room : ℕ) → key_of ts ≡ k.Star → whole inner (at ts room) ≡ None
  unfolding whole conjunction negation predicate sum product unary primary sees same_key
  refuses-star ts room h = rw h (rw h (rw h refl))

  unseen : {A : Type 0} {r : Reader A} (key : TokenClass) {n : ℕ} {ts us : List Token} {x : A}
      → ((room : ℕ) → key_of ts ≡ key → r (at ts room) ≡ None) → Gives r n ts x us
      → sees key ts ≡ false
  unfolding sees same_key
  unseen {r = r} key {n = n} {ts = ts} f h = by (same_key (key_of ts) key) refl
    where
      by : (b : Bool) → same_key (key_of ts) key ≡ b → b ≡ false
      by false is = refl
      by true is = absurd (let none = f (n + 0) (same_true the_type (search rules) (key_of ts) key is) in
          let some = h.run (n + 0) 0 refl in let both = sym none ∙ some in cc)

  pub primary-unary : {n : ℕ} {ts us : List Token} {x : Expr} → Gives (primary inner) n ts x us
      → Gives (unary inner) n ts x us
  unfolding unary
  primary-unary {ts = ts} h =
      let other = unseen k.Minus (refuses-minus ts) h in
      record { run = λ room left i. rw other (h.run room left i) }

  pub test-negation : {n : ℕ} {ts us : List Token} {x : Expr} → Gives (predicate inner) n ts x us
      → Gives (negation inner) n ts x us
  unfolding negation
  test-negation {ts = ts} h =
      let other = unseen k.Not (refuses-not ts) h in
      record { run = λ room left i. rw other (h.run room left i) }

  pub whole-starless : {n : ℕ} {ts us : List Token} {x : Expr} → Gives (whole inner) n ts x us → sees k.Star ts ≡ false
  whole-starless {ts = ts} h = unseen k.Star (refuses-star ts) h

  -- ---- what may follow a sum

  no_test : (key : TokenClass) (x : Expr) (s : State) → key_binds key < 3 → test_by inner x key s ≡ Some (x, s)
  no_test k.Equal x s h = absurd (omega (arith, h))
  no_test k.Unequal x s h = absurd (omega (arith, h))
  no_test k.Less x s h = absurd (omega (arith, h))
  no_test k.AtMost x s h = absurd (omega (arith, h))
  no_test k.Greater x s h = absurd (omega (arith, h))
  no_test k.AtLeast x s h = absurd (omega (arith, h))
  no_test k.Is x s h = absurd (omega (arith, h))
  no_test k.In x s h = absurd (omega (arith, h))
  no_test k.Between x s h = absurd (omega (arith, h))
  no_test k.Not x s h = absurd (omega (arith, h))
  no_test _ x s h = refl

  pub sum-test : {n : ℕ} {ts us : List Token} {x : Expr} → Gives (sum inner) n ts x us → binds us < 3
      → Gives (predicate inner) n ts x us
  unfolding predicate
  sum-test {us = us} {x = x} h end = record {
    run = λ room left i.
        let low : key_binds (key_of us) < 3 = let b = binds_key us in omega (arith, end, b) in
        rw (h.run room left i, no_test (key_of us) x (at us left) low) refl;
  }

  compared-gives : {n : ℕ} {us vs : List Token} {y : Expr} {t : Token} (x : Expr) (comparison : Comparison)
      → Gives (sum inner) n us y vs
      → Gives (compared inner x comparison) (suc n) (t ∷ us) (e.Binary (o.Compare comparison) x y) vs
  unfolding compared
  compared-gives {n = n} {us = us} x comparison h = record {
    run = λ room left i.
        rw (spend-some us room (n + left) (omega (arith, i)), h.run (n + left) left refl) refl;
  }

  pub compared-test : {m n : ℕ} {ts us vs : List Token} {x y : Expr} {s : token.Sign} {comparison : Comparison}
      → IsComparison s comparison → Gives (sum inner) m ts x (SignToken s ∷ us) → Gives (sum inner) n us y vs
      → Gives (predicate inner) (suc (m + n)) ts (e.Binary (o.Compare comparison) x y) vs
  unfolding predicate key_of
  compared-test {n = n} {us = us} {vs = vs} {x = x} {y = y} is h l =
      record { run = λ room left i. rw (h.run room (suc n + left) (omega (arith, i))) (by is left) }
    where
      by : {s : token.Sign} {c : Comparison} → IsComparison s c → (left : ℕ)
          → test_by inner x (key_of (SignToken s ∷ us)) (at (SignToken s ∷ us) (suc n + left))
          ≡ Some (e.Binary (o.Compare c) x y, at vs left)
      by g.equal left = (compared-gives x _ l).run (suc n + left) left refl
      by g.unequal left = (compared-gives x _ l).run (suc n + left) left refl
      by g.less left = (compared-gives x _ l).run (suc n + left) left refl
      by g.at_most left = (compared-gives x _ l).run (suc n + left) left refl
      by g.greater left = (compared-gives x _ l).run (suc n + left) left refl
      by g.at_least left = (compared-gives x _ l).run (suc n + left) left refl

  null-seen : (us : List Token) → sees k.Null (Word (codes "NULL") ∷ us) ≡ true
  unfolding sees same_key key_of is_reserved
  null-seen us = refl

  not-null : (us : List Token) → sees k.Not (Word (codes "NULL") ∷ us) ≡ false
  unfolding sees same_key key_of is_reserved
  not-null us = refl

  null_test-gives : {us vs : List Token} {negated : Bool} {t : Token} (x : Expr)
      → IsNegation negated us (Word (codes "NULL") ∷ vs)
      → Gives (null_test inner x) 1 (t ∷ us) (e.IsNull negated x) vs
  unfolding null_test
  null_test-gives {vs = vs} x is = by is refl
    where
      by : {us ws : List Token} {negated : Bool} {t : Token} → IsNegation negated us ws → ws ≡ Word (codes "NULL") ∷ vs
          → Gives (null_test inner x) 1 (t ∷ us) (e.IsNull negated x) vs
      by (g.negated {us}) same = record {
        run = λ room left i.
            rw (
              not-seen us,
              same,
              expect-some k.Null (Word (codes "NULL") ∷ vs) room (null-seen vs),
              spend-some vs room left (omega (arith, i)),
            ) refl;
      }
      by g.plain same = record {
        run = λ room left i.
            rw (
              same,
              not-null vs,
              expect-some k.Null (Word (codes "NULL") ∷ vs) room (null-seen vs),
              spend-some vs room left (omega (arith, i)),
            ) refl;
      }

  pub null-test : {n : ℕ} {ts us vs : List Token} {x : Expr} {negated : Bool}
      → Gives (sum inner) n ts x (Word (codes "IS") ∷ us) → IsNegation negated us (Word (codes "NULL") ∷ vs)
      → Gives (predicate inner) (suc n) ts (e.IsNull negated x) vs
  unfolding predicate key_of is_reserved
  null-test {n = n} {x = x} h not = record {
    run = λ room left i.
        rw (h.run room (suc left) (omega (arith, i))) ((null_test-gives x not).run (suc left) left (omega arith));
  }

  -- ---- IN and BETWEEN

  in-behind : {vs ws : List Token} {n : ℕ} {y : Expr} (x : Expr)
      → Gives (among inner true x) n (Word (codes "IN") ∷ vs) y ws
      → Gives (negated_test inner x) n (Word (codes "NOT") ∷ Word (codes "IN") ∷ vs) y ws
  unfolding negated_test key_of is_reserved
  in-behind x h = record { run = λ room left i. h.run room left i }

  between-behind : {vs ws : List Token} {n : ℕ} {y : Expr} (x : Expr)
      → Gives (between inner true x) n (Word (codes "BETWEEN") ∷ vs) y ws
      → Gives (negated_test inner x) n (Word (codes "NOT") ∷ Word (codes "BETWEEN") ∷ vs) y ws
  unfolding negated_test key_of is_reserved
  between-behind x h = record { run = λ room left i. h.run room left i }

  behind-sum : {m n : ℕ} {ts us vs : List Token} {x y : Expr} → Gives (sum inner) m ts x us
      → Gives (test_by inner x (key_of us)) n us y vs
      → Gives (predicate inner) (m + n) ts y vs
  unfolding predicate
  behind-sum {n = n} h l =
      record { run = λ room left i. rw (h.run room (n + left) (omega (arith, i))) (l.run (n + left) left refl) }

  -- at IN and BETWEEN, with or without NOT before it
  negation-tests : {w : List ℕ} (t : Bool → Expr → Reader Expr) {us vs ws : List Token}
      {n : ℕ} {y : Expr} {negated : Bool} (x : Expr)
      → (Gives (t true x) n (Word w ∷ vs) y ws
      → Gives (negated_test inner x) n (Word (codes "NOT") ∷ Word w ∷ vs) y ws)
      → (Gives (t false x) n (Word w ∷ vs) y ws → Gives (test_by inner x (key_of (Word w ∷ vs))) n (Word w ∷ vs) y ws)
      → IsNegation negated us (Word w ∷ vs) → Gives (t negated x) n (Word w ∷ vs) y ws
      → Gives (test_by inner x (key_of us)) n us y ws
  unfolding key_of is_reserved
  negation-tests {w} t {vs = vs} {ws} {n} {y} x behind front not h = by not refl h
    where
      by : {us rs : List Token} {negated : Bool} → IsNegation negated us rs → rs ≡ Word w ∷ vs
          → Gives (t negated x) n (Word w ∷ vs) y ws
          → Gives (test_by inner x (key_of us)) n us y ws
      by (g.negated {us}) same h =
          subst (λ (rs : List Token). Gives (negated_test inner x) n (Word (codes "NOT") ∷ rs) y ws)
          (sym same) (behind h)
      by (g.plain {us}) same h =
          subst (λ (rs : List Token). Gives (test_by inner x (key_of rs)) n rs y ws) (sym same) (front h)

  in-tests : {us vs ws : List Token} {n : ℕ} {y : Expr} {negated : Bool} (x : Expr)
      → IsNegation negated us (Word (codes "IN") ∷ vs) → Gives (among inner negated x) n (Word (codes "IN") ∷ vs) y ws
      → Gives (test_by inner x (key_of us)) n us y ws
  unfolding key_of is_reserved
  in-tests x not h = negation-tests (among inner) x (in-behind x) (λ h. h) not h

  between-tests : {us vs ws : List Token} {n : ℕ} {y : Expr} {negated : Bool} (x : Expr)
      → IsNegation negated us (Word (codes "BETWEEN") ∷ vs)
      → Gives (between inner negated x) n (Word (codes "BETWEEN") ∷ vs) y ws
      → Gives (test_by inner x (key_of us)) n us y ws
  unfolding key_of is_reserved
  between-tests x not h = negation-tests (between inner) x (between-behind x) (λ h. h) not h

  -- items behind those so far
  pub record GivesItems (n : ℕ) (ts : List Token) (xs : List Expr) (us : List Token) : Type 0 where
    pub run : (fuel : ℕ) (found : List Expr) (room left : ℕ) → room ≡ n + left → room ≤ fuel
        → items_from inner fuel found (at ts room) ≡ Some (found ++ xs, at us left)

  comma-seen : (us : List Token) → sees k.Comma (SignToken token.Comma ∷ us) ≡ true
  unfolding sees same_key key_of
  comma-seen us = refl

  comma-none : (us : List Token) → sees k.Comma (SignToken token.RParen ∷ us) ≡ false
  unfolding sees same_key key_of
  comma-none us = refl

  pub last-item : {n : ℕ} {ts us : List Token} {x : Expr} → Gives (inner Whole) n ts x us → sees k.Comma us ≡ false
      → GivesItems (suc n) ts (x ∷ []) us
  unfolding items_from
  last-item {n} {ts} {us} {x} h end = record { run = by }
    where
      by : (fuel : ℕ) (found : List Expr) (room left : ℕ) → room ≡ suc n + left → room ≤ fuel
          → items_from inner fuel found (at ts room) ≡ Some (found ++ x ∷ [], at us left)
      by zero found room left i few = absurd (omega (arith, i, few))
      by (suc fuel) found room left i few =
          rw (spend-some ts room (n + left) (omega (arith, i)), h.run (n + left) left refl, end) refl

  pub more-items : {m n : ℕ} {ts us vs : List Token} {x : Expr} {xs : List Expr}
      → Gives (inner Whole) m ts x (SignToken token.Comma ∷ us) → GivesItems n us xs vs
      → GivesItems (suc (m + n)) ts (x ∷ xs) vs
  unfolding items_from
  more-items {m} {n} {ts} {us} {vs} {x} {xs} h l = record { run = by }
    where
      by : (fuel : ℕ) (found : List Expr) (room left : ℕ) → room ≡ suc (m + n) + left → room ≤ fuel
          → items_from inner fuel found (at ts room) ≡ Some (found ++ x ∷ xs, at vs left)
      by zero found room left i few = absurd (omega (arith, i, few))
      by (suc fuel) found room left i few =
          rw (
            spend-some ts room (m + (n + left)) (omega (arith, i)),
            h.run (m + (n + left)) (n + left) refl,
            comma-seen us,
          )
          (l.run fuel (found ++ x ∷ []) (n + left) left refl (omega (arith, i, few))
          ∙ ap (λ (ys : List Expr). Some (ys, at vs left)) (append_assoc found (x ∷ []) xs))

  among-gives : {n : ℕ} {vs ws : List Token} {ys : List Expr} (negated : Bool) (x : Expr)
      → GivesItems n vs ys (SignToken token.RParen ∷ ws)
      → Gives (among inner negated x) (suc n) (Word (codes "IN") ∷ SignToken token.LParen ∷ vs) (e.In negated x ys) ws
  unfolding among items
  among-gives {n = n} {vs = vs} {ws = ws} negated x h = record {
    run = λ room left i.
        rw (
          expect-some k.LParen (SignToken token.LParen ∷ vs) room (open-seen vs),
          spend-some vs room (n + left) (omega (arith, i)),
          h.run (n + left) [] (n + left) left refl (omega arith),
          expect-some k.RParen (SignToken token.RParen ∷ ws) left (close-seen ws),
        ) refl;
  }

  pub among-test : {m n : ℕ} {ts us vs ws : List Token} {x : Expr} {ys : List Expr} {negated : Bool}
      → Gives (sum inner) m ts x us → IsNegation negated us (Word (codes "IN") ∷ SignToken token.LParen ∷ vs)
      → GivesItems n vs ys (SignToken token.RParen ∷ ws)
      → Gives (predicate inner) (m + suc n) ts (e.In negated x ys) ws
  among-test h not items = behind-sum h (in-tests _ not (among-gives _ _ items))

  and-seen : (us : List Token) → sees k.And (Word (codes "AND") ∷ us) ≡ true
  unfolding sees same_key key_of is_reserved
  and-seen us = refl

  between-gives : {m n : ℕ} {vs ws rs : List Token} {y z : Expr} (negated : Bool) (x : Expr)
      → Gives (sum inner) m vs y (Word (codes "AND") ∷ ws) → Gives (sum inner) n ws z rs
      → Gives (between inner negated x) (suc (m + n)) (Word (codes "BETWEEN") ∷ vs) (e.Between negated x y z) rs
  unfolding between
  between-gives {m = m} {n = n} {vs = vs} {ws = ws} negated x h l = record {
    run = λ room left i.
        rw (
          spend-some vs room (m + (n + left)) (omega (arith, i)),
          h.run (m + (n + left)) (n + left) refl,
          expect-some k.And (Word (codes "AND") ∷ ws) (n + left) (and-seen ws),
          l.run (n + left) left refl,
        ) refl;
  }

  pub between-test : {l m n : ℕ} {ts us vs ws rs : List Token} {x y z : Expr} {negated : Bool}
      → Gives (sum inner) l ts x us → IsNegation negated us (Word (codes "BETWEEN") ∷ vs)
      → Gives (sum inner) m vs y (Word (codes "AND") ∷ ws) → Gives (sum inner) n ws z rs
      → Gives (predicate inner) (l + suc (m + n)) ts (e.Between negated x y z) rs
  between-test h not one two = behind-sum h (between-tests _ not (between-gives _ _ one two))

-- ---- operators of one level

-- the turns have come to x with room left
pub record Comes (level : ℕ) (item r : Reader Expr) (n : ℕ) (ts : List Token)
    (x : Expr) (us : List Token) : Type 0 where
  pub run : (room left : ℕ) → room ≡ n + left
      → chains.Comes (links level item) (r (at ts room)) left x (at us left)

pub comes-first : {level : ℕ} {item : Reader Expr} {n : ℕ} {ts us : List Token} {x : Expr} → Gives item n ts x us
    → Comes level item (chain level item) n ts x us
comes-first {level} {item} h =
    record { run = λ room left i. chains.comes-first (links level item) (λ s. s.room) (h.run room left i) }

operator-reads : (level room : ℕ) (op : Operator) (t : Token) (us : List Token)
    → joins level (key_of (t ∷ us)) ≡ Some op
    → read_operator level (at (t ∷ us) (suc room)) ≡ Some (Some op, at us room)
unfolding read_operator
operator-reads level room op t us joined = rw (joined, spend-some us (suc room) room refl) refl

pub comes-next : {level : ℕ} {item r : Reader Expr} {m n : ℕ} {ts us vs : List Token}
    {x y : Expr} (op : Operator) (t : Token)
    → ((us : List Token) → joins level (key_of (t ∷ us)) ≡ Some op) → Comes level item r m ts x (t ∷ us)
    → Gives item n us y vs
    → Comes level item r (suc (m + n)) ts (e.Binary op x y) vs
comes-next {level} {m = m} {n} {us = us} op t joined h l = record {
  run = λ room left i.
      chains.comes-next (h.run room (suc (n + left)) (omega (arith, i)))
      (operator-reads level (n + left) op t us (joined us)) (l.run (n + left) left refl) (omega arith);
}

operator-none : (level left : ℕ) (us : List Token) → binds us < level
    → read_operator level (at us left) ≡ Some (None, at us left)
unfolding read_operator
operator-none level left us end = rw (joins-none level us end) refl

pub comes-ends : {level : ℕ} {item r : Reader Expr} {n : ℕ} {ts us : List Token} {x : Expr}
    → Comes level item r n ts x us → binds us < level → Gives r n ts x us
comes-ends {level} {us = us} h end =
    record { run = λ room left i. chains.comes-ends (h.run room left i) (operator-none level left us end) }
