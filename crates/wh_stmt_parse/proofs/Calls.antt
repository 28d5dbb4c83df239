-- No query begins with `SELECT SYSTEM$STREAM_HAS_DATA (`: an expression takes the word for a column, and nothing goes
-- on with a parenthesis behind it.
use Rattle.std.proofs.Common.{◌≡◌, ℕ, Bool, true, false, List, [], ◌∷◌, refl, sym, ap, ◌∙◌}
use Rattle.std.specs.Prelude.{codes, bytes_eq}
use Rattle.std.proofs.lemmas.Bool.{and_parts}
use Rattle.wh_ast.specs.declared.expr.Expr.{Expr}
use Rattle.wh_ast.specs.declared.query.Item.{Item}
use Rattle.wh_ast.specs.declared.query.Query.{Query}
use Rattle.wh_ast.specs.declared.query.Core.{Core}
use Rattle.wh_grammar.specs.Token as token
use Rattle.wh_grammar.specs.Token.{Token, Word, SignToken}
use Rattle.wh_grammar.specs.Name.{IsName, word, quoted}
use Rattle.wh_grammar.specs.Expression as g
use Rattle.wh_grammar.specs.Expression.{IsWhole, IsAnd, IsNot, IsTest, IsSum, IsProduct, IsUnary, IsPrim, IsNegation}
use Rattle.wh_grammar.specs.Query as q
use Rattle.wh_grammar.specs.Query.{IsAlias, IsItem, AreItems, IsCore, AreCores, IsQuery}
use Rattle.wh_cursor.specs.declared.key.TokenClass.TheVariants as k
use Rattle.wh_cursor.specs.Steps.{tail}
use Rattle.wh_cursor.proofs.Combine.{sees_word_some, sees_key_some}
use Rattle.wh_stmt_parse.specs.Plain.{asks}

abbrev has_data : List ℕ
has_data = codes "SYSTEM$STREAM_HAS_DATA"

-- the word and a parenthesis
record IsCall (ts : List Token) : Type 0 where
  is : ts ≡ Word has_data ∷ SignToken token.LParen ∷ tail (tail ts)

-- what the token at the front is, as far as it matters here
abbrev word_in : List Token → List ℕ
word_in (Word w ∷ us) = w
word_in _ = []

other : {w : List ℕ} {ts : List Token} → IsCall (Word w ∷ ts) → bytes_eq w has_data ≡ false → ⊥
other {w} {ts} c not = let same : bytes_eq w has_data
    ≡ true = ap (λ (us : List Token). bytes_eq (word_in us) has_data) c.is in let k = sym same ∙ not in cc

sign_no_call : {s : token.Sign} {ts : List Token} → IsCall (SignToken s ∷ ts) → ⊥
sign_no_call c = let e = c.is in cc

-- a name is the word alone, and the parenthesis is left
name-left : {ts us : List Token} {name : List ℕ} → IsName ts name us → us ≡ tail ts
name-left (word r c) = refl
name-left quoted = refl

-- what is left doesn't begin with a token but the parenthesis
not_open : {ts : List Token} {t : Token} {us : List Token} → IsCall ts → t ∷ us ≡ tail ts
    → (t ≡ SignToken token.LParen → ⊥)
    → ⊥
not_open {ts} {t} {us} c e never = let same : t ∷ us ≡ SignToken token.LParen ∷ tail (tail ts) = e
    ∙ ap tail c.is in never (first_is same)
  where
    first_is : {u : Token} {vs : List Token} → t ∷ us ≡ u ∷ vs → t ≡ u
    first_is e = cc

word_left : {ts : List Token} {w : List ℕ} {us : List Token} → IsCall ts → Word w ∷ us ≡ tail ts → ⊥
word_left c e = not_open c e (λ h. cc)

sign_left : {ts : List Token} {s : token.Sign} {us : List Token} → IsCall ts → SignToken s ∷ us ≡ tail ts
    → (s ≡ token.LParen → ⊥) → ⊥
sign_left c e never = not_open c e (λ h. never (same_sign h))
  where
    same_sign : {s r : token.Sign} → SignToken s ≡ SignToken r → s ≡ r
    same_sign h = cc

negation_left : {ts us vs : List Token} {w : List ℕ} {negated : Bool} → IsCall ts → us ≡ tail ts
    → IsNegation negated us (Word w ∷ vs)
    → ⊥
negation_left c e g.negated = word_left c e
negation_left c e g.plain = word_left c e

compared_left : {ts us : List Token} {s : token.Sign} {comparison : _} → IsCall ts → g.IsComparison s comparison
    → SignToken s ∷ us ≡ tail ts → ⊥
compared_left c g.equal e = sign_left c e (λ h. cc)
compared_left c g.unequal e = sign_left c e (λ h. cc)
compared_left c g.less e = sign_left c e (λ h. cc)
compared_left c g.at_most e = sign_left c e (λ h. cc)
compared_left c g.greater e = sign_left c e (λ h. cc)
compared_left c g.at_least e = sign_left c e (λ h. cc)

prim-left : {d n : ℕ} {ts us : List Token} {x : Expr} → IsPrim d n ts x us → IsCall ts → us ≡ tail ts
prim-left g.number c = refl
prim-left g.text c = refl
prim-left g.true_word c = refl
prim-left g.false_word c = refl
prim-left g.null_word c = refl
prim-left (g.column n) c = name-left n
prim-left (g.column_of entry n) c = absurd (sign_left c (name-left entry) (λ h. cc))
prim-left (g.parenthesized h) c = absurd (sign_no_call c)
prim-left (g.sum h) c = absurd (other c refl)
prim-left g.count_rows c = absurd (other c refl)
prim-left (g.count h) c = absurd (other c refl)

unary-left : {d n : ℕ} {ts us : List Token} {x : Expr} → IsUnary d n ts x us → IsCall ts → us ≡ tail ts
unary-left (g.one_prim a) c = prim-left a c
unary-left (g.negative a) c = absurd (sign_no_call c)

product-left : {d n : ℕ} {ts us : List Token} {x : Expr} → IsProduct d n ts x us → IsCall ts → us ≡ tail ts
product-left (g.one_unary a) c = unary-left a c
product-left (g.times l r) c = absurd (sign_left c (product-left l c) (λ h. cc))

sum-left : {d n : ℕ} {ts us : List Token} {x : Expr} → IsSum d n ts x us → IsCall ts → us ≡ tail ts
sum-left (g.one_product a) c = product-left a c
sum-left (g.plus l r) c = absurd (sign_left c (sum-left l c) (λ h. cc))
sum-left (g.minus l r) c = absurd (sign_left c (sum-left l c) (λ h. cc))

test-left : {d n : ℕ} {ts us : List Token} {x : Expr} → IsTest d n ts x us → IsCall ts → us ≡ tail ts
test-left (g.one_sum a) c = sum-left a c
test-left (g.compared is l r) c = absurd (compared_left c is (sum-left l c))
test-left (g.is_null a not) c = absurd (word_left c (sum-left a c))
test-left (g.among a not items) c = absurd (negation_left c (sum-left a c) not)
test-left (g.between a not l r) c = absurd (negation_left c (sum-left a c) not)

not-left : {d n : ℕ} {ts us : List Token} {x : Expr} → IsNot d n ts x us → IsCall ts → us ≡ tail ts
not-left (g.one_test a) c = test-left a c
not-left (g.not a) c = absurd (other c refl)

and-left : {d n : ℕ} {ts us : List Token} {x : Expr} → IsAnd d n ts x us → IsCall ts → us ≡ tail ts
and-left (g.one_not a) c = not-left a c
and-left (g.and l r) c = absurd (word_left c (and-left l c))

whole-left : {d n : ℕ} {ts us : List Token} {x : Expr} → IsWhole d n ts x us → IsCall ts → us ≡ tail ts
whole-left (g.one_and a) c = and-left a c
whole-left (g.or l r) c = absurd (word_left c (whole-left l c))

-- ---- what stands in a query

alias-left : {ts us : List Token} {name : List ℕ} → IsAlias ts name us → (rest : List Token)
    → ts ≡ SignToken token.LParen ∷ rest
    → ⊥
alias-left (q.bare (word r c)) rest e = cc
alias-left (q.bare quoted) rest e = cc
alias-left (q.with_as n) rest e = cc

item-left : {d : ℕ} {ts us : List Token} {x : Item} → IsItem d ts x us → IsCall ts
    → us ≡ SignToken token.LParen ∷ tail (tail ts)
item-left q.star c = absurd (sign_no_call c)
item-left (q.star_of n) c = absurd (sign_left c (name-left n) (λ h. cc))
item-left (q.shown x q.no_alias) c = whole-left x.whole c ∙ ap tail c.is
item-left {ts = ts} (q.shown x (q.an_alias a)) c =
    absurd (alias-left a (tail (tail ts)) (whole-left x.whole c ∙ ap tail c.is))

items-left : {d : ℕ} {ts us : List Token} {w : List ℕ} {xs : List Item} → AreItems d ts xs (Word w ∷ us) → IsCall ts → ⊥
items-left (q.last_item x) c = let e = item-left x c in cc
items-left (q.more_items x more) c = let e = item-left x c in cc

core-calls : {d : ℕ} {ts us : List Token} {x : Core} → IsCore d ts x us → IsCall (tail ts) → ⊥
core-calls (q.core few items source joins _ _) c = items-left items c

cores-call : {d : ℕ} {ts us : List Token} {xs : List Core} → AreCores d ts xs us → IsCall (tail ts) → ⊥
cores-call (q.last_core x) c = core-calls x c
cores-call (q.more_cores x more) c = core-calls x c

query-calls : {d : ℕ} {ts us : List Token} {x : Query} → IsQuery d ts x us → IsCall (tail ts) → ⊥
query-calls (q.query few cores) c = cores-call cores c

pub query-asks : {d : ℕ} {ts us : List Token} {x : Query} → IsQuery d ts x us → asks ts ≡ false
query-asks {ts = ts} h = by (asks ts) refl
  where
    by : (b : Bool) → asks ts ≡ b → b ≡ false
    by false e = refl
    by true e =
        let both = and_parts _ _ e in
        absurd (query-calls h (record {
          is = sees_word_some has_data (tail ts) both.0 ∙ ap (λ (us : List Token). Word
              has_data ∷ us) (sees_key_some k.LParen (SignToken token.LParen) (tail (tail ts)) refl both.1);
        }))

-- a query begins with SELECT
core-begins : {d : ℕ} {ts us : List Token} {x : Core} → IsCore d ts x us → ts ≡ Word (codes "SELECT") ∷ tail ts
core-begins (q.core few items source joins _ _) = refl

cores-begin : {d : ℕ} {ts us : List Token} {xs : List Core} → AreCores d ts xs us → ts ≡ Word (codes "SELECT") ∷ tail ts
cores-begin (q.last_core x) = core-begins x
cores-begin (q.more_cores x more) = core-begins x

pub query-begins : {d : ℕ} {ts us : List Token} {x : Query} → IsQuery d ts x us → ts ≡ Word (codes "SELECT") ∷ tail ts
query-begins (q.query few cores) = cores-begin cores
