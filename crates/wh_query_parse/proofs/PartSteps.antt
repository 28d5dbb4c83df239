-- What stands there for aliases, conditions, groups and items is read.
use Rattle.std.proofs.Common.{◌≡◌, ℕ, ◌==◌, Bool, true, false, not, ◌&&◌, List, [], ◌∷◌, Option, Some, refl, sym, ap}
use Rattle.std.proofs.Common.{◌∙◌, subst, arith}
use Rattle.std.specs.Prelude.{codes}
use Rattle.std.proofs.lemmas.Bool.{and_parts}
use Rattle.std.proofs.lemmas.Bool.Decides.{Decides-eqb}
use Rattle.wh_ast.specs.declared.expr.Expr.{Expr}
use Rattle.wh_ast.specs.declared.query.Item.{Item}
use Rattle.wh_grammar.specs.Words.{is_reserved}
use Rattle.wh_grammar.specs.Token as token
use Rattle.wh_grammar.specs.Token.{Token, Word, SignToken}
use Rattle.wh_grammar.specs.Name.{IsName, word, quoted}
use Rattle.wh_grammar.specs.Expression.{IsExpr}
use Rattle.wh_cursor.specs.Binds.{binds}
use Rattle.wh_grammar.specs.Query as g
use Rattle.wh_grammar.specs.Query.{IsAlias, MayHaveAlias, IsItem, AreItems, MayHaveFilter, MayHaveGroup}
use Rattle.wh_cursor.specs.declared.key.TokenClass.TheVariants as k
use Rattle.wh_cursor.specs.Keys.{same_key, key_of}
use Rattle.wh_cursor.specs.Steps.{tail, sees, sees_word}
use Rattle.wh_cursor.proofs.KeyLemmas.{heads, unreserved}
use Rattle.wh_cursor.proofs.Combine.{sees_word_is, expect_word_reads, name_reads}
use Rattle.wh_cursor.proofs.ListLemmas.{GivesListed, listed-last, listed-more, listed-reads}
use Rattle.wh_query_parse.specs.Follow.{ends_alias, ends_filter}
use Rattle.wh_query_parse.specs.Read.{provided, read_named, some_alias, read_alias, read_filter, read_group, names_all}
use Rattle.wh_query_parse.specs.Read.{read_all_of, read_shown, read_item, read_items}
use Rattle.wh_query_parse.proofs.Seen.{name_binds}
use Rattle.wh_query_parse.proofs.Openings.{Opens, name-opens, whole-opens, whole-ahead}
use Rattle.wh_expr_parse.proofs.ExprSteps.{expr_reads, exprs_read}
use Rattle.wh_query_parse.proofs.Fronts.{item-front}
use Rattle.wh_query_parse.proofs.Ends.{CoreEnd, no-comma, no-group, core-binds, ItemEnd, comma, from, item-ends}
use Rattle.wh_query_parse.proofs.Ends.{item-binds, from-comma}

pub provided-holds : (holds : List Token → Bool) (us : List Token) → holds us ≡ true → provided holds us ≡ Some (tt, us)
unfolding provided
provided-holds holds us e = rw (e) refl

-- ---- aliases

as-none : {ts us : List Token} {name : List ℕ} → IsName ts name us → sees_word (codes "AS") ts ≡ false
unfolding sees_word is_reserved
as-none (word {w = w} r c) = unreserved w (codes "AS") refl r
as-none quoted = refl

pub named-complete : {ts us : List Token} {name : List ℕ} → IsAlias ts name us → read_named ts ≡ Some (name, us)
unfolding read_named
named-complete (g.bare h) = rw (as-none h) (name_reads h)
named-complete (g.with_as {ts = ts} h) = rw (sees_word_is (codes "AS") ts) (name_reads h)

alias-begins : {ts us : List Token} {name : List ℕ} → IsAlias ts name us → ends_alias ts ≡ false
unfolding is_reserved
alias-begins (g.bare (word r c)) = rw (r) refl
alias-begins (g.bare quoted) = refl
alias-begins (g.with_as h) = refl

pub alias-complete : {ts us : List Token} {x : Option (List ℕ)} → MayHaveAlias ts x us → ends_alias us ≡ true
    → read_alias ts ≡ Some (x, us)
unfolding read_alias some_alias
alias-complete g.no_alias e = rw (e) refl
alias-complete (g.an_alias {us = us} h) e = rw (alias-begins h, named-complete h, provided-holds ends_alias us e) refl

-- behind an expression
alias-binds : {ts us : List Token} {name : List ℕ} → IsAlias ts name us → binds ts ≡ 0
alias-binds (g.bare (word {w = w} {us = us} r c)) = name_binds w us r
alias-binds (g.bare quoted) = refl
alias-binds (g.with_as h) = refl

optional-binds : {ts us : List Token} {x : Option (List ℕ)} → MayHaveAlias ts x us → binds us ≡ 0 → binds ts ≡ 0
optional-binds g.no_alias e = e
optional-binds (g.an_alias h) e = alias-binds h

-- ---- conditions

not-true : (b : Bool) → not b ≡ true → b ≡ false
not-true true e = sym e
not-true false e = refl

filter-parts : (us : List Token) → ends_filter us ≡ true → (binds us ≡ 0) × (sees_word (codes "WHERE") us ≡ false)
filter-parts us e =
    let both = and_parts (binds us == 0) (not (sees_word (codes "WHERE") us)) e in
    ((Decides-eqb (binds us) 0).0 both.0, not-true (sees_word (codes "WHERE") us) both.1)

pub filter-complete : {d : ℕ} {ts us : List Token} {x : Option Expr} → MayHaveFilter d ts x us → ends_filter us ≡ true
    → read_filter d ts ≡ Some (x, us)
unfolding read_filter
filter-complete (g.no_filter {ts = ts}) e = rw ((filter-parts ts e).1, provided-holds ends_filter ts e) refl
filter-complete (g.a_filter {ts = ts} {us = us} h) e =
    rw (sees_word_is (codes "WHERE") ts, expr_reads h (filter-parts us e).0, provided-holds ends_filter us e) refl

-- ---- groups

pub group-complete : {d : ℕ} {ts us : List Token} {xs : List Expr} → MayHaveGroup d ts xs us → CoreEnd us
    → read_group d ts ≡ Some (xs, us)
unfolding read_group
group-complete g.no_group end = rw (no-group end) refl
group-complete (g.a_group {ts = ts} h) end =
    rw (sees_word_is (codes "GROUP") (Word (codes "BY") ∷ ts), expect_word_reads (codes "BY") ts)
    (exprs_read h (core-binds end) (no-comma end))

-- ---- items

no-star : (ts : List Token) → Opens ts → sees k.Star ts ≡ false
no-star ts o = by (sees k.Star ts) refl
  where
    by : (r : Bool) → sees k.Star ts ≡ r → r ≡ false
    by false e = refl
    by true e = absurd (subst Opens (heads k.Star ts e) o)

has-first : (ts more : List Token) (t : Token) → tail ts ≡ t ∷ more → (u : Token) × (ts ≡ u ∷ tail ts)
has-first [] more t e = absurd (cc)
has-first (u ∷ ts) more t e = (u, refl)

no-all : {d : ℕ} (ts us : List Token) (x : Expr) → IsExpr d ts x us → binds us ≡ 0 → names_all ts ≡ false
no-all ts us x h e = by (names_all ts) refl
  where
    by : (r : Bool) → names_all ts ≡ r → r ≡ false
    by false f = refl
    by true f =
        let both = and_parts (sees k.Dot (tail ts)) (sees k.Star (tail (tail ts))) f in
        let front : tail ts ≡ SignToken token.Dot ∷ SignToken token.Star ∷ tail (tail (tail ts)) = heads k.Dot (tail ts)
        both.0 ∙ ap (λ (l : List Token). SignToken token.Dot ∷ l) (heads k.Star (tail (tail ts)) both.1) in
        let first = has-first ts (tail (tail ts)) (SignToken token.Dot) (heads k.Dot (tail ts) both.0) in
        let us-is = whole-ahead h.whole first.0 (tail (tail (tail ts)))
        (first.1 ∙ ap (λ (l : List Token). first.0 ∷ l) front) in
        let six : 0 ≡ 6 = sym e ∙ ap (λ (l : List Token). binds l) us-is in
        absurd (omega (arith, six))

name-tail : {ts us : List Token} {name : List ℕ} → IsName ts name us → tail ts ≡ us
name-tail (word r c) = refl
name-tail quoted = refl

all-seen : (us : List Token)
    → (sees k.Dot (SignToken token.Dot ∷ SignToken token.Star ∷ us) && sees k.Star (SignToken token.Star ∷ us)) ≡ true
unfolding sees same_key key_of
all-seen us = refl

star-seen : (us : List Token) → sees k.Star (SignToken token.Star ∷ us) ≡ true
unfolding sees same_key key_of
star-seen us = refl

names-all : (ts us : List Token) (name : List ℕ) → IsName ts name (SignToken token.Dot ∷ SignToken token.Star ∷ us)
    → names_all ts ≡ true
names-all ts us name h =
    subst (λ (l : List Token). (sees k.Dot l && sees k.Star (tail l)) ≡ true) (sym (name-tail h)) (all-seen us)

item-complete : {d : ℕ} {ts us : List Token} {x : Item} → IsItem d ts x us → ItemEnd us → read_item d ts ≡ Some (x, us)
unfolding read_item read_all_of read_shown
item-complete (g.star {us = us}) end = rw (star-seen us) refl
item-complete (g.star_of {ts = ts} {us = us} {name = name} h) end =
    rw (no-star ts (name-opens h), names-all ts us name h, name_reads h) refl
item-complete (g.shown {ts = ts} {us = us} {x = x} h alias) end =
    rw (
      no-star ts (whole-opens h.whole),
      no-all ts us x h (optional-binds alias (item-binds end)),
      expr_reads h (optional-binds alias (item-binds end)),
      alias-complete alias (item-ends end),
    ) refl

items-listed : {d : ℕ} {ts us : List Token} {xs : List Item} → AreItems d ts xs (Word (codes "FROM") ∷ us)
    → GivesListed (read_item d) ts xs (Word (codes "FROM") ∷ us)
items-listed {us = us} (g.last_item h) = listed-last (item-complete h from) (item-front h) (from-comma us)
items-listed (g.more_items h more) = listed-more (item-complete h comma) (item-front h) (items-listed more)

pub items-complete : {d : ℕ} {ts us : List Token} {xs : List Item} → AreItems d ts xs (Word (codes "FROM") ∷ us)
    → read_items d ts ≡ Some (xs, Word (codes "FROM") ∷ us)
unfolding read_items
items-complete h = listed-reads (items-listed h)
