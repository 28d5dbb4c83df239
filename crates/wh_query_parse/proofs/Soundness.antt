-- What is read is what the rules say.
use Rattle.std.proofs.Common.{◌≡◌, ℕ, zero, suc, ◌≤◌, true, if◌then◌else◌, List, [], ◌∷◌, ◌++◌, length, Some, None}
use Rattle.std.proofs.Common.{refl, sym, ap, ◌∙◌, subst, append_assoc, arith, Bool, false}
use Rattle.std.specs.Prelude.{codes}
use Rattle.std.proofs.lemmas.Bool.{and_parts}
use Rattle.std.proofs.lemmas.List.{append-nil}
use Rattle.wh_ast.specs.declared.expr.Expr.{Expr}
use Rattle.wh_ast.specs.declared.query.Query.{Query, roll-Query}
use Rattle.wh_ast.specs.declared.query.Core.{Core, roll-Core}
use Rattle.wh_ast.specs.declared.query.Join.{Join, roll-Join}
use Rattle.wh_ast.specs.declared.query.Item.TheVariants as i
use Rattle.wh_ast.specs.declared.query.FromItem.{FromItem}
use Rattle.wh_ast.specs.declared.query.FromItem.TheVariants as s
use Rattle.wh_grammar.specs.Token as token
use Rattle.wh_grammar.specs.Token.{Token, Word, SignToken}
use Rattle.wh_grammar.specs.Name.{IsName, word, quoted}
use Rattle.wh_grammar.specs.Expression.{IsExpr}
use Rattle.wh_grammar.specs.Query as g
use Rattle.wh_grammar.specs.Query.{IsAlias, IsItem, AreItems, MayHaveFilter, MayHaveGroup, IsJoinWord, IsQuery}
use Rattle.wh_grammar.specs.Query.{AreCores, IsCore, IsSource, AreJoins}
use Rattle.wh_cursor.specs.declared.key.TokenClass.TheVariants as k
use Rattle.wh_cursor.specs.Steps.{tail, sees, Reader, ◌>>◌, pure, and_then, expect_word, read_name}
use Rattle.wh_cursor.proofs.KeyLemmas.{heads}
use Rattle.wh_query_parse.specs.Follow.{ends_query, ends_alias, ends_filter, IsQueryAt}
use Rattle.wh_query_parse.specs.Follow.{IsSourceAt, IsAliasAt, IsFilterAt}
use Rattle.wh_query_parse.specs.Read.{provided, read_named, some_alias, read_alias, filter_by, read_filter, group_by}
use Rattle.wh_query_parse.specs.Read.{read_group, names_all, read_all_of, read_shown, read_item, read_items, sees_join}
use Rattle.wh_query_parse.specs.Read.{read_named_source, read_subquery, source_of, read_joined, read_join, joins_from}
use Rattle.wh_query_parse.specs.Read.{read_core, cores_from, query_of, nested, read_source, read_query}
use Rattle.wh_cursor.proofs.Yields.{Yields, yields, nothing, follow, mapped, if_test}
use Rattle.wh_cursor.proofs.Combine.{then_expect_word, then_expect_key, if_eaten_word, name-yields}
use Rattle.wh_cursor.proofs.ListLemmas.{listed-sound}
use Rattle.wh_expr_parse.proofs.ExprSteps.{expr-yields, exprs-yields}

-- ---- names, expressions and aliases

-- in front of the others, where that holds
then_provided : {B : Type 0} (holds : List Token → Bool) (ts : List Token)
    (f : Unit {0} → Reader B) {Q : B → List Token → Type 0}
    → (holds ts ≡ true → Yields (f tt ts) Q)
    → Yields (and_then (provided holds ts) f) Q
unfolding provided
then_provided holds ts f {Q = Q} k = by (holds ts) k
  where
    by : (r : Bool) → (r ≡ true → Yields (f tt ts) Q) → Yields (and_then (if r then Some (tt, ts) else None) f) Q
    by true k = record { is = (k refl).is }
    by false k = nothing

named-sound : (ts : List Token) → Yields (read_named ts) (IsAlias ts)
unfolding read_named
named-sound ts = if_eaten_word (codes "AS") ts (λ _. read_name)
    (λ first. mapped (name-yields (tail ts))
    (λ name us h. subst (λ (l : List Token). IsAlias l name us) (sym first) (g.with_as h)))
    (λ _. mapped (name-yields ts) (λ name us h. g.bare h))

some-sound : (ts : List Token) → Yields (some_alias ts) (IsAliasAt ts)
unfolding some_alias
some-sound ts = follow (named-sound ts) (λ name us h.
    then_provided ends_alias us _ (λ e. yields (Some name) us (record { alias = g.an_alias h; ends = e })))

pub alias-sound : (ts : List Token) → Yields (read_alias ts) (IsAliasAt ts)
unfolding read_alias
alias-sound ts =
    if_test (ends_alias ts) (λ e. yields None ts (record { alias = g.no_alias; ends = e })) (λ _. some-sound ts)

-- ---- conditions

condition-sound : (d : ℕ) (ts : List Token) → ts ≡ Word (codes "WHERE") ∷ tail ts
    → Yields (filter_by d true (tail ts)) (MayHaveFilter d ts)
condition-sound d ts where_ = follow (expr-yields d (tail ts)) (λ x us h.
    yields (Some x) us (subst (λ (l : List Token). MayHaveFilter d l (Some x) us) (sym where_) (g.a_filter h.expr)))

pub filter-sound : (d : ℕ) (ts : List Token) → Yields (read_filter d ts) (IsFilterAt d ts)
unfolding read_filter
filter-sound d ts = if_eaten_word (codes "WHERE") ts
    (λ found us. and_then (filter_by d found us) (λ filter vs. and_then (provided ends_filter vs) (λ _. pure filter)))
    (λ where_. follow (condition-sound d ts where_)
    (λ x us h. then_provided ends_filter us _ (λ e. yields x us (record { filter = h; ends = e }))))
    (λ _. then_provided ends_filter ts _ (λ e. yields None ts (record { filter = g.no_filter; ends = e })))

-- ---- groups

grouped-sound : (d : ℕ) (ts : List Token) → ts ≡ Word (codes "GROUP") ∷ tail ts
    → Yields (group_by d true (tail ts)) (MayHaveGroup d ts)
grouped-sound d ts group =
    then_expect_word (codes "BY") (tail ts) _ (λ by. mapped (exprs-yields d (tail (tail ts))) (λ xs us h.
    subst (λ (l : List Token). MayHaveGroup d l xs us)
    (sym (group ∙ ap (λ (l : List Token). Word (codes "GROUP") ∷ l) by)) (g.a_group h)))

group-sound : (d : ℕ) (ts : List Token) → Yields (read_group d ts) (MayHaveGroup d ts)
unfolding read_group
group-sound d ts = if_eaten_word (codes "GROUP") ts (group_by d) (grouped-sound d ts) (λ _. yields [] ts g.no_group)

-- ---- items

name-tail : {ts us : List Token} {name : List ℕ} → IsName ts name us → tail ts ≡ us
name-tail (word r c) = refl
name-tail quoted = refl

all-of-sound : (d : ℕ) (ts : List Token) → names_all ts ≡ true → Yields (read_all_of ts) (IsItem d ts)
unfolding read_all_of
all-of-sound d ts all = follow (name-yields ts) (λ name us h.
    yields (i.StarOf name) (tail (tail us)) (g.star_of (subst (IsName ts name) (subst
    (λ (l : List Token). l ≡ SignToken token.Dot ∷ SignToken token.Star ∷ tail (tail l)) (name-tail h) front) h)))
  where
    both : (sees k.Dot (tail ts) ≡ true) × (sees k.Star (tail (tail ts)) ≡ true)
    both = and_parts (sees k.Dot (tail ts)) (sees k.Star (tail (tail ts))) all

    front : tail ts ≡ SignToken token.Dot ∷ SignToken token.Star ∷ tail (tail (tail ts))
    front = heads k.Dot (tail ts) both.0
        ∙ ap (λ (l : List Token). SignToken token.Dot ∷ l) (heads k.Star (tail (tail ts)) both.1)

shown-sound : (d : ℕ) (ts : List Token) → Yields (read_shown d ts) (IsItem d ts)
unfolding read_shown
shown-sound d ts = follow (expr-yields d ts)
    (λ x us h. follow (alias-sound us) (λ alias vs l. yields (i.Expr x alias) vs (g.shown h.expr l.alias)))

item-sound : (d : ℕ) (ts : List Token) → Yields (read_item d ts) (IsItem d ts)
unfolding read_item
item-sound d ts = if_test (sees k.Star ts)
    (λ star. yields i.Star (tail ts)
    (subst (λ (l : List Token). IsItem d l i.Star (tail ts)) (sym (heads k.Star ts star)) g.star))
    (λ _. if_test (names_all ts) (all-of-sound d ts) (λ _. shown-sound d ts))

items-sound : (d : ℕ) (ts : List Token) → Yields (read_items d ts) (AreItems d ts)
unfolding read_items
items-sound d = listed-sound (read_item d) (IsItem d) (AreItems d) (item-sound d) (λ ts us x h end. g.last_item h)
    (λ ts us vs x xs h more. g.more_items h more)

-- ---- the rules, over what stands in parentheses

-- a query that counts one parenthesis less
abbrev pub Inside : ℕ → List Token → Query → List Token → Type 0
Inside zero ts q us = ⊥
Inside (suc d) ts q us = IsQuery d ts q us

in-parentheses : (d : ℕ) (ts us vs : List Token) (q : Query) (alias : List ℕ)
    → Inside d ts q (SignToken token.RParen ∷ us) → IsAlias us alias vs
    → IsSource d (SignToken token.LParen ∷ ts) (s.Subquery q alias) vs
in-parentheses zero ts us vs q alias h a = absurd h
in-parentheses (suc d) ts us vs q alias h a = g.subquery h a

named-source-sound : (d : ℕ) (ts : List Token) → Yields (read_named_source ts) (IsSourceAt d ts)
unfolding read_named_source
named-source-sound d ts = follow (name-yields ts) (λ name us h.
    follow (alias-sound us)
    (λ alias vs l. yields (s.Named name alias) vs (record { source = g.named h l.alias; ends = l.ends })))

-- a join, and what it stands for
record IsJoin (d : ℕ) (ts : List Token) (join : Join) (ends : List Token) : Type 0 where
  pub it : FromItem
  pub on : Expr
  pub left : List Token
  pub behind : List Token
  pub word : IsJoinWord ts left
  pub source : IsSource d left it (Word (codes "ON") ∷ behind)
  pub expr : IsExpr d behind on ends
  pub is : join ≡ roll-Join (record { source = it; on = on })

module _ (inner : Reader Query) (d : ℕ) (inside : (ts : List Token) → Yields (inner ts) (Inside d ts)) where
  subquery-sound : (ts : List Token) → ts ≡ SignToken token.LParen ∷ tail ts
      → Yields (read_subquery inner ts) (IsSourceAt d ts)
  unfolding read_subquery
  subquery-sound ts open_ = follow (inside (tail ts)) (λ q us h.
      then_expect_key k.RParen us _ (λ close.
      follow (named-sound (tail us)) (λ alias vs a.
      then_provided ends_alias vs _ (λ e. yields (s.Subquery q alias) vs (record {
        source = subst (λ (l : List Token). IsSource d l (s.Subquery q alias) vs) (sym open_)
            (in-parentheses d (tail ts) (tail us) vs q alias (subst (Inside d (tail ts) q) close h) a);
        ends = e;
      })))))

  pub source-sound : (ts : List Token) → Yields (source_of inner ts) (IsSourceAt d ts)
  unfolding source_of
  source-sound ts =
      if_test (sees k.LParen ts) (λ r. subquery-sound ts (heads k.LParen ts r)) (λ _. named-source-sound d ts)

  joined-sound : (ts us : List Token) → (us ≡ Word (codes "JOIN") ∷ tail us → IsJoinWord ts (tail us))
      → Yields (read_joined inner d us) (IsJoin d ts)
  unfolding read_joined
  joined-sound ts us words = then_expect_word (codes "JOIN") us _ (λ join.
      follow (source-sound (tail us)) (λ source vs a.
      then_expect_word (codes "ON") vs _ (λ on.
      follow (expr-yields d (tail vs)) (λ x ws h. yields (roll-Join (record { source = source; on = x })) ws (record {
        it = source;
        on = x;
        left = tail us;
        behind = tail vs;
        word = words join;
        source = subst (IsSource d (tail us) source) on a.source;
        expr = h.expr;
        is = refl;
      })))))

  join-sound : (ts : List Token) → Yields (read_join inner d ts) (IsJoin d ts)
  unfolding read_join
  join-sound ts = if_eaten_word (codes "INNER") ts (λ _. read_joined inner d)
      (λ first. joined-sound ts (tail ts) (λ join.
      subst (λ (l : List Token). IsJoinWord l (tail (tail ts)))
      (sym (first ∙ ap (λ (l : List Token). Word (codes "INNER") ∷ l) join)) g.inner_join_word))
      (λ _. joined-sound ts ts (λ join. subst (λ (l : List Token). IsJoinWord l (tail ts)) (sym join) g.join_word))

  -- those so far, and more that stand there
  abbrev Adds : {A : Type 0} → List A → (List A → List Token → Type 0) → List A → List Token → Type 0
  Adds {A} found Ps ys us = (xs : List A) × (ys ≡ found ++ xs) × Ps xs us

  abbrev Joins : ℕ → List Token → List Join → List Token → Type 0
  Joins n ts xs us = (length xs ≤ n) × AreJoins d ts xs us

  joins-sound : (n : ℕ) (found : List Join) (ts : List Token)
      → Yields (joins_from inner d n found ts) (Adds found (Joins n ts))
  unfolding joins_from
  joins-sound zero found ts = yields found ts ([], sym (append-nil found), (omega arith, g.no_joins))
  joins-sound (suc n) found ts = if_test (sees_join ts)
      (λ _. follow (join-sound ts) (λ join us h.
      mapped (joins-sound n (found ++ join ∷ []) us) (λ ys vs r. (
        join ∷ r.0,
        r.1 ∙ append_assoc found (join ∷ []) r.0,
        (
          let few = r.2.0 in omega (arith, few),
          subst (λ (j : Join). AreJoins d ts (j ∷ r.0) vs) (sym h.is) (g.more_joins h.word h.source h.expr r.2.1),
        ),
      ))))
      (λ _. yields found ts ([], sym (append-nil found), (omega arith, g.no_joins)))

  core-sound : (ts : List Token) → Yields (read_core inner d ts) (IsCore d ts)
  unfolding read_core
  core-sound ts = then_expect_word (codes "SELECT") ts _ (λ select.
      follow (items-sound d (tail ts)) (λ items us h.
      then_expect_word (codes "FROM") us _ (λ from.
      follow (source-sound (tail us)) (λ source vs a.
      follow (joins-sound 15 [] vs) (λ joins ws b.
      follow (filter-sound d ws) (λ filter rs c.
      follow (group-sound d rs) (λ group ends e.
      yields (roll-Core (record { items = items; from = source; joins = joins; filter = filter; group = group })) ends
      (subst (λ (l : List Token). IsCore d l (roll-Core
      (record { items = items; from = source; joins = joins; filter = filter; group = group })) ends) (sym select)
      (g.core (subst (λ (l : List Join). length l ≤ 15) (sym b.1) b.2.0)
      (subst (AreItems d (tail ts) items) from h) a.source
      (subst (λ (l : List Join). AreJoins d vs l ws) (sym b.1) b.2.1) c.filter e)))))))))

  abbrev Cores : ℕ → List Token → List Core → List Token → Type 0
  Cores n ts xs us = (length xs ≤ n) × AreCores d ts xs us

  cores-sound : (n : ℕ) (found : List Core) (ts : List Token)
      → Yields (cores_from inner d n found ts) (Adds found (Cores n ts))
  unfolding cores_from
  cores-sound zero found ts = nothing
  cores-sound (suc n) found ts = follow (core-sound ts) (λ core us h.
      if_eaten_word (codes "UNION") us (λ again. if again then
      (expect_word (codes "ALL") >> cores_from inner d n (found ++ core ∷ [])) else pure (found ++ core ∷ []))
      (λ union. then_expect_word (codes "ALL") (tail us) _ (λ all.
      mapped (cores-sound n (found ++ core ∷ []) (tail (tail us))) (λ ys vs r. (
        core ∷ r.0,
        r.1 ∙ append_assoc found (core ∷ []) r.0,
        (
          let few = r.2.0 in omega (arith, few),
          g.more_cores
              (subst (IsCore d ts core) (union ∙ ap (λ (l : List Token). Word (codes "UNION") ∷ l) all) h) r.2.1,
        ),
      ))))
      (λ _. yields (found ++ core ∷ []) us (core ∷ [], refl, (omega arith, g.last_core h))))

  query-sound : (ts : List Token) → Yields (query_of inner d ts) (IsQueryAt d ts)
  unfolding query_of
  query-sound ts = follow (cores-sound 64 [] ts) (λ cores us h.
      then_provided ends_query us _ (λ e. yields (roll-Query (record { cores = cores })) us (record {
        query = g.query (subst (λ (l : List Core). length l ≤ 64) (sym h.1) h.2.0)
            (subst (λ (l : List Core). AreCores d ts l us) (sym h.1) h.2.1);
        ends = e;
      })))

-- ---- inside one another

nested-sound : (d : ℕ) (ts : List Token) → Yields (nested d ts) (Inside d ts)
unfolding nested
nested-sound zero ts = nothing
nested-sound (suc d) ts = mapped (query-sound (nested d) d (nested-sound d) ts) (λ q us h. h.query)

pub read_query-sound : (d : ℕ) (ts : List Token) → Yields (read_query d ts) (IsQueryAt d ts)
unfolding read_query
read_query-sound d ts = query-sound (nested d) d (nested-sound d) ts

pub read_source-sound : (d : ℕ) (ts : List Token) → Yields (read_source d ts) (IsSourceAt d ts)
unfolding read_source
read_source-sound d ts = source-sound (nested d) d (nested-sound d) ts
