-- What stands there for sources, joins and cores is read, where their parts are.
use Rattle.std.proofs.Common.{◌≡◌, ℕ, zero, suc, ◌≤◌, true, false, List, [], ◌∷◌, ◌++◌, length, Option, Some, refl, sym}
use Rattle.std.proofs.Common.{ap, ◌∙◌, append_assoc, arith}
use Rattle.std.specs.Prelude.{codes}
use Rattle.std.proofs.lemmas.List.{append-nil}
use Rattle.wh_ast.specs.declared.expr.Expr.{Expr}
use Rattle.wh_ast.specs.declared.query.Query.{Query, roll-Query}
use Rattle.wh_ast.specs.declared.query.Core.{Core, roll-Core}
use Rattle.wh_ast.specs.declared.query.Join.{Join, roll-Join}
use Rattle.wh_ast.specs.declared.query.Item.{Item}
use Rattle.wh_ast.specs.declared.query.FromItem.{FromItem}
use Rattle.wh_ast.specs.declared.query.FromItem.TheVariants as s
use Rattle.wh_grammar.specs.Token as token
use Rattle.wh_grammar.specs.Token.{Token, Word, SignToken}
use Rattle.wh_grammar.specs.Name.{IsName, word, quoted}
use Rattle.wh_grammar.specs.Expression.{IsExpr}
use Rattle.wh_cursor.specs.Binds.{binds}
use Rattle.wh_grammar.specs.Query as g
use Rattle.wh_grammar.specs.Query.{IsAlias, MayHaveAlias, AreItems, MayHaveFilter, MayHaveGroup, IsJoinWord}
use Rattle.wh_cursor.specs.declared.key.TokenClass.TheVariants as k
use Rattle.wh_cursor.specs.Steps.{sees, Reader, sees_word}
use Rattle.wh_cursor.proofs.Combine.{Lacks, not_that_key, sees_key_is, sees_word_is, expect_word_reads, rparen_reads}
use Rattle.wh_cursor.proofs.Combine.{other_word, name_reads}
use Rattle.wh_expr_parse.proofs.ExprSteps.{expr_reads}
use Rattle.wh_query_parse.specs.Follow.{ends_query, ends_alias}
use Rattle.wh_query_parse.specs.Read.{read_named_source, read_subquery, source_of, sees_join, read_joined, read_join}
use Rattle.wh_query_parse.specs.Read.{joins_from, read_core, cores_from, query_of}
use Rattle.wh_query_parse.proofs.Ends.{CoreEnd, FilterEnd, filter-ends}
use Rattle.wh_query_parse.proofs.PartSteps.{provided-holds, named-complete, alias-complete, filter-complete}
use Rattle.wh_query_parse.proofs.PartSteps.{group-complete, items-complete}

-- ---- sources

no-open : {ts us : List Token} {name : List ℕ} → IsName ts name us → sees k.LParen ts ≡ false
no-open {ts} h = not_that_key k.LParen (SignToken token.LParen) ts refl (not-open h)
  where
    not-open : {ts us : List Token} {name : List ℕ} → IsName ts name us → Lacks (SignToken token.LParen) ts
    not-open (word r c) e = cc
    not-open quoted e = cc

pub named-source : (inner : Reader Query) {ts us vs : List Token} {name : List ℕ} {alias : Option (List ℕ)}
    → IsName ts name us → MayHaveAlias us alias vs → ends_alias vs ≡ true
    → source_of inner ts ≡ Some (s.Named name alias, vs)
unfolding source_of read_named_source
named-source inner h alias e = rw (no-open h, name_reads h, alias-complete alias e) refl

pub subquery : (inner : Reader Query) {ts us vs : List Token} {q : Query} {alias : List ℕ}
    → inner ts ≡ Some (q, SignToken token.RParen ∷ us) → IsAlias us alias vs → ends_alias vs ≡ true
    → source_of inner (SignToken token.LParen ∷ ts) ≡ Some (s.Subquery q alias, vs)
unfolding source_of read_subquery
subquery inner {ts} {us} {vs} read alias e = rw (
  sees_key_is k.LParen (SignToken token.LParen) ts refl,
  read,
  rparen_reads us,
  named-complete alias,
  provided-holds ends_alias vs e,
) refl

-- ---- joins

join-seen : {ts us : List Token} → IsJoinWord ts us → sees_join ts ≡ true
unfolding sees_word
join-seen g.join_word = refl
join-seen g.inner_join_word = refl

joined : (inner : Reader Query) (d : ℕ) (ts us : List Token) {vs : List Token} {source : FromItem} {x : Expr}
    → source_of inner ts ≡ Some (source, Word (codes "ON") ∷ us) → IsExpr d us x vs → binds vs ≡ 0
    → read_joined inner d (Word (codes "JOIN") ∷ ts) ≡ Some (roll-Join (record { source = source; on = x }), vs)
unfolding read_joined
joined inner d ts us source h e =
    rw (expect_word_reads (codes "JOIN") ts, source, expect_word_reads (codes "ON") us, expr_reads h e) refl

one-join : (inner : Reader Query) (d : ℕ) {ts us vs ws : List Token} {source : FromItem} {x : Expr} → IsJoinWord ts us
    → source_of inner us ≡ Some (source, Word (codes "ON") ∷ vs) → IsExpr d vs x ws → binds ws ≡ 0
    → read_join inner d ts ≡ Some (roll-Join (record { source = source; on = x }), ws)
unfolding read_join
one-join inner d {vs = vs} (g.join_word {ts = ts}) source h e =
    rw (other_word (codes "INNER") (codes "JOIN") ts refl) (joined inner d ts vs source h e)
one-join inner d {vs = vs} (g.inner_join_word {ts = ts}) source h e =
    rw (sees_word_is (codes "INNER") (Word (codes "JOIN") ∷ ts)) (joined inner d ts vs source h e)

-- those that stand there are read behind those so far
pub record Joins (inner : Reader Query) (d : ℕ) (ts : List Token) (xs : List Join) (us : List Token) : Type 0 where
  pub run : (n : ℕ) (found : List Join) → length xs ≤ n → joins_from inner d n found ts ≡ Some (found ++ xs, us)

pub last-join : (inner : Reader Query) (d : ℕ) (us : List Token) → sees_join us ≡ false → Joins inner d us [] us
unfolding joins_from
last-join inner d us e = record { run = by }
  where
    by : (n : ℕ) (found : List Join) → 0 ≤ n → joins_from inner d n found us ≡ Some (found ++ [], us)
    by zero found few = ap (λ (l : List Join). Some (l, us)) (sym (append-nil found))
    by (suc n) found few = rw (e) (ap (λ (l : List Join). Some (l, us)) (sym (append-nil found)))

pub more-joins : (inner : Reader Query) (d : ℕ) {ts us vs ws rs : List Token}
    {source : FromItem} {x : Expr} {xs : List Join}
    → IsJoinWord ts us → source_of inner us ≡ Some (source, Word (codes "ON") ∷ vs) → IsExpr d vs x ws → binds ws ≡ 0
    → Joins inner d ws xs rs
    → Joins inner d ts (roll-Join (record { source = source; on = x }) ∷ xs) rs
unfolding joins_from
more-joins inner d {ts} {us} {vs} {ws} {rs} {source} {x} {xs} words read h e more = record { run = by }
  where
    join : Join
    join = roll-Join (record { source = source; on = x })

    by : (n : ℕ) (found : List Join) → suc (length xs) ≤ n
        → joins_from inner d n found ts ≡ Some (found ++ join ∷ xs, rs)
    by zero found few = absurd (omega (arith, few))
    by (suc n) found few = rw (join-seen words, one-join inner d words read h e)
        (more.run n (found ++ join ∷ []) (omega (arith, few))
        ∙ ap (λ (l : List Join). Some (l, rs)) (append_assoc found (join ∷ []) xs))

-- ---- cores

pub one-core : (inner : Reader Query) (d : ℕ) {ts us vs ws rs ends : List Token} {items : List Item}
    {source : FromItem} {joins : List Join} {filter : Option Expr} {group : List Expr}
    → length joins ≤ 15 → AreItems d ts items (Word (codes "FROM") ∷ us) → source_of inner us ≡ Some (source, vs)
    → Joins inner d vs joins ws → MayHaveFilter d ws filter rs → FilterEnd rs → MayHaveGroup d rs group ends
    → CoreEnd ends
    → read_core inner d (Word (codes "SELECT") ∷ ts)
    ≡ Some (roll-Core (record { items = items; from = source; joins = joins; filter = filter; group = group }), ends)
unfolding read_core
one-core inner d {ts} {us} few items source joins filter behind group end =
    rw (
      expect_word_reads (codes "SELECT") ts,
      items-complete items,
      expect_word_reads (codes "FROM") us,
      source,
      joins.run 15 [] few,
      filter-complete filter (filter-ends behind),
      group-complete group end,
    ) refl

pub record Cores (inner : Reader Query) (d : ℕ) (ts : List Token) (xs : List Core) (us : List Token) : Type 0 where
  pub run : (n : ℕ) (found : List Core) → length xs ≤ n → cores_from inner d n found ts ≡ Some (found ++ xs, us)

pub last-core : (inner : Reader Query) (d : ℕ) {ts us : List Token} {x : Core} → read_core inner d ts ≡ Some (x, us)
    → sees_word (codes "UNION") us ≡ false
    → Cores inner d ts (x ∷ []) us
unfolding cores_from
last-core inner d {ts} {us} {x} read end = record { run = by }
  where
    by : (n : ℕ) (found : List Core) → 1 ≤ n → cores_from inner d n found ts ≡ Some (found ++ x ∷ [], us)
    by zero found few = absurd (omega (arith, few))
    by (suc n) found few = rw (read, end) refl

pub more-cores : (inner : Reader Query) (d : ℕ) {ts us vs : List Token} {x : Core} {xs : List Core}
    → read_core inner d ts ≡ Some (x, Word (codes "UNION") ∷ Word (codes "ALL") ∷ us) → Cores inner d us xs vs
    → Cores inner d ts (x ∷ xs) vs
unfolding cores_from
more-cores inner d {ts} {us} {vs} {x} {xs} read more = record { run = by }
  where
    by : (n : ℕ) (found : List Core) → suc (length xs) ≤ n → cores_from inner d n found ts ≡ Some (found ++ x ∷ xs, vs)
    by zero found few = absurd (omega (arith, few))
    by (suc n) found few =
        rw (read, sees_word_is (codes "UNION") (Word (codes "ALL") ∷ us), expect_word_reads (codes "ALL") us)
        (more.run n (found ++ x ∷ []) (omega (arith, few))
        ∙ ap (λ (l : List Core). Some (l, vs)) (append_assoc found (x ∷ []) xs))

pub whole-query : (inner : Reader Query) (d : ℕ) {ts us : List Token} {xs : List Core} → length xs ≤ 64
    → Cores inner d ts xs us → ends_query us ≡ true
    → query_of inner d ts ≡ Some (roll-Query (record { cores = xs }), us)
unfolding query_of
whole-query inner d {us = us} few cores e = rw (cores.run 64 [] few, provided-holds ends_query us e) refl
