-- Where a query stands, it is read.
use Rattle.std.proofs.Common.{◌≡◌, ℕ, suc, true, List, Option, Some, refl}
use Rattle.wh_ast.specs.declared.expr.Expr.{Expr}
use Rattle.wh_ast.specs.declared.query.Query.{Query}
use Rattle.wh_ast.specs.declared.query.Core.{Core}
use Rattle.wh_ast.specs.declared.query.Join.{Join}
use Rattle.wh_ast.specs.declared.query.FromItem.{FromItem}
use Rattle.wh_grammar.specs.Token.{Token}
use Rattle.wh_grammar.specs.Query as g
use Rattle.wh_grammar.specs.Query.{MayHaveFilter, MayHaveGroup, IsJoinWord, IsQuery, AreCores}
use Rattle.wh_grammar.specs.Query.{IsCore, IsSource, AreJoins}
use Rattle.wh_query_parse.specs.Follow.{ends_query, ends_alias}
use Rattle.wh_query_parse.specs.Read.{source_of, read_core, query_of, nested}
use Rattle.wh_query_parse.proofs.Ends.{QueryEnd, query-end, no-union, CoreEnd, query_end, union, FilterEnd, core_end}
use Rattle.wh_query_parse.proofs.Ends.{group, JoinsEnd, filter_end, filter, no-join, SourceEnd, joins_end, join, inner}
use Rattle.wh_query_parse.proofs.Ends.{source-ends, source-binds, on-ends}
use Rattle.wh_query_parse.proofs.Steps.{named-source, subquery, Joins, last-join, more-joins, one-core, Cores}
use Rattle.wh_query_parse.proofs.Steps.{last-core, more-cores, whole-query}

-- ---- what stands behind each part of a core

group-behind : {d : ℕ} {ts us : List Token} {xs : List Expr} → MayHaveGroup d ts xs us → CoreEnd us → FilterEnd ts
group-behind g.no_group end = core_end end
group-behind (g.a_group h) end = group

filter-behind : {d : ℕ} {ts us : List Token} {x : Option Expr} → MayHaveFilter d ts x us → FilterEnd us → JoinsEnd ts
filter-behind g.no_filter end = filter_end end
filter-behind (g.a_filter h) end = filter

word-behind : {ts us : List Token} → IsJoinWord ts us → SourceEnd ts
word-behind g.join_word = join
word-behind g.inner_join_word = inner

joins-behind : {d : ℕ} {ts us : List Token} {xs : List Join} → AreJoins d ts xs us → JoinsEnd us → SourceEnd ts
joins-behind g.no_joins end = joins_end end
joins-behind (g.more_joins words source on more) end = word-behind words

-- ---- the whole of it

one-deeper : (d : ℕ) (ts : List Token) {o : Option (Query × List Token)} → query_of (nested d) d ts ≡ o
    → nested (suc d) ts ≡ o
unfolding nested
one-deeper d ts e = e

mutual
  pub query-complete : {d : ℕ} {ts us : List Token} {q : Query} → IsQuery d ts q us → ends_query us ≡ true
      → query_of (nested d) d ts ≡ Some (q, us)
  query-complete (g.query {d = d} {us = us} few cores) e =
      whole-query (nested d) d few (cores-complete cores (query-end us e)) e

  cores-complete : {d : ℕ} {ts us : List Token} {xs : List Core} → AreCores d ts xs us → QueryEnd us
      → Cores (nested d) d ts xs us
  cores-complete (g.last_core {d = d} x) end = last-core (nested d) d (core-complete x (query_end end)) (no-union end)
  cores-complete (g.more_cores {d = d} x more) end =
      more-cores (nested d) d (core-complete x union) (cores-complete more end)

  core-complete : {d : ℕ} {ts us : List Token} {x : Core} → IsCore d ts x us → CoreEnd us
      → read_core (nested d) d ts ≡ Some (x, us)
  core-complete (g.core {d = d} few items source joins where_ grouped) end =
      let behind-filter = group-behind grouped end in
      let behind-joins = filter-behind where_ behind-filter in
      one-core (nested d) d few items (source-complete source (source-ends (joins-behind joins behind-joins)))
      (joins-complete joins behind-joins)
      where_ behind-filter grouped end

  pub source-complete : {d : ℕ} {ts us : List Token} {x : FromItem} → IsSource d ts x us → ends_alias us ≡ true
      → source_of (nested d) ts ≡ Some (x, us)
  source-complete (g.named {d = d} name alias) e = named-source (nested d) name alias e
  source-complete (g.subquery {d = d} {ts = ts} q alias) e =
      subquery (nested (suc d)) (one-deeper d ts (query-complete q refl)) alias e

  joins-complete : {d : ℕ} {ts us : List Token} {xs : List Join} → AreJoins d ts xs us → JoinsEnd us
      → Joins (nested d) d ts xs us
  joins-complete (g.no_joins {d = d} {ts = ts}) end = last-join (nested d) d ts (no-join end)
  joins-complete (g.more_joins {d = d} {vs = vs} words source on more) end =
      more-joins (nested d) d words (source-complete source (on-ends vs)) on (source-binds (joins-behind more end))
      (joins-complete more end)
