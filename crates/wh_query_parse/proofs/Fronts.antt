-- What stands for a part of a query is a front of the tokens, and not empty.
use Rattle.std.proofs.Common.{ℕ, ◌<◌, ◌≤◌, List, length, Option, arith}
use Rattle.wh_ast.specs.declared.expr.Expr.{Expr}
use Rattle.wh_ast.specs.declared.query.Query.{Query}
use Rattle.wh_ast.specs.declared.query.Core.{Core}
use Rattle.wh_ast.specs.declared.query.Join.{Join}
use Rattle.wh_ast.specs.declared.query.Item.{Item}
use Rattle.wh_ast.specs.declared.query.FromItem.{FromItem}
use Rattle.wh_grammar.specs.Token.{Token}
use Rattle.wh_grammar.specs.Query as g
use Rattle.wh_grammar.specs.Query.{IsAlias, MayHaveAlias, IsItem, AreItems, MayHaveFilter, MayHaveGroup, IsJoinWord}
use Rattle.wh_grammar.specs.Query.{IsQuery, AreCores, IsCore, IsSource, AreJoins}
use Rattle.wh_cursor.proofs.Combine.{name_shorter}
use Rattle.wh_expr_parse.proofs.ExprSteps.{expr_shorter, exprs_shorter}

alias-front : {ts us : List Token} {name : List ℕ} → IsAlias ts name us → length us < length ts
alias-front (g.bare name) = name_shorter name
alias-front (g.with_as name) = let n = name_shorter name in omega (arith, n)

optional-front : {ts us : List Token} {alias : Option (List ℕ)} → MayHaveAlias ts alias us → length us ≤ length ts
optional-front g.no_alias = omega arith
optional-front (g.an_alias a) = let n = alias-front a in omega (arith, n)

pub item-front : {d : ℕ} {ts us : List Token} {x : Item} → IsItem d ts x us → length us < length ts
item-front g.star = omega arith
item-front (g.star_of name) = let n = name_shorter name in omega (arith, n)
item-front (g.shown x alias) = let n = expr_shorter x in let m = optional-front alias in omega (arith, n, m)

items-front : {d : ℕ} {ts us : List Token} {xs : List Item} → AreItems d ts xs us → length us < length ts
items-front (g.last_item x) = item-front x
items-front (g.more_items x more) = let n = item-front x in let m = items-front more in omega (arith, n, m)

filter-front : {d : ℕ} {ts us : List Token} {x : Option Expr} → MayHaveFilter d ts x us → length us ≤ length ts
filter-front g.no_filter = omega arith
filter-front (g.a_filter x) = let n = expr_shorter x in omega (arith, n)

group-front : {d : ℕ} {ts us : List Token} {xs : List Expr} → MayHaveGroup d ts xs us → length us ≤ length ts
group-front g.no_group = omega arith
group-front (g.a_group xs) = let n = exprs_shorter xs in omega (arith, n)

join-word-front : {ts us : List Token} → IsJoinWord ts us → length us < length ts
join-word-front g.join_word = omega arith
join-word-front g.inner_join_word = omega arith

mutual
  query-front : {d : ℕ} {ts us : List Token} {q : Query} → IsQuery d ts q us → length us < length ts
  query-front (g.query few cores) = cores-front cores

  cores-front : {d : ℕ} {ts us : List Token} {xs : List Core} → AreCores d ts xs us → length us < length ts
  cores-front (g.last_core x) = core-front x
  cores-front (g.more_cores x more) = let n = core-front x in let m = cores-front more in omega (arith, n, m)

  core-front : {d : ℕ} {ts us : List Token} {x : Core} → IsCore d ts x us → length us < length ts
  core-front (g.core few items source joins filter group) =
      let a = items-front items in
      let b = source-front source in
      let c = joins-front joins in
      let e = filter-front filter in
      let f = group-front group in
      omega (arith, a, b, c, e, f)

  source-front : {d : ℕ} {ts us : List Token} {x : FromItem} → IsSource d ts x us → length us < length ts
  source-front (g.named name alias) = let n = name_shorter name in let m = optional-front alias in omega (arith, n, m)
  source-front (g.subquery q alias) = let n = query-front q in let m = alias-front alias in omega (arith, n, m)

  joins-front : {d : ℕ} {ts us : List Token} {xs : List Join} → AreJoins d ts xs us → length us ≤ length ts
  joins-front g.no_joins = omega arith
  joins-front (g.more_joins join source on more) =
      let a = join-word-front join in
      let b = source-front source in
      let c = expr_shorter on in
      let e = joins-front more in
      omega (arith, a, b, c, e)

pub query_front : (d : ℕ) (ts : List Token) (q : Query) (us : List Token) → IsQuery d ts q us → length us < length ts
query_front d ts q us h = query-front h

pub source_front : (d : ℕ) (ts : List Token) (x : FromItem) (us : List Token) → IsSource d ts x us →
    length us < length ts
source_front d ts x us h = source-front h
