-- Which tokens are a query. The number is how many parentheses, NOT and minus signs may stand inside one another.
use Rattle.std.specs.Prelude.{ℕ, suc, ◌≤◌, List, [], ◌∷◌, Option, Some, None, length, codes}
use Rattle.wh_ast.specs.declared.expr.Expr.{Expr}
use Rattle.wh_ast.specs.declared.query.Query.{Query, roll-Query}
use Rattle.wh_ast.specs.declared.query.Core.{Core, roll-Core}
use Rattle.wh_ast.specs.declared.query.Join.{Join, roll-Join}
use Rattle.wh_ast.specs.declared.query.Item.{Item}
use Rattle.wh_ast.specs.declared.query.Item.TheVariants as i
use Rattle.wh_ast.specs.declared.query.FromItem.{FromItem}
use Rattle.wh_ast.specs.declared.query.FromItem.TheVariants as s
use Rattle.wh_grammar.specs.Token.{Token, Word, SignToken, LParen, RParen, Comma, Dot, Star}
use Rattle.wh_grammar.specs.Name.{IsName}
use Rattle.wh_grammar.specs.Expression.{IsExpr, AreExprs}

-- [AS] name
pub data IsAlias : List Token → List ℕ → List Token → Type 0 where
  bare : {ts us : List Token} {name : List ℕ} → IsName ts name us → IsAlias ts name us
  with_as : {ts us : List Token} {name : List ℕ} → IsName ts name us → IsAlias (Word (codes "AS") ∷ ts) name us

-- [[AS] name]
pub data MayHaveAlias : List Token → Option (List ℕ) → List Token → Type 0 where
  no_alias : {ts : List Token} → MayHaveAlias ts None ts
  an_alias : {ts us : List Token} {name : List ℕ} → IsAlias ts name us → MayHaveAlias ts (Some name) us

-- * | name . * | expr [[AS] name]
pub data IsItem (d : ℕ) : List Token → Item → List Token → Type 0 where
  star : {us : List Token} → IsItem d (SignToken Star ∷ us) i.Star us
  star_of : {ts us : List Token} {name : List ℕ}
      → IsName ts name (SignToken Dot ∷ SignToken Star ∷ us)
      → IsItem d ts (i.StarOf name) us
  shown : {ts us vs : List Token} {x : Expr} {alias : Option (List ℕ)}
      → IsExpr d ts x us
      → MayHaveAlias us alias vs
      → IsItem d ts (i.Expr x alias) vs

pub data AreItems (d : ℕ) : List Token → List Item → List Token → Type 0 where
  last_item : {ts us : List Token} {x : Item} → IsItem d ts x us → AreItems d ts (x ∷ []) us
  more_items : {ts us vs : List Token} {x : Item} {xs : List Item}
      → IsItem d ts x (SignToken Comma ∷ us)
      → AreItems d us xs vs
      → AreItems d ts (x ∷ xs) vs

-- [WHERE expr]
pub data MayHaveFilter (d : ℕ) : List Token → Option Expr → List Token → Type 0 where
  no_filter : {ts : List Token} → MayHaveFilter d ts None ts
  a_filter : {ts us : List Token} {x : Expr}
      → IsExpr d ts x us
      → MayHaveFilter d (Word (codes "WHERE") ∷ ts) (Some x) us

-- [GROUP BY expr {, expr}]
pub data MayHaveGroup (d : ℕ) : List Token → List Expr → List Token → Type 0 where
  no_group : {ts : List Token} → MayHaveGroup d ts [] ts
  a_group : {ts us : List Token} {xs : List Expr}
      → AreExprs d ts xs us
      → MayHaveGroup d (Word (codes "GROUP") ∷ Word (codes "BY") ∷ ts) xs us

-- [INNER] JOIN
pub data IsJoinWord : List Token → List Token → Type 0 where
  join_word : {ts : List Token} → IsJoinWord (Word (codes "JOIN") ∷ ts) ts
  inner_join_word : {ts : List Token} → IsJoinWord (Word (codes "INNER") ∷ Word (codes "JOIN") ∷ ts) ts

mutual
  -- core {UNION ALL core}, at most 64
  pub data IsQuery : ℕ → List Token → Query → List Token → Type 0 where
    query : {d : ℕ} {ts us : List Token} {cores : List Core}
        → length cores ≤ 64
        → AreCores d ts cores us
        → IsQuery d ts (roll-Query (record { cores = cores })) us

  pub data AreCores : ℕ → List Token → List Core → List Token → Type 0 where
    last_core : {d : ℕ} {ts us : List Token} {x : Core} → IsCore d ts x us → AreCores d ts (x ∷ []) us
    more_cores : {d : ℕ} {ts us vs : List Token} {x : Core} {xs : List Core}
        → IsCore d ts x (Word (codes "UNION") ∷ Word (codes "ALL") ∷ us)
        → AreCores d us xs vs
        → AreCores d ts (x ∷ xs) vs

  -- SELECT items FROM source joins [WHERE expr] [GROUP BY exprs], of at most 16 sources
  pub data IsCore : ℕ → List Token → Core → List Token → Type 0 where
    core : {d : ℕ} {ts us vs ws rs ends : List Token} {items : List Item} {source : FromItem} {joins : List Join}
        {filter : Option Expr} {group : List Expr}
        → length joins ≤ 15
        → AreItems d ts items (Word (codes "FROM") ∷ us)
        → IsSource d us source vs
        → AreJoins d vs joins ws
        → MayHaveFilter d ws filter rs
        → MayHaveGroup d rs group ends
        → IsCore d (Word (codes "SELECT") ∷ ts) (roll-Core (record {
          items = items;
          from = source;
          joins = joins;
          filter = filter;
          group = group;
        })) ends

  -- name [[AS] name] | ( query ) [AS] name
  pub data IsSource : ℕ → List Token → FromItem → List Token → Type 0 where
    named : {d : ℕ} {ts us vs : List Token} {name : List ℕ} {alias : Option (List ℕ)}
        → IsName ts name us
        → MayHaveAlias us alias vs
        → IsSource d ts (s.Named name alias) vs
    subquery : {d : ℕ} {ts us vs : List Token} {inner : Query} {alias : List ℕ}
        → IsQuery d ts inner (SignToken RParen ∷ us)
        → IsAlias us alias vs
        → IsSource (suc d) (SignToken LParen ∷ ts) (s.Subquery inner alias) vs

  -- {[INNER] JOIN source ON expr}
  pub data AreJoins : ℕ → List Token → List Join → List Token → Type 0 where
    no_joins : {d : ℕ} {ts : List Token} → AreJoins d ts [] ts
    more_joins : {d : ℕ} {ts us vs ws rs : List Token} {source : FromItem} {x : Expr} {joins : List Join}
        → IsJoinWord ts us
        → IsSource d us source (Word (codes "ON") ∷ vs)
        → IsExpr d vs x ws
        → AreJoins d ws joins rs
        → AreJoins d ts (roll-Join (record { source = source; on = x }) ∷ joins) rs
