-- What holds of all tokens holds of those behind an expression or a part of a query.
--     expr_behind                        behind an expression
--     name_behind, alias_behind, items_behind, filter_behind, group_behind     and behind parts of queries
use Rattle.std.specs.Prelude.{ℕ, List, Option, Bool}
use Rattle.std.specs.List.{AllByRecursion}
use Rattle.wh_ast.specs.declared.expr.Expr.{Expr}
use Rattle.wh_ast.specs.declared.query.Item.{Item}
use Rattle.wh_ast.specs.declared.query.Query.{Query}
use Rattle.wh_ast.specs.declared.query.Core.{Core}
use Rattle.wh_ast.specs.declared.query.Join.{Join}
use Rattle.wh_ast.specs.declared.query.FromItem.{FromItem}
use Rattle.wh_grammar.specs.Token.{Token}
use Rattle.wh_grammar.specs.Name as names
use Rattle.wh_grammar.specs.Name.{IsName}
use Rattle.wh_grammar.specs.Expression as x
use Rattle.wh_grammar.specs.Expression.{IsNegation, IsWhole, IsAnd, IsNot, IsTest, AreItems, IsSum, IsProduct, IsUnary}
use Rattle.wh_grammar.specs.Expression.{IsPrim, IsExpr, AreExprs}
use Rattle.wh_grammar.specs.Query as g
use Rattle.wh_grammar.specs.Query.{IsAlias, MayHaveAlias, IsItem, MayHaveFilter, MayHaveGroup, IsJoinWord, IsQuery}
use Rattle.wh_grammar.specs.Query.{AreCores}
use Rattle.wh_grammar.specs.Query.{IsCore, IsSource, AreJoins}

module _ (P : Token → Type 0) where
  abbrev All : List Token → Type 0
  All ts = AllByRecursion P ts

  pub name_behind : {ts us : List Token} {name : List ℕ} → IsName ts name us → All ts → All us
  name_behind (names.word free call) h = h.1
  name_behind names.quoted h = h.1

  negation_behind : {negated : Bool} {ts us : List Token} → IsNegation negated ts us → All ts → All us
  negation_behind x.negated h = h.1
  negation_behind x.plain h = h

  -- ---- expressions

  mutual
    whole_behind : {d n : ℕ} {ts us : List Token} {e : Expr} → IsWhole d n ts e us → All ts → All us
    whole_behind (x.one_and is) h = and_behind is h
    whole_behind (x.or is more) h = and_behind more (whole_behind is h).1

    and_behind : {d n : ℕ} {ts us : List Token} {e : Expr} → IsAnd d n ts e us → All ts → All us
    and_behind (x.one_not is) h = not_behind is h
    and_behind (x.and is more) h = not_behind more (and_behind is h).1

    not_behind : {d n : ℕ} {ts us : List Token} {e : Expr} → IsNot d n ts e us → All ts → All us
    not_behind (x.one_test is) h = test_behind is h
    not_behind (x.not is) h = not_behind is h.1

    test_behind : {d n : ℕ} {ts us : List Token} {e : Expr} → IsTest d n ts e us → All ts → All us
    test_behind (x.one_sum is) h = sum_behind is h
    test_behind (x.compared sign is more) h = sum_behind more (sum_behind is h).1
    test_behind (x.is_null is may) h = (negation_behind may (sum_behind is h).1).1
    test_behind (x.among is may are) h = (list_behind are (negation_behind may (sum_behind is h)).1.1).1
    test_behind (x.between is may low high) h =
        sum_behind high (sum_behind low (negation_behind may (sum_behind is h)).1).1

    list_behind : {d n : ℕ} {ts us : List Token} {es : List Expr} → AreItems d n ts es us → All ts → All us
    list_behind (x.last_item is) h = whole_behind is h
    list_behind (x.item is more) h = list_behind more (whole_behind is h).1

    sum_behind : {d n : ℕ} {ts us : List Token} {e : Expr} → IsSum d n ts e us → All ts → All us
    sum_behind (x.one_product is) h = product_behind is h
    sum_behind (x.plus is more) h = product_behind more (sum_behind is h).1
    sum_behind (x.minus is more) h = product_behind more (sum_behind is h).1

    product_behind : {d n : ℕ} {ts us : List Token} {e : Expr} → IsProduct d n ts e us → All ts → All us
    product_behind (x.one_unary is) h = unary_behind is h
    product_behind (x.times is more) h = unary_behind more (product_behind is h).1

    unary_behind : {d n : ℕ} {ts us : List Token} {e : Expr} → IsUnary d n ts e us → All ts → All us
    unary_behind (x.one_prim is) h = prim_behind is h
    unary_behind (x.negative is) h = unary_behind is h.1

    prim_behind : {d n : ℕ} {ts us : List Token} {e : Expr} → IsPrim d n ts e us → All ts → All us
    prim_behind x.number h = h.1
    prim_behind x.text h = h.1
    prim_behind x.true_word h = h.1
    prim_behind x.false_word h = h.1
    prim_behind x.null_word h = h.1
    prim_behind (x.column is) h = name_behind is h
    prim_behind (x.column_of entry is) h = name_behind is (name_behind entry h).1
    prim_behind (x.parenthesized is) h = (whole_behind is h.1).1
    prim_behind (x.sum is) h = (whole_behind is h.1.1).1
    prim_behind x.count_rows h = h.1.1.1.1
    prim_behind (x.count is) h = (whole_behind is h.1.1).1

  pub expr_behind : {d : ℕ} {ts us : List Token} {e : Expr} → IsExpr d ts e us → All ts → All us
  expr_behind is h = whole_behind is.whole h

  exprs_behind : {d : ℕ} {ts us : List Token} {es : List Expr} → AreExprs d ts es us → All ts → All us
  exprs_behind (x.last_expr is) h = expr_behind is h
  exprs_behind (x.more_exprs is more) h = exprs_behind more (expr_behind is h).1

  -- ---- parts of queries

  pub alias_behind : {ts us : List Token} {name : List ℕ} → IsAlias ts name us → All ts → All us
  alias_behind (g.bare is) h = name_behind is h
  alias_behind (g.with_as is) h = name_behind is h.1

  pub may_behind : {ts us : List Token} {alias : Option (List ℕ)} → MayHaveAlias ts alias us → All ts → All us
  may_behind g.no_alias h = h
  may_behind (g.an_alias is) h = alias_behind is h

  pub item_behind : {d : ℕ} {ts us : List Token} {item : Item} → IsItem d ts item us → All ts → All us
  item_behind g.star h = h.1
  item_behind (g.star_of is) h = (name_behind is h).1.1
  item_behind (g.shown is may) h = may_behind may (expr_behind is h)

  pub items_behind : {d : ℕ} {ts us : List Token} {items : List Item} → g.AreItems d ts items us → All ts → All us
  items_behind (g.last_item is) h = item_behind is h
  items_behind (g.more_items is more) h = items_behind more (item_behind is h).1

  filter_behind : {d : ℕ} {ts us : List Token} {filter : Option Expr} → MayHaveFilter d ts filter us → All ts → All us
  filter_behind g.no_filter h = h
  filter_behind (g.a_filter is) h = expr_behind is h.1

  group_behind : {d : ℕ} {ts us : List Token} {es : List Expr} → MayHaveGroup d ts es us → All ts → All us
  group_behind g.no_group h = h
  group_behind (g.a_group are) h = exprs_behind are h.1.1

  pub word_behind : {ts us : List Token} → IsJoinWord ts us → All ts → All us
  word_behind g.join_word h = h.1
  word_behind g.inner_join_word h = h.1.1

  mutual
    pub query_behind : {d : ℕ} {ts us : List Token} {q : Query} → IsQuery d ts q us → All ts → All us
    query_behind (g.query few are) h = cores_behind are h

    cores_behind : {d : ℕ} {ts us : List Token} {cores : List Core} → AreCores d ts cores us → All ts → All us
    cores_behind (g.last_core is) h = core_behind is h
    cores_behind (g.more_cores is more) h = cores_behind more (core_behind is h).1.1

    pub core_behind : {d : ℕ} {ts us : List Token} {c : Core} → IsCore d ts c us → All ts → All us
    core_behind (g.core few are is more filter group) h =
        group_behind group (filter_behind filter (joins_behind more (source_behind is (items_behind are h.1).1)))

    pub source_behind : {d : ℕ} {ts us : List Token} {source : FromItem} → IsSource d ts source us → All ts → All us
    source_behind (g.named is may) h = may_behind may (name_behind is h)
    source_behind (g.subquery is as_name) h = alias_behind as_name (query_behind is h.1).1

    joins_behind : {d : ℕ} {ts us : List Token} {joins : List Join} → AreJoins d ts joins us → All ts → All us
    joins_behind g.no_joins h = h
    joins_behind (g.more_joins words is on more) h =
        joins_behind more (expr_behind on (source_behind is (word_behind words h)).1)
