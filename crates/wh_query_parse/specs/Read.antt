-- How queries and their parts are read from the front of tokens.
--     read_alias      an alias, or none
--     read_filter     a condition behind WHERE, or none
--     read_source     a name or a query in parentheses, with its alias
--     read_query      cores with UNION ALL between them
use Rattle.std.specs.Prelude.{ℕ, zero, suc, Bool, true, false, ◌&&◌, ◌||◌, if◌then◌else◌, List, [], ◌∷◌, ◌++◌, Option}
use Rattle.std.specs.Prelude.{Some, None, codes}
use Rattle.wh_ast.specs.declared.expr.Expr.{Expr}
use Rattle.wh_ast.specs.declared.query.Query.{Query, roll-Query}
use Rattle.wh_ast.specs.declared.query.Core.{Core, roll-Core}
use Rattle.wh_ast.specs.declared.query.Join.{Join, roll-Join}
use Rattle.wh_ast.specs.declared.query.Item.{Item}
use Rattle.wh_ast.specs.declared.query.Item.TheVariants as i
use Rattle.wh_ast.specs.declared.query.FromItem.{FromItem}
use Rattle.wh_ast.specs.declared.query.FromItem.TheVariants as s
use Rattle.wh_grammar.specs.Token.{Token}
use Rattle.wh_cursor.specs.declared.key.TokenClass.TheVariants as k
use Rattle.wh_cursor.specs.Steps.{tail, sees, Reader, ◌>>=◌, ◌>>◌, pure, refuse, skip, sees_word, eat_word, eat_key}
use Rattle.wh_cursor.specs.Steps.{expect_word, expect_key, read_name}
use Rattle.wh_cursor.specs.Lists.{listed}
use Rattle.wh_expr_parse.specs.Read.{read_expr, read_exprs}
use Rattle.wh_query_parse.specs.Follow.{ends_query, ends_alias, ends_filter}

-- takes nothing, and goes on only where that holds of what is left
unfoldable pub provided : (List Token → Bool) → Reader (Unit {0})
provided holds = λ ts. if holds ts then Some (tt, ts) else None

-- ---- aliases, conditions and groups

-- [AS] name
unfoldable pub read_named : Reader (List ℕ)
read_named = do
  eat_word (codes "AS")
  read_name

unfoldable pub some_alias : Reader (Option (List ℕ))
some_alias = do
  name ← read_named
  provided ends_alias
  pure (Some name)

unfoldable pub read_alias : Reader (Option (List ℕ))
read_alias = λ ts. if ends_alias ts then Some (None, ts) else some_alias ts

-- behind WHERE, or where it doesn't stand
abbrev pub filter_by : ℕ → Bool → Reader (Option Expr)
filter_by d true = do
  x ← read_expr d
  pure (Some x)
filter_by d false = pure None

unfoldable pub read_filter : ℕ → Reader (Option Expr)
read_filter d = do
  found ← eat_word (codes "WHERE")
  filter ← filter_by d found
  provided ends_filter
  pure filter

-- behind GROUP, or where it doesn't stand
abbrev pub group_by : ℕ → Bool → Reader (List Expr)
group_by d true = do
  expect_word (codes "BY")
  read_exprs d
group_by d false = pure []

unfoldable pub read_group : ℕ → Reader (List Expr)
read_group d = do
  found ← eat_word (codes "GROUP")
  group_by d found

-- ---- items

-- whether `. *` stands behind the next token
abbrev pub names_all : List Token → Bool
names_all ts = sees k.Dot (tail ts) && sees k.Star (tail (tail ts))

unfoldable pub read_all_of : Reader Item
read_all_of = do
  name ← read_name
  skip
  skip
  pure (i.StarOf name)

unfoldable pub read_shown : ℕ → Reader Item
read_shown d = do
  x ← read_expr d
  alias ← read_alias
  pure (i.Expr x alias)

unfoldable pub read_item : ℕ → Reader Item
read_item d =
    λ ts. if sees k.Star ts then Some (i.Star, tail ts) else if names_all ts then read_all_of ts else read_shown d ts

unfoldable pub read_items : ℕ → Reader (List Item)
read_items d = listed (read_item d)

-- ---- sources, cores and queries, over what stands in parentheses

abbrev pub sees_join : List Token → Bool
sees_join ts = sees_word (codes "INNER") ts || sees_word (codes "JOIN") ts

unfoldable pub read_named_source : Reader FromItem
read_named_source = do
  name ← read_name
  alias ← read_alias
  pure (s.Named name alias)

module _ (inner : Reader Query) where
  -- at the `(`
  unfoldable pub read_subquery : Reader FromItem
  read_subquery = do
    skip
    query ← inner
    expect_key k.RParen
    alias ← read_named
    provided ends_alias
    pure (s.Subquery query alias)

  unfoldable pub source_of : Reader FromItem
  source_of = λ ts. if sees k.LParen ts then read_subquery ts else read_named_source ts

  module _ (d : ℕ) where
    -- at JOIN
    unfoldable pub read_joined : Reader Join
    read_joined = do
      expect_word (codes "JOIN")
      source ← source_of
      expect_word (codes "ON")
      on ← read_expr d
      pure (roll-Join (record { source = source; on = on }))

    -- at INNER or JOIN
    unfoldable pub read_join : Reader Join
    read_join = do
      eat_word (codes "INNER")
      read_joined

    -- at most so many more
    unfoldable pub joins_from : ℕ → List Join → Reader (List Join)
    joins_from zero found = pure found
    joins_from (suc n) found = λ ts. if sees_join ts then (do
      join ← read_join
      joins_from n (found ++ join ∷ [])) ts else Some (found, ts)

    unfoldable pub read_core : Reader Core
    read_core = do
      expect_word (codes "SELECT")
      items ← read_items d
      expect_word (codes "FROM")
      source ← source_of
      joins ← joins_from 15 []
      filter ← read_filter d
      group ← read_group d
      pure (roll-Core (record { items = items; from = source; joins = joins; filter = filter; group = group }))

    -- one or more, at most so many
    unfoldable pub cores_from : ℕ → List Core → Reader (List Core)
    cores_from zero found = refuse
    cores_from (suc n) found = do
      core ← read_core
      more ← eat_word (codes "UNION")
      if more then (expect_word (codes "ALL") >> cores_from n (found ++ core ∷ [])) else pure (found ++ core ∷ [])

    unfoldable pub query_of : Reader Query
    query_of = do
      cores ← cores_from 64 []
      provided ends_query
      pure (roll-Query (record { cores = cores }))

-- ---- inside one another, as deep as the number says

-- in parentheses
unfoldable pub nested : ℕ → Reader Query
nested zero = refuse
nested (suc d) = query_of (nested d) d

unfoldable pub read_source : ℕ → Reader FromItem
read_source d = source_of (nested d)

unfoldable pub read_query : ℕ → Reader Query
read_query d = query_of (nested d) d
