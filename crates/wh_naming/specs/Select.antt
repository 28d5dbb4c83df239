-- What a SELECT stands for.
--     BoundQuery     a query with its output columns, its sources' ids in the order of the
--                    text, and what is found wrong
--     bound_query    of a query as it is written
--     BoundSelect    with the keys of ORDER BY
--     bound_select   of a whole SELECT
use Rattle.std.specs.Prelude.{ℕ, zero, suc, ◌+◌, Bool, true, false, not, ◌&&◌, ◌||◌, if◌then◌else◌, List, [], ◌∷◌, ◌++◌}
use Rattle.std.specs.Prelude.{length, map, Option, Some, None, unwrap_or, is_some, nat_lt, bytes_eq, codes, decimal}
use Rattle.std.specs.List.{list_any}
use Rattle.wh_value.specs.Value.{Null}
use Rattle.wh_value.specs.Column as table
use Rattle.wh_value.specs.Column.{ColumnType, VarcharType, BooleanType}
use Rattle.wh_value.specs.Limit.{bound}
use Rattle.wh_value.specs.declared.limit.Limit.TheVariants as limits
use Rattle.wh_ast.specs.declared.expr.Expr.{Expr, out-Expr}
use Rattle.wh_ast.specs.declared.expr.Expr.TheOpen.{Expr-F}
use Rattle.wh_ast.specs.declared.query.Item.{Item}
use Rattle.wh_ast.specs.declared.query.Item.TheVariants as items
use Rattle.wh_ast.specs.declared.query.OrderKey.{OrderKey}
use Rattle.wh_ast.specs.declared.query.OrderKey.TheVariants as keys
use Rattle.wh_ast.specs.declared.query.Sort.{Sort}
use Rattle.wh_ast.specs.declared.query.FromItem.TheOpen.{FromItem-F, Join-F}
use Rattle.wh_ast.specs.declared.query.Core.{Core-F}
use Rattle.wh_ast.specs.declared.query.Query.{Query, Query-F, fold-Query}
use Rattle.wh_meaning.specs.Scalar.{Scalar, Const, Column}
use Rattle.wh_meaning.specs.Query as meaning
use Rattle.wh_meaning.specs.Query.{Call, Scan, Filter, Project, Join, UnionAll, Group}
use Rattle.wh_meaning.specs.Listing.{SortKey}
use Rattle.wh_naming.specs.Findings.{Name, Findings, nothing_found, either, followed, unknown_object, wrong_kind_if}
use Rattle.wh_naming.specs.Findings.{unknown_column, taken_if, mistyped_if}
use Rattle.wh_naming.specs.Scope.{Named, is_source, named, Entry, width, Span, only, columns_of_entry}
use Rattle.wh_naming.specs.Typing.{Typed, Context, alike, takes, typed}
use Rattle.wh_naming.specs.Grouping.{regrouped}

-- None as type is that of NULL
pub record Output : Type 0 where
  pub name : Name
  pub type_of : Option ColumnType

-- wide where it, or a query in it, has more columns than the limit
pub record BoundQuery : Type 0 where
  pub query : meaning.Query
  pub outputs : List Output
  pub sources : List ℕ
  pub findings : Findings
  pub is_wide : Bool

-- ---- FROM

-- a FROM entry with its rows
pub record BoundSource : Type 0 where
  pub query : meaning.Query
  pub columns : List table.Column
  pub sources : List ℕ
  pub findings : Findings
  pub is_wide : Bool

-- with the number of the next source
abbrev pub SourceReading : Type 0
SourceReading = List Named → ℕ → BoundSource

-- an entry's name is its alias, or else its object's name
pub record SourcePart : Type 0 where
  pub name : Name
  pub reading : SourceReading

pub record JoinPart : Type 0 where
  pub source : SourcePart
  pub on : Expr

abbrev pub object_source : Name → ℕ → Option Named → BoundSource
object_source name number None =
    record { query = Scan number; columns = []; sources = 0 ∷ []; findings = unknown_object name; is_wide = false }
object_source name number (Some object) = record {
  query = Scan number;
  columns = object.columns;
  sources = object.id ∷ [];
  findings = wrong_kind_if (not (is_source object.kind)) name;
  is_wide = false;
}

-- a column that is NULL in every core is VARCHAR for all that reads it
abbrev pub column_of : Output → table.Column
column_of o = record { name = o.name; column_type = unwrap_or o.type_of VarcharType }

abbrev pub query_source : BoundQuery → BoundSource
query_source q = record {
  query = q.query;
  columns = map column_of q.outputs;
  sources = q.sources;
  findings = q.findings;
  is_wide = q.is_wide;
}

-- the rows of the entries so far
pub record Joined : Type 0 where
  pub query : meaning.Query
  pub entries : List Entry
  pub sources : List ℕ
  pub findings : Findings
  pub is_wide : Bool

abbrev pub part_name : JoinPart → Name
part_name j = j.source.name

abbrev pub comes_again : Name → List JoinPart → Bool
comes_again name joins = list_any (λ j. bytes_eq (part_name j) name) joins

abbrev pub first_entry : SourcePart → List JoinPart → BoundSource → Joined
first_entry part joins s = record {
  query = s.query;
  entries = (record { name = part.name; columns = s.columns }) ∷ [];
  sources = s.sources;
  findings = followed s.findings (taken_if (comes_again part.name joins) part.name);
  is_wide = s.is_wide;
}

-- expressions of a core that aren't items hold no call
abbrev pub plain : List Entry → Expr → Typed
plain entries e = typed e (record { entries = entries; takes_calls = false }) 0

-- a condition is a BOOLEAN
abbrev pub condition_findings : Typed → Findings
condition_findings x = followed x.findings (takes BooleanType x)

-- one entry more: its ON sees the entries to its left, and itself
abbrev pub with_entry : Joined → JoinPart → List JoinPart → BoundSource → Joined
with_entry left j joins s = met (left.entries ++ (record { name = part_name j; columns = s.columns }) ∷ [])
  where
    made : List Entry → Typed → Joined
    made entries on = record {
      query = Join left.query s.query on.scalar;
      entries = entries;
      sources = left.sources ++ s.sources;
      findings = followed left.findings (followed
          (followed s.findings (taken_if (comes_again (part_name j) joins) (part_name j))) (condition_findings on));
      is_wide = left.is_wide || s.is_wide;
    }

    met : List Entry → Joined
    met entries = made entries (plain entries j.on)

abbrev pub with_joins : List Named → ℕ → Joined → List JoinPart → Joined
with_joins names next left [] = left
with_joins names next left (j ∷ joins) =
    with_joins names next (with_entry left j joins (j.source.reading names (next + length left.sources))) joins

abbrev pub from_part : List Named → ℕ → SourcePart → List JoinPart → Joined
from_part names next part joins = with_joins names next (first_entry part joins (part.reading names next)) joins

-- ---- WHERE and GROUP BY

abbrev pub filtered_by : Joined → Option Expr → meaning.Query
filtered_by j None = j.query
filtered_by j (Some e) = Filter j.query (plain j.entries e).scalar

abbrev pub filter_findings : List Entry → Option Expr → Findings
filter_findings entries None = nothing_found
filter_findings entries (Some e) = condition_findings (plain entries e)

abbrev pub key_scalars : List Entry → List Expr → List Scalar
key_scalars entries keys = map (λ e. (plain entries e).scalar) keys

abbrev pub key_findings : List Entry → List Expr → Findings
key_findings entries [] = nothing_found
key_findings entries (e ∷ es) = followed (plain entries e).findings (key_findings entries es)

-- ---- items

-- the columns that items give, and the calls in them
pub record Shown : Type 0 where
  pub outputs : List Output
  pub scalars : List Scalar
  pub calls : List Call
  pub has_star : Bool
  pub findings : Findings

abbrev pub nothing_shown : Shown
nothing_shown = record { outputs = []; scalars = []; calls = []; has_star = false; findings = nothing_found }

abbrev pub places_from : ℕ → List table.Column → List Scalar
places_from place [] = []
places_from place (c ∷ cs) = Column place ∷ places_from (suc place) cs

abbrev pub output_of : table.Column → Output
output_of c = record { name = c.name; type_of = Some c.column_type }

abbrev pub with_columns : Shown → ℕ → List table.Column → Shown
with_columns shown from columns = record shown {
  outputs = shown.outputs ++ map output_of columns;
  scalars = shown.scalars ++ places_from from columns;
  has_star = true;
}

abbrev pub all_columns : List Entry → List table.Column
all_columns [] = []
all_columns (e ∷ es) = e.columns ++ all_columns es

abbrev pub with_span : Shown → Name → Option Span → Shown
with_span shown name None = record shown { has_star = true; findings = followed shown.findings (unknown_column name) }
with_span shown name (Some s) = with_columns shown s.from s.columns

-- a column's name, or COL with its position from 1
abbrev pub name_in : Expr-F Expr → ℕ → Name
name_in (Expr-F.Column entry name) position = name
name_in _ position = codes "COL" ++ decimal position

abbrev pub output_name : Option Name → Expr → ℕ → Name
output_name None e position = name_in (out-Expr e) position
output_name (Some alias) e position = alias

abbrev pub with_item : Shown → Name → Typed → Shown
with_item shown name x = record shown {
  outputs = shown.outputs ++ (record { name = name; type_of = x.type_of }) ∷ [];
  scalars = shown.scalars ++ x.scalar ∷ [];
  calls = shown.calls ++ x.calls;
  findings = followed shown.findings x.findings;
}

abbrev pub item_context : List Entry → Context
item_context entries = record { entries = entries; takes_calls = true }

abbrev pub shown_with : List Entry → Shown → Item → Shown
shown_with entries shown items.Star = with_columns shown 0 (all_columns entries)
shown_with entries shown (items.StarOf name) = with_span shown name (columns_of_entry name entries)
shown_with entries shown (items.Expr e alias) =
    with_item shown (output_name alias e (suc (length shown.outputs)))
    (typed e (item_context entries) (length shown.calls))

abbrev pub all_shown : List Entry → Shown → List Item → Shown
all_shown entries shown [] = shown
all_shown entries shown (item ∷ rest) = all_shown entries (shown_with entries shown item) rest

-- ---- a core: its joins, then WHERE, then GROUP BY, then its items

abbrev pub is_none : {A : Type 0} → List A → Bool
is_none [] = true
is_none (x ∷ xs) = false

-- with GROUP BY or a call
abbrev pub is_grouped : List Expr → List Call → Bool
is_grouped group calls = not (is_none group && is_none calls)

abbrev pub scalar_or : Option Scalar → Scalar
scalar_or s = unwrap_or s (Const Null)

abbrev pub regrouped_all : List Scalar → ℕ → List Scalar → List Scalar
regrouped_all keys width scalars = map (λ s. scalar_or (regrouped keys width s)) scalars

-- in a core with groups `*` is no item, and each column stands inside a call or a key
abbrev pub group_findings : List Scalar → ℕ → Shown → Findings
group_findings keys width shown =
    mistyped_if (shown.has_star || list_any (λ s. not (is_some (regrouped keys width s))) shown.scalars)

abbrev pub is_too_wide : List Output → Bool
is_too_wide outputs = nat_lt (bound limits.Output) (length outputs)

abbrev pub projected : Bool → meaning.Query → List Scalar → ℕ → Shown → meaning.Query
projected false q keys width shown = Project q shown.scalars
projected true q keys width shown = Project (Group q keys shown.calls) (regrouped_all keys width shown.scalars)

abbrev pub core_of : Joined → Option Expr → List Expr → Shown → BoundQuery
core_of j filter group shown = made (is_grouped group shown.calls) (key_scalars j.entries group) (width j.entries)
  where
    made : Bool → List Scalar → ℕ → BoundQuery
    made groups keys wide = record {
      query = projected groups (filtered_by j filter) keys wide shown;
      outputs = shown.outputs;
      sources = j.sources;
      findings = followed shown.findings (followed j.findings (followed (filter_findings j.entries filter)
          (followed (key_findings j.entries group)
          (if groups then group_findings keys wide shown else nothing_found))));
      is_wide = j.is_wide || is_too_wide shown.outputs;
    }

abbrev pub bound_core : List Item → Joined → Option Expr → List Expr → BoundQuery
bound_core items j filter group = core_of j filter group (all_shown j.entries nothing_shown items)

-- ---- UNION ALL

-- names come from the first; a type that is known in one of them is known
abbrev pub merged : List Output → List Output → List Output
merged [] others = []
merged (o ∷ os) [] = o ∷ os
merged (o ∷ os) (p ∷ ps) = (record { name = o.name; type_of = either o.type_of p.type_of }) ∷ merged os ps

abbrev pub fit_each_other : List Output → List Output → Bool
fit_each_other [] [] = true
fit_each_other [] (p ∷ ps) = false
fit_each_other (o ∷ os) [] = false
fit_each_other (o ∷ os) (p ∷ ps) = alike o.type_of p.type_of && fit_each_other os ps

abbrev pub united : BoundQuery → BoundQuery → BoundQuery
united a b = record {
  query = UnionAll a.query b.query;
  outputs = merged a.outputs b.outputs;
  sources = a.sources ++ b.sources;
  findings = followed (followed a.findings b.findings) (mistyped_if (not (fit_each_other a.outputs b.outputs)));
  is_wide = a.is_wide || b.is_wide;
}

abbrev pub QueryReading : Type 0
QueryReading = List Named → ℕ → BoundQuery

abbrev pub no_query : BoundQuery
no_query = record { query = Scan 0; outputs = []; sources = []; findings = nothing_found; is_wide = false }

abbrev pub more_cores : List Named → ℕ → BoundQuery → List QueryReading → BoundQuery
more_cores names next q [] = q
more_cores names next q (core ∷ cores) = more_cores names next (united q (core names (next + length q.sources))) cores

abbrev pub all_cores : List Named → ℕ → List QueryReading → BoundQuery
all_cores names next [] = no_query
all_cores names next (core ∷ cores) = more_cores names next (core names next) cores

-- ---- the whole query

abbrev pub named_source : Name → SourceReading
named_source name names next = object_source name next (named names name)

unfoldable pub source_step : FromItem-F SourcePart QueryReading JoinPart QueryReading → SourcePart
source_step (FromItem-F.Named name alias) = record { name = unwrap_or alias name; reading = named_source name }
source_step (FromItem-F.Subquery q alias) = record { name = alias; reading = λ names next. query_source (q names next) }

unfoldable pub core_step : Core-F SourcePart QueryReading JoinPart QueryReading → QueryReading
core_step c names next = bound_core c.items (from_part names next c.from c.joins) c.filter c.group

unfoldable pub join_step : Join-F SourcePart QueryReading JoinPart QueryReading → JoinPart
join_step j = record { source = j.source; on = j.on }

unfoldable pub query_step : Query-F SourcePart QueryReading JoinPart QueryReading → QueryReading
query_step q names next = all_cores names next q.cores

abbrev pub bound_query : Query → QueryReading
bound_query q = fold-Query SourcePart QueryReading JoinPart QueryReading source_step core_step join_step query_step q

-- ---- ORDER BY: output names or their positions from 1

abbrev pub positions_of : Name → ℕ → List Output → List ℕ
positions_of name place [] = []
positions_of name place (o ∷ os) = (if bytes_eq o.name name then place ∷ [] else []) ++ positions_of name (suc place) os

pub record BoundKeys : Type 0 where
  pub keys : List SortKey
  pub findings : Findings

abbrev pub with_key : BoundKeys → Bool → Name → Option ℕ → BoundKeys
with_key k descending name None = record k { findings = followed k.findings (unknown_column name) }
with_key k descending name (Some place) =
    record k { keys = k.keys ++ (record { place = place; is_descending = descending }) ∷ [] }

abbrev pub position_in : ℕ → List Output → Option ℕ
position_in zero outputs = None
position_in (suc place) outputs = if nat_lt place (length outputs) then Some place else None

abbrev pub sorted_by : List Output → BoundKeys → Sort → BoundKeys
sorted_by outputs k sort = with_written sort.key
  where
    with_written : OrderKey → BoundKeys
    with_written (keys.Name name) = with_key k sort.descending name (only (positions_of name 0 outputs))
    with_written (keys.Position number) = with_key k sort.descending (decimal number) (position_in number outputs)

abbrev pub all_sorted : List Output → BoundKeys → List Sort → BoundKeys
all_sorted outputs k [] = k
all_sorted outputs k (sort ∷ sorts) = all_sorted outputs (sorted_by outputs k sort) sorts

-- ---- SELECT

pub record BoundSelect : Type 0 where
  pub query : meaning.Query
  pub names : List Name
  pub sources : List ℕ
  pub keys : List SortKey
  pub findings : Findings
  pub is_wide : Bool

abbrev pub select_of : BoundQuery → BoundKeys → BoundSelect
select_of q k = record {
  query = q.query;
  names = map (λ o. o.name) q.outputs;
  sources = q.sources;
  keys = k.keys;
  findings = followed q.findings k.findings;
  is_wide = q.is_wide;
}

abbrev pub ordered : BoundQuery → List Sort → BoundSelect
ordered q sorts = select_of q (all_sorted q.outputs (record { keys = []; findings = nothing_found }) sorts)

unfoldable pub bound_select : List Named → Query → List Sort → BoundSelect
bound_select names q sorts = ordered (bound_query q names 0) sorts
