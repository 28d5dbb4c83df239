-- What the types of the code stand for.
--     source_in                 a FROM entry with its rows
--     sorted_in                 the keys of ORDER BY
--     source_part, join_part    what stands behind FROM and JOIN
--     core_reading              what a core stands for
--     query_reading             what a query stands for
use Rattle.std.specs.Prelude.{map}
use Rattle.wh_value.specs.View.{column_of}
use Rattle.wh_ast.specs.declared.query.FromItem as ast_source
use Rattle.wh_ast.specs.declared.query.Join as ast_join
use Rattle.wh_ast.specs.declared.query.Core as ast_core
use Rattle.wh_ast.specs.declared.query.Query as ast_query
use Rattle.wh_algebra.specs.View.{query_of}
use Rattle.wh_listing.specs.View.{keys_of}
use Rattle.wh_expr_bind.specs.View.{findings_of}
use Rattle.wh_naming.specs.Select as naming
use Rattle.wh_naming.specs.Select.{SourcePart, QueryReading, JoinPart, source_step, core_step, join_step, query_step}
use Rattle.wh_bind.specs.declared.sources.BoundSource.{BoundSource}
use Rattle.wh_bind.specs.declared.keys.BoundKeys.{BoundKeys}

unfoldable pub source_in : BoundSource → naming.BoundSource
source_in s = record {
  query = query_of s.query;
  columns = map column_of s.columns.items;
  sources = s.sources.items;
  findings = findings_of s.findings;
  is_wide = s.is_wide;
}

abbrev pub sorted_in : BoundKeys → naming.BoundKeys
sorted_in k = record { keys = keys_of k.keys.items; findings = findings_of k.findings }

unfoldable pub source_part : ast_source.FromItem → SourcePart
source_part s =
    ast_source.fold-FromItem SourcePart QueryReading JoinPart QueryReading source_step core_step join_step query_step s

unfoldable pub join_part : ast_join.Join → JoinPart
join_part j =
    ast_join.fold-Join SourcePart QueryReading JoinPart QueryReading source_step core_step join_step query_step j

unfoldable pub core_reading : ast_core.Core → QueryReading
core_reading c =
    ast_core.fold-Core SourcePart QueryReading JoinPart QueryReading source_step core_step join_step query_step c

unfoldable pub query_reading : ast_query.Query → QueryReading
query_reading q = naming.bound_query q
