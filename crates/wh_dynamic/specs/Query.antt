-- The query of a dynamic table, as code has it.
use Rattle.std.specs.Prelude.{map}
use Rattle.wh_state.specs.Dynamic as state
use Rattle.wh_dynamic.specs.declared.query.NamedSource.{NamedSource}
use Rattle.wh_dynamic.specs.declared.query.DynamicQuery.{DynamicQuery}

abbrev pub source_of : NamedSource → state.Source
source_of s = record { name = s.name; id = s.id }

abbrev pub query_of : DynamicQuery → state.DynamicQuery
query_of q = record { tree = q.tree; text = q.text; sources = map source_of q.sources.items }
