-- What the types of the code stand for.
--     output_of, outputs_of     a column of a query, and all of them
--     query_in                  a query with its output columns
--     joined_in                 the rows of the entries so far
--     shown_in                  what items give
use Rattle.std.specs.Prelude.{List, map}
use Rattle.wh_algebra.specs.View.{query_of, scalars_of, calls_of}
use Rattle.wh_expr_bind.specs.View.{findings_of, type_of_option, entries_of}
use Rattle.wh_naming.specs.Select as naming
use Rattle.wh_core_bind.specs.declared.output.Output.{Output}
use Rattle.wh_core_bind.specs.declared.parts.BoundQuery.{BoundQuery}
use Rattle.wh_core_bind.specs.declared.parts.Joined.{Joined}
use Rattle.wh_core_bind.specs.declared.shown.Shown.{Shown}

abbrev pub output_of : Output → naming.Output
output_of o = record { name = o.name; type_of = type_of_option o.type_of }

abbrev pub outputs_of : List Output → List naming.Output
outputs_of os = map output_of os

unfoldable pub query_in : BoundQuery → naming.BoundQuery
query_in q = record {
  query = query_of q.query;
  outputs = outputs_of q.outputs.items;
  sources = q.sources.items;
  findings = findings_of q.findings;
  is_wide = q.is_wide;
}

unfoldable pub joined_in : Joined → naming.Joined
joined_in j = record {
  query = query_of j.query;
  entries = entries_of j.entries.items;
  sources = j.sources.items;
  findings = findings_of j.findings;
  is_wide = j.is_wide;
}

abbrev pub shown_in : Shown → naming.Shown
shown_in s = record {
  outputs = outputs_of s.outputs.items;
  scalars = scalars_of s.scalars.items;
  calls = calls_of s.calls.items;
  has_star = s.has_star;
  findings = findings_of s.findings;
}
