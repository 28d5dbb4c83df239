-- What queries of the code stand for.
--     call_of, scalars_of, calls_of     calls and lists of scalars and calls
--     query_of                          the query of a tree
use Rattle.std.specs.Prelude.{List, map}
use Rattle.wh_meaning.specs.Scalar as scalars
use Rattle.wh_meaning.specs.Query as meaning
use Rattle.wh_scalar.specs.View.{scalar_of}
use Rattle.wh_scalar.specs.declared.scalar.Scalar.{Scalar}
use Rattle.wh_algebra.specs.declared.query.Call.{Call}
use Rattle.wh_algebra.specs.declared.query.Call.TheVariants.{Sum, CountRows, Count}
use Rattle.wh_algebra.specs.declared.query.Query.{Query, fold-Query}
use Rattle.wh_algebra.specs.declared.query.Query.TheOpen.{Query-F}

abbrev pub scalars_of : List Scalar → List scalars.Scalar
scalars_of es = map scalar_of es

abbrev pub call_of : Call → meaning.Call
call_of (Sum e) = meaning.Sum (scalar_of e)
call_of CountRows = meaning.CountRows
call_of (Count e) = meaning.Count (scalar_of e)

abbrev pub calls_of : List Call → List meaning.Call
calls_of calls = map call_of calls

abbrev pub layer_of : Query-F meaning.Query → meaning.Query
layer_of (Query-F.Scan source) = meaning.Scan source
layer_of (Query-F.Filter q e) = meaning.Filter q (scalar_of e)
layer_of (Query-F.Project q es) = meaning.Project q (scalars_of es)
layer_of (Query-F.Join a b e) = meaning.Join a b (scalar_of e)
layer_of (Query-F.UnionAll a b) = meaning.UnionAll a b
layer_of (Query-F.Group q es calls) = meaning.Group q (scalars_of es) (calls_of calls)

abbrev pub query_of : Query → meaning.Query
query_of q = fold-Query meaning.Query layer_of q
