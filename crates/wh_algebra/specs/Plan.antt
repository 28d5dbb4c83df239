-- What plans of the code stand for.
--     plan_of         the query that a plan carries out
--     operator_of     the same of a plan's last operator with its parts
use Rattle.wh_meaning.specs.Query as meaning
use Rattle.wh_scalar.specs.View.{scalar_of}
use Rattle.wh_algebra.specs.View.{scalars_of, calls_of}
use Rattle.wh_algebra.specs.declared.physical.Physical.{Physical, Physical-F, fold-Physical}
use Rattle.wh_algebra.specs.declared.physical.Step.{Step-F}
use Rattle.wh_algebra.specs.declared.physical.Operator.{Operator}
use Rattle.wh_algebra.specs.declared.physical.Operator.TheVariants as operators

abbrev pub layer_of : Step-F meaning.Query meaning.Query → meaning.Query
layer_of (Step-F.Scan source) = meaning.Scan source
layer_of (Step-F.Filter q e) = meaning.Filter q (scalar_of e)
layer_of (Step-F.Project q es) = meaning.Project q (scalars_of es)
layer_of (Step-F.Join a b e) = meaning.Join a b (scalar_of e)
layer_of (Step-F.UnionAll a b) = meaning.UnionAll a b
layer_of (Step-F.Group q es calls) = meaning.Group q (scalars_of es) (calls_of calls)

abbrev pub whole : Physical-F meaning.Query meaning.Query → meaning.Query
whole p = p.step

abbrev pub plan_of : Physical → meaning.Query
plan_of p = fold-Physical meaning.Query meaning.Query layer_of whole p

abbrev pub operator_of : Operator → meaning.Query
operator_of (operators.Scan source) = meaning.Scan source
operator_of (operators.Filter q e) = meaning.Filter (plan_of q.now) (scalar_of e.now)
operator_of (operators.Project q es) = meaning.Project (plan_of q.now) (scalars_of es.now)
operator_of (operators.Join a b e) = meaning.Join (plan_of a.now) (plan_of b.now) (scalar_of e.now)
operator_of (operators.UnionAll a b) = meaning.UnionAll (plan_of a.now) (plan_of b.now)
operator_of (operators.Group q es calls) = meaning.Group (plan_of q.now) (scalars_of es.now) (calls_of calls.now)
