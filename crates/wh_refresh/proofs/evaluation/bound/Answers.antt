use Rattle.std.proofs.Common.{◌≡◌, List, map, ap, ◌∙◌}
use Rattle.std.proofs.lemmas.Result.{IfOk-weaker}
use Rattle.wh_ast.specs.declared.query.Query.{Query}
use Rattle.wh_naming.specs.Scope as names
use Rattle.wh_naming.specs.View.{named_of}
use Rattle.wh_naming.specs.Select.{bound_query}
use Rattle.wh_naming.specs.declared.object.Named.{Named}
use Rattle.wh_bind.specs.View.{query_reading}
use Rattle.wh_state.specs.Bound.{names_among}
use Rattle.wh_dynamic.specs.View.{query_of, source_of}
use Rattle.wh_dynamic.specs.declared.query.NamedSource.{NamedSource}
use Rattle.wh_refresh.specs.Objects.{objects_in}
use Rattle.wh_refresh.proofs.evaluation.bound.Goals as goal

pub returns : goal.returns
unfolding query_reading
returns c =
    let objects = objects_in c.args.objects.now in
    let q = query_of c.args.query.now in
    IfOk-weaker c.bind_query.result _ _ (λ found is. is
    ∙ ap (λ (t : Query). bound_query t (map named_of c.deref-2.result.now) 0) c.get.ensures
    ∙ ap (λ (ns : List Named). bound_query q.tree (map named_of ns) 0) c.deref-2.ensures.value
    ∙ ap (λ (ns : List names.Named). bound_query q.tree ns 0) c.in_ok-names.ensures
    ∙ ap (λ (ss : List NamedSource). bound_query q.tree (names_among objects (map source_of ss)) 0)
    c.deref.ensures.value) c.bind_query.ensures
