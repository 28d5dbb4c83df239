use Rattle.std.proofs.Common.{ℕ, List, subst, sym, ap, ◌∙◌}
use Rattle.std.specs.List.{AllByRecursion}
use Rattle.std.proofs.lemmas.Result.{IfOk-weaker}
use Rattle.wh_meaning.specs.Query.{eval}
use Rattle.wh_exec.specs.Source.{filed_in, instance_in}
use Rattle.wh_exec.specs.declared.source.Source.{Source}
use Rattle.wh_filed.specs.Filed.{Filed}
use Rattle.wh_filed.specs.Fetching.{IsShownBy, IsCovered}
use Rattle.wh_state.specs.Dynamic.{DynamicQuery}
use Rattle.wh_state.specs.Bound.{query_bound}
use Rattle.wh_state.specs.Moments.{instance_at}
use Rattle.wh_version.proofs.Among.{each_held}
use Rattle.wh_dynamic.specs.View.{dynamic_of}
use Rattle.wh_machine.specs.Brought.{after_all}
use Rattle.wh_refresh.specs.Objects.{objects_in, filed_at_objects}
use Rattle.wh_refresh.specs.Sources.{bags_held, filed_held}
use Rattle.wh_refresh.proofs.RefreshLemmas.{evaluated_over}
use Rattle.wh_refresh.proofs.rows.rows_by_query.Given.{Over}
use Rattle.wh_refresh.proofs.rows.rows_by_query.Goals.{After-deref-2}
use Rattle.wh_refresh.proofs.rows.rows_by_query.Goals as goal

-- what holds of the partitions of all objects holds of those of the sources
each_there : (P : Filed → Type 0) (g : Over) (c : After-deref-2 g)
    → AllByRecursion P (filed_at_objects c.args.objects.now)
    → AllByRecursion P (filed_in c.deref-2.result.now)
each_there P g c each =
    let held = c.in_ok-held.held.items in
    subst (AllByRecursion P)
    (sym (ap filed_in c.deref-2.ensures.value ∙ c.in_ok-sources.ensures.filed ∙ ap filed_held c.deref.ensures.value))
    (each_held P (filed_held held) (filed_at_objects c.args.objects.now) c.in_ok-held.ensures.among each)

pub evaluated-requires : goal.evaluated-requires
evaluated-requires g c = (
  c.type_bounds.sync-R,
  each_there (IsCovered (g.F.Fetch.covers c.args.fetch.now)) g (goal.at.evaluated-requires g c).After-deref-2
      c.requires,
)

pub returns-clause-evaluated : goal.returns-clause-evaluated
returns-clause-evaluated g c shown =
    let objects = objects_in c.args.objects.now in
    let d = dynamic_of c.args.dynamic.now in
    let moment = c.args.moment in
    IfOk-weaker c.evaluated.result _ _ (λ found is. λ stamp bs are above. is
    ∙ ap (λ (q : DynamicQuery). eval (query_bound objects q).query (instance_in c.deref-2.result.now)) c.query.ensures
    ∙ ap (λ (sources : List Source). eval (query_bound objects d.query).query (instance_in sources))
    c.deref-2.ensures.value
    ∙ ap (eval (query_bound objects d.query).query) (c.in_ok-sources.ensures.rows
    ∙ ap bags_held c.deref.ensures.value ∙ c.in_ok-held.ensures.held stamp bs are above)
    ∙ ap (λ (ids : List ℕ). eval (query_bound objects d.query).query
    (instance_at (after_all stamp moment bs objects) moment ids)) c.reads.ensures
    ∙ sym (evaluated_over stamp moment bs objects above d))
    (c.evaluated.ensures.found (each_there (IsShownBy (g.F.Fetch.contents c.args.fetch.now)) g
    (goal.at.returns-clause-evaluated g c).After-deref-2 shown))

pub returns-clause-sound : goal.returns-clause-sound
returns-clause-sound g c shown =
    c.evaluated.ensures.sound (each_there (IsShownBy (g.F.Fetch.contents c.args.fetch.now)) g
    (goal.at.returns-clause-sound g c).After-deref-2 shown)
