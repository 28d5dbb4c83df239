use Rattle.std.proofs.Common.{ℕ, List, [], ap, ◌∙◌}
use Rattle.std.specs.List.{AllByRecursion}
use Rattle.std.proofs.lemmas.Result.{IfOk-weaker}
use Rattle.wh_naming.specs.Select.{BoundQuery}
use Rattle.wh_algebra.specs.View.{query_of as plain_query_of}
use Rattle.wh_core_bind.specs.declared.parts.BoundQuery as code
use Rattle.wh_core_bind.specs.View.{query_in}
use Rattle.wh_exec.specs.Source.{filed_in, instance_in}
use Rattle.wh_filed.specs.Filed.{Filed}
use Rattle.wh_filed.specs.Fetching.{IsShownBy, IsCovered}
use Rattle.wh_state.specs.Dynamic.{DynamicQuery}
use Rattle.wh_state.specs.Bound.{query_bound}
use Rattle.wh_state.specs.Moments.{instance_at}
use Rattle.wh_dynamic.specs.View.{dynamic_of}
use Rattle.wh_machine.specs.Brought.{after_all}
use Rattle.wh_refresh.specs.Objects.{objects_in, filed_at_objects}
use Rattle.wh_refresh.specs.Sources.{bags_held}
use Rattle.wh_refresh.proofs.GivenLaws.{sources_hold}
use Rattle.wh_refresh.proofs.GroupLaws.{found_first}
use Rattle.wh_refresh.proofs.groups.change_from_nothing.Given.{Over}
use Rattle.wh_refresh.proofs.groups.change_from_nothing.Goals.{After-deref-2}
use Rattle.wh_refresh.proofs.groups.change_from_nothing.Goals as goal

-- what holds of the partitions of all objects holds of those of the sources
each_there : (P : Filed → Type 0) (g : Over) (c : After-deref-2 g)
    → AllByRecursion P (filed_at_objects c.args.objects.now) → AllByRecursion P (filed_in c.deref-2.result.now)
each_there P g c each =
    sources_hold P (filed_at_objects c.args.objects.now) c.deref-2.result.now c.in_ok-sources.sources.items
    c.deref.result.now c.in_ok-held.held.items c.deref-2.ensures.value c.in_ok-sources.ensures.filed
    c.deref.ensures.value c.in_ok-held.ensures.among each

pub kept_delta-requires-clause-comes : goal.kept_delta-requires-clause-comes
kept_delta-requires-clause-comes g c κs bounds =
    each_there (IsCovered (g.F.Fetch.covers c.args.fetch.now)) g
    (goal.at.kept_delta-requires-clause-comes g c).After-deref-2 c.requires

pub returns-clause-change : goal.returns-clause-change
unfolding query_in
returns-clause-change g c = λ shown has.
    let objects = objects_in c.args.objects.now in
    let d = dynamic_of c.args.dynamic.now in
    let moment = c.args.moment in
    let bound = ap (λ (b : code.BoundQuery). plain_query_of b.query) c.get.ensures
    ∙ ap (λ (b : BoundQuery). b.query) c.in_ok-bound.ensures
    ∙ ap (λ (q : DynamicQuery). (query_bound objects q).query) c.query.ensures in
    IfOk-weaker c.kept_delta.result _ _ (λ found is. λ stamp bs are above.
    found_first stamp moment bs objects above d has _ (instance_in c.deref-2.result.now) _ found bound
    (ap instance_in c.deref-2.ensures.value ∙ c.in_ok-sources.ensures.rows ∙ ap bags_held c.deref.ensures.value
    ∙ c.in_ok-held.ensures.held stamp bs are above
    ∙ ap (λ (ids : List ℕ). instance_at (after_all stamp moment bs objects) moment ids) c.reads.ensures)
    c.new.ensures.groups (is [])) (c.kept_delta.ensures.change
    (each_there (IsShownBy (g.F.Fetch.contents c.args.fetch.now)) g
    (goal.at.returns-clause-change g c).After-deref-2 shown) tt)

pub returns-clause-sound : goal.returns-clause-sound
returns-clause-sound g c shown =
    c.kept_delta.ensures.sound (each_there (IsShownBy (g.F.Fetch.contents c.args.fetch.now)) g
    (goal.at.returns-clause-sound g c).After-deref-2 shown) tt
