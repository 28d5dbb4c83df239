use Rattle.std.proofs.Common.{[], ap, ◌∙◌}
use Rattle.std.proofs.lemmas.Result.{on_ok_weaker}
use Rattle.std.specs.List.{AllByRecursion}
use Rattle.std.proofs.lemmas.Result.{IfOk-weaker}
use Rattle.wh_algebra.specs.View.{query_of as plain_query_of}
use Rattle.wh_exec.specs.Source.{filed_in, instance_in}
use Rattle.wh_filed.specs.Filed.{Filed}
use Rattle.wh_filed.specs.Fetching.{IsShownBy, IsCovered}
use Rattle.wh_state.specs.Moments.{instance_at}
use Rattle.wh_refresh.specs.Objects.{objects_in, filed_at_objects}
use Rattle.wh_refresh.specs.Sources.{bags_held}
use Rattle.wh_refresh.specs.Asked.{IsFiledIn}
use Rattle.wh_refresh.proofs.AskLaws.{by_moves}
use Rattle.wh_refresh.proofs.GivenLaws.{sources_hold, views_are}
use Rattle.wh_refresh.proofs.MovingLaws.{turns_given}
use Rattle.wh_refresh.proofs.groups.kept_by_moves.Given.{Over}
use Rattle.wh_refresh.proofs.groups.kept_by_moves.Goals.{After-deref-4}
use Rattle.wh_refresh.proofs.groups.kept_by_moves.Goals as goal

module _ (g : Over) where
  each_came : (P : Filed → Type 0) (c : After-deref-4 g) → AllByRecursion P (filed_at_objects c.args.objects.now)
      → AllByRecursion P (filed_in c.deref-3.result.now)
  each_came P c each =
      sources_hold P (filed_at_objects c.args.objects.now) c.deref-3.result.now c.in_ok-came.came.items
      c.deref.result.now c.in_ok-moved.moved.came.items c.deref-3.ensures.value c.in_ok-came.ensures.filed
      c.deref.ensures.value c.in_ok-moved.ensures.came each

  each_went : (P : Filed → Type 0) (c : After-deref-4 g) → AllByRecursion P (filed_at_objects c.args.objects.now)
      → AllByRecursion P (filed_in c.deref-4.result.now)
  each_went P c each =
      sources_hold P (filed_at_objects c.args.objects.now) c.deref-4.result.now c.in_ok-went.went.items
      c.deref-2.result.now c.in_ok-moved.moved.went.items c.deref-4.ensures.value c.in_ok-went.ensures.filed
      c.deref-2.ensures.value c.in_ok-moved.ensures.went each

pub kept_delta-requires-clause-comes : goal.kept_delta-requires-clause-comes
kept_delta-requires-clause-comes g c κs bounds =
    each_came g (IsCovered (g.F.Fetch.covers c.args.fetch.now))
    (goal.at.kept_delta-requires-clause-comes g c).After-deref-4 c.requires.covered

pub kept_delta-requires-clause-goes : goal.kept_delta-requires-clause-goes
kept_delta-requires-clause-goes g c κs bounds =
    each_went g (IsCovered (g.F.Fetch.covers c.args.fetch.now))
    (goal.at.kept_delta-requires-clause-goes g c).After-deref-4 c.requires.covered

pub returns-clause-change : goal.returns-clause-change
returns-clause-change g c = λ shown.
    let after = (goal.at.returns-clause-change g c).After-deref-4 in
    let objects = objects_in c.args.objects.now in
    let from = c.args.from in
    let to = c.args.to in
    let ids = c.args.ids.now in
    let P = IsShownBy (g.F.Fetch.contents c.args.fetch.now) in
    let turns = turns_given objects from to ids (instance_in c.deref-3.result.now) (instance_in c.deref-4.result.now)
    c.in_ok-moved.moved.came.items c.in_ok-moved.moved.went.items
    (ap instance_in c.deref-3.ensures.value ∙ c.in_ok-came.ensures.rows ∙ ap bags_held c.deref.ensures.value)
    (ap instance_in c.deref-4.ensures.value ∙ c.in_ok-went.ensures.rows ∙ ap bags_held c.deref-2.ensures.value)
    c.in_ok-moved.ensures.turns in
    IfOk-weaker c.kept_delta.result _ _
    (λ found is. (is (instance_at objects from ids)).leads (instance_at objects to ids) turns)
    (c.kept_delta.ensures.change (each_came g P after shown) (each_went g P after shown))

pub returns-clause-sound : goal.returns-clause-sound
returns-clause-sound g c shown =
    let after = (goal.at.returns-clause-sound g c).After-deref-4 in
    let P = IsShownBy (g.F.Fetch.contents c.args.fetch.now) in
    c.kept_delta.ensures.sound (each_came g P after shown) (each_went g P after shown)

pub returns-clause-asks : goal.returns-clause-asks
returns-clause-asks g c =
    on_ok_weaker c.kept_delta.result
    (by_moves (IsFiledIn c.args.objects.now []) c.args.objects.now c.args.from c.args.to c.args.ids.now
    (plain_query_of c.args.query.now) c.in_ok-moved.moved.came.items c.in_ok-moved.moved.went.items
    c.deref-3.result.now c.deref-4.result.now _ _ c.in_ok-moved.ensures.moves
    (views_are c.deref-3.result.now c.in_ok-came.came.items c.deref.result.now c.in_ok-moved.moved.came.items
    c.deref-3.ensures.value c.in_ok-came.ensures.views c.deref.ensures.value)
    (views_are c.deref-4.result.now c.in_ok-went.went.items c.deref-2.result.now c.in_ok-moved.moved.went.items
    c.deref-4.ensures.value c.in_ok-went.ensures.views c.deref-2.ensures.value))
    c.kept_delta.ensures.asks
