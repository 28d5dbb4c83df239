use Rattle.std.proofs.Common.{◌≡◌, ℕ, List, [], ap, subst, ◌∙◌}
use Rattle.std.specs.List.{AllByRecursion}
use Rattle.std.proofs.lemmas.Result.{IfOk-weaker}
use Rattle.wh_meaning.specs.Bag.{Bag}
use Rattle.wh_meaning.specs.Query as meant
use Rattle.wh_meaning.specs.Query.{eval, Instance}
use Rattle.wh_algebra.specs.View.{query_of as plain_query_of}
use Rattle.wh_exec.specs.Source.{filed_in, instance_in}
use Rattle.wh_exec.specs.declared.source.Source.{Source}
use Rattle.wh_filed.specs.Filed.{Filed}
use Rattle.wh_filed.specs.Fetching.{IsShownBy, IsCovered}
use Rattle.wh_delta.specs.Moved.{AreNumbered, views_of, HoldsFor}
use Rattle.wh_delta.specs.Found.{FindsNet}
use Rattle.wh_state.specs.Moments.{instance_at}
use Rattle.wh_machine.specs.Brought.{after_all}
use Rattle.wh_refresh.specs.Objects.{objects_in, filed_at_objects}
use Rattle.std.proofs.lemmas.Result.{on_ok_weaker}
use Rattle.wh_refresh.specs.Asked.{ids_of}
use Rattle.wh_refresh.proofs.AskLaws.{by_sources}
use Rattle.wh_refresh.proofs.GivenLaws.{sources_hold, given_hold, bags_are, views_are, numbered_held, under}
use Rattle.wh_refresh.proofs.changes.change_by_sources.Given.{Over}
use Rattle.wh_refresh.proofs.changes.change_by_sources.Goals.{After-deref-4}
use Rattle.wh_refresh.proofs.changes.change_by_sources.Goals as goal

-- what holds of the partitions of both instances holds of those that a change is worked out from
holds_for : (P : Filed → Type 0) (q : meant.Query) (old new : List Source) → AllByRecursion P (filed_in old)
    → AllByRecursion P (filed_in new) → HoldsFor P q old new
holds_for P q old new was is =
    record { comes = given_hold P new old is; goes = given_hold P old new was; stays = λ _. was }

module _ (g : Over) where
  each_old : (P : Filed → Type 0) (c : After-deref-4 g) → AllByRecursion P (filed_at_objects c.args.objects.now)
      → AllByRecursion P (filed_in c.deref-3.result.now)
  each_old P c each =
      sources_hold P (filed_at_objects c.args.objects.now) c.deref-3.result.now c.in_ok-old.old.items
      c.deref.result.now c.in_ok-stood.stood.items c.deref-3.ensures.value c.in_ok-old.ensures.filed
      c.deref.ensures.value c.in_ok-stood.ensures.among each

  each_new : (P : Filed → Type 0) (c : After-deref-4 g) → AllByRecursion P (filed_at_objects c.args.objects.now)
      → AllByRecursion P (filed_in c.deref-4.result.now)
  each_new P c each =
      sources_hold P (filed_at_objects c.args.objects.now) c.deref-4.result.now c.in_ok-new.new.items
      c.deref-2.result.now c.in_ok-held.held.items c.deref-4.ensures.value c.in_ok-new.ensures.filed
      c.deref-2.ensures.value c.in_ok-held.ensures.among each

pub delta-requires : goal.delta-requires
delta-requires g c = (
  c.type_bounds.sync-R,
  let after = (goal.at.delta-requires g c).After-deref-4 in
      let P = IsCovered (g.F.Fetch.covers c.args.fetch.now) in
      holds_for P _ c.deref-3.result.now c.deref-4.result.now (each_old g P after c.requires)
      (each_new g P after c.requires),
)

pub returns-clause-change : goal.returns-clause-change
returns-clause-change g c = λ shown.
    let after = (goal.at.returns-clause-change g c).After-deref-4 in
    let objects = objects_in c.args.objects.now in
    let q = plain_query_of c.args.query.now in
    let ids = c.args.ids.now in
    let P = IsShownBy (g.F.Fetch.contents c.args.fetch.now) in
    IfOk-weaker c.delta.result _ _ (λ found is. λ stamp bs was are above has.
    let then : instance_in c.deref-3.result.now ≡ instance_at objects c.args.from ids =
    bags_are c.deref-3.result.now c.in_ok-old.old.items c.deref.result.now c.in_ok-stood.stood.items _
    c.deref-3.ensures.value c.in_ok-old.ensures.rows c.deref.ensures.value (c.in_ok-stood.ensures.held 0 [] tt tt) in
    let now : instance_in c.deref-4.result.now ≡ instance_at (after_all stamp c.args.to bs objects) c.args.to ids =
    bags_are c.deref-4.result.now c.in_ok-new.new.items c.deref-2.result.now c.in_ok-held.held.items _
    c.deref-4.ensures.value c.in_ok-new.ensures.rows c.deref-2.ensures.value
    (c.in_ok-held.ensures.held stamp bs are above) in
    let numbered : AreNumbered c.deref-3.result.now c.deref-4.result.now =
    numbered_held c.args.objects.now ids c.in_ok-stood.stood.items c.in_ok-held.held.items
    (views_of c.deref-3.result.now) (views_of c.deref-4.result.now)
    (views_are c.deref-3.result.now c.in_ok-old.old.items c.deref.result.now c.in_ok-stood.stood.items
    c.deref-3.ensures.value c.in_ok-old.ensures.views c.deref.ensures.value)
    (views_are c.deref-4.result.now c.in_ok-new.new.items c.deref-2.result.now c.in_ok-held.held.items
    c.deref-4.ensures.value c.in_ok-new.ensures.views c.deref-2.ensures.value) (c.in_ok-stood.ensures.parts [] tt)
    (c.in_ok-held.ensures.parts bs are) in
    subst (λ (e : Instance). FindsNet was (eval q e) found) now (is numbered was (ap (eval q) then ∙ has)))
    (under c.delta.result _ (c.delta.ensures.change (holds_for P _ c.deref-3.result.now c.deref-4.result.now
    (each_old g P after shown) (each_new g P after shown))))

pub returns-clause-sound : goal.returns-clause-sound
returns-clause-sound g c shown =
    let after = (goal.at.returns-clause-sound g c).After-deref-4 in
    let P = IsShownBy (g.F.Fetch.contents c.args.fetch.now) in
    c.delta.ensures.sound (holds_for P _ c.deref-3.result.now c.deref-4.result.now (each_old g P after shown)
    (each_new g P after shown))

pub returns-clause-asks : goal.returns-clause-asks
returns-clause-asks g c = λ linear. on_ok_weaker c.delta.result
    (by_sources c.args.objects.now (ids_of c.args.before.now) c.args.from c.args.to c.args.ids.now
    (plain_query_of c.args.query.now) c.in_ok-stood.stood.items c.in_ok-held.held.items c.deref-3.result.now
    c.deref-4.result.now _ _ c.in_ok-stood.ensures.stand c.in_ok-held.ensures.stand
    (views_are c.deref-3.result.now c.in_ok-old.old.items c.deref.result.now c.in_ok-stood.stood.items
    c.deref-3.ensures.value c.in_ok-old.ensures.views c.deref.ensures.value)
    (views_are c.deref-4.result.now c.in_ok-new.new.items c.deref-2.result.now c.in_ok-held.held.items
    c.deref-4.ensures.value c.in_ok-new.ensures.views c.deref-2.ensures.value))
    (c.delta.ensures.asks linear)
