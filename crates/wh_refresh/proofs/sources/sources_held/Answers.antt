use Rattle.std.proofs.Common.{ℕ, List, slice_index_or, Contains, refl, ap, subst, ◌∙◌}
use Rattle.std.proofs.lemmas.List.{take_all}
use Rattle.wh_state.specs.State.{Object}
use Rattle.wh_state.specs.Moments.{bag_at, instance_at}
use Rattle.wh_machine.specs.Brought.{after_all}
use Rattle.wh_plan.proofs.ListLaws.{mapped_next, each_next}
use Rattle.wh_refresh.specs.Objects.{objects_in, filed_at_objects}
use Rattle.wh_refresh.specs.Sources.{bag_held, filed_by, AreParts}
use Rattle.wh_refresh.specs.Asked.{ids_of, AllStanding}
use Rattle.wh_refresh.proofs.PartLaws.{parts_more}
use Rattle.wh_refresh.proofs.MovesLaws.{standing_more}
use Rattle.wh_refresh.proofs.sources.sources_held.Goals as goal

pub loop-id-preserved : goal.loop-id-preserved
loop-id-preserved c = let at = c.loop-id in record {
  held = λ stamp bs are above.
      mapped_next bag_held (bag_at (after_all stamp c.args.moment bs (objects_in c.args.objects.now)) c.args.moment)
      c.args.ids.now at.id-index at.sources.items _ c.in_ok-source.source
      (slice_index_or c.args.ids.now at.id-index 0) 0 c.loop-id-test.true refl c.in_ok-push.ensures.items
      (at.invariant.held stamp bs are above) (c.in_ok-source.ensures.held stamp bs are above);
  among = each_next (Contains (filed_at_objects c.args.objects.now)) filed_by at.sources.items _
      c.in_ok-source.source c.in_ok-push.ensures.items at.invariant.among c.in_ok-source.ensures.among;
  stand = standing_more c.args.objects.now (ids_of c.args.brought.now) c.args.moment c.args.ids.now at.id-index
      at.sources.items _ c.in_ok-source.source c.loop-id-test.true c.in_ok-push.ensures.items at.invariant.stand
      c.in_ok-source.ensures.stands;
  parts = λ bs are. parts_more c.args.objects.now c.args.ids.now at.id-index at.sources.items _
      c.in_ok-source.source c.loop-id-test.true c.in_ok-push.ensures.items (at.invariant.parts bs are)
      (c.in_ok-source.ensures.part bs are);
}

pub returns-clause-held : goal.returns-clause-held
returns-clause-held c stamp bs are above =
    let objects : List Object = after_all stamp c.args.moment bs (objects_in c.args.objects.now) in
    c.loop-id.invariant.held stamp bs are above
    ∙ ap (instance_at objects c.args.moment) (take_all c.loop-id.id-index c.args.ids.now c.loop-id-test.false)

pub returns-clause-parts : goal.returns-clause-parts
returns-clause-parts c bs are =
    subst (λ (ids : List ℕ). AreParts c.args.objects.now ids c.loop-id.sources.items)
    (take_all c.loop-id.id-index c.args.ids.now c.loop-id-test.false) (c.loop-id.invariant.parts bs are)

pub returns-clause-stand : goal.returns-clause-stand
returns-clause-stand c =
    subst (λ (ids : List ℕ). AllStanding c.args.objects.now (ids_of c.args.brought.now) c.args.moment ids
    c.loop-id.sources.items)
    (take_all c.loop-id.id-index c.args.ids.now c.loop-id-test.false) c.loop-id.invariant.stand
