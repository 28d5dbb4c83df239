use Rattle.std.proofs.Common.{refl, ap, sym, ◌∙◌, subst, List}
use Rattle.std.proofs.lemmas.List.{append-nil}
use Rattle.std.proofs.lemmas.Result.{IfOk-weaker}
use Rattle.wh_state.specs.Stored.{StoredObject}
use Rattle.wh_machine.specs.Refresh.{refresh}
use Rattle.wh_refresh.specs.Objects.{objects_in, stored_in, filed_at_objects}
use Rattle.wh_refresh.specs.Refreshing.{besides, RefreshesAs}
use Rattle.wh_refresh.specs.Standing.{AllStand}
use Rattle.wh_refresh.proofs.StandLaws.{all_stand}
use Rattle.wh_catalog.specs.Catalog.{stored_of, state_of}
use Rattle.wh_decide.specs.Sight.{machine_in}
use Rattle.wh_fetch.specs.DiskFetch.{told_of, Covers}
use Rattle.wh_filed.proofs.FetchingLaws.{all_shown_by, all_covered}
use Rattle.wh_decide.proofs.ReadyLemmas.{objects_shown}
use denote.Ref.{Bor}
use Rattle.wh_catalog.specs.declared.object.StoredObject.{StoredObject as Kept}
use Rattle.wh_catalog.specs.Catalog.{kept_of}
use Rattle.wh_catalog.specs.Object.{kept_objects}
use Rattle.wh_refresh.specs.Objects.{objects_at}
use Rattle.wh_decide.proofs.RefreshAskLaws.{to_bring}
use Rattle.wh_decide.proofs.dynamic_states.refreshing.Goals as goal

pub refresh-requires : goal.refresh-requires
refresh-requires g c = (
  c.type_bounds.sync-R,
  all_covered (Covers g.D.Disk c.args.fetch.now) (filed_at_objects c.deref.result.now) (λ part. c.requires),
)

pub returns-clause-refreshes : goal.returns-clause-refreshes
returns-clause-refreshes g c = λ shown sound.
    let sight = c.args.sight.now in
    let state = (machine_in sight).state in
    let outcome = refresh state (besides c.args.asked state.objects c.args.id) c.args.id c.args.moment in
    let stored = ap stored_in c.deref.ensures.value ∙ c.in_ok-objects.ensures.stored
    ∙ append-nil (stored_of sight.catalog.now).objects in
    let objects = ap objects_in c.deref.ensures.value ∙ c.in_ok-objects.ensures.objects
    ∙ append-nil (state_of sight.catalog.now).objects in
    IfOk-weaker c.refresh.result _ _
    (λ found told. subst (λ (s : List StoredObject). RefreshesAs sight.stamp s found outcome) stored
    (told state (sym objects)))
    (c.refresh.ensures.refreshed (all_shown_by (told_of g.D.Disk c.args.fetch.now)
    (filed_at_objects c.deref.result.now) (objects_shown sight (told_of g.D.Disk c.args.fetch.now) _ _ _
    c.in_ok-objects.ensures.among refl c.deref.ensures.value shown))
    (subst AllStand (sym objects) (all_stand (state_of sight.catalog.now) sound)))

pub returns-clause-sound : goal.returns-clause-sound
returns-clause-sound g c = λ shown.
    c.refresh.ensures.sound (all_shown_by (told_of g.D.Disk c.args.fetch.now) (filed_at_objects c.deref.result.now)
    (objects_shown c.args.sight.now (told_of g.D.Disk c.args.fetch.now) _ _ _ c.in_ok-objects.ensures.among refl
    c.deref.ensures.value shown))

-- ---- what is asked for

pub returns-clause-fetches : goal.returns-clause-fetches
returns-clause-fetches g c =
    let catalog = c.args.sight.now.catalog.now in
    let all = ap (λ (os : List (Bor Kept)). kept_objects (objects_at os)) c.deref.ensures.value
    ∙ c.in_ok-objects.ensures.kept ∙ append-nil (kept_of catalog) in
    IfOk-weaker c.refresh.result _ _
    (λ found asks. to_bring catalog c.args.fetch.now.asked.items c.refresh.new.fetch.asked.items c.args.id c.args.moment
    c.deref.result.now all found asks) c.refresh.ensures.asks
