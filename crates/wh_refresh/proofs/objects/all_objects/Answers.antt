use Rattle.std.proofs.Common.{◌≡◌, ◌++◌, List, map, sym, ap, subst, ◌∙◌}
use Rattle.std.proofs.lemmas.List.{take_all}
use Rattle.std.proofs.lemmas.Simd.{map-map}
use Rattle.wh_state.specs.State.{Object}
use Rattle.wh_state.specs.Stored as file
use Rattle.wh_state.specs.Stored.{object_meant}
use Rattle.wh_filed.specs.Filed.{Filed, AllShown}
use Rattle.wh_catalog.specs.Catalog.{state_of, filed_of}
use Rattle.wh_catalog.specs.Undoable.{KeptObject, object_in}
use Rattle.wh_catalog.specs.Object.{kept_object, kept_objects, object_of, filed_of_objects}
use Rattle.wh_refresh.specs.Objects.{filed_at_objects, with_made, stored_made, kept_made, filed_made}
use Rattle.wh_refresh.proofs.objects.all_objects.Goals as goal

pub returns-clause-objects : goal.returns-clause-objects
unfolding state_of
returns-clause-objects c =
    let objects = c.objects-object-items.result.now in
    let listed : map object_of objects ≡ map object_meant (map object_in (map kept_object objects)) =
    sym (ap (map object_meant) (map-map object_in kept_object objects)
    ∙ map-map object_meant (λ o. object_in (kept_object o)) objects) in
    c.in_ok-add_made.ensures.objects
    ∙ ap (λ (os : List Object). os ++ with_made c.args.made)
    (c.loop-object.invariant.objects
    ∙ ap (map object_of) (take_all c.loop-object.object-index objects c.loop-object-test.false)
    ∙ listed
    ∙ ap (map object_meant) c.objects-object-items.ensures.objects)

pub returns-clause-stored : goal.returns-clause-stored
returns-clause-stored c =
    let objects = c.objects-object-items.result.now in
    c.in_ok-add_made.ensures.stored
    ∙ ap (λ (os : List file.StoredObject). os ++ stored_made c.args.made)
    (c.loop-object.invariant.stored
    ∙ ap (map (λ o. object_in (kept_object o))) (take_all c.loop-object.object-index objects c.loop-object-test.false)
    ∙ sym (map-map object_in kept_object objects)
    ∙ c.objects-object-items.ensures.objects)

pub returns-clause-kept : goal.returns-clause-kept
returns-clause-kept c =
    let objects = c.objects-object-items.result.now in
    c.in_ok-add_made.ensures.kept
    ∙ ap (λ (kept : List KeptObject). kept ++ kept_made c.args.made)
    (ap kept_objects (c.loop-object.invariant.at
    ∙ take_all c.loop-object.object-index objects c.loop-object-test.false)
    ∙ c.objects-object-items.ensures.kept)

pub returns-clause-among : goal.returns-clause-among
returns-clause-among c told all =
    let objects = c.objects-object-items.result.now in
    let filed : filed_at_objects c.add_made.new.objects.items ≡ filed_of c.args.catalog.now ++ filed_made c.args.made =
    c.in_ok-add_made.ensures.filed
    ∙ ap (λ (fs : List Filed). fs ++ filed_made c.args.made)
    (ap filed_of_objects (c.loop-object.invariant.at
    ∙ take_all c.loop-object.object-index objects c.loop-object-test.false)
    ∙ c.objects-object-items.ensures.filed) in
    subst (AllShown told) (sym filed) all
