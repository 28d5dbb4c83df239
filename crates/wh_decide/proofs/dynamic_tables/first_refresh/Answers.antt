use Rattle.std.proofs.Common.{◌≡◌, ℕ, List, [], ◌∷◌, ◌++◌, Result, Ok, Err, ap, sym, ◌∙◌, subst}
use Rattle.std.specs.Result.{IfOk}
use Rattle.std.proofs.lemmas.Result.{IfOk-weaker}
use Rattle.wh_state.specs.Stored.{StoredObject, object_meant}
use Rattle.wh_machine.specs.Dynamics.{with_dynamic, asked_refresh, query_of}
use Rattle.wh_refresh.specs.Objects.{objects_in, stored_in, filed_at_objects}
use Rattle.wh_refresh.specs.Refreshing.{RefreshesAs}
use Rattle.wh_refresh.specs.Standing.{AllStand}
use Rattle.wh_catalog.specs.Object.{kept_object}
use Rattle.wh_catalog.specs.Undoable.{object_in}
use Rattle.wh_catalog.specs.Catalog.{stored_of, state_of}
use Rattle.wh_decide.specs.Dynamics.{new_stored, MayBeMade, IsFirstRefresh}
use Rattle.wh_decide.specs.Sight.{machine_in}
use Rattle.wh_fetch.specs.DiskFetch.{told_of, Covers}
use Rattle.wh_filed.proofs.FetchingLaws.{all_shown_by, all_covered}
use Rattle.wh_decide.proofs.ReadyLemmas.{objects_shown}
use Rattle.wh_decide.proofs.MadeDynamics.{made_objects, made_stand}
use Rattle.wh_decide.proofs.dynamic_tables.first_refresh.Goals as goal

-- what is told of each table that it may be
of_each : {R E N : Type 0} (L M : N → Type 0) (T : N → R → Type 0) (r : Result R E)
    → ((n : N) → L n → M n → IfOk r (T n)) → IfOk r (λ found. (n : N) → L n → M n → T n found)
of_each L M T (Ok found) told = told
of_each L M T (Err fault) told = tt

pub refresh-requires : goal.refresh-requires
refresh-requires g c = (
  c.type_bounds.sync-R,
  all_covered (Covers g.D.Disk c.args.fetch.now) (filed_at_objects c.deref.result.now) (λ part. c.requires.right),
)

pub returns-clause-refreshes : goal.returns-clause-refreshes
returns-clause-refreshes g c = λ shown sound.
    let sight = c.args.sight.now in
    let catalog = sight.catalog.now in
    of_each (MayBeMade (state_of catalog).objects)
    (λ n. object_in (kept_object c.args.made.now) ≡ new_stored sight.stamp (stored_of catalog).objects n)
    (λ n. IsFirstRefresh sight n c.args.id) c.refresh.result (λ n may is.
    let state = with_dynamic (machine_in sight).state n (query_of n) in
    let stored = ap stored_in c.deref.ensures.value ∙ c.in_ok-objects.ensures.stored
    ∙ ap (λ (o : StoredObject). (stored_of catalog).objects ++ o ∷ []) is in
    let objects = ap objects_in c.deref.ensures.value ∙ c.in_ok-objects.ensures.objects
    ∙ ap (λ (o : StoredObject). (state_of catalog).objects ++ object_meant o ∷ []) is in
    IfOk-weaker c.refresh.result _ _
    (λ found told. subst
    (λ (all : List StoredObject). RefreshesAs sight.stamp all found (asked_refresh state c.args.id)) stored
    (told state (made_objects catalog sight.stamp n ∙ sym objects)))
    (c.refresh.ensures.refreshed (all_shown_by (told_of g.D.Disk c.args.fetch.now)
    (filed_at_objects c.deref.result.now)
    (objects_shown sight (told_of g.D.Disk c.args.fetch.now) _ _ _ c.in_ok-objects.ensures.among c.requires.filed
    c.deref.ensures.value shown))
    (subst AllStand (sym objects) (made_stand catalog sight.stamp n sound may))))

pub returns-clause-sound : goal.returns-clause-sound
returns-clause-sound g c = λ shown.
    c.refresh.ensures.sound (all_shown_by (told_of g.D.Disk c.args.fetch.now) (filed_at_objects c.deref.result.now)
    (objects_shown c.args.sight.now (told_of g.D.Disk c.args.fetch.now) _ _ _ c.in_ok-objects.ensures.among
    c.requires.filed c.deref.ensures.value shown))
