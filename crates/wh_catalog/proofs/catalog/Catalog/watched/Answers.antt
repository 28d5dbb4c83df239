use Rattle.std.proofs.Common.{◌≡◌, ℕ, ◌≤◌, List, length, Option, subst, ap, ◌∙◌, arith}
use Rattle.std.specs.Prelude.{IfOk, option_map}
use Rattle.std.proofs.lemmas.List.{length-map}
use Rattle.std.proofs.lemmas.Result.{IfOk-weaker}
use Rattle.wh_value.specs.Limit.{bound}
use Rattle.wh_value.specs.declared.limit.Limit.TheVariants as limits
use Rattle.wh_moment.specs.Upstream as moment
use Rattle.wh_dynamic.specs.declared.watched.Watched.{Watched}
use Rattle.wh_dynamic.specs.View.{watched_of, dynamics_in}
use Rattle.wh_catalog.specs.declared.object.StoredObject.{StoredObject}
use Rattle.wh_catalog.specs.Undoable.{object_in}
use Rattle.wh_catalog.specs.Object.{kept_object, kept_objects, stored_objects}
use Rattle.wh_catalog.specs.Catalog.{stored_of, kept_of}
use Rattle.wh_catalog.proofs.catalog.Catalog.watched.Goals as goal

pub returns-clause-watched : goal.returns-clause-watched
unfolding stored_of kept_of
returns-clause-watched c =
    let P : List StoredObject → Type 0 = λ l.
    IfOk c.watched.result (λ all. dynamics_in all.items ≡ moment.dynamics_of (stored_objects l)) in
    subst P c.deref.ensures.value c.watched.ensures

-- there are as many as objects
pub returns-clause-bounded : goal.returns-clause-bounded
returns-clause-bounded c =
    let objects = c.args.self.now.objects.items in
    IfOk-weaker c.watched.result _ _
    (λ all is. within (length objects) all.items _ c.args.self.now.ids
    (is ∙ ap (λ (l : List StoredObject). moment.dynamics_of (stored_objects l)) c.deref.ensures.value)
    (length-map (stored_objects objects) moment.watched_object ∙ length-map (kept_objects objects) object_in
    ∙ length-map objects kept_object))
    c.watched.ensures
  where
    within : (count : ℕ) (all : List (Option Watched)) (live : moment.Dynamics)
        → count ≤ bound limits.ObjectIds → dynamics_in all ≡ live → length live ≡ count
        → length all ≤ bound limits.ObjectIds
    within count all live few is many = omega (arith, few, length-map all (option_map watched_of), ap length is, many)
