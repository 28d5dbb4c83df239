-- An update of kept groups.
--     moved-carried        the groups afterwards, and the change of the group rows
--     no_key, no_argument  nothing is found exactly where the Group has no rows afterwards
use Rattle.std.specs.Prelude.{◌≡◌, List, ◌∷◌, Option, Some, None}
use Rattle.std.proofs.Common.{sym, ap, subst, ◌∙◌}
use Rattle.wh_meaning.specs.Scalar.{Scalar}
use Rattle.wh_meaning.specs.Bag.{Bag, beside, gathered}
use Rattle.wh_meaning.specs.Query.{Call, image_by, projected, grouped}
use Rattle.wh_meaning.proofs.Gathered.{gathered-plus}
use Rattle.wh_maintenance.specs.Turn.{IsTurn}
use Rattle.wh_maintenance.specs.Carried.{Change, IsCarried}
use Rattle.wh_maintenance.specs.Standing.{Groups, IsGroupsOf, IsMovedTo, LacksKey, LacksArgument}
use Rattle.wh_maintenance.proofs.Sides.{beside-comm}
use Rattle.wh_maintenance.proofs.Group.{no_keys}
use Rattle.wh_maintenance.proofs.Standing.{groups-moved, shown-carried}
use Rattle.wh_maintenance.proofs.Undefined.{none_moved}

module _ (e : Scalar) (es : List Scalar) (calls : List Call) (old new o : Bag) (c : Change)
    (turn : IsTurn old new c.comes c.goes) (old_is : grouped (e ∷ es) calls old ≡ Some o) where
  pub moved-carried : (groups groups' : Groups) (found : Option Change) → IsGroupsOf (e ∷ es) calls old groups
      → IsMovedTo (e ∷ es) calls c groups groups' found
      → IsGroupsOf (e ∷ es) calls new groups' × IsCarried o (grouped (e ∷ es) calls new) found
  moved-carried groups groups' found h to =
      let now = groups-moved (e ∷ es) calls old new c turn groups groups' h to.came to.came_is to.moves in (
        now,
        subst (IsCarried o (grouped (e ∷ es) calls new)) (sym to.found_is)
            (shown-carried e es calls old new o c turn groups groups' h now to.came to.went to.came_is to.went_is
            old_is),
      )

  pub no_key : LacksKey (e ∷ es) c → IsCarried o (grouped (e ∷ es) calls new) None
  no_key lacks =
      let image = image_by (e ∷ es) in
      let none : projected (e ∷ es) new ≡ None =
      ap (gathered image) turn.is ∙ gathered-plus image turn.stays c.comes
      ∙ ap (beside (gathered image turn.stays)) lacks ∙ beside-comm (gathered image turn.stays) None in
      subst (λ x. IsCarried o x None) (sym (no_keys e es calls new none)) tt

  pub no_argument : LacksArgument (e ∷ es) calls c → IsCarried o (grouped (e ∷ es) calls new) None
  no_argument lacks =
      subst (λ x. IsCarried o x None) (sym (none_moved e es calls old new c turn lacks.0 lacks.1)) tt
