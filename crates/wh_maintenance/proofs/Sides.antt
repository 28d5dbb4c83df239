-- The one law by which each operator carries a change.
--     carried_sides     a bag in two parts, one of which stays and the other is replaced
use Rattle.std.specs.Prelude.{◌≡◌, Option, Some, None}
use Rattle.std.proofs.Common.{refl, sym, ap, subst, ◌∙◌}
use Rattle.wh_meaning.specs.Bag.{Bag, plus, beside}
use Rattle.wh_meaning.proofs.BagLaws.{plus-comm}
use Rattle.wh_maintenance.specs.Carried.{sided, IsCarried}

pub carried_sides : (stays goes comes : Option Bag) (old : Bag) → beside stays goes ≡ Some old
    → IsCarried old (beside stays comes) (sided comes goes)
carried_sides None goes comes old e = cc
carried_sides (Some s) None comes old e = cc
carried_sides (Some s) (Some g) None old e = tt
carried_sides (Some s) (Some g) (Some c) old e = let was : old ≡ plus s g = cc in
    record { stays = s; was = was; is = refl }

pub carried_as : (old : Bag) (stays goes comes before after : Option Bag) → before ≡ beside stays goes
    → after ≡ beside stays comes → before ≡ Some old → IsCarried old after (sided comes goes)
carried_as old stays goes comes before after was is e =
    subst (λ a. IsCarried old a (sided comes goes)) (sym is) (carried_sides stays goes comes old (sym was ∙ e))

pub beside-comm : (a b : Option Bag) → beside a b ≡ beside b a
beside-comm None None = refl
beside-comm None (Some b) = refl
beside-comm (Some a) None = refl
beside-comm (Some a) (Some b) = ap Some (plus-comm a b)

pub beside_there : (a b : Option Bag) (x : Bag) → beside a b ≡ Some x → (y : Bag) × (a ≡ Some y)
beside_there None b x e = cc
beside_there (Some a) b x e = (a, refl)
