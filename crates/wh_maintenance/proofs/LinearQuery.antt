-- A linear query's change: what the query gives over the rows that come, and over those that go.
--     linear-sides       so `delta` finds it
--     linear-delta       and doesn't look at the rows before
--     linear-carries     and so it is carried
use Rattle.std.specs.Prelude.{◌≡◌, Bool, true, false, ◌&&◌, Option, Some, None}
use Rattle.std.proofs.Common.{refl, sym, ap, subst, ◌∙◌}
use Rattle.wh_value.specs.Value.{Row}
use Rattle.wh_meaning.specs.Scalar.{of_one, of_two}
use Rattle.wh_meaning.specs.Bag.{Bag, beside, gathered}
use Rattle.wh_meaning.specs.Query.{Query, Scan, Filter, Project, Join, UnionAll, Group, Instance, eval}
use Rattle.wh_meaning.specs.Query.{kept_by, image_by}
use Rattle.wh_maintenance.specs.Carried.{sided, carried_over}
use Rattle.wh_maintenance.specs.Delta.{Sources, summed, linear, delta, Carries}
use Rattle.wh_maintenance.proofs.Delta.{delta-carries}

pub both_true : (a b : Bool) → a && b ≡ true → (a ≡ true) × (b ≡ true)
both_true true b e = (refl, e)
both_true false b e = cc

over_sides : (f : Row → Option Bag) (comes goes : Option Bag)
    → of_one (carried_over f) (sided comes goes) ≡ sided (of_one (gathered f) comes) (of_one (gathered f) goes)
over_sides f None goes = refl
over_sides f (Some c) None = elim (gathered f c) as (λ (o : Option Bag). None ≡ sided o None) [
  | None ↦ refl
  | Some x ↦ refl
]
over_sides f (Some c) (Some g) = refl

sum_of_sides : (c g d h : Option Bag)
    → of_two (λ c d. Some (summed c d)) (sided c g) (sided d h) ≡ sided (beside c d) (beside g h)
sum_of_sides None g d h = refl
sum_of_sides (Some c) None None h = refl
sum_of_sides (Some c) None (Some d) h = refl
sum_of_sides (Some c) (Some g) None h = refl
sum_of_sides (Some c) (Some g) (Some d) None = refl
sum_of_sides (Some c) (Some g) (Some d) (Some h) = refl

pub linear-sides : (q : Query) (s : Sources) → linear q ≡ true → delta q s ≡ sided (eval q s.comes) (eval q s.goes)
unfolding linear delta eval
linear-sides (Scan source) s e = refl
linear-sides (Filter q condition) s e =
    ap (of_one (carried_over (kept_by condition))) (linear-sides q s e)
    ∙ over_sides (kept_by condition) (eval q s.comes) (eval q s.goes)
linear-sides (Project q items) s e =
    ap (of_one (carried_over (image_by items))) (linear-sides q s e)
    ∙ over_sides (image_by items) (eval q s.comes) (eval q s.goes)
linear-sides (Join p q on) s e = cc
linear-sides (UnionAll p q) s e =
    let both = both_true (linear p) (linear q) e in
    (λ i. of_two (λ c d. Some (summed c d)) (linear-sides p s both.0 i) (linear-sides q s both.1 i))
    ∙ sum_of_sides (eval p s.comes) (eval p s.goes) (eval q s.comes) (eval q s.goes)
linear-sides (Group q by calls) s e = cc

pub linear-delta : (q : Query) (old old' comes goes : Instance) → linear q ≡ true
    → delta q (record { old = old; comes = comes; goes = goes })
    ≡ delta q (record { old = old'; comes = comes; goes = goes })
linear-delta q old old' comes goes e =
    linear-sides q (record { old = old; comes = comes; goes = goes }) e
    ∙ sym (linear-sides q (record { old = old'; comes = comes; goes = goes }) e)

pub linear-carries : (q : Query) (s : Sources) → linear q ≡ true → Carries q s (sided (eval q s.comes) (eval q s.goes))
linear-carries q s e = subst (Carries q s) (linear-sides q s e) (delta-carries s q)
