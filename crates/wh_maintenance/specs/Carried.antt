-- What is found of the change of a query's bag.
--     Change          rows that come and rows that go
--     sided           both sides, where both are there
--     IsCarried       the change leads from the old bag to the new one; none is found exactly where there is no new bag
--     carried_over    what each row of a change gives
use Rattle.std.specs.Prelude.{Option, Some, None}
use Rattle.wh_value.specs.Value.{Row}
use Rattle.wh_meaning.specs.Scalar.{of_two}
use Rattle.wh_meaning.specs.Bag.{Bag, gathered}
use Rattle.wh_maintenance.specs.Turn.{IsTurn}

pub record Change : Type 0 where
  pub comes : Bag
  pub goes : Bag

abbrev pub sided : Option Bag → Option Bag → Option Change
sided comes goes = of_two (λ c g. Some (record { comes = c; goes = g })) comes goes

abbrev pub IsCarried : Bag → Option Bag → Option Change → Type 0
IsCarried old None None = Unit {0}
IsCarried old None (Some c) = ⊥
IsCarried old (Some new) None = ⊥
IsCarried old (Some new) (Some c) = IsTurn old new c.comes c.goes

abbrev pub carried_over : (Row → Option Bag) → Change → Option Change
carried_over f c = sided (gathered f c.comes) (gathered f c.goes)
