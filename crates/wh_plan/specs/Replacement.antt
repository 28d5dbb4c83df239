-- What takes the place of a column, as a scalar.
use Rattle.std.specs.Prelude.{ℕ, ◌-◌}
use Rattle.wh_meaning.specs.Scalar.{Scalar, Column}
use Rattle.wh_algebra.specs.View.{scalars_of}
use Rattle.wh_moves.specs.Moved.{item_at}
use Rattle.wh_plan.specs.declared.replacing.Replacement.{Replacement}
use Rattle.wh_plan.specs.declared.replacing.Replacement.TheVariants.{Items, Before}

abbrev pub placed : Replacement → ℕ → Scalar
placed (Items items) place = item_at (scalars_of items.now) place
placed (Before width) place = Column (place - width)
