-- What the walk over the entries of a bag makes of an excess.
--     entered       a row so often, in place of what its count was; 0 changes nothing
--     excess        the entries' counts above those of another bag, entered
use Rattle.std.specs.Prelude.{ℕ, zero, suc, ◌-◌, List, [], ◌∷◌}
use Rattle.std.specs.FinMap.{insert}
use Rattle.wh_value.specs.Value.{Row}
use Rattle.wh_meaning.specs.Bag.{Bag, count}

abbrev pub entered : Row → ℕ → Bag → Bag
entered row zero b = b
entered row (suc n) b = insert b row n

unfoldable pub excess : Bag → List (Row × ℕ) → Bag → Bag
excess other [] b = b
excess other (e ∷ es) b = excess other es (entered e.0 (suc e.1 - count other e.0) b)
