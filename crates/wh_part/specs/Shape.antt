-- What holds of each partition of the code, as its numbers are of 64 bits.
use Rattle.std.specs.Prelude.{ℕ, ◌<◌, ◌≤◌, ◌^◌, length}
use Rattle.std.specs.List.{AllByRecursion}
use Rattle.wh_value.specs.Value.{Row}
use Rattle.wh_frame.specs.Partition.{Partition}
use Rattle.wh_frame.specs.Spelling.{RisesFrom}

abbrev pub HasWideNumber : ℕ × Row → Type 0
HasWideNumber e = e.0 < 2 ^ 64

pub record IsShaped (p : Partition) : Type 0 where
  pub number : p.number < 2 ^ 64
  pub some : 0 < length p.rows
  pub few : length p.rows ≤ 1000
  pub rising : RisesFrom 0 p.rows
  pub numbers : AllByRecursion HasWideNumber p.rows
