-- What a sink in memory holds.
use Rattle.std.specs.Prelude.{ℕ, List}
use Rattle.wh_world.specs.Calls.{CallCount}

pub record SinkState : Type 0 where
  -- the bytes that it has taken
  pub held : List ℕ
  -- how many more it takes
  pub room : ℕ
  pub calls : CallCount
