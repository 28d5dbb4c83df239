-- What a source in memory holds.
use Rattle.std.specs.Prelude.{ℕ, List}
use Rattle.wh_world.specs.Calls.{CallCount}

pub record SourceState : Type 0 where
  -- the bytes that are left
  pub left : List ℕ
  pub calls : CallCount
