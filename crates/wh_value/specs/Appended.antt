-- Bytes to which a call adds, also where it fails half way.
use Rattle.std.specs.Prelude.{◌≡◌, ℕ, List, ◌++◌}

-- what was there stands in front
pub record Keeps (before after : List ℕ) : Type 0 where
  pub more : List ℕ
  pub added : after ≡ before ++ more
