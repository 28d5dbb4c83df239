-- What is written.
--     Writes          a piece was written at the end of what was held
--     WritesFront     a front of it was
use Rattle.std.specs.Prelude.{◌≡◌, ℕ, List, ◌++◌, Option, option_map}

-- a piece was written at the end of what was held
abbrev pub Writes : List ℕ → Option (List ℕ) → Option (List ℕ) → Type 0
Writes piece old new = new ≡ option_map (λ held. held ++ piece) old

-- a front of it was
pub record WritesFront (piece : List ℕ) (old new : Option (List ℕ)) : Type 0 where
  pub front : List ℕ
  pub rest : List ℕ
  pub parts : front ++ rest ≡ piece
  pub written : Writes front old new
