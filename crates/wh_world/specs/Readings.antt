-- The readings of a clock, in order; the last one stays.
use Rattle.std.specs.Prelude.{ℕ, List, [], ◌∷◌}

abbrev pub readings_after : List ℕ → List ℕ
readings_after [] = []
readings_after (r ∷ []) = r ∷ []
readings_after (r ∷ s ∷ rs) = s ∷ rs
