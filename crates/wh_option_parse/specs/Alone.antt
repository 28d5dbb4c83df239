-- A token that is a whole text.
use Rattle.std.specs.Prelude.{ℕ, Bool, false, ◌&&◌, ◌==◌, List, [], ◌∷◌}
use Rattle.wh_grammar.specs.Token.{Placed}

-- there is one token, from the first of so many bytes to the last
abbrev pub is_alone : ℕ → List Placed → Bool
is_alone len [] = false
is_alone len (t ∷ []) = t.from == len && t.behind == 0
is_alone len (t ∷ u ∷ us) = false
