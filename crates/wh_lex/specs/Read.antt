-- Which tokens a whole text has, read from the left.
--     read_from       those of the bytes, by at most so many fronts
--     read_tokens     those of a text; None where it has none
use Rattle.std.specs.Prelude.{ℕ, zero, suc, List, [], ◌∷◌, ◌++◌, length, Option, Some, None, option_map}
use Rattle.wh_grammar.specs.Token.{Placed}
use Rattle.wh_lex.specs.Front.{Front, front_of, placed_at}

-- behind a front, where so many bytes are left before it
abbrev pub behind_front : (List ℕ → Option (List Placed)) → ℕ → Option Front → Option (List Placed)
behind_front more from None = None
behind_front more from (Some p) = option_map (λ ts. placed_at p.0 from (length p.1) ++ ts) (more p.1)

unfoldable pub read_from : ℕ → List ℕ → Option (List Placed)
read_from zero [] = Some []
read_from zero (b ∷ bytes) = None
read_from (suc n) [] = Some []
read_from (suc n) (b ∷ bytes) = behind_front (read_from n) (length (b ∷ bytes)) (front_of (b ∷ bytes))

-- each front is of a byte at least
unfoldable pub read_tokens : List ℕ → Option (List Placed)
read_tokens bytes = read_from (length bytes) bytes
