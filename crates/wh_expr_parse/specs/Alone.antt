-- A literal that is the whole expression.
--     is_literal      a number or a text
--     stands_alone    one comes next, and no token goes on with it
use Rattle.std.specs.Prelude.{Bool, true, false, ◌&&◌, ◌==◌, List, [], ◌∷◌}
use Rattle.wh_grammar.specs.Token.{Token, Word, Quoted, TextToken, NumberToken, SignToken}
use Rattle.wh_cursor.specs.Binds.{binds}

abbrev pub is_literal : Token → Bool
is_literal (Word w) = false
is_literal (Quoted name) = false
is_literal (TextToken bytes) = true
is_literal (NumberToken n) = true
is_literal (SignToken s) = false

unfoldable pub stands_alone : List Token → Bool
stands_alone [] = false
stands_alone (t ∷ us) = is_literal t && (binds us == 0)
