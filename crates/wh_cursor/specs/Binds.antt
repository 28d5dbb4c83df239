-- Which tokens go on with an expression. The grammar doesn't need it: it lets a parser that reads from the left say
-- where an expression ends.
use Rattle.std.specs.Prelude.{ℕ, List, [], ◌∷◌, codes, bytes_eq, if◌then◌else◌}
use Rattle.wh_grammar.specs.Token.{Token, Word, Quoted, TextToken, NumberToken, SignToken, Sign, LParen, RParen, Comma}
use Rattle.wh_grammar.specs.Token.{Dot, Star, Plus, Minus, Equal, Unequal, Less, AtMost, Greater, AtLeast, Arrow}

-- How tightly a token binds behind an expression: 0 where none goes on with it.
abbrev pub sign_binds : Sign → ℕ
sign_binds LParen = 6
sign_binds RParen = 0
sign_binds Comma = 0
sign_binds Dot = 6
sign_binds Star = 5
sign_binds Plus = 4
sign_binds Minus = 4
sign_binds Equal = 3
sign_binds Unequal = 3
sign_binds Less = 3
sign_binds AtMost = 3
sign_binds Greater = 3
sign_binds AtLeast = 3
sign_binds Arrow = 0

abbrev pub word_binds : List ℕ → ℕ
word_binds w =
    if bytes_eq w (codes "OR") then 1
    else if bytes_eq w (codes "AND") then 2
    else if bytes_eq w (codes "NOT") then 3
    else if bytes_eq w (codes "IS") then 3
    else if bytes_eq w (codes "IN") then 3
    else if bytes_eq w (codes "BETWEEN") then 3
    else 0

abbrev pub binds : List Token → ℕ
binds [] = 0
binds (Word w ∷ us) = word_binds w
binds (Quoted name ∷ us) = 0
binds (TextToken bytes ∷ us) = 0
binds (NumberToken n ∷ us) = 0
binds (SignToken s ∷ us) = sign_binds s
