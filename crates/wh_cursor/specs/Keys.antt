-- What a token is for an expression, where its bytes don't matter.
use Rattle.std.specs.Prelude.{ℕ, Bool, List, [], ◌∷◌, codes, bytes_eq, if◌then◌else◌}
use denote.Enum.Bare.{sameb}
use Rattle.wh_grammar.specs.Words.{is_reserved}
use Rattle.wh_grammar.specs.Token.{Token, Word, Quoted, TextToken, NumberToken, SignToken, Sign, LParen, RParen, Comma}
use Rattle.wh_grammar.specs.Token.{Dot, Star, Plus, Minus, Equal, Unequal, Less, AtMost, Greater, AtLeast, Arrow}
use Rattle.wh_cursor.specs.declared.key.TokenClass.{TokenClass}
use Rattle.wh_cursor.specs.declared.key.TokenClass.TheVariants as k
use Rattle.wh_cursor.specs.contracts.key.TokenClass.{the_type}

unfoldable pub same_key : TokenClass → TokenClass → Bool
same_key = sameb the_type

abbrev pub sign_key : Sign → TokenClass
sign_key LParen = k.LParen
sign_key RParen = k.RParen
sign_key Comma = k.Comma
sign_key Dot = k.Dot
sign_key Star = k.Star
sign_key Plus = k.Plus
sign_key Minus = k.Minus
sign_key Equal = k.Equal
sign_key Unequal = k.Unequal
sign_key Less = k.Less
sign_key AtMost = k.AtMost
sign_key Greater = k.Greater
sign_key AtLeast = k.AtLeast
sign_key Arrow = k.Arrow

abbrev pub constant_key : List ℕ → TokenClass
constant_key w =
    if bytes_eq w (codes "NULL") then k.Null
    else if bytes_eq w (codes "TRUE") then k.True
    else if bytes_eq w (codes "FALSE") then k.False
    else k.Reserved

abbrev pub reserved_key : List ℕ → TokenClass
reserved_key w =
    if bytes_eq w (codes "OR") then k.Or
    else if bytes_eq w (codes "AND") then k.And
    else if bytes_eq w (codes "NOT") then k.Not
    else if bytes_eq w (codes "IS") then k.Is
    else if bytes_eq w (codes "IN") then k.In
    else if bytes_eq w (codes "BETWEEN") then k.Between
    else constant_key w

abbrev pub word_key : List ℕ → TokenClass
word_key w =
    if is_reserved w then reserved_key w
    else if bytes_eq w (codes "SUM") then k.Sum
    else if bytes_eq w (codes "COUNT") then k.Count
    else k.Name

abbrev pub token_key : Token → TokenClass
token_key (Word w) = word_key w
token_key (Quoted name) = k.Name
token_key (TextToken bytes) = k.Text
token_key (NumberToken n) = k.Number
token_key (SignToken s) = sign_key s

-- that of the token that comes next
unfoldable pub key_of : List Token → TokenClass
key_of [] = k.End
key_of (t ∷ us) = token_key t

-- How tightly it binds behind an expression: 0 where it doesn't go on with it.
abbrev pub key_binds : TokenClass → ℕ
key_binds k.Or = 1
key_binds k.And = 2
key_binds k.Not = 3
key_binds k.Is = 3
key_binds k.In = 3
key_binds k.Between = 3
key_binds k.Equal = 3
key_binds k.Unequal = 3
key_binds k.Less = 3
key_binds k.AtMost = 3
key_binds k.Greater = 3
key_binds k.AtLeast = 3
key_binds k.Plus = 4
key_binds k.Minus = 4
key_binds k.Star = 5
key_binds k.LParen = 6
key_binds k.Dot = 6
key_binds _ = 0
