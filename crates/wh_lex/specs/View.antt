-- What signs, kinds and fronts of the code stand for.
--     sign_of, token_of     a sign and a token of the definition
--     IsWithin              what the type of tokens keeps
--     placed_of             a token and where it stands
--     front_view            what was read at the front of a text
use Rattle.std.specs.Prelude.{ℕ, ◌<◌, List, Option, option_map}
use Rattle.wh_grammar.specs.Token as machine
use Rattle.wh_grammar.specs.Token.{Placed}
use Rattle.wh_lex.specs.declared.front.Front.{Front}
use Rattle.wh_lex.specs.declared.sign.Sign.{Sign}
use Rattle.wh_lex.specs.declared.sign.Sign.TheVariants as signs
use Rattle.wh_lex.specs.declared.token.Kind.{Kind}
use Rattle.wh_lex.specs.declared.token.Kind.TheVariants as kinds

abbrev pub sign_of : Sign → machine.Sign
sign_of signs.LParen = machine.LParen
sign_of signs.RParen = machine.RParen
sign_of signs.Comma = machine.Comma
sign_of signs.Dot = machine.Dot
sign_of signs.Star = machine.Star
sign_of signs.Plus = machine.Plus
sign_of signs.Minus = machine.Minus
sign_of signs.Equal = machine.Equal
sign_of signs.Unequal = machine.Unequal
sign_of signs.Less = machine.Less
sign_of signs.AtMost = machine.AtMost
sign_of signs.Greater = machine.Greater
sign_of signs.AtLeast = machine.AtLeast
sign_of signs.Arrow = machine.Arrow

abbrev pub token_of : Kind → machine.Token
token_of (kinds.Word word) = machine.Word word
token_of (kinds.Quoted name) = machine.Quoted name
token_of (kinds.Text text) = machine.TextToken text
token_of (kinds.Number n) = machine.NumberToken n
token_of (kinds.Sign s) = machine.SignToken (sign_of s)

-- a number has at most 18 digits
abbrev pub IsWithin : machine.Token → Type 0
IsWithin (machine.Word word) = Unit {0}
IsWithin (machine.Quoted name) = Unit {0}
IsWithin (machine.TextToken text) = Unit {0}
IsWithin (machine.NumberToken n) = n < 1000000000000000000
IsWithin (machine.SignToken s) = Unit {0}

abbrev pub placed_of : Kind → ℕ → ℕ → Placed
placed_of kind from behind = record { token = token_of kind; from = from; behind = behind }

-- a token, or none for a gap, and what follows it
abbrev pub front_view : Front → Option machine.Token × List ℕ
front_view front = (option_map token_of front.token, front.rest.now)
