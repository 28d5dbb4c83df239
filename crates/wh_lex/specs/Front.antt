-- What stands at the front of a text, read from the left.
--     line_rest, comment_rest     what is behind a comment
--     text_of                     the bytes, where they are UTF-8 of at most 65,536 bytes
--     word_front, number_front    the word and the number there
--     quoted_of                   what stands inside quotes, and what is behind them
--     text_front, name_front      that as a text and as a quoted name
--     single, double              signs of one byte and of two
--     front_of                    the token at the front, or none for a gap, and what follows it; None
--                                 where neither stands there
use Rattle.std.specs.Prelude.{ℕ, not, ◌&&◌, List, [], ◌∷◌, length, map, take, drop, Option, Some, None, option_map}
use Rattle.std.specs.Prelude.{nat_lt, nat_le, ◌==◌, if◌then◌else◌}
use Rattle.std.specs.List.{list_all, prefix_len}
use Rattle.std.specs.Str.{is_utf8}
use Rattle.wh_grammar.specs.Bytes.{is_blank, is_digit, begins_word, is_word_byte, upper, number_behind}
use Rattle.wh_grammar.specs.Token.{Sign, LParen, RParen, Comma, Dot, Star, Plus, Minus, Equal, Unequal, Less}
use Rattle.wh_grammar.specs.Token.{AtMost, Greater, AtLeast, Arrow, Token, Word, Quoted, TextToken}
use Rattle.wh_grammar.specs.Token.{NumberToken, SignToken, Placed}
use Rattle.wh_grammar.specs.Lexing.{begins_with, is_byte, is_inline, is_plain}

-- a token, or none for a gap, and what follows it
abbrev pub Front : Type 0
Front = Option Token × List ℕ

abbrev pub gap : List ℕ → Front
gap rest = (None, rest)

abbrev pub token : Token → List ℕ → Front
token t rest = (Some t, rest)

-- a token at its place, or none for a gap
abbrev pub placed_at : Option Token → ℕ → ℕ → List Placed
placed_at None from behind = []
placed_at (Some t) from behind = (record { token = t; from = from; behind = behind }) ∷ []

-- ---- comments

-- behind the end of the line, or of the text
abbrev pub line_rest : List ℕ → List ℕ
line_rest [] = []
line_rest (b ∷ bytes) = if is_inline b then line_rest bytes else bytes

-- behind the first star and slash
abbrev pub comment_rest : List ℕ → Option (List ℕ)
comment_rest [] = None
comment_rest (b ∷ bytes) = if b == 42 && begins_with (is_byte 47) bytes then Some (drop 1 bytes) else comment_rest bytes

-- ---- words and numbers

unfoldable pub text_of : List ℕ → Option (List ℕ)
text_of bytes = if is_utf8 bytes && nat_le (length bytes) 65536 then Some bytes else None

-- how many bytes at the front are of words
abbrev pub word_len : List ℕ → ℕ
word_len bytes = prefix_len is_word_byte bytes

abbrev pub word_front : List ℕ → Option Front
word_front bytes =
    option_map (λ w. token (Word w) (drop (word_len bytes) bytes)) (text_of (map upper (take (word_len bytes) bytes)))

-- the number that digits spell behind a number, where it has at most 18 digits
unfoldable pub number_from : ℕ → List ℕ → Option ℕ
number_from n bytes = if list_all is_digit bytes && nat_lt (number_behind n bytes) 1000000000000000000
    then Some (number_behind n bytes) else None

abbrev pub number_front : List ℕ → Option Front
number_front bytes =
    option_map (λ n. token (NumberToken n) (drop (word_len bytes) bytes)) (number_from 0 (take (word_len bytes) bytes))

-- ---- quotes

-- behind a byte that is first inside quotes: that byte, or none for the quote at the end, and what follows it
abbrev pub inside_behind : ℕ → ℕ → List ℕ → Option (Option ℕ × List ℕ)
inside_behind quote b bytes =
    if not (b == quote) then Some (Some b, bytes)
    else if begins_with (is_byte quote) bytes then Some (Some quote, drop 1 bytes)
    else Some (None, bytes)

abbrev pub inside_first : ℕ → List ℕ → Option (Option ℕ × List ℕ)
inside_first quote [] = None
inside_first quote (b ∷ bytes) = inside_behind quote b bytes

abbrev pub onto : ℕ → Option (List ℕ × List ℕ) → Option (List ℕ × List ℕ)
onto b None = None
onto b (Some p) = Some (b ∷ p.0, p.1)

-- what stands up to a quote that isn't doubled, and what is behind that
unfoldable pub quoted_of : ℕ → List ℕ → Option (List ℕ × List ℕ)
quoted_of quote [] = None
quoted_of quote (b ∷ []) = if b == quote then Some ([], []) else None
quoted_of quote (b ∷ c ∷ bytes) =
    if not (b == quote) then onto b (quoted_of quote (c ∷ bytes))
    else if quote == c then onto quote (quoted_of quote bytes)
    else Some ([], c ∷ bytes)

abbrev pub text_front : Option (List ℕ × List ℕ) → Option Front
text_front None = None
text_front (Some p) =
    if list_all is_plain p.0 then option_map (λ text. token (TextToken text) p.1) (text_of p.0) else None

abbrev pub name_front : Option (List ℕ × List ℕ) → Option Front
name_front None = None
name_front (Some p) = if length p.0 == 0 then None else option_map (λ name. token (Quoted name) p.1) (text_of p.0)

-- ---- signs

abbrev pub single : ℕ → Option Sign
single b =
    if b == 40 then Some LParen
    else if b == 41 then Some RParen
    else if b == 44 then Some Comma
    else if b == 46 then Some Dot
    else if b == 42 then Some Star
    else if b == 43 then Some Plus
    else if b == 45 then Some Minus
    else if b == 61 then Some Equal
    else if b == 60 then Some Less
    else if b == 62 then Some Greater
    else None

abbrev pub double : ℕ → ℕ → Option Sign
double b c =
    if b == 60 && c == 61 then Some AtMost
    else if b == 60 && c == 62 then Some Unequal
    else if b == 62 && c == 61 then Some AtLeast
    else if b == 61 && c == 62 then Some Arrow
    else if b == 33 && c == 61 then Some Unequal
    else None

abbrev pub sign_if : Option Sign → List ℕ → Option Front → Option Front
sign_if None rest other = other
sign_if (Some s) rest other = Some (token (SignToken s) rest)

-- two bytes, if they are a sign, and else one
unfoldable pub sign_front : ℕ → List ℕ → Option Front
sign_front b [] = sign_if (single b) [] None
sign_front b (c ∷ bytes) = sign_if (double b c) bytes (sign_if (single b) (c ∷ bytes) None)

-- ---- all of them

unfoldable pub front_behind : ℕ → List ℕ → Option Front
front_behind b bytes =
    if is_blank b then Some (gap bytes)
    else if begins_word b then word_front (b ∷ bytes)
    else if is_digit b then number_front (b ∷ bytes)
    else if b == 39 then text_front (quoted_of 39 bytes)
    else if b == 34 then name_front (quoted_of 34 bytes)
    else if b == 45 && begins_with (is_byte 45) bytes then Some (gap (line_rest (drop 1 bytes)))
    else if b == 47 && begins_with (is_byte 42) bytes then option_map gap (comment_rest (drop 1 bytes))
    else sign_front b bytes

abbrev pub front_of : List ℕ → Option Front
front_of [] = None
front_of (b ∷ bytes) = front_behind b bytes
