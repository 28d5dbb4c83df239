-- Which tokens a text has.
--     IsGap       a blank or a comment stands at the front of the bytes
--     IsToken     a token does, the longest that there is
--     HasTokens   the text is gaps and these tokens, to its end
use Rattle.std.specs.Prelude.{◌≡◌, ◌≢◌, ℕ, ◌<◌, Bool, false, not, ◌&&◌, ◌||◌, IsTrue, List, [], ◌∷◌, ◌++◌, length, map}
use Rattle.std.specs.Prelude.{◌==◌, if◌then◌else◌}
use Rattle.std.specs.List.{list_all, flat_map}
use Rattle.wh_value.specs.Value.{IsText}
use Rattle.wh_grammar.specs.Bytes.{is_blank, is_digit, begins_word, is_word_byte, upper, number_behind}
use Rattle.wh_grammar.specs.Token.{Sign, LParen, RParen, Comma, Dot, Star, Plus, Minus, Equal, Unequal, Less}
use Rattle.wh_grammar.specs.Token.{AtMost, Greater, AtLeast, Arrow, Token, Word, Quoted, TextToken}
use Rattle.wh_grammar.specs.Token.{NumberToken, SignToken, Placed}

-- the bytes begin with one that passes
abbrev pub begins_with : (ℕ → Bool) → List ℕ → Bool
begins_with test [] = false
begins_with test (b ∷ bytes) = test b

abbrev pub is_byte : ℕ → ℕ → Bool
is_byte a b = a == b

-- ---- what parts tokens and means nothing else

abbrev pub is_inline : ℕ → Bool
is_inline b = not (b == 10)

-- the end of a comment, a star and a slash, stands somewhere in the bytes
abbrev pub has_comment_end : List ℕ → Bool
has_comment_end [] = false
has_comment_end (b ∷ bytes) = b == 42 && begins_with (is_byte 47) bytes || has_comment_end bytes

-- a blank or one comment at the front of the bytes, and what follows it
pub data IsGap (bytes rest : List ℕ) : Type 0 where
  blank : (b : ℕ) → bytes ≡ b ∷ rest → IsTrue (is_blank b) → IsGap bytes rest
  -- two minus signs, to the end of the line
  line_comment : (inside : List ℕ)
      → bytes ≡ 45 ∷ 45 ∷ (inside ++ 10 ∷ rest)
      → IsTrue (list_all is_inline inside)
      → IsGap bytes rest
  -- or to the end of the text
  last_comment : (inside : List ℕ)
      → bytes ≡ 45 ∷ 45 ∷ inside
      → rest ≡ []
      → IsTrue (list_all is_inline inside)
      → IsGap bytes rest
  -- a slash and a star, to the first star and slash behind them
  comment : (inside : List ℕ)
      → bytes ≡ 47 ∷ 42 ∷ (inside ++ 42 ∷ 47 ∷ rest)
      → has_comment_end inside ≡ false
      → IsGap bytes rest

-- ---- signs

abbrev pub sign_bytes : Sign → List ℕ
sign_bytes LParen = 40 ∷ []
sign_bytes RParen = 41 ∷ []
sign_bytes Comma = 44 ∷ []
sign_bytes Dot = 46 ∷ []
sign_bytes Star = 42 ∷ []
sign_bytes Plus = 43 ∷ []
sign_bytes Minus = 45 ∷ []
sign_bytes Equal = 61 ∷ []
sign_bytes Unequal = 60 ∷ 62 ∷ []
sign_bytes Less = 60 ∷ []
sign_bytes AtMost = 60 ∷ 61 ∷ []
sign_bytes Greater = 62 ∷ []
sign_bytes AtLeast = 62 ∷ 61 ∷ []
sign_bytes Arrow = 61 ∷ 62 ∷ []

-- whether a byte behind a sign makes a longer one, or a comment
abbrev pub extends : Sign → ℕ → Bool
extends LParen b = false
extends RParen b = false
extends Comma b = false
extends Dot b = false
extends Star b = false
extends Plus b = false
extends Minus b = b == 45
extends Equal b = b == 62
extends Unequal b = false
extends Less b = b == 61 || b == 62
extends AtMost b = false
extends Greater b = b == 61
extends AtLeast b = false
extends Arrow b = false

-- ---- tokens

-- no backslash
abbrev pub is_plain : ℕ → Bool
is_plain b = not (b == 92)

-- a quote inside is doubled
abbrev pub doubled : ℕ → List ℕ → List ℕ
doubled quote inside = flat_map (λ b. if b == quote then quote ∷ quote ∷ [] else b ∷ []) inside

-- a word or a number at the front of the bytes, and what follows it; a word has at most 65,536 bytes
pub data IsBare (bytes : List ℕ) (t : Token) (rest : List ℕ) : Type 0 where
  word : (b : ℕ) (more : List ℕ)
      → bytes ≡ b ∷ (more ++ rest)
      → IsTrue (begins_word b)
      → IsTrue (list_all is_word_byte more)
      → begins_with is_word_byte rest ≡ false
      → IsText (map upper (b ∷ more))
      → t ≡ Word (map upper (b ∷ more))
      → IsBare bytes t rest
  -- at most 18 digits behind leading zeros, and no letter behind them
  number : (digits : List ℕ)
      → bytes ≡ digits ++ rest
      → digits ≢ []
      → IsTrue (list_all is_digit digits)
      → number_behind 0 digits < 1000000000000000000
      → begins_with is_word_byte rest ≡ false
      → t ≡ NumberToken (number_behind 0 digits)
      → IsBare bytes t rest

-- a text or a name between quotes, of at most 65,536 bytes
pub data IsEnclosed (bytes : List ℕ) (t : Token) (rest : List ℕ) : Type 0 where
  -- characters without a backslash
  text : (inside : List ℕ)
      → bytes ≡ 39 ∷ (doubled 39 inside ++ 39 ∷ rest)
      → IsText inside
      → IsTrue (list_all is_plain inside)
      → begins_with (is_byte 39) rest ≡ false
      → t ≡ TextToken inside
      → IsEnclosed bytes t rest
  quoted : (inside : List ℕ)
      → bytes ≡ 34 ∷ (doubled 34 inside ++ 34 ∷ rest)
      → IsText inside
      → inside ≢ []
      → begins_with (is_byte 34) rest ≡ false
      → t ≡ Quoted inside
      → IsEnclosed bytes t rest

-- a sign that nothing behind it makes longer
pub data IsSign (bytes : List ℕ) (t : Token) (rest : List ℕ) : Type 0 where
  sign : (s : Sign)
      → bytes ≡ sign_bytes s ++ rest
      → begins_with (extends s) rest ≡ false
      → t ≡ SignToken s
      → IsSign bytes t rest
  -- `!=` is `<>`
  other_unequal : bytes ≡ 33 ∷ 61 ∷ rest → t ≡ SignToken Unequal → IsSign bytes t rest

-- a token at the front of the bytes, and what follows it
pub data IsToken (bytes : List ℕ) (t : Token) (rest : List ℕ) : Type 0 where
  bare : IsBare bytes t rest → IsToken bytes t rest
  enclosed : IsEnclosed bytes t rest → IsToken bytes t rest
  signed : IsSign bytes t rest → IsToken bytes t rest

-- gaps and tokens, one after the other to the end of the bytes
pub data HasTokens : List ℕ → List Placed → Type 0 where
  end : HasTokens [] []
  gap : {bytes rest : List ℕ} {ts : List Placed} → IsGap bytes rest → HasTokens rest ts → HasTokens bytes ts
  token : {bytes rest : List ℕ} {t : Token} {ts : List Placed}
      → IsToken bytes t rest
      → HasTokens rest ts
      → HasTokens bytes (record { token = t; from = length bytes; behind = length rest } ∷ ts)
