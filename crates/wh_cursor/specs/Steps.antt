-- What rules are made of: readers, and the steps that each takes.
--     ReaderOf S                         takes something from the front of a state, and leaves the rest;
--                                        one after the other, by `do`
--     Reader                             the same of tokens
--     sees, sees_word                    whether a sign, by its key, or a word comes next
--     eat_word, eat_key                  takes it, if it comes next
--     expect_word, expect_key            takes it, and nothing else
--     read_word, read_text, read_number  takes a token with what it carries
--     read_name                          takes a name
--     given, read_end                    goes on with what was found, and at the end of the tokens
use Rattle.std.specs.Prelude.{ℕ, Bool, false, not, ◌&&◌, List, [], ◌∷◌, Option, Some, None, bytes_eq, if◌then◌else◌}
use Rattle.wh_grammar.specs.Words.{is_reserved, is_call}
use Rattle.wh_grammar.specs.Token.{Token, Word, Quoted, TextToken, NumberToken, SignToken}
use Rattle.wh_grammar.specs.Name.{opens}
use Rattle.wh_cursor.specs.declared.key.TokenClass.{TokenClass}
use Rattle.wh_cursor.specs.Keys.{same_key, key_of}

-- ---- readers over any state

abbrev pub ReaderOf : Type 0 → Type 0 → Type 0
ReaderOf S A = S → Option (A × S)

abbrev pub and_then : {S A B : Type 0} → Option (A × S) → (A → ReaderOf S B) → Option (B × S)
and_then None f = None
and_then (Some p) f = f p.0 p.1

infixl 10 ◌>>=◌
abbrev pub ◌>>=◌ : {S A B : Type 0} → ReaderOf S A → (A → ReaderOf S B) → ReaderOf S B
p >>= f = λ s. and_then (p s) f

infixl 10 ◌>>◌
abbrev pub ◌>>◌ : {S A B : Type 0} → ReaderOf S A → ReaderOf S B → ReaderOf S B
p >> q = p >>= (λ _. q)

abbrev pub pure : {S A : Type 0} → A → ReaderOf S A
pure x = λ s. Some (x, s)

abbrev pub refuse : {S A : Type 0} → ReaderOf S A
refuse = λ _. None

-- ---- readers of tokens

abbrev pub Reader : Type 0 → Type 0
Reader A = ReaderOf (List Token) A

abbrev pub tail : List Token → List Token
tail [] = []
tail (t ∷ us) = us

unfoldable pub sees : TokenClass → List Token → Bool
sees key ts = same_key (key_of ts) key

-- takes the token, whatever it is
abbrev pub skip : Reader (Unit {0})
skip = λ ts. Some (tt, tail ts)

abbrev pub is_that_word : List ℕ → Token → Bool
is_that_word w (Word v) = bytes_eq v w
is_that_word w (Quoted name) = false
is_that_word w (TextToken bytes) = false
is_that_word w (NumberToken n) = false
is_that_word w (SignToken s) = false

unfoldable pub sees_word : List ℕ → List Token → Bool
sees_word w [] = false
sees_word w (t ∷ us) = is_that_word w t

abbrev pub eat_word : List ℕ → Reader Bool
eat_word w = λ ts. Some (sees_word w ts, if sees_word w ts then tail ts else ts)

-- a sign, by its key
abbrev pub eat_key : TokenClass → Reader Bool
eat_key key = λ ts. Some (sees key ts, if sees key ts then tail ts else ts)

unfoldable pub expect_word : List ℕ → Reader (Unit {0})
expect_word w = λ ts. if sees_word w ts then Some (tt, tail ts) else None

unfoldable pub expect_key : TokenClass → Reader (Unit {0})
expect_key key = λ ts. if sees key ts then Some (tt, tail ts) else None

-- goes on with what was found
abbrev pub given : {A : Type 0} → Option A → Reader A
given None = refuse
given (Some x) = pure x

-- takes nothing, where no token is left
unfoldable pub read_end : Reader (Unit {0})
read_end [] = Some (tt, [])
read_end (t ∷ us) = None

-- ---- a token that carries something

unfoldable pub read_word : Reader (List ℕ)
read_word [] = None
read_word (Word w ∷ us) = Some (w, us)
read_word (Quoted name ∷ us) = None
read_word (TextToken bytes ∷ us) = None
read_word (NumberToken n ∷ us) = None
read_word (SignToken s ∷ us) = None

unfoldable pub read_text : Reader (List ℕ)
read_text [] = None
read_text (Word w ∷ us) = None
read_text (Quoted name ∷ us) = None
read_text (TextToken bytes ∷ us) = Some (bytes, us)
read_text (NumberToken n ∷ us) = None
read_text (SignToken s ∷ us) = None

unfoldable pub read_number : Reader ℕ
read_number [] = None
read_number (Word w ∷ us) = None
read_number (Quoted name ∷ us) = None
read_number (TextToken bytes ∷ us) = None
read_number (NumberToken n ∷ us) = Some (n, us)
read_number (SignToken s ∷ us) = None

-- ---- a name

abbrev pub is_name : List ℕ → List Token → Bool
is_name w us = not (is_reserved w) && not (is_call w && opens us)

unfoldable pub read_name : Reader (List ℕ)
read_name [] = None
read_name (Word w ∷ us) = if is_name w us then Some (w, us) else None
read_name (Quoted name ∷ us) = Some (name, us)
read_name (TextToken bytes ∷ us) = None
read_name (NumberToken n ∷ us) = None
read_name (SignToken s ∷ us) = None
