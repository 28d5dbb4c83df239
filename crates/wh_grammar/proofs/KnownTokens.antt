-- Texts with their tokens, and texts without, worked out by hand.
use Rattle.std.proofs.Common.{◌≡◌, ℕ, zero, suc, true, List, [], ◌∷◌, length, leb, leb-true, ltb, ltb-true, refl, arith}
use Rattle.std.specs.Prelude.{codes}
use Rattle.std.specs.List.{list_all}
use Rattle.std.specs.Str.{IsAscii}
use Rattle.std.proofs.lemmas.Bool.{and_parts}
use Rattle.std.proofs.lemmas.Str.{IsUtf8-from_ascii}
use Rattle.wh_value.specs.Value.{IsText}
use Rattle.wh_grammar.specs.Token.{Word, NumberToken, SignToken, AtMost}
use Rattle.wh_grammar.specs.Lexing.{blank, last_comment, bare, word, number, signed, sign, HasTokens, end, gap, token}

ascii : (bytes : List ℕ) → list_all (λ b. ltb b 128) bytes ≡ true → IsAscii bytes
ascii [] h i = omega arith
ascii (b ∷ bytes) h zero = ltb-true b 128 (and_parts (ltb b 128) (list_all (λ b. ltb b 128) bytes) h).0
ascii (b ∷ bytes) h (suc i) = ascii bytes (and_parts (ltb b 128) (list_all (λ b. ltb b 128) bytes) h).1 i

pub known_text : (bytes : List ℕ) → list_all (λ b. ltb b 128) bytes ≡ true → leb (length bytes) 65536 ≡ true
    → IsText bytes
known_text bytes small short =
    record { utf8 = IsUtf8-from_ascii bytes (ascii bytes small); short = leb-true (length bytes) 65536 short }

-- `a1<= 7--x`: a word, `<=`, a blank, a number, and a comment to the end
read : HasTokens (codes "a1<= 7--x")
    ((record { token = Word (codes "A1"); from = 9; behind = 7 })
    ∷ (record { token = SignToken AtMost; from = 7; behind = 5 })
    ∷ (record { token = NumberToken 7; from = 4; behind = 3 }) ∷ [])
read =
    token (bare (word 97 (codes "1") refl refl refl refl (known_text (codes "A1") refl refl) refl))
    (token (signed (sign AtMost refl refl refl))
    (gap (blank 32 refl refl)
    (token (bare (number (codes "7") refl (λ e. cc) refl (omega arith) refl refl))
    (gap (last_comment (codes "x") refl refl refl) end))))
