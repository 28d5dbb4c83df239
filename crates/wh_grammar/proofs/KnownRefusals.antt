-- Texts that have no tokens, worked out by hand.
use Rattle.std.proofs.Common.{◌≡◌, ◌≢◌, ℕ, ◌<◌, Bool, true, false, ◌&&◌, ◌||◌, ◌==◌, if◌then◌else◌, List, [], ◌∷◌, ◌++◌}
use Rattle.std.proofs.Common.{length, get_or, drop, refl, sym, ap, subst, length-append, arith}
use Rattle.std.specs.Prelude.{codes}
use Rattle.std.specs.List.{list_all}
use Rattle.std.proofs.lemmas.Bool.{and_parts}
use Rattle.wh_grammar.specs.Bytes.{is_blank, is_digit, begins_word, is_word_byte}
use Rattle.wh_grammar.specs.Token as token
use Rattle.wh_grammar.specs.Token.{Token, Sign, Placed}
use Rattle.wh_grammar.specs.Lexing as lex
use Rattle.wh_grammar.specs.Lexing.{IsGap, IsToken, HasTokens, begins_with, is_plain, doubled, sign_bytes}

-- ---- what bytes begin with

first : {x b : ℕ} {bytes rest : List ℕ} → x ∷ bytes ≡ b ∷ rest → x ≡ b
first e = ap (λ (l : List ℕ). get_or l 0 0) e

passes : (test : ℕ → Bool) {x b : ℕ} {bytes rest : List ℕ} → x ∷ bytes ≡ b ∷ rest → test b ≡ true → test x ≡ true
passes test e h = subst (λ (n : ℕ). test n ≡ true) (sym (first e)) h

abbrev begins_sign : ℕ → Bool
begins_sign b = b == 40 || b == 41 || b == 44 || b == 46 || b == 42 || b == 43 || b == 45
    || b == 61 || b == 60 || b == 62

sign-first : (s : Sign) (rest : List ℕ) → begins_sign (get_or (sign_bytes s ++ rest) 0 0) ≡ true
sign-first token.LParen rest = refl
sign-first token.RParen rest = refl
sign-first token.Comma rest = refl
sign-first token.Dot rest = refl
sign-first token.Star rest = refl
sign-first token.Plus rest = refl
sign-first token.Minus rest = refl
sign-first token.Equal rest = refl
sign-first token.Unequal rest = refl
sign-first token.Less rest = refl
sign-first token.AtMost rest = refl
sign-first token.Greater rest = refl
sign-first token.AtLeast rest = refl
sign-first token.Arrow rest = refl

no-sign : (bytes : List ℕ) (s : Sign) (rest : List ℕ) → begins_sign (get_or bytes 0 0) ≡ false
    → bytes ≡ sign_bytes s ++ rest
    → ⊥
no-sign bytes s rest none e =
    let some = subst (λ (l : List ℕ). begins_sign (get_or l 0 0) ≡ true) (sym e) (sign-first s rest) in cc

no-word : {x b : ℕ} {bytes rest : List ℕ} → begins_word x ≡ false → x ∷ bytes ≡ b ∷ rest → begins_word b ≡ true → ⊥
no-word none e h = let k = passes begins_word e h in cc

no-blank : {x b : ℕ} {bytes rest : List ℕ} → is_blank x ≡ false → x ∷ bytes ≡ b ∷ rest → is_blank b ≡ true → ⊥
no-blank none e h = let k = passes is_blank e h in cc

no-number : {x : ℕ} {bytes : List ℕ} (digits rest : List ℕ) → is_digit x ≡ false → x ∷ bytes ≡ digits ++ rest
    → digits ≢ [] → list_all is_digit digits ≡ true → ⊥
no-number [] rest none e some all = some refl
no-number (d ∷ digits) rest none e some all =
    let k = passes is_digit e (and_parts (is_digit d) (list_all is_digit digits) all).0 in cc

-- ---- `1a`: no letter stands behind a number

digits-1a : (digits rest : List ℕ) → codes "1a" ≡ digits ++ rest → digits ≢ [] → list_all is_digit digits ≡ true
    → begins_with is_word_byte rest ≡ false
    → ⊥
digits-1a [] rest e some all stop = some refl
digits-1a (d ∷ []) rest e some all stop = let open_ = subst (λ (l : List ℕ). begins_with is_word_byte l ≡ false)
    (sym (ap (λ (l : List ℕ). drop 1 l) e)) stop in cc
digits-1a (d ∷ f ∷ more) rest e some all stop =
    let both = and_parts (is_digit d) (is_digit f && list_all is_digit more) all in
    let next =
    passes is_digit (ap (λ (l : List ℕ). drop 1 l) e) (and_parts (is_digit f) (list_all is_digit more) both.1).0 in
    cc

token-1a : (t : Token) (rest : List ℕ) → IsToken (codes "1a") t rest → ⊥
token-1a t rest (lex.bare (lex.word b more e h all stop made is)) = no-word refl e h
token-1a t rest (lex.bare (lex.number digits e some all small stop is)) = digits-1a digits rest e some all stop
token-1a t rest (lex.enclosed (lex.text inside e made plain stop is)) = omega (arith, first e)
token-1a t rest (lex.enclosed (lex.quoted inside e made some stop is)) = omega (arith, first e)
token-1a t rest (lex.signed (lex.sign s e stop is)) = no-sign (codes "1a") s rest refl e
token-1a t rest (lex.signed (lex.other_unequal e is)) = omega (arith, first e)

gap-1a : (rest : List ℕ) → IsGap (codes "1a") rest → ⊥
gap-1a rest (lex.blank b e h) = no-blank refl e h
gap-1a rest (lex.line_comment inside e all) = omega (arith, first e)
gap-1a rest (lex.last_comment inside e none all) = omega (arith, first e)
gap-1a rest (lex.comment inside e none) = omega (arith, first e)

letter_behind_a_number : (ts : List Placed) → HasTokens (codes "1a") ts → ⊥
letter_behind_a_number ts (lex.gap g h) = gap-1a _ g
letter_behind_a_number _ (lex.token k h) = token-1a _ _ k

-- ---- `""`: no name is empty

some-doubled : (b : ℕ) (inside : List ℕ) → 0 < length (doubled 34 (b ∷ inside))
some-doubled b inside = by (b == 34)
  where
    by : (r : Bool) → 0 < length ((if r then 34 ∷ 34 ∷ [] else b ∷ []) ++ doubled 34 inside)
    by true = omega arith
    by false = omega arith

quoted-none : (inside rest : List ℕ) → 34 ∷ 34 ∷ [] ≡ 34 ∷ (doubled 34 inside ++ 34 ∷ rest) → inside ≢ [] → ⊥
quoted-none [] rest e some = some refl
quoted-none (b ∷ inside) rest e some =
    omega (arith, ap length e, length-append (doubled 34 (b ∷ inside)) (34 ∷ rest), some-doubled b inside)

token-quotes : (t : Token) (rest : List ℕ) → IsToken (34 ∷ 34 ∷ []) t rest → ⊥
token-quotes t rest (lex.bare (lex.word b more e h all stop made is)) = no-word refl e h
token-quotes t rest (lex.bare (lex.number digits e some all small stop is)) = no-number digits rest refl e some all
token-quotes t rest (lex.enclosed (lex.text inside e made plain stop is)) = omega (arith, first e)
token-quotes t rest (lex.enclosed (lex.quoted inside e made some stop is)) = quoted-none inside rest e some
token-quotes t rest (lex.signed (lex.sign s e stop is)) = no-sign (34 ∷ 34 ∷ []) s rest refl e
token-quotes t rest (lex.signed (lex.other_unequal e is)) = omega (arith, first e)

gap-quotes : (rest : List ℕ) → IsGap (34 ∷ 34 ∷ []) rest → ⊥
gap-quotes rest (lex.blank b e h) = no-blank refl e h
gap-quotes rest (lex.line_comment inside e all) = omega (arith, first e)
gap-quotes rest (lex.last_comment inside e none all) = omega (arith, first e)
gap-quotes rest (lex.comment inside e none) = omega (arith, first e)

empty_name : (ts : List Placed) → HasTokens (34 ∷ 34 ∷ []) ts → ⊥
empty_name ts (lex.gap g h) = gap-quotes _ g
empty_name _ (lex.token k h) = token-quotes _ _ k

-- ---- `/*/`: the star that opens a comment doesn't close it

token-open : (t : Token) (rest : List ℕ) → IsToken (codes "/*/") t rest → ⊥
token-open t rest (lex.bare (lex.word b more e h all stop made is)) = no-word refl e h
token-open t rest (lex.bare (lex.number digits e some all small stop is)) = no-number digits rest refl e some all
token-open t rest (lex.enclosed (lex.text inside e made plain stop is)) = omega (arith, first e)
token-open t rest (lex.enclosed (lex.quoted inside e made some stop is)) = omega (arith, first e)
token-open t rest (lex.signed (lex.sign s e stop is)) = no-sign (codes "/*/") s rest refl e
token-open t rest (lex.signed (lex.other_unequal e is)) = omega (arith, first e)

gap-open : (rest : List ℕ) → IsGap (codes "/*/") rest → ⊥
gap-open rest (lex.blank b e h) = no-blank refl e h
gap-open rest (lex.line_comment inside e all) = omega (arith, first e)
gap-open rest (lex.last_comment inside e none all) = omega (arith, first e)
gap-open rest (lex.comment inside e none) = omega (arith, ap length e, length-append inside (42 ∷ 47 ∷ rest))

open_comment : (ts : List Placed) → HasTokens (codes "/*/") ts → ⊥
open_comment ts (lex.gap g h) = gap-open _ g
open_comment _ (lex.token k h) = token-open _ _ k

-- ---- `'\'`: no text has a backslash

back-plain : is_plain 92 ≡ true → ⊥
back-plain h = cc

text-back : (inside rest : List ℕ) → 39 ∷ 92 ∷ 39 ∷ [] ≡ 39 ∷ (doubled 39 inside ++ 39 ∷ rest)
    → list_all is_plain inside ≡ true
    → ⊥
text-back [] rest e plain = omega (arith, first (ap (λ (l : List ℕ). drop 1 l) e))
text-back (b ∷ inside) rest e plain =
    by (b == 39) (and_parts (is_plain b) (list_all is_plain inside) plain).0 (ap (λ (l : List ℕ). drop 1 l) e)
  where
    by : (r : Bool) → is_plain b ≡ true
        → 92 ∷ 39 ∷ [] ≡ ((if r then 39 ∷ 39 ∷ [] else b ∷ []) ++ doubled 39 inside) ++ 39 ∷ rest
        → ⊥
    by true plain e = omega (arith, first e)
    by false plain e = back-plain (passes is_plain e plain)

token-back : (t : Token) (rest : List ℕ) → IsToken (39 ∷ 92 ∷ 39 ∷ []) t rest → ⊥
token-back t rest (lex.bare (lex.word b more e h all stop made is)) = no-word refl e h
token-back t rest (lex.bare (lex.number digits e some all small stop is)) = no-number digits rest refl e some all
token-back t rest (lex.enclosed (lex.text inside e made plain stop is)) = text-back inside rest e plain
token-back t rest (lex.enclosed (lex.quoted inside e made some stop is)) = omega (arith, first e)
token-back t rest (lex.signed (lex.sign s e stop is)) = no-sign (39 ∷ 92 ∷ 39 ∷ []) s rest refl e
token-back t rest (lex.signed (lex.other_unequal e is)) = omega (arith, first e)

gap-back : (rest : List ℕ) → IsGap (39 ∷ 92 ∷ 39 ∷ []) rest → ⊥
gap-back rest (lex.blank b e h) = no-blank refl e h
gap-back rest (lex.line_comment inside e all) = omega (arith, first e)
gap-back rest (lex.last_comment inside e none all) = omega (arith, first e)
gap-back rest (lex.comment inside e none) = omega (arith, first e)

backslash : (ts : List Placed) → HasTokens (39 ∷ 92 ∷ 39 ∷ []) ts → ⊥
backslash ts (lex.gap g h) = gap-back _ g
backslash _ (lex.token k h) = token-back _ _ k
