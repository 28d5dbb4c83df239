-- What is read at the front of a text stands there, and what stands there is read.
use Rattle.std.proofs.Common.{◌≡◌, ◌≢◌, ℕ, suc, ◌<◌, Bool, true, false, ◌&&◌, if◌then◌else◌, List, [], ◌∷◌, ◌++◌}
use Rattle.std.proofs.Common.{length, map, take, drop, Option, Some, None, option_map, refl, sym, ap, ap₂, ◌∙◌, subst}
use Rattle.std.proofs.Common.{ne_eqb, ltb, ltb-true, lt-ltb, ◌==◌, eqb-true, arith, take_at, drop_at}
use Rattle.std.proofs.Common.{take-append-drop, one-add}
use Rattle.std.specs.List.{list_all}
use Rattle.std.proofs.lemmas.Bool.{and_parts, and_from}
use Rattle.wh_value.specs.Value.{IsText}
use Rattle.wh_grammar.specs.Bytes.{is_blank, is_digit, begins_word, is_word_byte, upper, number_behind}
use Rattle.wh_grammar.specs.Token.{Token, Word, Quoted, TextToken, NumberToken}
use Rattle.wh_grammar.specs.Lexing.{IsGap, blank, IsToken, word, number, text, quoted, sign, other_unequal, begins_with}
use Rattle.wh_grammar.specs.Lexing.{bare, enclosed, signed, is_byte, is_plain, doubled}
use Rattle.wh_lex.specs.Front.{Front, gap, token, text_of, word_len, word_front, number_from, number_front, quoted_of}
use Rattle.wh_lex.specs.Front.{text_front, name_front, line_rest, comment_rest, front_behind, front_of}
use Rattle.wh_lex.proofs.WordLemmas.{all-prefix, stops-prefix, prefix_len-front, word-not_blank, begins-word}
use Rattle.wh_lex.proofs.WordLemmas.{digit-word, digit-other, digit-not_blank}
use Rattle.wh_lex.proofs.GapLemmas.{begins, line-IsGap, comment-IsGap, GapIf}
use Rattle.wh_lex.proofs.QuoteLaws.{IsQuoted, quoted-stands, quoted-read}
use Rattle.wh_lex.proofs.TextLemmas.{of_text, text-read}
use Rattle.wh_lex.proofs.Standing.{by_test, Stands}
use Rattle.wh_lex.proofs.SignLemmas.{sign-stands, sign_is_read, unequal_is_read}

abbrev limit : ℕ
limit = 1000000000000000000

-- ---- words and numbers stand where they are read

word-stands : (b : ℕ) (bytes : List ℕ) → begins_word b ≡ true → Stands (b ∷ bytes) (word_front (b ∷ bytes))
word-stands b bytes h =
    let k = begins-word b h in
    let n = word_len bytes in
    let made : List ℕ = map upper (b ∷ take n bytes) in
    let here : Stands (b ∷ bytes) (option_map (λ w. token (Word w) (drop n bytes)) (text_of made)) =
    of_text (λ o. Stands (b ∷ bytes) (option_map (λ w. token (Word w) (drop n bytes)) o)) made
    (λ t. bare (word b (take n bytes) (ap (λ l. b ∷ l) (sym (take-append-drop n bytes))) h
    (all-prefix is_word_byte bytes) (stops-prefix is_word_byte bytes) t refl)) tt in
    simp (k, one-add) here

number_by : (bytes digits rest : List ℕ) (r : Bool) → bytes ≡ digits ++ rest → digits ≢ []
    → begins_with is_word_byte rest ≡ false → (list_all is_digit digits && ltb (number_behind 0 digits) limit) ≡ r
    → Stands bytes (option_map (λ n. token (NumberToken n) rest) (if r then Some (number_behind 0 digits) else None))
number_by bytes digits rest true e some stop h =
    let both = and_parts (list_all is_digit digits) (ltb (number_behind 0 digits) limit) h in
    bare (number digits e some both.0 (ltb-true (number_behind 0 digits) limit both.1) stop refl)
number_by bytes digits rest false e some stop h = tt

number-stands : (b : ℕ) (bytes : List ℕ) → is_digit b ≡ true → Stands (b ∷ bytes) (number_front (b ∷ bytes))
unfolding number_from
number-stands b bytes h =
    let k = digit-word b h in
    let n = word_len bytes in
    let here = number_by (b ∷ bytes) (b ∷ take n bytes) (drop n bytes) _
    (ap (λ l. b ∷ l) (sym (take-append-drop n bytes))) (λ e. cc) (stops-prefix is_word_byte bytes) refl in
    simp (k, one-add) here

-- ---- texts and names do

text_by : (bytes : List ℕ) (o : Option (List ℕ × List ℕ)) → IsQuoted 39 bytes o → Stands (39 ∷ bytes) (text_front o)
text_by bytes None h = tt
text_by bytes (Some p) h =
    by_test (Stands (39 ∷ bytes)) (list_all is_plain p.0) _ _
    (λ plain. of_text (λ o. Stands (39 ∷ bytes) (option_map (λ t. token (TextToken t) p.1) o)) p.0
    (λ made. enclosed (text p.0 (ap (λ l. 39 ∷ l) h.0) made plain h.1 refl)) tt)
    (λ _. tt)

not_empty : (bytes : List ℕ) → (length bytes == 0) ≡ false → bytes ≢ []
not_empty [] h e = cc
not_empty (b ∷ bytes) h e = cc

name_by : (bytes : List ℕ) (o : Option (List ℕ × List ℕ)) → IsQuoted 34 bytes o → Stands (34 ∷ bytes) (name_front o)
name_by bytes None h = tt
name_by bytes (Some p) h =
    by_test (Stands (34 ∷ bytes)) (length p.0 == 0) _ _ (λ _. tt)
    (λ some. of_text (λ o. Stands (34 ∷ bytes) (option_map (λ t. token (Quoted t) p.1) o)) p.0
    (λ made. enclosed (quoted p.0 (ap (λ l. 34 ∷ l) h.0) made (not_empty p.0 some) h.1 refl)) tt)

-- ---- gaps do

comment_by : (bytes : List ℕ) (o : Option (List ℕ)) → GapIf bytes o → Stands bytes (option_map gap o)
comment_by bytes None h = tt
comment_by bytes (Some rest) h = h

-- bytes that begin with this byte and one more
abbrev twice : ℕ → ℕ → ℕ → List ℕ → Bool
twice x y b bytes = b == x && begins_with (is_byte y) bytes

two_bytes : (x y b : ℕ) (bytes : List ℕ) → twice x y b bytes ≡ true → x ∷ y ∷ drop 1 bytes ≡ b ∷ bytes
two_bytes x y b bytes h =
    let both = and_parts (b == x) (begins_with (is_byte y) bytes) h in
    sym (ap (λ n. n ∷ bytes) (eqb-true b x both.0) ∙ ap (λ l. x ∷ l) (begins y bytes both.1))

-- ---- all of them do

pub front-stands : (b : ℕ) (bytes : List ℕ) → Stands (b ∷ bytes) (front_behind b bytes)
unfolding front_behind
front-stands b bytes =
    let P : Option Front → Type 0 = Stands (b ∷ bytes) in
    let first : (x : ℕ) (o : Option Front) → (b == x) ≡ true → Stands (x ∷ bytes) o → Stands (b ∷ bytes) o =
    λ x o h stands. subst (λ (n : ℕ). Stands (n ∷ bytes) o) (sym (eqb-true b x h)) stands in
    by_test P (is_blank b) _ _ (λ h. blank b refl h) (λ _.
    by_test P (begins_word b) _ _ (word-stands b bytes) (λ _.
    by_test P (is_digit b) _ _ (number-stands b bytes) (λ _.
    by_test P (b == 39) _ _ (λ h. first 39 _ h (text_by bytes (quoted_of 39 bytes) (quoted-stands 39 bytes))) (λ _.
    by_test P (b == 34) _ _ (λ h. first 34 _ h (name_by bytes (quoted_of 34 bytes) (quoted-stands 34 bytes))) (λ _.
    by_test P (twice 45 45 b bytes) _ _ (λ h. subst (λ (l : List ℕ). IsGap l (line_rest (drop 1 bytes)))
    (two_bytes 45 45 b bytes h) (line-IsGap (drop 1 bytes))) (λ other.
    by_test P (twice 47 42 b bytes) _ _
    (λ h. comment_by (b ∷ bytes) _ (subst (λ (l : List ℕ). GapIf l (comment_rest (drop 1 bytes)))
    (two_bytes 47 42 b bytes h) (comment-IsGap (drop 1 bytes))))
    (λ _. sign-stands b bytes other)))))))

-- ---- what stands there is read

word_is_read : (b : ℕ) (more rest : List ℕ) → begins_word b ≡ true → list_all is_word_byte more ≡ true
    → begins_with is_word_byte rest ≡ false → IsText (map upper (b ∷ more))
    → front_behind b (more ++ rest) ≡ Some (token (Word (map upper (b ∷ more))) rest)
unfolding front_behind
word_is_read b more rest h all stop made =
    let no_blank = word-not_blank b (begins-word b h) in
    let len = prefix_len-front is_word_byte more rest all stop in
    let read = text-read (map upper (b ∷ more)) made in
    simp (no_blank, h, len, one-add, take_at more rest (length more) refl, drop_at more rest (length more) refl, read)

digits_are_word : (digits : List ℕ) → list_all is_digit digits ≡ true → list_all is_word_byte digits ≡ true
digits_are_word [] h = refl
digits_are_word (d ∷ digits) h =
    let both = and_parts (is_digit d) (list_all is_digit digits) h in
    and_from (is_word_byte d) (list_all is_word_byte digits) (digit-word d both.0) (digits_are_word digits both.1)

number_from-digits : (digits : List ℕ) → list_all is_digit digits ≡ true → number_behind 0 digits < limit
    → number_from 0 digits ≡ Some (number_behind 0 digits)
unfolding number_from
number_from-digits digits all small = let below = lt-ltb (number_behind 0 digits) limit small in rw (all, below) refl

number_front-digits : (digits rest : List ℕ) → list_all is_digit digits ≡ true → number_behind 0 digits < limit
    → begins_with is_word_byte rest ≡ false
    → number_front (digits ++ rest) ≡ Some (token (NumberToken (number_behind 0 digits)) rest)
number_front-digits digits rest all small stop =
    let len = prefix_len-front is_word_byte digits rest (digits_are_word digits all) stop in
    let number_at : List ℕ → List ℕ → Option Front =
    λ piece after. option_map (λ n. token (NumberToken n) after) (number_from 0 piece) in
    ap (λ n. number_at (take n (digits ++ rest)) (drop n (digits ++ rest))) len
    ∙ ap₂ number_at (take_at digits rest (length digits) refl) (drop_at digits rest (length digits) refl)
    ∙ ap (option_map (λ n. token (NumberToken n) rest)) (number_from-digits digits all small)

digit_is_read : (d : ℕ) (bytes : List ℕ) → is_digit d ≡ true → front_behind d bytes ≡ number_front (d ∷ bytes)
unfolding front_behind
digit_is_read d bytes digit =
    let no_blank = digit-not_blank d digit in
    let no_word = digit-other d digit in
    rw (no_blank, no_word, digit) refl

number_is_read : (digits rest : List ℕ) → digits ≢ [] → list_all is_digit digits ≡ true → number_behind 0 digits < limit
    → begins_with is_word_byte rest ≡ false
    → front_of (digits ++ rest) ≡ Some (token (NumberToken (number_behind 0 digits)) rest)
number_is_read [] rest some all small stop = absurd (some refl)
number_is_read (d ∷ digits) rest some all small stop =
    digit_is_read d (digits ++ rest) (and_parts (is_digit d) (list_all is_digit digits) all).0
    ∙ number_front-digits (d ∷ digits) rest all small stop

text_is_read : (inside rest : List ℕ) → IsText inside → list_all is_plain inside ≡ true
    → begins_with (is_byte 39) rest ≡ false
    → front_of (39 ∷ (doubled 39 inside ++ 39 ∷ rest)) ≡ Some (token (TextToken inside) rest)
unfolding front_behind
text_is_read inside rest made plain stop = rw (quoted-read 39 inside rest stop, plain, text-read inside made) refl

some_inside : (inside : List ℕ) → inside ≢ [] → (length inside == 0) ≡ false
some_inside [] h = absurd (h refl)
some_inside (b ∷ inside) h = ne_eqb (length (b ∷ inside)) 0 (λ (e : suc (length inside) ≡ 0). absurd (omega arith))

name_is_read : (inside rest : List ℕ) → IsText inside → inside ≢ [] → begins_with (is_byte 34) rest ≡ false
    → front_of (34 ∷ (doubled 34 inside ++ 34 ∷ rest)) ≡ Some (token (Quoted inside) rest)
unfolding front_behind
name_is_read inside rest made some stop =
    rw (quoted-read 34 inside rest stop, some_inside inside some, text-read inside made) refl

pub token_is_read : (bytes : List ℕ) (t : Token) (rest : List ℕ) → IsToken bytes t rest
    → front_of bytes ≡ Some (token t rest)
token_is_read bytes t rest (bare (word b more e h all stop made is)) =
    ap front_of e ∙ word_is_read b more rest h all stop made ∙ ap (λ u. Some (token u rest)) (sym is)
token_is_read bytes t rest (bare (number digits e some all small stop is)) =
    ap front_of e ∙ number_is_read digits rest some all small stop ∙ ap (λ u. Some (token u rest)) (sym is)
token_is_read bytes t rest (enclosed (text inside e made plain stop is)) =
    ap front_of e ∙ text_is_read inside rest made plain stop ∙ ap (λ u. Some (token u rest)) (sym is)
token_is_read bytes t rest (enclosed (quoted inside e made some stop is)) =
    ap front_of e ∙ name_is_read inside rest made some stop ∙ ap (λ u. Some (token u rest)) (sym is)
token_is_read bytes t rest (signed (sign s e stop is)) = sign_is_read s bytes rest e stop
    ∙ ap (λ u. Some (token u rest)) (sym is)
token_is_read bytes t rest (signed (other_unequal e is)) =
    unequal_is_read bytes rest e ∙ ap (λ u. Some (token u rest)) (sym is)
