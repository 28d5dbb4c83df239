-- Lemmas on the bytes of words.
use Rattle.std.proofs.Common.{◌≡◌, ℕ, Bool, true, false, List, [], ◌∷◌, ◌++◌, length, take, drop, refl, arith, one-add}
use Rattle.std.proofs.Common.{◌==◌, map, eqb-true}
use Rattle.std.specs.List.{list_all, prefix_len}
use Rattle.std.proofs.lemmas.Bool.{and_parts}
use Rattle.std.proofs.lemmas.Bool.Decides.{nat_tests}
use Rattle.wh_grammar.specs.Bytes.{is_blank, is_digit, begins_word, is_word_byte, upper}
use Rattle.wh_grammar.specs.Lexing.{begins_with}

-- the bytes at the front that pass a test pass it, and the one behind them doesn't
abbrev IsCutAt : (ℕ → Bool) → List ℕ → ℕ → Type 0
IsCutAt p bytes n = (list_all p (take n bytes) ≡ true) × (begins_with p (drop n bytes) ≡ false)

cut_by : (p : ℕ → Bool) (b : ℕ) (bytes : List ℕ) (r : Bool) → p b ≡ r → IsCutAt p bytes (prefix_len p bytes)
    → IsCutAt p (b ∷ bytes) (prefix_len p (b ∷ bytes))
cut_by p b bytes true e ih = (simp (e, one-add) ih.0, simp (e, one-add) ih.1)
cut_by p b bytes false e ih = (simp e, simp e)

cut-prefix : (p : ℕ → Bool) (bytes : List ℕ) → IsCutAt p bytes (prefix_len p bytes)
cut-prefix p [] = (refl, refl)
cut-prefix p (b ∷ bytes) = cut_by p b bytes (p b) refl (cut-prefix p bytes)

pub all-prefix : (p : ℕ → Bool) (bytes : List ℕ) → list_all p (take (prefix_len p bytes) bytes) ≡ true
all-prefix p bytes = (cut-prefix p bytes).0

pub stops-prefix : (p : ℕ → Bool) (bytes : List ℕ) → begins_with p (drop (prefix_len p bytes) bytes) ≡ false
stops-prefix p bytes = (cut-prefix p bytes).1

none-prefix : (p : ℕ → Bool) (rest : List ℕ) → begins_with p rest ≡ false → prefix_len p rest ≡ 0
none-prefix p [] h = refl
none-prefix p (b ∷ rest) h = rw h refl

-- a front that passes, before what doesn't, is as long as it is
pub prefix_len-front : (p : ℕ → Bool) (bytes rest : List ℕ) → list_all p bytes ≡ true → begins_with p rest ≡ false
    → prefix_len p (bytes ++ rest) ≡ length bytes
prefix_len-front p [] rest all stop = none-prefix p rest stop
prefix_len-front p (b ∷ bytes) rest all stop =
    let both = and_parts (p b) (list_all p bytes) all in
    rw (both.0, prefix_len-front p bytes rest both.1 stop) (omega arith)

-- ---- bytes

pub word-not_blank : (b : ℕ) → is_word_byte b ≡ true → is_blank b ≡ false
word-not_blank b h = grind (arith, nat_tests)

pub begins-word : (b : ℕ) → begins_word b ≡ true → is_word_byte b ≡ true
begins-word b h = rw h refl

pub digit-word : (b : ℕ) → is_digit b ≡ true → is_word_byte b ≡ true
digit-word b h = grind (arith, nat_tests)

pub digit-not_blank : (b : ℕ) → is_digit b ≡ true → is_blank b ≡ false
digit-not_blank b h = grind (arith, nat_tests)

pub digit-other : (b : ℕ) → is_digit b ≡ true → begins_word b ≡ false
digit-other b h = grind (arith, nat_tests)

-- a word in upper case stays as it is
pub upper_kept : (word : List ℕ) → list_all (λ byte. upper byte == byte) word ≡ true → map upper word ≡ word
upper_kept [] all = refl
upper_kept (b ∷ word) all =
    let both = and_parts (upper b == b) (list_all (λ byte. upper byte == byte) word) all in
    rw (upper_kept word both.1, eqb-true (upper b) b both.0) refl
