-- Marked lines: of a long one only its front matters, and the CR at its end.
use Rattle.std.proofs.Common.{◌≡◌, ℕ, zero, suc, ◌+◌, ◌<◌, ◌≤◌, Bool, true, false, ◌&&◌, ◌==◌, List, [], ◌∷◌, ◌++◌}
use Rattle.std.proofs.Common.{get_or, length, take, drop, None, nat_le, nat_eq, codes, refl, sym, ap, ◌∙◌, arith}
use Rattle.std.proofs.Common.{eq-eqb, length-append, length-drop}
use Rattle.std.proofs.lemmas.List.{take-append-le}
use Rattle.std.proofs.lemmas.Bool.Decides.{nat_tests}
use Rattle.std.proofs.lemmas.Slice.Eq.{bytes_eq-Decides}
use Rattle.std.specs.Str.{bytes_eq}
use Rattle.std.specs.List.{starts_with, list_all}
use Rattle.wh_grammar.specs.Bytes.{is_digit}
use Rattle.wh_grammar.specs.Script.{CommandLine, number_after, command_line, marked_line, without_return}

other_text : (text word : List ℕ) (v : Bool) → bytes_eq text word ≡ v → length word < length text → v ≡ false
other_text text word false e long = refl
other_text text word true e long = absurd (omega (arith, ap length ((bytes_eq-Decides text word).0 e)))

none_by : (s n x : Bool) → (s && n && false && x) ≡ false
none_by true true x = refl
none_by true false x = refl
none_by false n x = refl

le_false : (a b : ℕ) → b < a → nat_le a b ≡ false
le_false a b above = grind (arith, nat_tests)

-- no number of so few digits
long_number : (word : List ℕ) (most : ℕ) (text : List ℕ) → length word + most < length text
    → number_after word most text ≡ None
long_number word most text long =
    let digits = drop (length word) text in
    let above : nat_le (length digits) most ≡ false =
    le_false (length digits) most (omega (arith, length-drop (length word) text)) in
    rw (above, none_by (starts_with nat_eq text word) (nat_le 1 (length digits)) (list_all is_digit digits)) refl

-- a long line is a command
pub long_line : (text : List ℕ) → 65537 ≤ length text → marked_line text ≡ command_line text
unfolding marked_line
long_line text long =
    let tick = other_text text (codes "!tick") (bytes_eq text (codes "!tick")) refl (omega arith) in
    let ticks = long_number (codes "!tick ") 18 text (omega arith) in
    let sessions = long_number (codes "!session ") 9 text (omega arith) in
    rw (tick, ticks, sessions) refl

pub return_front : (text : List ℕ) (n : ℕ) → n < length text → take n (without_return text) ≡ take n text
unfolding without_return
return_front [] n within = absurd (omega arith)
return_front (b ∷ bytes) zero within = refl
return_front (b ∷ []) (suc n) within = absurd (omega arith)
return_front (b ∷ c ∷ bytes) (suc n) within = ap (λ xs. b ∷ xs) (return_front (c ∷ bytes) n (omega arith))

return_one : (b : ℕ) (v : Bool) → (b == 13) ≡ v → 1 ≤ length (without_return (b ∷ [])) + 1
unfolding without_return
return_one b v e = omega arith

pub return_length : (text : List ℕ) → length text ≤ length (without_return text) + 1
unfolding without_return
return_length [] = omega arith
return_length (b ∷ []) = return_one b (b == 13) refl
return_length (b ∷ c ∷ bytes) = omega (arith, return_length (c ∷ bytes))

-- what follows 65,538 bytes doesn't matter, at the end of the script
pub marked_front : (text more : List ℕ) → 65538 ≤ length text → marked_line (text ++ more) ≡ marked_line text
marked_front text more long =
    let longer : 65537 ≤ length (text ++ more) = omega (arith, length-append text more) in
    let front : take 65537 (text ++ more) ≡ take 65537 text = take-append-le 65537 text more (omega arith) in
    long_line (text ++ more) longer ∙ ap CommandLine front ∙ sym (long_line text (omega arith))

-- nor at the end of a line
pub returned_front : (text more : List ℕ) → 65538 ≤ length text
    → marked_line (without_return (text ++ more)) ≡ marked_line (without_return text)
returned_front text more long =
    let whole = text ++ more in
    let whole_length : 65538 ≤ length whole = omega (arith, length-append text more) in
    let longer : 65537 ≤ length (without_return whole) = omega (arith, return_length whole) in
    let long_enough : 65537 ≤ length (without_return text) = omega (arith, return_length text) in
    let front : take 65537 (without_return whole) ≡ take 65537 (without_return text) =
    return_front whole 65537 (omega arith) ∙ take-append-le 65537 text more (omega arith)
    ∙ sym (return_front text 65537 (omega arith)) in
    long_line (without_return whole) longer ∙ ap CommandLine front ∙ sym (long_line (without_return text) long_enough)

-- the CR at the end, if there is one
pub return_dropped : (text : List ℕ) (n : ℕ) → length text ≡ suc n → get_or text n 0 ≡ 13
    → without_return text ≡ take n text
unfolding without_return
return_dropped [] n counted last = absurd (omega arith)
return_dropped (b ∷ []) zero counted last = rw (eq-eqb b 13 last) refl
return_dropped (b ∷ []) (suc n) counted last = absurd (omega arith)
return_dropped (b ∷ c ∷ bytes) zero counted last = absurd (omega arith)
return_dropped (b ∷ c ∷ bytes) (suc n) counted last =
    ap (λ xs. b ∷ xs) (return_dropped (c ∷ bytes) n (omega arith) last)

-- nothing else is dropped
pub return_kept : (text : List ℕ) (n : ℕ) → length text ≡ suc n → (get_or text n 0 == 13) ≡ false
    → without_return text ≡ text
unfolding without_return
return_kept [] n counted other = absurd (omega arith)
return_kept (b ∷ []) zero counted other = rw other refl
return_kept (b ∷ []) (suc n) counted other = absurd (omega arith)
return_kept (b ∷ c ∷ bytes) zero counted other = absurd (omega arith)
return_kept (b ∷ c ∷ bytes) (suc n) counted other = ap (λ xs. b ∷ xs) (return_kept (c ∷ bytes) n (omega arith) other)

pub return_none : without_return [] ≡ []
unfolding without_return
return_none = refl
