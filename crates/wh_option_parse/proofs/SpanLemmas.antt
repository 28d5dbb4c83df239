-- A text is a span where it is digits, blanks and letters.
use Rattle.std.proofs.Common.{◌≡◌, ℕ, suc, ◌+◌, ◌*◌, ◌<◌, ◌≤◌, ◌==◌, Bool, true, false, ◌||◌, if◌then◌else◌, List, []}
use Rattle.std.proofs.Common.{◌∷◌, ◌++◌, length, map, take, drop, Option, Some, None, option_map, refl, sym, ap, ap₂}
use Rattle.std.proofs.Common.{◌∙◌, subst, ne_eqb, arith, bytes_eq, take_at, drop_at, take-append-drop}
use Rattle.std.proofs.Common.{append_assoc, one-add}
use Rattle.std.specs.Prelude.{codes, nat_lt, nat_le}
use Rattle.std.specs.List.{list_all, prefix_len}
use Rattle.std.proofs.lemmas.Bool.{and_parts}
use Rattle.std.proofs.lemmas.Bool.Decides.{nat_tests}
use Rattle.std.proofs.lemmas.Option.{same_Some}
use Rattle.std.proofs.lemmas.Slice.Eq.{bytes_eq-Decides}
use Rattle.wh_ast.specs.declared.statement.Lag.{Lag}
use Rattle.wh_ast.specs.declared.statement.Lag.TheVariants as lag
use Rattle.wh_grammar.specs.Bytes.{is_blank, is_digit, upper, number_behind}
use Rattle.wh_grammar.specs.Lexing.{begins_with}
use Rattle.wh_grammar.specs.OptionText as o
use Rattle.wh_grammar.specs.OptionText.{IsSpan, IsSchedule, IsUnit, IsLagText}
use Rattle.wh_lex.proofs.WordLemmas.{all-prefix, prefix_len-front}
use Rattle.wh_option_parse.specs.Read.{span_by, span_of, is_either, schedule_by, schedule_of, factor_of, lag_by, lag_of}

-- ---- what is read is spelled so

or_three : (a b c : Bool) → (a || b || c) ≡ false → (a ≡ false) × (b ≡ false) × (c ≡ false)
or_three true b c h = absurd (cc)
or_three false true c h = absurd (cc)
or_three false false true h = absurd (cc)
or_three false false false h = (refl, refl, refl)

some_of : (n : ℕ) → (n == 0) ≡ false → 0 < n
some_of n h = grind (arith, nat_tests)

few_of : (n : ℕ) → nat_lt 9 n ≡ false → n ≤ 9
few_of n h = grind (arith, nat_tests)

prefix-le : (p : ℕ → Bool) (bytes : List ℕ) → prefix_len p bytes ≡ length (take (prefix_len p bytes) bytes)
prefix-le p [] = refl
prefix-le p (b ∷ bytes) = by (p b) refl (prefix-le p bytes)
  where
    by : (r : Bool) → p b ≡ r → prefix_len p bytes ≡ length (take (prefix_len p bytes) bytes)
        → prefix_len p (b ∷ bytes) ≡ length (take (prefix_len p (b ∷ bytes)) (b ∷ bytes))
    by true e more = simp (e, one-add) (ap suc more)
    by false e more = simp e

span-by : (bytes digits behind unit : List ℕ) (n : ℕ) → bytes ≡ digits ++ behind → list_all is_digit digits ≡ true
    → span_by digits behind ≡ Some (n, unit)
    → IsSpan bytes unit n
span-by bytes digits behind unit n e all h =
    by (length digits == 0 || nat_lt 9 (length digits) || prefix_len is_blank behind == 0) refl h
  where
    blanks : List ℕ
    blanks = take (prefix_len is_blank behind) behind

    letters : List ℕ
    letters = drop (prefix_len is_blank behind) behind

    by : (r : Bool) → (length digits == 0 || nat_lt 9 (length digits) || prefix_len is_blank behind == 0) ≡ r
        → if◌then◌else◌ {A = Option (ℕ × List ℕ)} r None
        (Some (number_behind 0 digits, map upper (drop (prefix_len is_blank behind) behind))) ≡ Some (n, unit)
        → IsSpan bytes unit n
    by true k h = absurd (cc)
    by false k h =
        let parts = or_three (length digits == 0) (nat_lt 9 (length digits)) (prefix_len is_blank behind == 0) k in
        let some = some_of (prefix_len is_blank behind) parts.2 in
        let long = prefix-le is_blank behind in
        let same = same_Some (number_behind 0 digits, map upper letters) (n, unit) h in
        record {
          digits = digits;
          blanks = blanks;
          letters = letters;
          spelled = e ∙ ap (λ (l : List ℕ). digits ++ l) (sym (take-append-drop (prefix_len is_blank behind) behind))
              ∙ sym (append_assoc digits blanks letters);
          some_digit = some_of (length digits) parts.0;
          few_digits = few_of (length digits) parts.1;
          are_digits = all;
          some_blank = omega (arith, some, long);
          are_blanks = all-prefix is_blank behind;
          is_unit = ap (λ (p : ℕ × List ℕ). p.1) same;
          number = sym (ap (λ (p : ℕ × List ℕ). p.0) same);
        }

span-sound : (bytes unit : List ℕ) (n : ℕ) → span_of bytes ≡ Some (n, unit) → IsSpan bytes unit n
unfolding span_of
span-sound bytes unit n h =
    let k = prefix_len is_digit bytes in
    span-by bytes (take k bytes) (drop k bytes) unit n (sym (take-append-drop k bytes)) (all-prefix is_digit bytes) h

-- ---- what is spelled so is read

-- a unit begins with a letter
abbrev begins_letter : List ℕ → Bool
begins_letter [] = true
begins_letter (b ∷ bytes) = nat_le 65 b

letter-blank : (b : ℕ) → nat_le 65 (upper b) ≡ true → is_blank b ≡ false
letter-blank b h = grind (arith, nat_tests)

no-blank : (letters unit : List ℕ) → map upper letters ≡ unit → begins_letter unit ≡ true
    → begins_with is_blank letters ≡ false
no-blank [] unit e h = refl
no-blank (b ∷ letters) unit e h = letter-blank b (ap begins_letter e ∙ h)

blank-digit : (b : ℕ) → is_blank b ≡ true → is_digit b ≡ false
blank-digit b h = grind (arith, nat_tests)

no-digit : (blanks letters : List ℕ) → 0 < length blanks → list_all is_blank blanks ≡ true
    → begins_with is_digit (blanks ++ letters) ≡ false
no-digit [] letters some all = absurd (omega (arith, some))
no-digit (b ∷ blanks) letters some all = blank-digit b (and_parts (is_blank b) (list_all is_blank blanks) all).0

span-complete : (bytes unit : List ℕ) (n : ℕ) → IsSpan bytes unit n → begins_letter unit ≡ true
    → span_of bytes ≡ Some (n, unit)
unfolding span_of
span-complete bytes unit n h letter =
    let rest = h.blanks ++ h.letters in
    let len : prefix_len is_digit (h.digits ++ rest) ≡ length h.digits =
    prefix_len-front is_digit h.digits rest h.are_digits (no-digit h.blanks h.letters h.some_blank h.are_blanks) in
    let blanks : prefix_len is_blank rest ≡ length h.blanks =
    prefix_len-front is_blank h.blanks h.letters h.are_blanks (no-blank h.letters unit h.is_unit letter) in
    let split : List ℕ → List ℕ → Option (ℕ × List ℕ) = span_by in
    ap (λ (l : List ℕ). split (take (prefix_len is_digit l) l) (drop (prefix_len is_digit l) l))
    (h.spelled ∙ append_assoc h.digits h.blanks h.letters)
    ∙ ap (λ (k : ℕ). split (take k (h.digits ++ rest)) (drop k (h.digits ++ rest))) len
    ∙ ap₂ split (take_at h.digits rest (length h.digits) refl) (drop_at h.digits rest (length h.digits) refl)
    ∙ at_parts rest blanks
  where
    at_parts : (rest : List ℕ) → prefix_len is_blank (h.blanks ++ h.letters) ≡ length h.blanks
        → span_by h.digits (h.blanks ++ h.letters) ≡ Some (n, unit)
    at_parts rest blanks =
        let a : (length h.digits == 0) ≡ false =
        ne_eqb (length h.digits) 0 (λ e. let some = h.some_digit in omega (arith, e, some)) in
        let few = h.few_digits in
        let b : nat_lt 9 (length h.digits) ≡ false = grind (arith, nat_tests, few) in
        let c : (length h.blanks == 0) ≡ false =
        ne_eqb (length h.blanks) 0 (λ e. let some = h.some_blank in omega (arith, e, some)) in
        rw (blanks, a, b, c) (ap₂ (λ (m : ℕ) (l : List ℕ). Some (m, l)) (sym h.number)
        (ap (map upper) (drop_at h.blanks h.letters (length h.blanks) refl) ∙ h.is_unit))

-- ---- schedules and lags

either : (P : Bool → Type 0) (unit one many : List ℕ) → (unit ≡ one → P true) → (unit ≡ many → P true) → P false
    → P (is_either unit one many)
either P unit one many f g no_ = by (bytes_eq unit one) (bytes_eq unit many) refl refl
  where
    by : (a b : Bool) → bytes_eq unit one ≡ a → bytes_eq unit many ≡ b → P (a || b)
    by true b ea eb = f ((bytes_eq-Decides unit one).0 ea)
    by false true ea eb = g ((bytes_eq-Decides unit many).0 eb)
    by false false ea eb = no_

pub schedule-sound : (bytes : List ℕ) (n : ℕ) → schedule_of bytes ≡ Some n → IsSchedule bytes n
unfolding schedule_of
schedule-sound bytes n h = by (span_of bytes) refl h
  where
    by : (p : Option (ℕ × List ℕ)) → span_of bytes ≡ p → schedule_by p ≡ Some n → IsSchedule bytes n
    by None e h = absurd (cc)
    by (Some p) e h =
        let span = span-sound bytes p.1 p.0 e in
        either (λ (r : Bool). if◌then◌else◌ {A = Option ℕ} r (Some p.0) None ≡ Some n → IsSchedule bytes n) p.1
        (codes "MINUTE") (codes "MINUTES")
        (λ is k. subst (IsSchedule bytes) (same_Some _ _ k)
        (o.minute (subst (λ (u : List ℕ). IsSpan bytes u p.0) is span)))
        (λ is k. subst (IsSchedule bytes) (same_Some _ _ k)
        (o.minutes (subst (λ (u : List ℕ). IsSpan bytes u p.0) is span)))
        (λ k. absurd (cc)) h

pub schedule-complete : {bytes : List ℕ} {n : ℕ} → IsSchedule bytes n → schedule_of bytes ≡ Some n
unfolding schedule_of
schedule-complete (o.minute {bytes} {n} s) = ap schedule_by (span-complete bytes (codes "MINUTE") n s refl)
schedule-complete (o.minutes {bytes} {n} s) = ap schedule_by (span-complete bytes (codes "MINUTES") n s refl)

either_of : (P : Option ℕ → Type 0) (unit one many : List ℕ) (x rest : Option ℕ) → (unit ≡ one → P x)
    → (unit ≡ many → P x) → P rest
    → P (if is_either unit one many then x else rest)
either_of P unit one many x rest f g k = either (λ r. P (if r then x else rest)) unit one many f g k

abbrev of_days : List ℕ → Option ℕ
of_days unit = if is_either unit (codes "DAY") (codes "DAYS") then Some 86400 else None

abbrev of_hours : List ℕ → Option ℕ
of_hours unit = if is_either unit (codes "HOUR") (codes "HOURS") then Some 3600 else of_days unit

abbrev of_minutes : List ℕ → Option ℕ
of_minutes unit = if is_either unit (codes "MINUTE") (codes "MINUTES") then Some 60 else of_hours unit

abbrev Said : List ℕ → ℕ → Option ℕ → Type 0
Said unit factor r = r ≡ Some factor → IsUnit unit factor

said : (unit u : List ℕ) (f factor : ℕ) → IsUnit u f → unit ≡ u → Said unit factor (Some f)
said unit u f factor h is k = subst (IsUnit unit) (same_Some _ _ k) (subst (λ (v : List ℕ). IsUnit v f) (sym is) h)

factor-sound : (unit : List ℕ) (factor : ℕ) → factor_of unit ≡ Some factor → IsUnit unit factor
factor-sound unit factor =
    let none : Said unit factor None = λ k. absurd (cc) in
    either_of (Said unit factor) unit (codes "SECOND") (codes "SECONDS") (Some 1) (of_minutes unit)
    (said unit _ 1 factor o.second) (said unit _ 1 factor o.seconds)
    (either_of (Said unit factor) unit (codes "MINUTE") (codes "MINUTES") (Some 60) (of_hours unit)
    (said unit _ 60 factor o.a_minute) (said unit _ 60 factor o.some_minutes)
    (either_of (Said unit factor) unit (codes "HOUR") (codes "HOURS") (Some 3600) (of_days unit)
    (said unit _ 3600 factor o.hour) (said unit _ 3600 factor o.hours)
    (either_of (Said unit factor) unit (codes "DAY") (codes "DAYS") (Some 86400) None (said unit _ 86400 factor o.day)
    (said unit _ 86400 factor o.days) none)))

factor-complete : {unit : List ℕ} {factor : ℕ} → IsUnit unit factor
    → (factor_of unit ≡ Some factor) × (begins_letter unit ≡ true)
factor-complete o.second = (refl, refl)
factor-complete o.seconds = (refl, refl)
factor-complete o.a_minute = (refl, refl)
factor-complete o.some_minutes = (refl, refl)
factor-complete o.hour = (refl, refl)
factor-complete o.hours = (refl, refl)
factor-complete o.day = (refl, refl)
factor-complete o.days = (refl, refl)

pub lag_text-sound : (bytes : List ℕ) (l : Lag) → lag_of bytes ≡ Some l → IsLagText bytes l
unfolding lag_of
lag_text-sound bytes l h = by (span_of bytes) refl h
  where
    by_factor : (p : ℕ × List ℕ) → IsSpan bytes p.1 p.0 → (f : Option ℕ) → factor_of p.1 ≡ f
        → option_map (λ factor. lag.Seconds (p.0 * factor)) f ≡ Some l
        → IsLagText bytes l
    by_factor p span None e k = absurd (cc)
    by_factor p span (Some factor) e k =
        subst (IsLagText bytes) (same_Some _ _ k) (o.span span (factor-sound p.1 factor e))

    by : (p : Option (ℕ × List ℕ)) → span_of bytes ≡ p → lag_by p ≡ Some l → IsLagText bytes l
    by None e h = absurd (cc)
    by (Some p) e h = by_factor p (span-sound bytes p.1 p.0 e) (factor_of p.1) refl h

pub lag_text-complete : {bytes : List ℕ} {l : Lag} → IsLagText bytes l → lag_of bytes ≡ Some l
unfolding lag_of
lag_text-complete (o.span {bytes} {unit} {n} {factor} s u) =
    let k = factor-complete u in
    ap lag_by (span-complete bytes unit n s k.1) ∙ ap (option_map (λ (f : ℕ). lag.Seconds (n * f))) k.0
