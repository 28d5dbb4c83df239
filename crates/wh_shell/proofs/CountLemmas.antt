-- The bytes that were taken.
--     counts_none, counts_on         no turn yet; one turn behind others
--     long_read, long_stop           a script that was read to its end, and one at which a fault stopped
--     passed_reads, status_passed    a fault that a `?` passes on
--     err_is, err_same, ok_isnt      the fault of a result, which has one
--     choice_few                     the refusals of one event
use Rattle.std.proofs.Common.{◌≡◌, ℕ, ◌+◌, ◌-◌, ◌^◌, ◌<◌, ◌≤◌, Bool, true, false, List, length, Option, Some, refl, ap, ◌∙◌, sym, subst}
use Rattle.std.proofs.Common.{arith}
use Rattle.std.specs.Prelude.{Result, Ok, Err, IsErrAnd, IsErrOf, if◌then◌else◌}
use Rattle.wh_world.specs.declared.source.Source as sources
use Rattle.wh_text.specs.Script.{Counts, taken_of}
use Rattle.wh_text.specs.declared.script.Script.{Script}
use Rattle.wh_shell.specs.Code.{status_of}
use Rattle.wh_shell.specs.Reading.{Reads}
use Rattle.wh_shell.specs.Run.{WasTooLong, StopsWhereTooLong}
use Rattle.wh_shell.specs.declared.fault.Fault.{Fault}
use Rattle.wh_shell.specs.declared.fault.Fault.TheVariants.{ScriptTooLong}
use Rattle.wh_shell.specs.declared.status.Status.{Status}
use Rattle.wh_shell.specs.declared.status.Status.TheVariants.{Read, Stopped}

-- a reply counts as one refusal at most
pub choice_few : (refused : Bool) → (if refused then 1 else 0) ≤ 1
choice_few true = omega arith
choice_few false = omega arith

-- one turn behind others
pub counts_on : (a b c : Script) (left_a left_b left_c : Option (List ℕ)) → Counts a b left_a left_b
    → Counts b c left_b left_c → Counts a c left_a left_c
counts_on a b c left_a left_b left_c one two = record {
  each = λ left told.
      let first = one.each left told in
      let second = two.each first.0 first.1 in
      (second.0, second.1, first.2 ∙ second.2);
}

-- no turn yet
pub counts_none : (a : Script) (left_a : Option (List ℕ)) → Counts a a left_a left_a
counts_none a left_a = record { each = λ left told. (left, told, refl) }

-- of a told script: what was taken, where more than 2^30 bytes are gone from it
was_long : (first last : Script) (left left_new : Option (List ℕ)) (input rest : List ℕ) → taken_of first ≡ 0 →
    Counts first last left left_new →
    left ≡ Some input → left_new ≡ Some rest → 2 ^ 30 + length rest < length input →
    (2 ^ 30 < taken_of last) × (taken_of last ≡ length input - length rest)
was_long first last left left_new input rest none counts told told_new long =
    let found = counts.each input told in
    let same : found.0 ≡ rest = cc (found.1, told_new) in
    let size : length found.0 ≡ length rest = ap length same in
    let all : length input + taken_of first ≡ length found.0 + taken_of last = found.2 in
    (omega arith, omega arith)

-- and what a turn that took too many bytes says of all turns
was_too_long : (first last : Script) (left left_new : Option (List ℕ)) (taken : ℕ) → taken_of first ≡ 0 →
    Counts first last left left_new →
    (2 ^ 30 < taken) × (taken ≡ taken_of last) → WasTooLong taken left left_new
was_too_long first last left left_new taken none counts long = record {
  long = long.0;
  counted = λ input told.
      let found = counts.each input told in
      let all : length input + taken_of first ≡ length found.0 + taken_of last = found.2 in
      let number = long.1 in
      (found.0, found.1, omega arith);
}

-- ---- how a run ends

module _ {S : Type 0} (s : sources.Ghosts S) (old new : S) (first last : Script) (none : taken_of first ≡ 0)
    (counts : Counts first last (s.left old) (s.left new)) where
  pub long_read : (count : ℕ) → (2 ^ 30 < taken_of last → ⊥) → StopsWhereTooLong s old new (Read count)
  long_read count few = record {
    long = λ input rest told told_new longer.
        absurd (few (was_long first last (s.left old) (s.left new) input rest none counts told told_new longer).0);
    too_long = λ taken is. absurd cc;
  }

  pub long_stop : (why : Fault) → (2 ^ 30 < taken_of last → why ≡ ScriptTooLong (taken_of last)) →
      ((taken : ℕ) → why ≡ ScriptTooLong taken → (2 ^ 30 < taken) × (taken ≡ taken_of last)) →
      StopsWhereTooLong s old new (Stopped why)
  long_stop why stops says = record {
    long = λ input rest told told_new longer.
        let all = was_long first last (s.left old) (s.left new) input rest none counts told told_new longer in
        ap Stopped (stops all.0 ∙ ap ScriptTooLong all.1);
    too_long = λ taken is.
        let fault : why ≡ ScriptTooLong taken = cc in
        was_too_long first last (s.left old) (s.left new) taken none counts (says taken fault);
  }

-- ---- a fault that is passed on

pub err_same : {A E : Type 0} (a b : E) → IsErrOf {T = A} (Err a) b → a ≡ b
err_same a b same = cc

pub ok_isnt : {A E : Type 0} {a : A} {e : E} → IsErrOf (Ok a) e → ⊥
ok_isnt same = absurd cc

pub err_is : {A : Type 0} (result : Result A Fault) (fault other : Fault) → IsErrAnd result (λ e. e ≡ fault) →
    IsErrOf result other → fault ≡ other
err_is (Ok a) fault other is of = absurd is
err_is (Err e) fault other is of = sym is ∙ err_same e other of

pub status_passed : (P : Status → Type 0) (result : Result ℕ Fault) (fault : Fault) →
    IsErrAnd result (λ e. e ≡ fault) → P (Stopped fault) → P (status_of result)
status_passed P (Ok a) fault is holds = absurd is
status_passed P (Err e) fault is holds = subst (λ (f : Fault). P (Stopped f)) (sym is) holds

pub passed_reads : {A : Type 0} (old new : Script) (left left_new : Option (List ℕ)) (result : Result (Option A) Fault)
    (fault : Fault) → IsErrAnd result (λ e. e ≡ fault) → Counts old new left left_new →
    ((taken : ℕ) → fault ≡ ScriptTooLong taken → (2 ^ 30 < taken) × (taken ≡ taken_of new)) →
    (2 ^ 30 < taken_of new → fault ≡ ScriptTooLong (taken_of new)) →
    Reads old new left left_new result ScriptTooLong
passed_reads old new left left_new (Ok a) fault is counts says stops = absurd is
passed_reads old new left left_new (Err e) fault is counts says stops = record {
  goes = tt;
  progress = tt;
  counts = counts;
  taken = λ taken of. says taken (sym is ∙ err_same e (ScriptTooLong taken) of);
  long = λ longer. ap (λ (f : Fault). Err f) (is ∙ stops longer);
}
