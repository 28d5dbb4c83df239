-- Which bytes are a text.
use Rattle.std.proofs.Common.{◌≡◌, ℕ, Bool, true, false, ◌&&◌, if◌then◌else◌, List, length, Option, Some, None, refl}
use Rattle.std.proofs.Common.{le-leb, leb-true, leb}
use Rattle.std.specs.Str.{is_utf8}
use Rattle.std.proofs.lemmas.Bool.{and_parts}
use Rattle.std.proofs.lemmas.Str.{IsUtf8-from_is_utf8, is_utf8-from_IsUtf8}
use Rattle.wh_value.specs.Value.{IsText}
use Rattle.wh_lex.specs.Front.{text_of}

-- what holds of the outcome, where it holds of a text and of none
pub of_text : (P : Option (List ℕ) → Type 0) (bytes : List ℕ) → (IsText bytes → P (Some bytes)) → P None
    → P (text_of bytes)
unfolding text_of
of_text P bytes some none = by (is_utf8 bytes && leb (length bytes) 65536) (λ e.
    let both = and_parts (is_utf8 bytes) (leb (length bytes) 65536) e in
    some (record { utf8 = IsUtf8-from_is_utf8 bytes both.0; short = leb-true (length bytes) 65536 both.1 }))
  where
    by : (r : Bool) → (r ≡ true → P (Some bytes)) → P (if r then Some bytes else None)
    by true k = k refl
    by false k = none

pub text-read : (bytes : List ℕ) → IsText bytes → text_of bytes ≡ Some bytes
unfolding text_of
text-read bytes t = rw (is_utf8-from_IsUtf8 bytes t.utf8, le-leb (length bytes) 65536 t.short) refl

pub text-none : (bytes : List ℕ) → (IsText bytes → ⊥) → text_of bytes ≡ None
text-none bytes no_text = of_text (λ o. o ≡ None) bytes (λ t. absurd (no_text t)) refl
