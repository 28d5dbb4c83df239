-- What it is to stand at the front of bytes, for what is read there.
use Rattle.std.proofs.Common.{◌≡◌, ℕ, Bool, true, false, ◌||◌, if◌then◌else◌, List, Option, Some, None, refl}
use Rattle.wh_grammar.specs.Token.{Token}
use Rattle.wh_grammar.specs.Lexing.{IsGap, IsToken}
use Rattle.wh_lex.specs.Front.{Front}

-- a token, or none for a gap, stands at the front, before the rest
abbrev pub IsRead : List ℕ → Option Token → List ℕ → Type 0
IsRead bytes None rest = IsGap bytes rest
IsRead bytes (Some t) rest = IsToken bytes t rest

-- what is read at the front of the bytes stands there
abbrev pub Stands : List ℕ → Option Front → Type 0
Stands bytes None = Unit {0}
Stands bytes (Some p) = IsRead bytes p.0 p.1

-- what holds of both branches of a test holds of it
pub by_test : {X : Type 0} (P : X → Type 0) (r : Bool) (x y : X) → (r ≡ true → P x) → (r ≡ false → P y)
    → P (if r then x else y)
by_test P true x y p q = p refl
by_test P false x y p q = q refl

pub or_false : (x y : Bool) → (x || y) ≡ false → (x ≡ false) × (y ≡ false)
or_false true y h = absurd (cc)
or_false false y h = (refl, h)
