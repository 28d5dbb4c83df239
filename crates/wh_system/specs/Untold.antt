-- What isn't told.
use Rattle.std.specs.Prelude.{◌≡◌, Option, Some, None}
use Rattle.std.proofs.Common.{subst}

-- nothing is told
abbrev pub NotSome : {A : Type 0} → Option A → Type 0
NotSome None = Unit {0}
NotSome (Some x) = ⊥

-- anything holds of what would be told
pub untold : {A : Type 0} {P : Type 0} (told : A) → None ≡ Some told → P
untold {A} told same = absurd (subst (λ (o : Option A). NotSome o) same tt)
