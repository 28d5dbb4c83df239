-- Meanings that may be told or not, and counts of faults.
use Rattle.std.specs.Prelude.{ℕ, ◌+◌, ◌≤◌, min, Option, Some, None}

-- both told and related, or neither told
abbrev pub Told : {A : Type 0} → (A → A → Type 0) → Option A → Option A → Type 0
Told R None None = Unit {0}
Told R None (Some new) = ⊥
Told R (Some old) None = ⊥
Told R (Some old) (Some new) = R old new

-- a count that has risen; one at the end of its type counts as risen
abbrev pub Rose : ℕ → ℕ → Type 0
Rose before now = min (before + 1) 18446744073709551615 ≤ now
