-- What an append leaves that was cut short, and what any append leaves.
use Rattle.std.specs.Prelude.{◌≡◌, ◌⊎◌, ℕ, ◌-◌, List, [], ◌∷◌, ◌++◌, length, take}
use Rattle.wh_frame.specs.File.{IsFileOf}
use Rattle.wh_world.specs.Bytes.{written, Torn}

-- the write of a record behind the gate that ends there was cut short, or the write of the gate
abbrev pub TornRecord : ℕ → List ℕ → List ℕ → List ℕ → Type 0
TornRecord end framed old new = Torn end (length framed) old new ⊎ Torn (end - 1) 1 (written old end framed) new

-- a file of the payloads, or of the payloads and one more
abbrev pub HasWithOrWithout : List (List ℕ) → List ℕ → List ℕ → Type 0
HasWithOrWithout payloads payload file = IsFileOf payloads file ⊎ IsFileOf (payloads ++ payload ∷ []) file

-- the first n bytes are as they were
abbrev pub SameFront : ℕ → List ℕ → List ℕ → Type 0
SameFront n old new = take n new ≡ take n old
