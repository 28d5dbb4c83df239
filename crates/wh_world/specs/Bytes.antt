-- What calls of a disk do to its bytes.
--     written, Overwrites     bytes with a piece at a place, and so where they are told
--     part_at                 some bytes from a place on
--     Torn, Tears             what is left by a write that is cut short, and so where bytes are told
--     GrowsWithin             a length after such a write
--     framed                  a record as it is appended
use Rattle.std.specs.Prelude.{◌≡◌, ℕ, ◌+◌, ◌≤◌, max, List, [], ◌∷◌, ◌++◌, length, take, drop, Option, option_map}
use Rattle.std.specs.Int.{w64, to_be_bytes}
use Rattle.wh_world.specs.Told.{Told}

-- the bytes with a piece at a place, at most at their end
abbrev pub written : List ℕ → ℕ → List ℕ → List ℕ
written old at piece = take at old ++ (piece ++ drop (at + length piece) old)

abbrev pub Overwrites : ℕ → List ℕ → Option (List ℕ) → Option (List ℕ) → Type 0
Overwrites at piece old new = new ≡ option_map (λ held. written held at piece) old

-- n bytes from a place on
abbrev pub part_at : ℕ → ℕ → List ℕ → List ℕ
part_at at n bytes = take n (drop at bytes)

-- after a write of n bytes that a crash or a fault cuts short: any bytes in the range and past the
-- old end, and the same elsewhere
pub record Torn (at n : ℕ) (old new : List ℕ) : Type 0 where
  pub before : take at new ≡ take at old
  pub behind : drop (at + n) new ≡ drop (at + n) old
  pub no_shorter : length old ≤ length new
  pub no_longer : length new ≤ max (length old) (at + n)

abbrev pub Tears : ℕ → List ℕ → Option (List ℕ) → Option (List ℕ) → Type 0
Tears at piece old new = Told (Torn at (length piece)) old new

abbrev pub GrowsWithin : ℕ → ℕ → ℕ → Type 0
GrowsWithin end old new = (old ≤ new) × (new ≤ max old end)

-- a record as it is appended: the length of the payload, the payload, and the closed gate of the next record
abbrev pub framed : List ℕ → List ℕ
framed payload = to_be_bytes w64 (length payload) ++ (payload ++ 0 ∷ [])
