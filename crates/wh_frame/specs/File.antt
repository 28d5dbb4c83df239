-- The frame of a file: a header, records, a gate that is closed, and any bytes.
--     record_of, records_of     an open gate, a length and a payload; the header and the records of payloads
--     IsFileOf                  the bytes are a file of these payloads
--     GateEndsAt                the position behind the file's present gate, the one that isn't open
--     LacksHeader, IsCut        a file, and a record, that isn't whole
use Rattle.std.specs.Prelude.{◌≡◌, ◌≢◌, ℕ, ◌+◌, ◌<◌, ◌≤◌, ◌^◌, ◌⊎◌, List, [], ◌∷◌, ◌++◌, length}
use Rattle.std.specs.List.{flat_map, AllByRecursion}
use Rattle.std.specs.Int.{w64, to_be_bytes}

-- WHCORE1
abbrev pub header : List ℕ
header = 87 ∷ 72 ∷ 67 ∷ 79 ∷ 82 ∷ 69 ∷ 49 ∷ []

unfoldable pub record_of : List ℕ → List ℕ
record_of payload = 1 ∷ to_be_bytes w64 (length payload) ++ payload

unfoldable pub records_of : List (List ℕ) → List ℕ
records_of payloads = header ++ flat_map record_of payloads

-- the records, a gate that isn't open, and any bytes behind it
pub record IsFileOf (payloads : List (List ℕ)) (bytes : List ℕ) : Type 0 where
  pub gate : ℕ
  pub tail : List ℕ
  pub closed : gate ≢ 1
  pub spelled : bytes ≡ records_of payloads ++ gate ∷ tail
  pub short : AllByRecursion (λ payload. length payload < 2 ^ 64) payloads

-- one of at most 8 bytes is written anew, with its gate at the eighth
abbrev pub GateEndsAt : List ℕ → ℕ → Type 0
GateEndsAt bytes end = ((length bytes ≤ 8) × (end ≡ 8))
    ⊎ ((8 < length bytes)
    × ((payloads : List (List ℕ)) × IsFileOf payloads bytes × (end ≡ length (records_of payloads) + 1)))

pub record LacksHeader (file : List ℕ) (at : ℕ) : Type 0 where
  pub place : at ≡ 0
  pub other : (rest : List ℕ) → file ≡ header ++ rest → ⊥

-- an open gate that no whole record begins at
pub record IsCut (bytes : List ℕ) : Type 0 where
  pub behind : List ℕ
  pub open_gate : bytes ≡ 1 ∷ behind
  pub cut : (payload rest : List ℕ) → length payload < 2 ^ 64 → bytes ≡ record_of payload ++ rest → ⊥
