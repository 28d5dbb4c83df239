-- The partitions that are kept, by the positions of their places.
--     fits, IsKeptAs, IsKept    what is kept is the partition that is described, read as is said there
--     Agrees                    what is kept is what the file spells at its places
--     brought                   the positions, the one used last first, after one more use
--     Within                    the places lie in the first n bytes
--     Keeps                     what a call makes of them, in a file whose bytes stay
--     StaysBeside               what is kept stays right while these bytes stay
use Rattle.std.specs.Prelude.{◌≡◌, ℕ, ◌+◌, ◌≤◌, Bool, true, false, ◌&&◌, nat_eq, if◌then◌else◌, List, [], ◌∷◌}
use Rattle.std.specs.Prelude.{map, take, vec_len, Contains, Option, Some, Result, OnOk, OnErr}
use Rattle.std.specs.Map.{lookup}
use Rattle.std.specs.Arc.{arc_value}
use Rattle.lru.specs.LruCache.{LruCache}
use Rattle.wh_world.specs.Bytes.{part_at}
use Rattle.wh_frame.specs.Partition.{Partition}
use Rattle.wh_part.specs.declared.meta.PartMeta.{PartMeta}
use Rattle.wh_fetch.specs.declared.fault.FetchFault.{FetchFault}
use Rattle.wh_fetch.specs.declared.kept.Kept.{Kept}
use Rattle.wh_fetch.specs.Place.{spelled, describes}

-- as many bytes, as many values a row, and all that is said of it
abbrev pub fits : PartMeta → Kept → Bool
fits meta e = nat_eq e.length meta.length
    && (nat_eq e.width (vec_len meta.columns) && describes meta (arc_value e.part))

pub record IsKeptAs (meta : PartMeta) (entries : List (ℕ × Kept)) (p : Partition) : Type 0 where
  pub entry : Kept
  pub found : lookup (nat_eq meta.at) entries ≡ Some entry
  pub fit : fits meta entry ≡ true
  pub same : p ≡ arc_value entry.part

abbrev pub IsKept : PartMeta → List (ℕ × Kept) → Type 0
IsKept meta entries = (p : Partition) × IsKeptAs meta entries p

abbrev pub IsSpelledIn : List ℕ → ℕ × Kept → Type 0
IsSpelledIn bytes e = spelled e.1.width (part_at e.0 e.1.length bytes) ≡ Some (arc_value e.1.part)

-- of a file whose bytes aren't told nothing is said
abbrev pub Agrees : Option (List ℕ) → List (ℕ × Kept) → Type 0
Agrees told entries = (bytes : List ℕ) → told ≡ Some bytes → (e : ℕ × Kept) → Contains entries e → IsSpelledIn bytes e

abbrev pub kept_of : List (ℕ × Kept) → List ℕ
kept_of entries = map (λ e. e.0) entries

abbrev pub removed : ℕ → List ℕ → List ℕ
removed at [] = []
removed at (k ∷ ks) = if nat_eq at k then ks else k ∷ removed at ks

abbrev pub stands : ℕ → List ℕ → Bool
stands at [] = false
stands at (k ∷ ks) = if nat_eq at k then true else stands at ks

-- it stands in front of the others, of which the last one goes where there would be 257
abbrev pub brought : ℕ → List ℕ → List ℕ
brought at kept = at ∷ (if stands at kept then removed at kept else take 255 kept)

abbrev pub Within : ℕ → List (ℕ × Kept) → Type 0
Within n entries = (e : ℕ × Kept) → Contains entries e → e.0 + e.1.length ≤ n

pub record Keeps {A : Type 0} (told : Option (List ℕ)) (reach : ℕ) (old new : LruCache ℕ Kept) (meta : PartMeta)
    (result : Result A FetchFault) : Type 0 where
  pub right : Agrees told old.entries → Agrees told new.entries
  -- a partition in front of the reach is kept as the one used last
  pub kept : OnOk result
      (meta.at + meta.length ≤ reach → kept_of new.entries ≡ brought meta.at (kept_of old.entries))
  pub kept_err : OnErr result (new ≡ old)
  -- what is kept lies in front of it
  pub within : Within reach old.entries → Within reach new.entries

abbrev pub StaysBeside : Type 0
StaysBeside = (n : ℕ) (old new : List ℕ) (entries : List (ℕ × Kept)) → Within n entries → take n new ≡ take n old
    → Agrees (Some old) entries → Agrees (Some new) entries
