-- What stands at a place of a file.
--     spelled        the partition that all of the bytes spell, with so many values a row
--     told_at        the one at the place that is described, where the bytes are told
--     describes      whether what is said of a partition without its values is so
--     IsPartAt       it is as described, and its place spells it
--     IsDamaged      there is no such partition at the place
--     as_described   the partition, if it is as described
--     contents_at    the partition at the place, if it isn't damaged
use Rattle.std.specs.Prelude.{◌≡◌, ◌⊎◌, ℕ, ◌+◌, ◌<◌, Bool, true, false, ◌&&◌, nat_eq, nat_lt, if◌then◌else◌}
use Rattle.std.specs.Prelude.{List, [], ◌∷◌, length, vec_len, Option, Some, None}
use Rattle.wh_world.specs.Bytes.{part_at}
use Rattle.wh_frame.specs.Partition.{Partition, first_number, last_number}
use Rattle.wh_part.specs.Decoding.{partition_at}
use Rattle.wh_part.specs.declared.meta.PartMeta.{PartMeta}

-- what was read, if nothing is left behind it
abbrev pub all_of : Option (Partition × List ℕ) → Option Partition
all_of None = None
all_of (Some (p, [])) = Some p
all_of (Some (p, b ∷ rest)) = None

abbrev pub spelled : ℕ → List ℕ → Option Partition
spelled width bytes = if nat_lt width 4294967296 then all_of (partition_at width bytes) else None

abbrev pub told_in : Option (List ℕ) → ℕ → ℕ → ℕ → Option Partition
told_in None width at len = None
told_in (Some bytes) width at len = spelled width (part_at at len bytes)

abbrev pub told_at : Option (List ℕ) → PartMeta → Option Partition
told_at bytes meta = told_in bytes (vec_len meta.columns) meta.at meta.length

-- its number, and the row count, first and last number of its rows
abbrev pub describes : PartMeta → Partition → Bool
describes meta p = nat_eq meta.id.number p.number && (nat_eq meta.rows (length p.rows)
    && (nat_eq meta.first (first_number p.rows) && nat_eq meta.last (last_number p.rows)))

abbrev pub as_described : PartMeta → Option Partition → Option Partition
as_described meta None = None
as_described meta (Some p) = if describes meta p then Some p else None

abbrev pub contents_at : Option (List ℕ) → PartMeta → Option Partition
contents_at None meta = None
contents_at (Some bytes) meta =
    if nat_lt (length bytes) (meta.at + meta.length) then None else as_described meta (told_at (Some bytes) meta)

pub record IsPartAt (told : Option (List ℕ)) (meta : PartMeta) (p : Partition) : Type 0 where
  pub content : (bytes : List ℕ) → told ≡ Some bytes → told_at (Some bytes) meta ≡ Some p
  -- also where the bytes aren't told
  pub described : describes meta p ≡ true

-- the place isn't in the file of so many bytes, or its bytes spell no partition that is as described
abbrev pub IsDamaged : Option (List ℕ) → ℕ → PartMeta → Type 0
IsDamaged told size meta = (size < meta.at + meta.length)
    ⊎ ((bytes : List ℕ) → told ≡ Some bytes → (p : Partition) → told_at (Some bytes) meta ≡ Some p
    → describes meta p ≡ false)
