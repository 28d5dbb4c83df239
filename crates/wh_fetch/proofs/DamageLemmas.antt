-- What one call finds damaged.
--     damages          it is one of what is found damaged between two states
--     is_told          what stands at a place undamaged is the partition that is given of it
--     stands           a partition that its place spells, in the file and as described, stands there undamaged
--     undamaged        and it isn't found damaged
use Rattle.std.proofs.Common.{◌≡◌, ◌⊎◌, inl, inr, ℕ, ◌+◌, ◌≤◌, true, false, nat_lt, List, length, Option, Some, None}
use Rattle.std.proofs.Common.{IsSome, Result, refl, sym, ◌∙◌, ap, arith}
use Rattle.std.proofs.lemmas.Bool.{ltb-false, le-ltb}
use Rattle.wh_world.specs.declared.Disk.{Ghosts}
use Rattle.wh_frame.specs.Partition.{Partition}
use Rattle.wh_part.specs.declared.meta.PartMeta.{PartMeta}
use Rattle.wh_fetch.specs.declared.fault.FetchFault.{FetchFault}
use Rattle.wh_fetch.specs.declared.disk_fetch.DiskFetch.{DiskFetch}
use Rattle.wh_fetch.specs.Fetch.{IsTold}
use Rattle.wh_fetch.specs.Place.{told_at, describes, as_described, contents_at, IsPartAt, IsDamaged}
use Rattle.wh_fetch.specs.DiskFetch.{told_of, damage_of, IsSound, IsSpoilt, Damages}

pub damages : {D : Type 0} (d : Ghosts D) {A : Type 0} {old new : DiskFetch D} {meta : PartMeta}
    {result : Result A FetchFault}
    → IsSound d old new result ⊎ IsSpoilt d old new meta result → Damages d old new
damages d (inl sound) = inl (sound.place, sound.counted)
damages d {meta = meta} (inr spoilt) = inr (meta, spoilt.cause, spoilt.place)

-- ---- what stands at a place

described : (meta : PartMeta) (found : Option Partition) (p : Partition) → as_described meta found ≡ Some p
    → (found ≡ Some p) × (describes meta p ≡ true)
described meta None p is = absurd cc
described meta (Some q) p is =
    (elim (describes meta q) as (λ y. describes meta q ≡ y → (Some q ≡ Some p) × (describes meta p ≡ true)) [
      | true ↦ λ t. let same : Some q ≡ Some p = rw t at is in (same, cc)
      | false ↦ λ t. let none : None ≡ Some p = rw t at is in absurd cc
    ]) refl

record IsUndamaged (bytes : List ℕ) (meta : PartMeta) (p : Partition) : Type 0 where
  pub within : meta.at + meta.length ≤ length bytes
  pub told : told_at (Some bytes) meta ≡ Some p
  pub described : describes meta p ≡ true

is_undamaged : (bytes : List ℕ) (meta : PartMeta) (p : Partition) → contents_at (Some bytes) meta ≡ Some p
    → IsUndamaged bytes meta p
is_undamaged bytes meta p is =
    (elim (nat_lt (length bytes) (meta.at + meta.length)) as (λ y. nat_lt (length bytes) (meta.at + meta.length) ≡ y
    → IsUndamaged bytes meta p) [
      | true ↦ λ t. let none : None ≡ Some p = rw t at is in absurd cc
      | false ↦ λ t. let found = described meta (told_at (Some bytes) meta) p (rw t at is) in
          record { within = ltb-false _ _ t; told = found.0; described = found.1 }
    ]) refl

pub is_told : (told : Option (List ℕ)) (meta : PartMeta) (given : Partition) → IsPartAt told meta given
    → IsTold (contents_at told meta) given
is_told None meta given there p is = absurd cc
is_told (Some bytes) meta given there p is =
    let same : Some given ≡ Some p = sym (there.content bytes refl) ∙ (is_undamaged bytes meta p is).told in
    cc

pub stands : (told : Option (List ℕ)) (meta : PartMeta) (p : Partition) → told_at told meta ≡ Some p
    → describes meta p ≡ true
    → ((bytes : List ℕ) → told ≡ Some bytes → meta.at + meta.length ≤ length bytes)
    → contents_at told meta ≡ Some p
stands None meta p is fits within = absurd cc
stands (Some bytes) meta p is fits within =
    rw (le-ltb (length bytes) (meta.at + meta.length) (within bytes refl))
    (ap (as_described meta) is ∙ rw fits refl)

-- ---- what isn't found damaged

some_of : {X : Type 0} (found : Option X) → IsSome found → (x : X) × (found ≡ Some x)
some_of None here = absurd cc
some_of (Some x) here = (x, refl)

no_damage : (told : Option (List ℕ)) (size : ℕ) (meta : PartMeta)
    → ((bytes : List ℕ) → told ≡ Some bytes → length bytes ≡ size)
    → IsSome (contents_at told meta)
    → IsDamaged told size meta
    → ⊥
no_damage None size meta spans here damaged = absurd cc
no_damage (Some bytes) size meta spans here damaged =
    let found = some_of (contents_at (Some bytes) meta) here in
    let good = is_undamaged bytes meta found.0 found.1 in
    elim damaged [
      | inl short ↦ omega (arith, short, good.within, spans bytes refl)
      | inr other ↦ let no : describes meta found.0 ≡ false = other bytes refl found.0 good.told in
          let yes : describes meta found.0 ≡ true = good.described in absurd cc
    ]

module _ {D : Type 0} (d : Ghosts D) {A : Type 0} where
  pub undamaged : (old new : DiskFetch D) (meta : PartMeta) (result : Result A FetchFault)
      → ((bytes : List ℕ) → told_of d old ≡ Some bytes → length bytes ≡ d.size old.disk)
      → IsSome (contents_at (told_of d old) meta)
      → IsSound d old new result ⊎ IsSpoilt d old new meta result
      → damage_of new ≡ damage_of old
  undamaged old new meta result spans here (inl sound) = rw (sound.counted, sound.place) refl
  undamaged old new meta result spans here (inr spoilt) =
      absurd (no_damage (told_of d old) (d.size old.disk) meta spans here spoilt.cause)
