-- What contracts say of a `DiskFetch`.
--     told_of, faults_of        the bytes of its file, and how often it has failed
--     damage_of                 what was found damaged
--     Covers                    what it keeps is right, whichever partition it is asked for
--     IsSound, IsSpoilt         no partition is found damaged; the one that was asked for is
--     IsLater                   faults and partitions found damaged are counted, and no count falls
--     Damages                   what was found damaged between two states
--     GoesOn                    a later state: nothing but reads happened, each for a partition that was asked for, and
--                               what is kept is as right as before
--     goes_none, goes_on        as by no call, and by one after the other
--     still_covers, same_contents    what is covered then stays covered, with the same contents
use Rattle.std.proofs.Common.{◌≡◌, ◌⊎◌, inl, inr, ℕ, ◌+◌, ◌≤◌, List, Option, Some, Result, Err, refl, sym, ◌∙◌}
use Rattle.std.proofs.Common.{ap, subst, arith}
use Rattle.std.proofs.Math.Nat.{le_refl, le_trans}
use Rattle.wh_world.specs.Told.{Rose}
use Rattle.wh_world.specs.Calls.{next}
use Rattle.wh_world.specs.declared.Disk.{Ghosts}
use Rattle.wh_part.specs.declared.meta.PartId.{PartId}
use Rattle.wh_part.specs.declared.meta.PartMeta.{PartMeta}
use Rattle.wh_fetch.specs.declared.fault.FetchFault.{FetchFault}
use Rattle.wh_fetch.specs.declared.fault.FetchFault.TheVariants.{Read}
use Rattle.wh_fetch.specs.declared.disk_fetch.DiskFetch.{DiskFetch}
use Rattle.wh_fetch.specs.Fetch.{ReadsOnceEach}
use Rattle.wh_fetch.specs.Place.{contents_at, IsDamaged}
use Rattle.wh_fetch.specs.Cache.{Agrees, Within}
use Rattle.wh_fetch.specs.Device.{OnlyRead, only_read_none, only_read_on}

-- how many partitions were found damaged, and the position of the last of them
abbrev pub damage_of : {D : Type 0} → DiskFetch D → ℕ × Option ℕ
damage_of fetch = (fetch.spoilt, fetch.damaged)

module _ {D : Type 0} (d : Ghosts D) where
  abbrev pub told_of : DiskFetch D → Option (List ℕ)
  told_of fetch = d.bytes fetch.disk

  -- faults of the disk, and partitions that were found damaged
  abbrev pub faults_of : DiskFetch D → ℕ
  faults_of fetch = d.faults fetch.disk + fetch.spoilt

  abbrev pub IsRight : DiskFetch D → Type 0
  IsRight fetch = Agrees (told_of fetch) fetch.cache.entries

  abbrev pub Covers : DiskFetch D → PartMeta → Type 0
  Covers fetch meta = IsRight fetch

  -- where Read is answered the disk has failed
  pub record IsSound {A : Type 0} (old new : DiskFetch D) (result : Result A FetchFault) : Type 0 where
    pub place : new.damaged ≡ old.damaged
    pub counted : new.spoilt ≡ old.spoilt
    pub failed : result ≡ Err Read → Rose (d.faults old.disk) (d.faults new.disk)

  -- Read is answered, and its position is told
  pub record IsSpoilt {A : Type 0} (old new : DiskFetch D) (meta : PartMeta) (result : Result A FetchFault) : Type 0
    where
      pub cause : IsDamaged (told_of old) (d.size old.disk) meta
      pub answer : result ≡ Err Read
      pub place : new.damaged ≡ Some meta.at
      pub counted : new.spoilt ≡ next old.spoilt

  -- no partition was found damaged since, or the last one that was is told
  abbrev pub Damages : DiskFetch D → DiskFetch D → Type 0
  Damages first last =
      ((last.damaged ≡ first.damaged) × (last.spoilt ≡ first.spoilt))
      ⊎ ((meta : PartMeta) × IsDamaged (told_of first) (d.size first.disk) meta × (last.damaged ≡ Some meta.at))

  -- neither count falls
  abbrev pub IsLater : DiskFetch D → DiskFetch D → Type 0
  IsLater first last = (d.faults first.disk ≤ d.faults last.disk) × (first.spoilt ≤ last.spoilt)

  pub record GoesOn (first last : DiskFetch D) : Type 0 where
    pub only_read : OnlyRead d first.disk last.disk
    pub reads : ReadsOnceEach (d.reads first.disk) (d.reads last.disk) first.asked.items last.asked.items
    pub damages : Damages first last
    pub later : IsLater first last
    pub reach : last.reach ≡ first.reach
    pub right : IsRight first → IsRight last
    pub within : Within first.reach first.cache.entries → Within last.reach last.cache.entries

  pub goes_none : (fetch : DiskFetch D) → GoesOn fetch fetch
  goes_none fetch = record {
    only_read = only_read_none d fetch.disk;
    reads = (omega arith, omega arith);
    damages = inl (refl, refl);
    later = (le_refl (d.faults fetch.disk), le_refl fetch.spoilt);
    reach = refl;
    right = λ right. right;
    within = λ within. within;
  }

  pub goes_on : (first then last : DiskFetch D) → GoesOn first then → GoesOn then last → GoesOn first last
  goes_on first then last one two = record {
    only_read = only_read_on d first.disk then.disk last.disk one.only_read two.only_read;
    reads = reads_on first.asked.items then.asked.items last.asked.items one.reads two.reads;
    damages = damages_on one.only_read one.damages two.damages;
    later = (le_trans one.later.0 two.later.0, le_trans one.later.1 two.later.1);
    reach = two.reach ∙ one.reach;
    right = λ right. two.right (one.right right);
    within = λ within. two.within (one.within within);
  }
    where
      reads_on : {a b c : ℕ} (la lb lc : List PartId) → ReadsOnceEach a b la lb → ReadsOnceEach b c lb lc
          → ReadsOnceEach a c la lc
      reads_on la lb lc one two = (omega (arith, one.0, two.0), omega (arith, one.1, two.1))

      damages_on : OnlyRead d first.disk then.disk → Damages first then → Damages then last → Damages first last
      damages_on read one (inr (meta, damaged, place)) = inr (meta, as_before read meta damaged, place)
        where
          as_before : OnlyRead d first.disk then.disk → (meta : PartMeta)
              → IsDamaged (told_of then) (d.size then.disk) meta → IsDamaged (told_of first) (d.size first.disk) meta
          as_before read meta damaged =
              subst (λ (size : ℕ). IsDamaged (told_of first) size meta) read.size
              (subst (λ (told : Option (List ℕ)). IsDamaged told (d.size then.disk) meta) read.bytes damaged)
      damages_on read (inl (place, spoilt)) (inl (place', spoilt')) = inl (place' ∙ place, spoilt' ∙ spoilt)
      damages_on read (inr (meta, damaged, place)) (inl (place', spoilt')) = inr (meta, damaged, place' ∙ place)

  pub still_covers : (first last : DiskFetch D) (meta : PartMeta) → GoesOn first last → Covers first meta
      → Covers last meta
  still_covers first last meta goes right = goes.right right

  pub same_contents : (first last : DiskFetch D) (meta : PartMeta) → GoesOn first last
      → contents_at (told_of last) meta ≡ contents_at (told_of first) meta
  same_contents first last meta goes = ap (λ (told : Option (List ℕ)). contents_at told meta) goes.only_read.bytes
