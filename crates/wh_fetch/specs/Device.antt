-- What a call does to a disk.
--     OnlyRead           nothing but reads
--     only_read_none     as by no call
--     only_read_by       as by a call of the disk that writes nothing
--     only_read_on       as by calls one after the other
--     Counts, CountsIf   how it counts faults
--     ReadsOnce          it reads once at most
--     Reads              all of this
use Rattle.std.proofs.Common.{◌≡◌, ◌⊎◌, inl, inr, ℕ, ◌+◌, ◌≤◌, Bool, true, false, List, Result, OnOk, Err}
use Rattle.std.proofs.Common.{refl, ◌∙◌}
use Rattle.std.proofs.Math.Nat.{le_refl, le_trans}
use Rattle.wh_world.specs.Told.{Rose}
use Rattle.wh_world.specs.Crash.{NoOthers, Elapses}
use Rattle.wh_world.specs.declared.Disk.{Ghosts}
use Rattle.wh_fetch.specs.declared.fault.FetchFault.{FetchFault}
use Rattle.wh_fetch.specs.declared.fault.FetchFault.TheVariants.{Read, OutOfMemory}

-- What a read gives is as before, and so is the number of bytes. Since any earlier moment a crash left nothing that it
-- might not have left before.
pub record OnlyRead {D : Type 0} (d : Ghosts D) (old new : D) : Type 0 where
  pub bytes : d.bytes new ≡ d.bytes old
  pub size : d.size new ≡ d.size old
  pub images : NoOthers (d.may_leave old) (d.may_leave new)
  pub later : d.moment old ≤ d.moment new
  pub since : (moment : ℕ) (image : List ℕ)
      → moment ≤ d.moment old
      → d.left_since new moment image
      → d.left_since old moment image ⊎ d.may_leave old image

module _ {D : Type 0} (d : Ghosts D) where
  pub only_read_none : (disk : D) → OnlyRead d disk disk
  only_read_none disk = record {
    bytes = refl;
    size = refl;
    images = λ image left. left;
    later = le_refl (d.moment disk);
    since = λ moment image le left. inl left;
  }

  pub only_read_by : (old new : D) → d.bytes new ≡ d.bytes old → d.size new ≡ d.size old
      → NoOthers (d.may_leave old) (d.may_leave new)
      → Elapses (d.moment old) (d.moment new) (d.left_since old) (d.left_since new) (d.may_leave new)
      → OnlyRead d old new
  only_read_by old new bytes size images time = record {
    bytes = bytes;
    size = size;
    images = images;
    later = time.later;
    since = λ moment image le left. kept moment image (time.nothing_else moment image le left);
  }
    where
      kept : (moment : ℕ) (image : List ℕ) → d.left_since old moment image ⊎ d.may_leave new image
          → d.left_since old moment image ⊎ d.may_leave old image
      kept moment image (inl past) = inl past
      kept moment image (inr now) = inr (images image now)

  pub only_read_on : (first then last : D) → OnlyRead d first then → OnlyRead d then last → OnlyRead d first last
  only_read_on first then last one two = record {
    bytes = two.bytes ∙ one.bytes;
    size = two.size ∙ one.size;
    images = λ image left. one.images image (two.images image left);
    later = le_trans one.later two.later;
    since = λ moment image le left.
        kept moment image le (two.since moment image (le_trans le one.later) left);
  }
    where
      kept : (moment : ℕ) (image : List ℕ) → moment ≤ d.moment first
          → d.left_since then moment image ⊎ d.may_leave then image
          → d.left_since first moment image ⊎ d.may_leave first image
      kept moment image le (inl past) = one.since moment image le past
      kept moment image le (inr now) = inr (one.images image now)

-- where a call's errors hold more than a fault of a fetch: whether it was one of the device
abbrev pub CountsIf : Bool → ℕ → ℕ → Type 0
CountsIf true before now = Rose before now
CountsIf false before now = now ≡ before

-- it rises where Read is answered, and is as it was at a success and where memory is wanted
pub record Counts {A : Type 0} (before now : ℕ) (result : Result A FetchFault) : Type 0 where
  pub later : before ≤ now
  pub no_fault : OnOk result (now ≡ before)
  pub starved : result ≡ Err OutOfMemory → now ≡ before
  pub read : result ≡ Err Read → Rose before now

abbrev pub ReadsOnce : {D : Type 0} → Ghosts D → D → D → Type 0
ReadsOnce d old new = (d.reads old ≤ d.reads new) × (d.reads new ≤ d.reads old + 1)

pub record Reads {D A : Type 0} (d : Ghosts D) (old new : D) (result : Result A FetchFault) : Type 0 where
  pub only_read : OnlyRead d old new
  pub once : ReadsOnce d old new
  pub counts : Counts (d.faults old) (d.faults new) result
