-- What came with each version.
--     IsArrival             the partitions that came with the first of the later versions
--     HaveArrived           the partitions that came with so many versions, one version after the other
--     IsFront               the versions at the front that were pushed by a stamp, and what came with them
--     partitions_before     how many partitions there were before a version
--     mark_place            the place of a version's mark
use Rattle.std.specs.Prelude.{◌≡◌, ℕ, zero, suc, Bool, true, false, List, [], ◌∷◌, ◌++◌, take, drop}
use Rattle.std.specs.Prelude.{slice_index_or as get_or, nat_le, if◌then◌else◌}
use Rattle.wh_frame.specs.Partition.{Partition}
use Rattle.wh_state.specs.Stored.{StoredVersion}
use Rattle.wh_version.specs.declared.mark.VersionMark.{VersionMark}
use Rattle.wh_version.specs.History.{standing_in}
use Rattle.wh_version.specs.Turnover.{IsTurnover}

pub record IsArrival (time : ℕ) (came : List Partition) (earlier later : List StoredVersion) : Type 0 where
  pub version : StoredVersion
  pub rest : List StoredVersion
  pub first : later ≡ version ∷ rest
  pub stamp : version.stamp ≡ time
  pub went : List Partition
  pub turnover : IsTurnover went came (standing_in earlier) version.content

abbrev pub HaveArrived : ℕ → List Partition → List StoredVersion → Type 0
HaveArrived zero came versions = came ≡ []
HaveArrived (suc n) came versions = (earlier next : List Partition) × (time : ℕ) × (came ≡ earlier ++ next)
    × HaveArrived n earlier versions × IsArrival time next (take n versions) (drop n versions)

-- how many versions at the front were pushed by a stamp
abbrev pub count_by : ℕ → List StoredVersion → ℕ
count_by stamp [] = 0
count_by stamp (v ∷ vs) = if nat_le v.stamp stamp then suc (count_by stamp vs) else 0

pub record IsFront (stamp count : ℕ) (came : List Partition) (versions : List StoredVersion) : Type 0 where
  pub counted : count ≡ count_by stamp versions
  pub arrived : HaveArrived count came versions

abbrev pub partitions_before : List VersionMark → VersionMark → ℕ → ℕ
partitions_before marks first zero = zero
partitions_before marks first (suc place) = (get_or marks place first).partitions

abbrev pub mark_place : Bool → ℕ → ℕ
mark_place true place = suc place
mark_place false place = place
