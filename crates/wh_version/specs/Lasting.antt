-- Partitions that stand once, and the marks of versions.
--     filed_in, partitions_in        those that are kept, as they stand in the file and with their rows alone
--     standing_filed, standing_at    those that stand in the version at a place
--     gone_filed, gone_between       those that stand in one, and are gone from a later one
--     versions_by      the versions of marks
--     going_with       the last place at which one went
--     numbered_from, count_to, lies_in_front, is_gone_by     what always holds of a table's marks and partitions
use Rattle.std.specs.Prelude.{ℕ, ◌+◌, Bool, true, false, ◌&&◌, ◌||◌, List, [], ◌∷◌, map, filter, take}
use Rattle.std.specs.Prelude.{nat_lt, nat_le, nat_eq, min, if◌then◌else◌}
use Rattle.wh_frame.specs.Partition.{Partition}
use Rattle.wh_filed.specs.Filed.{Filed, partitions_filed}
use Rattle.wh_state.specs.Stored.{StoredVersion}
use Rattle.wh_version.specs.declared.lasting.Lasting.{Lasting}
use Rattle.wh_version.specs.declared.mark.VersionMark.{VersionMark}

abbrev pub stands_at : ℕ → Lasting → Bool
stands_at place k = nat_lt place k.until

abbrev pub filed_in : List Lasting → List Filed
filed_in kept = map (λ k. k.filed) kept

abbrev pub partitions_in : List Lasting → List Partition
partitions_in kept = partitions_filed (filed_in kept)

abbrev pub standing_filed : ℕ → List Lasting → List Filed
standing_filed place kept = filed_in (filter (stands_at place) kept)

abbrev pub standing_at : ℕ → List Lasting → List Partition
standing_at place kept = partitions_filed (standing_filed place kept)

abbrev pub is_gone_between : ℕ → ℕ → Lasting → Bool
is_gone_between old new k = nat_lt old k.until && nat_le k.until new

abbrev pub gone_filed : ℕ → ℕ → List Lasting → List Filed
gone_filed old new kept = filed_in (filter (is_gone_between old new) kept)

abbrev pub gone_between : ℕ → ℕ → List Lasting → List Partition
gone_between old new kept = partitions_filed (gone_filed old new kept)

-- ---- what a version more changes

abbrev pub fresh : Filed → Lasting
fresh f = record { filed = f; until = 18446744073709551615 }

-- gone from the place on, if it is the one of that number
abbrev pub part_one : ℕ → ℕ → Lasting → Lasting
part_one place number k = if nat_eq k.filed.partition.number number then record k { until = min k.until place } else k

abbrev pub parted : ℕ → List ℕ → List Lasting → List Lasting
parted place [] kept = kept
parted place (number ∷ numbers) kept = parted place numbers (map (part_one place number) kept)

-- the last place at which one went, with those of some numbers that go at a later place
abbrev pub going_with : ℕ → ℕ → List ℕ → ℕ
going_with last place [] = last
going_with last place (number ∷ numbers) = place

-- what was gone from the place on stands again
abbrev pub stands_again : ℕ → Lasting → Lasting
stands_again place k = if nat_eq k.until place then record k { until = 18446744073709551615 } else k

-- ---- versions

-- a version has those of the first partitions, up to its mark, that stand at its place
abbrev pub version_by : List Lasting → ℕ → VersionMark → StoredVersion
version_by kept place mark = record {
  stamp = mark.stamp;
  data_timestamp = mark.data_timestamp;
  content = standing_at place (take mark.partitions kept);
}

abbrev pub versions_by : List Lasting → ℕ → List VersionMark → List StoredVersion
versions_by kept place [] = []
versions_by kept place (mark ∷ marks) = version_by kept place mark ∷ versions_by kept (place + 1) marks

-- ---- what always holds

-- the numbers rise by one from the next on
abbrev pub numbered_from : ℕ → List Partition → Bool
numbered_from next [] = true
numbered_from next (p ∷ ps) = nat_eq p.number next && numbered_from (next + 1) ps

-- the marks count more and more partitions, from a least count on, and the last one counts them all
abbrev pub count_to : ℕ → List VersionMark → ℕ → Bool
count_to least [] total = nat_eq least total
count_to least (mark ∷ marks) total = nat_le least mark.partitions && count_to mark.partitions marks total

-- a mark that is no version lies in front of all moments
abbrev pub lies_in_front : Bool → VersionMark → Bool
lies_in_front true mark = nat_eq mark.stamp 0
lies_in_front false mark = true

-- it stands still
abbrev pub is_standing : Lasting → Bool
is_standing k = nat_eq k.until 18446744073709551615

-- it stands still, or is gone from a place up to the last one
abbrev pub is_gone_by : ℕ → Lasting → Bool
is_gone_by last k = nat_le k.until last || is_standing k
