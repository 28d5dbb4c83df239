-- What an `Appended` holds of a table's versions.
--     arrivals_at, arrived_of    versions with what came with each: its stamp, and the partitions
--     came_in                    all partitions that came with them
--     CameAt                     what came with the version at a place
--     CameBetween                and with those from a place up to another
--     EachShown                  what is told of each partition that came is what it was
--     AreSeenAlike               a number that is asked for stands in some partitions where it stands in others
--     IsAppended                 what came with each version behind the front, and of what came in front all that
--                                is seen of these rows' numbers
use Rattle.std.specs.Prelude.{◌≡◌, ℕ, suc, true, List, [], ◌∷◌, length, map, take, drop}
use Rattle.std.specs.Prelude.{Option}
use Rattle.std.specs.List.{flat_map, AllByRecursion}
use Rattle.std.specs.FinMap.{entries}
use Rattle.wh_frame.specs.Partition.{Partition}
use Rattle.wh_state.specs.Commit.{AllApart}
use Rattle.wh_state.specs.Stored.{StoredVersion, rows_of}
use Rattle.wh_filed.specs.Filed.{filed_at, partitions_at, loaded_of, AllShown}
use Rattle.wh_version.specs.Arrivals.{IsFront}
use Rattle.wh_version.specs.declared.arrivals.Arrivals.{Arrivals}
use Rattle.wh_table.specs.Changes.{AreArrivals}
use Rattle.wh_change.specs.Seen.{is_seen}
use Rattle.wh_change.specs.declared.arrived.Arrived.{Arrived}
use Rattle.wh_change.specs.declared.arrived.Appended.{Appended}

abbrev pub arrivals_at : List Arrivals → List (ℕ × List Partition)
arrivals_at arrivals = map (λ a. (a.stamp, partitions_at a.came.items)) arrivals

abbrev pub arrived_of : List Arrived → List (ℕ × List Partition)
arrived_of arrived = map (λ a. (a.stamp, loaded_of a.came.items)) arrived

abbrev pub came_in : List (ℕ × List Partition) → List Partition
came_in versions = flat_map (λ v. v.1) versions

abbrev pub EachShown : Option (List ℕ) → List Arrivals → Type 0
EachShown told arrivals = AllByRecursion (λ a. AllShown told (filed_at a.came.items)) arrivals

pub record CameAt (place : ℕ) (came : ℕ × List Partition) (versions : List StoredVersion) : Type 0 where
  pub apart : AllApart [] came.1
  pub arrivals : AreArrivals came.0 (entries (rows_of came.1)) (take place versions) (drop place versions)

abbrev pub CameBetween : ℕ → ℕ → List (ℕ × List Partition) → List StoredVersion → Type 0
CameBetween first last [] versions = first ≡ last
CameBetween first last (v ∷ vs) versions = CameAt first v versions × CameBetween (suc first) last vs versions

abbrev pub AreSeenAlike : List Partition → List Partition → List Partition → Type 0
AreSeenAlike asked some others = (number : ℕ) → is_seen number asked ≡ true → is_seen number some ≡ is_seen number others

pub record IsAppended (from : ℕ) (found : Appended) (versions : List StoredVersion) : Type 0 where
  pub count : ℕ
  pub front : List Partition
  pub is_front : IsFront from count front versions
  pub came : CameBetween count (length versions) (arrived_of found.later.items) versions
  pub seen : AreSeenAlike (came_in (arrived_of found.later.items)) (loaded_of found.seen.items) front
