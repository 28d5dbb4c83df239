-- What a `History` stands for.
--     marked_of        what its marks say, each as a version
--     versions_of      the versions, each with its partitions: a history may begin before its first one
--     nexts_of         the number that the next partition has after each version
--     standing_in      the partitions of the last version
--     filed_of, partitions_of     each partition of each version, by rising number
--     pushed_with      a version more, of the last one's partitions without some and with others
use Rattle.std.specs.Prelude.{ℕ, ◌+◌, Bool, true, false, List, [], ◌∷◌, ◌++◌, map}
use Rattle.wh_frame.specs.Partition.{Partition}
use Rattle.wh_state.specs.State.{content_in, last_of}
use Rattle.wh_state.specs.Stored.{StoredVersion}
use Rattle.wh_state.specs.Edits.{without}
use Rattle.wh_version.specs.declared.mark.VersionMark.{VersionMark}
use Rattle.wh_version.specs.declared.history.History.{History}
use Rattle.wh_filed.specs.Filed.{Filed, partitions_filed}
use Rattle.wh_version.specs.Lasting.{filed_in, versions_by}
use Rattle.wh_version.specs.Lists.{behind, but_last, shortened}

abbrev pub marks_of : History → List VersionMark
marks_of h = h.first ∷ h.later.items

abbrev pub marked_of : History → List StoredVersion
marked_of h = versions_by h.kept.items 0 (marks_of h)

unfoldable pub versions_of : History → List StoredVersion
versions_of h = behind h.starts_empty (marked_of h)

unfoldable pub nexts_of : History → List ℕ
nexts_of h = map (λ mark. mark.partitions + 1) (marks_of h)

abbrev pub standing_in : List StoredVersion → List Partition
standing_in versions = content_in [] (last_of versions)

abbrev pub filed_of : History → List Filed
filed_of h = filed_in h.kept.items

abbrev pub partitions_of : History → List Partition
partitions_of h = partitions_filed (filed_of h)

abbrev pub next_in : List ℕ → ℕ
next_in [] = 1
next_in (next ∷ []) = next
next_in (next ∷ other ∷ nexts) = next_in (other ∷ nexts)

abbrev pub pushed_with : List StoredVersion → ℕ → ℕ → List ℕ → List Partition → List StoredVersion
pushed_with versions stamp data_timestamp removed added = versions ++ (record {
  stamp = stamp;
  data_timestamp = data_timestamp;
  content = without removed (standing_in versions) ++ added;
}) ∷ []

-- a version less; the one with which a table was created stays
abbrev pub popped : {X : Type 0} → Bool → List X → List X
popped true versions = but_last versions
popped false versions = shortened versions
