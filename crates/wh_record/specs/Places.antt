-- Where the partitions stand that a commit adds.
--     head_size, change_size          the bytes of a new version in front of its partitions, and of a change
--     filed_in_change, filed_in       the partitions of a change whose tag, and of a commit whose payload, stands at a
--                                     position
use Rattle.std.specs.Prelude.{ℕ, ◌+◌, ◌*◌, List, [], ◌∷◌, ◌++◌, length}
use Rattle.wh_filed.specs.Filed.{Filed}
use Rattle.wh_filed.specs.Filing.{filed_from}
use Rattle.wh_state.specs.Commit.{VersionChange, Change, PushesVersion, Commit, change_as_text}
use Rattle.wh_state.specs.Spelling.{change_bytes}

-- a tag, 24 bytes of numbers, two counts, and 8 bytes for each partition that goes
abbrev pub head_size : VersionChange → ℕ
head_size c = 33 + 8 * length c.removed

abbrev pub change_size : Change → ℕ
change_size c = length (change_bytes (change_as_text c))

abbrev pub filed_in_version : ℕ → VersionChange → List Filed
filed_in_version at c = filed_from c.id (at + head_size c) c.added

abbrev pub filed_in_change : ℕ → Change → List Filed
filed_in_change at (PushesVersion c) = filed_in_version at c
filed_in_change at _ = []

-- the changes stand one behind the other
abbrev pub filed_in_changes : ℕ → List Change → List Filed
filed_in_changes at [] = []
filed_in_changes at (c ∷ cs) = filed_in_change at c ++ filed_in_changes (at + change_size c) cs

-- behind a stamp and a count
abbrev pub filed_in : ℕ → Commit → List Filed
filed_in at c = filed_in_changes (at + 12) c.changes
