-- What a file says, and the state that it stands for.
--     Holds, Keeps     its commits apply one after the other, and it says that
--     Stands           it stands for that state
use Rattle.std.specs.Prelude.{◌≡◌, ℕ, ◌<◌, ◌≤◌, ◌⊎◌, List, length, map}
use Rattle.std.specs.List.{AllByRecursion}
use Rattle.wh_frame.specs.File.{IsFileOf}
use Rattle.wh_state.specs.State.{State}
use Rattle.wh_state.specs.Stored.{Stored, first_stored, Means}
use Rattle.wh_state.specs.Commit.{Commit, Leads}
use Rattle.wh_state.specs.Spelling.{payload_of, IsCommit}

-- a longer file than 8 bytes: its records are commits that apply one after the other
pub record Holds (bytes : List ℕ) (s : Stored) : Type 0 where
  pub commits : List Commit
  pub good : AllByRecursion IsCommit commits
  pub file : IsFileOf (map payload_of commits) bytes
  pub leads : Leads first_stored commits s

-- at most 8 bytes, whatever they are, say nothing
abbrev pub Keeps : List ℕ → Stored → Type 0
Keeps bytes s = ((length bytes ≤ 8) × (s ≡ first_stored)) ⊎ ((8 < length bytes) × Holds bytes s)

abbrev pub Stands : List ℕ → State → Type 0
Stands bytes state = (s : Stored) × Keeps bytes s × Means s state
