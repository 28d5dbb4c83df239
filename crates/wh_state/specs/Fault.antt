-- Where a file of more than 8 bytes that stands for no state has its first fault.
--     Strays          a record whose payload is no commit, or one that doesn't apply
--     IsFirstFault    the position: 0, or behind the records of commits that apply one after the other
use Rattle.std.specs.Prelude.{◌≡◌, ◌⊎◌, ℕ, ◌<◌, ◌^◌, List, [], ◌++◌, length, map}
use Rattle.std.specs.List.{AllByRecursion}
use Rattle.wh_frame.specs.File.{record_of, records_of, LacksHeader, IsCut}
use Rattle.wh_state.specs.Stored.{Stored, first_stored}
use Rattle.wh_state.specs.Commit.{Commit, Applies, Leads}
use Rattle.wh_state.specs.Spelling.{payload_of, IsCommit}

pub record Strays (bytes : List ℕ) (reached : Stored) : Type 0 where
  pub payload : List ℕ
  pub rest : List ℕ
  pub spelled : bytes ≡ record_of payload ++ rest
  pub short : length payload < 2 ^ 64
  pub none : (c : Commit) → IsCommit c → payload ≡ payload_of c → Applies reached c → ⊥

-- nothing, a cut record, or one that strays
abbrev pub IsFaulty : List ℕ → Stored → Type 0
IsFaulty bytes reached = (bytes ≡ []) ⊎ (IsCut bytes ⊎ Strays bytes reached)

-- behind commits that apply one after the other
pub record BreaksOff (file : List ℕ) (at : ℕ) : Type 0 where
  pub commits : List Commit
  pub good : AllByRecursion IsCommit commits
  pub short : AllByRecursion (λ c. length (payload_of c) < 2 ^ 64) commits
  pub reached : Stored
  pub leads : Leads first_stored commits reached
  pub rest : List ℕ
  pub spelled : file ≡ records_of (map payload_of commits) ++ rest
  pub faulty : IsFaulty rest reached
  pub place : at ≡ length (records_of (map payload_of commits))

abbrev pub IsFirstFault : List ℕ → ℕ → Type 0
IsFirstFault file at = LacksHeader file at ⊎ BreaksOff file at
