-- How the payloads of a file lead from what a file says to what a longer one says.
--     IsListed                        the journal lists these payloads, and the told file begins with their records
--     Replays, LeadsTo                they lead there through commits that they spell, and so do those of a journal
--     Carries, CarriesAt              one of them leads there, the one at a place
--     CarriesNone, CarriesNoneAt      no commit that it spells applies
--     StraysAt, Strays                one of them carries none, and this is the position of its record
--     ShowsListed                     whatever follows the listed payloads, their records show partitions where they
--                                     are
--                                     filed
--     OnlyReads                       nothing is written
use Rattle.std.specs.Prelude.{◌≡◌, ℕ, Option, Some, List, ◌∷◌, ◌++◌, length, map, take, slice_get}
use Rattle.std.specs.List.{AllByRecursion}
use Rattle.wh_world.specs.Crash.{NoOthers}
use Rattle.wh_world.specs.declared.disk.Disk.{Ghosts}
use Rattle.wh_frame.specs.File.{records_of}
use Rattle.wh_filed.specs.Filed.{Filed, AllShown}
use Rattle.wh_state.specs.Stored.{Stored, first_stored}
use Rattle.wh_state.specs.Commit.{Commit, Applies, applied, Leads}
use Rattle.wh_state.specs.Spelling.{payload_of, IsCommit}
use Rattle.wh_journal.specs.Crash.{LeavesOnly}
use Rattle.wh_journal.specs.Journal.{Lists}
use Rattle.wh_journal.specs.declared.journal.Journal.{Journal}

pub record IsListed (bytes : Option (List ℕ)) (j : Journal) (payloads : List (List ℕ)) : Type 0 where
  pub file : List ℕ
  pub rest : List ℕ
  pub told : bytes ≡ Some file
  pub begins : file ≡ records_of payloads ++ rest
  pub lists : Lists payloads j

pub record Replays (from : Stored) (payloads : List (List ℕ)) (to : Stored) : Type 0 where
  pub commits : List Commit
  pub good : AllByRecursion IsCommit commits
  pub spelled : map payload_of commits ≡ payloads
  pub leads : Leads from commits to

pub record Carries (payload : List ℕ) (from to : Stored) : Type 0 where
  pub commit : Commit
  pub good : IsCommit commit
  pub spelled : payload ≡ payload_of commit
  pub applies : Applies from commit
  pub leaves : to ≡ applied from commit

abbrev pub CarriesNone : List ℕ → Stored → Type 0
CarriesNone payload from = (c : Commit) → IsCommit c → payload ≡ payload_of c → Applies from c → ⊥

pub record CarriesAt (payloads : List (List ℕ)) (at : ℕ) (from to : Stored) : Type 0 where
  pub payload : List ℕ
  pub found : slice_get payloads at ≡ Some payload
  pub carries : Carries payload from to

-- whose record is at that position
pub record CarriesNoneAt (payloads : List (List ℕ)) (at : ℕ) (from : Stored) (position : ℕ) : Type 0 where
  pub payload : List ℕ
  pub found : slice_get payloads at ≡ Some payload
  pub none : CarriesNone payload from
  pub place : position ≡ length (records_of (take at payloads))

-- behind those that lead from the first state
pub record StraysAt (payloads : List (List ℕ)) (at : ℕ) : Type 0 where
  pub before : List (List ℕ)
  pub payload : List ℕ
  pub behind : List (List ℕ)
  pub split : payloads ≡ before ++ payload ∷ behind
  pub reached : Stored
  pub replayed : Replays first_stored before reached
  pub none : CarriesNone payload reached
  pub place : at ≡ length (records_of before)

-- ---- over the bytes of a disk, where they are told

abbrev pub LeadsTo : Option (List ℕ) → Journal → Stored → Type 0
LeadsTo bytes j to = (payloads : List (List ℕ)) → IsListed bytes j payloads → Replays first_stored payloads to

abbrev pub Strays : Option (List ℕ) → Journal → ℕ → Type 0
Strays bytes j at = (payloads : List (List ℕ)) → IsListed bytes j payloads → StraysAt payloads at

-- the listed records with anything behind them
abbrev pub ShowsListed : Option (List ℕ) → Journal → List Filed → Type 0
ShowsListed bytes j filed = (payloads : List (List ℕ)) → IsListed bytes j payloads → (image : List ℕ)
    → take (length (records_of payloads)) image ≡ records_of payloads → AllShown (Some image) filed

-- the bytes stay, and so does what a crash leaves
pub record OnlyReads {D : Type 0} (seen : Ghosts D) (old new : D) : Type 0 where
  pub same : (seen.bytes new ≡ seen.bytes old) × (seen.size new ≡ seen.size old)
  pub crash : NoOthers (seen.may_leave old) (seen.may_leave new)
  pub any_moment : LeavesOnly seen.moment seen.left_since old new (seen.may_leave old)
