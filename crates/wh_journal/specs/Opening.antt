-- What an opening finds.
--     RecoversShort, RecoversLong    in a told file of at most 8 bytes, and in a longer one, whatever the limit is
--     OpensShort, OpensLong          the same where the longer file is a journal's
--     LeavesKept                     what a crash at any moment leaves
--     IsRecovered, IsOpened          the journal's numbers, over any disk
use Rattle.std.specs.Prelude.{◌≡◌, ℕ, ◌+◌, ◌<◌, ◌≤◌, List, [], ◌∷◌, ◌++◌, length, Option, Some, None, MatchOption}
use Rattle.wh_world.specs.Crash.{Only}
use Rattle.wh_world.specs.declared.Disk.{Ghosts}
use Rattle.wh_frame.specs.File.{IsFileOf, header}
use Rattle.wh_journal.specs.declared.journal.Journal.{Journal}
use Rattle.wh_journal.specs.Journal.{Lists, end_of, limit_of, failed_of}
use Rattle.wh_journal.specs.Fault.{ListsUpTo}
use Rattle.wh_journal.specs.Crash.{LeavesOnly, IsKeptOrShort}

-- it is written anew, without records
abbrev pub OpensShort : Option (List ℕ) → Option (List ℕ) → Journal → Type 0
OpensShort old new j = (file : List ℕ) → old ≡ Some file → length file ≤ 8 →
    (new ≡ Some (header ++ 0 ∷ [])) × Lists [] j

abbrev pub OpensLong : Option (List ℕ) → Option (List ℕ) → Journal → Type 0
OpensLong old new j = (file : List ℕ) → old ≡ Some file → 8 < length file →
    (new ≡ Some file) × ((payloads : List (List ℕ)) × IsFileOf payloads file × Lists payloads j)

abbrev pub RecoversShort : Option (List ℕ) → Option (List ℕ) → Journal × Option ℕ → Type 0
RecoversShort old new r = (file : List ℕ) → old ≡ Some file → length file ≤ 8 →
    (new ≡ Some (header ++ 0 ∷ [])) × Lists [] r.0 × (r.1 ≡ None)

-- it stays, and is a journal's, or has a fault behind the records that are listed
abbrev pub RecoversLong : Option (List ℕ) → Option (List ℕ) → Journal × Option ℕ → Type 0
RecoversLong old new r = (file : List ℕ) → old ≡ Some file → 8 < length file →
    (new ≡ Some file) × MatchOption r.1
    ((payloads : List (List ℕ)) × IsFileOf payloads file × Lists payloads r.0)
    (λ at. ListsUpTo file r.0 at)

-- a longer file as it was, and a short one short
abbrev pub LeavesKept : {D : Type 0} → Ghosts D → D → D → Type 0
LeavesKept d old new = (file : List ℕ) → d.bytes old ≡ Some file → Only file (d.may_leave old) →
    LeavesOnly d.moment d.left_since old new (IsKeptOrShort file)

pub record IsRecovered (limit size : ℕ) (r : Journal × Option ℕ) : Type 0 where
  pub reach : end_of r.0 ≤ size + 1
  pub whole_reach : r.1 ≡ None → end_of r.0 ≤ size
  pub limit_kept : limit_of r.0 ≡ limit
  pub healthy : failed_of r.0 ≡ None

pub record IsOpened (limit size : ℕ) (j : Journal) : Type 0 where
  pub reach : end_of j ≤ size
  pub limit_kept : limit_of j ≡ limit
  pub healthy : failed_of j ≡ None
