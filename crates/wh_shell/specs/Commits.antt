-- The payloads of a file, and those that a run adds.
--     HasPayloads     a file of more than 8 bytes has these; any other has none
--     Adds            behind the payloads of a file stand those of commits
--     Says            the file and the script, where they are told, and what they say; the file's state is sound
--     AddsCommits     a run that read its script to the end added the commits of its events
use Rattle.std.specs.Prelude.{◌≡◌, ◌⊎◌, ℕ, ◌<◌, ◌≤◌, List, [], ◌++◌, length, map, Option, Some}
use Rattle.wh_frame.specs.File.{IsFileOf}
use Rattle.wh_state.specs.State.{State}
use Rattle.wh_state.specs.Stored.{Stored, Means}
use Rattle.wh_state.specs.Commit.{Commit}
use Rattle.wh_state.specs.Spelling.{payload_of}
use Rattle.wh_state.specs.File.{Keeps}
use Rattle.wh_state.specs.Sound.{Sound}
use Rattle.wh_machine.specs.Outcome.{opened}
use Rattle.wh_machine.specs.Step.{Event}
use Rattle.wh_machine.specs.Made.{all_made}
use Rattle.wh_world.specs.declared.disk.Disk as disks
use Rattle.wh_world.specs.declared.source.Source as sources
use Rattle.wh_shell.specs.Run.{Through}
use Rattle.wh_shell.specs.Timing.{Timing, IsScriptBy}
use Rattle.wh_shell.specs.World.{World}
use Rattle.wh_shell.specs.declared.status.Status.{Status}

abbrev pub HasPayloads : List (List ℕ) → List ℕ → Type 0
HasPayloads payloads file = ((8 < length file) × IsFileOf payloads file) ⊎ ((length file ≤ 8) × (payloads ≡ []))

-- the new file has those and nothing else
abbrev pub IsFileBehind : List (List ℕ) → List Commit → Option (List ℕ) → Type 0
IsFileBehind payloads commits bytes =
    (now : List ℕ) × (bytes ≡ Some now) × IsFileOf (payloads ++ map payload_of commits) now

-- where the file is told
pub record Adds (old new : Option (List ℕ)) (commits : List Commit) : Type 0 where
  pub each : (file : List ℕ) (payloads : List (List ℕ)) → old ≡ Some file → IsFileOf payloads file →
      IsFileBehind payloads commits new

-- ---- of a run

pub record Says (timing : Timing) (bytes left : Option (List ℕ)) (file input : List ℕ) (s : Stored)
    (start : State) (es : List Event) : Type 0 where
  pub told_file : bytes ≡ Some file
  pub told_script : left ≡ Some input
  pub keeps : Keeps file s
  pub means : Means s start
  -- so is that of every file that a run leaves
  pub sound : Sound start
  pub events : IsScriptBy timing input es

abbrev pub AddsCommits : {D S K : Type 0} → disks.Ghosts D → sources.Ghosts S → Timing → World D S K → World D S K →
    Status → Type 0
AddsCommits d s timing old new status = (file input : List ℕ) (stored : Stored) (start : State) (es : List Event) →
    Says timing (d.bytes old.disk) (s.left old.script) file input stored start es → (payloads : List (List ℕ)) →
    HasPayloads payloads file →
    Through status (IsFileBehind payloads (all_made stored (opened start) es) (d.bytes new.disk))
