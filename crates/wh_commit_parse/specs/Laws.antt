-- What the bytes of commits and files fix, of what is meant.
--     PayloadFixesCommit          of a commit
--     FileFixesStored             of a whole file: what it keeps
--     FileFixesState              and the state that it stands for
--     FirstFaultIsOne             of a file that stands for no state
--     FaultyFileStandsForNone     a file has a first fault, or stands for a state, but not both
use Rattle.std.specs.Prelude.{◌≡◌, ℕ, ◌<◌, List, length}
use Rattle.wh_state.specs.State.{State}
use Rattle.wh_state.specs.Stored.{Stored}
use Rattle.wh_state.specs.Commit.{Commit}
use Rattle.wh_state.specs.Spelling.{payload_of, IsCommit}
use Rattle.wh_state.specs.File.{Keeps, Stands}
use Rattle.wh_state.specs.Fault.{IsFirstFault}

-- no two commits have one payload
abbrev pub PayloadFixesCommit : Type 0
PayloadFixesCommit = (c d : Commit) → IsCommit c → IsCommit d → payload_of c ≡ payload_of d → c ≡ d

-- no bytes keep two things
abbrev pub FileFixesStored : Type 0
FileFixesStored = (bytes : List ℕ) (a b : Stored) → Keeps bytes a → Keeps bytes b → a ≡ b

-- no bytes stand for two states
abbrev pub FileFixesState : Type 0
FileFixesState = (bytes : List ℕ) (a b : State) → Stands bytes a → Stands bytes b → a ≡ b

-- no two positions are where a file has its first fault
abbrev pub FirstFaultIsOne : Type 0
FirstFaultIsOne = (file : List ℕ) (a b : ℕ) → IsFirstFault file a → IsFirstFault file b → a ≡ b

-- a longer file than 8 bytes that has a first fault stands for no state
abbrev pub FaultyFileStandsForNone : Type 0
FaultyFileStandsForNone = (file : List ℕ) (at : ℕ) (state : State) → 8 < length file → IsFirstFault file at
    → Stands file state → ⊥
