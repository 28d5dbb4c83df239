-- How the program ends, and what it writes on standard error then.
--     EndsUnread    its words can't be read
--     EndsBy        by the words behind a path, and by what the opening of the file gave
--     EndsAs        by its words, of which the first is the path that is opened
use Rattle.std.specs.Prelude.{◌≡◌, ◌≢◌, ℕ, nat_eq, if◌then◌else◌, List, [], ◌∷◌, ◌++◌, drop, codes, decimal}
use Rattle.std.specs.Prelude.{Result, Ok, Err, String, string_bytes}
use Rattle.std.specs.Global.{Global}
use Rattle.std.specs.Vec.Iter.{into_iter_items}
use Rattle.std.specs.declared.vec.IntoIter.{IntoIter}
use Rattle.std.specs.IoError.{error_kind}
use Rattle.std.specs.declared.io.Error.{Error}
use Rattle.std.specs.declared.io.ErrorKind.TheVariants.{OutOfMemory}
use Rattle.wh_shell.specs.Code.{code_of}
use Rattle.wh_shell.specs.Asked.{asked_by, RefusesWords}
use Rattle.wh_shell.specs.declared.status.Status.{Status}
use Rattle.wh_shell.specs.declared.status.Status.TheVariants.{Usage, Read, Stopped}
use Rattle.wh_shell.specs.declared.fault.Fault.{Fault}
use Rattle.wh_shell.specs.declared.fault.Fault.TheVariants as faults
use Rattle.wh_system.specs.declared.OpenError.{OpenError}
use Rattle.wh_system.specs.declared.OpenError.TheVariants as openings
use Rattle.bokzarn.specs.declared.ending.Ending.{Ending}
use Rattle.bokzarn.specs.declared.ending.Ending.TheVariants.{With, Unopened, Locked}

abbrev pub status_of : Ending → Status
status_of (With status) = status
status_of Unopened = Stopped faults.Disk
status_of Locked = Stopped faults.Disk

-- ---- the line that says why

-- none where nothing was refused
abbrev pub refusals_reason_of : ℕ → List ℕ
refusals_reason_of refusals =
    if nat_eq refusals 0 then [] else codes "bokzarn: refused: " ++ (decimal refusals ++ 10 ∷ [])

abbrev pub foreign_reason_of : ℕ → List ℕ
foreign_reason_of at = if nat_eq at 0 then codes "bokzarn: at byte 0 of the file stands no header of a warehouse\n"
    else codes "bokzarn: at byte " ++ (decimal at ++ codes " of the file stands no whole commit that applies\n")

abbrev pub fault_reason_of : Fault → List ℕ
fault_reason_of faults.OutOfMemory = codes "bokzarn: memory ran out\n"
fault_reason_of faults.Disk = codes "bokzarn: the file failed\n"
fault_reason_of faults.Script = codes "bokzarn: the script can't be read\n"
fault_reason_of faults.Output = codes "bokzarn: the replies can't be written\n"
fault_reason_of (faults.NotWarehouse at) = foreign_reason_of at
fault_reason_of (faults.Damaged at) =
    codes "bokzarn: at byte " ++ (decimal at ++ codes " of the file stands no partition as it was written\n")
fault_reason_of (faults.FileFull len need) = codes "bokzarn: a commit at byte " ++ (decimal len ++ (codes " needs "
    ++ (decimal need ++ codes " bytes, and a file has at most 1099511627776\n")))
fault_reason_of (faults.ScriptTooLong taken) =
    codes "bokzarn: a script has at most 1073741824 bytes, and " ++ (decimal taken ++ codes " were read\n")

abbrev pub reason_of : Ending → List ℕ
reason_of (With Usage) =
    codes "usage: bokzarn PATH run [--workers W] [--clock system] < SCRIPT, or bokzarn PATH bench [--workers W] N SEED\n"
reason_of (With (Read refusals)) = refusals_reason_of refusals
reason_of (With (Stopped fault)) = fault_reason_of fault
reason_of Unopened = codes "bokzarn: the file can't be opened\n"
reason_of Locked = codes "bokzarn: another run has the file open\n"

-- that line, and the line of the status
abbrev pub report_of : Ending → List ℕ
report_of ending = reason_of ending ++ (codes "status " ++ (decimal (code_of (status_of ending)) ++ 10 ∷ []))

-- there is no memory for them, or one is no text
pub record EndsUnread (error : Error) (ending : Ending) : Type 0 where
  pub memory : error_kind error ≡ OutOfMemory → ending ≡ With (Stopped faults.OutOfMemory)
  pub no_text : error_kind error ≢ OutOfMemory → ending ≡ With Usage

-- the words behind the name
abbrev pub words_in : IntoIter (String Global) Global → List (String Global)
words_in arguments = drop 1 (into_iter_items arguments)

-- with a status, that of usage only for words that aren't in the grammar
pub record EndsWith (words : List (String Global)) (ending : Ending) : Type 0 where
  pub status : Status
  pub is : ending ≡ With status
  pub usage : RefusesWords (asked_by words) status

abbrev pub EndsBy : {D : Type 0} → List (String Global) → Result D OpenError → Ending → Type 0
EndsBy words (Err openings.Locked) ending = ending ≡ Locked
EndsBy words (Err (openings.System error)) ending = ending ≡ Unopened
EndsBy words (Ok disk) ending = EndsWith words ending

-- the path of that file was opened, and the words behind it were run
pub record Opens {D : Type 0} (gives : List ℕ → Result D OpenError → Type 0) (path : List ℕ)
    (words : List (String Global)) (ending : Ending) : Type 0 where
  pub opening : Result D OpenError
  pub given : gives path opening
  pub ends : EndsBy words opening ending

abbrev pub EndsAs : {D : Type 0} → (List ℕ → Result D OpenError → Type 0) → List (String Global) → Ending → Type 0
EndsAs gives [] ending = ending ≡ With Usage
EndsAs gives (path ∷ words) ending = Opens gives (string_bytes path) words ending
