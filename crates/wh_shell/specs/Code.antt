-- The status of a run, and its exit code.
use Rattle.std.specs.Prelude.{ℕ, zero, suc, Result, Ok, Err}
use Rattle.wh_shell.specs.declared.fault.Fault.{Fault}
use Rattle.wh_shell.specs.declared.fault.Fault.TheVariants.{OutOfMemory, Disk, Script, Output}
use Rattle.wh_shell.specs.declared.fault.Fault.TheVariants.{NotWarehouse, Damaged, FileFull, ScriptTooLong}
use Rattle.wh_shell.specs.declared.status.Status.{Status}
use Rattle.wh_shell.specs.declared.status.Status.TheVariants.{Usage, Read, Stopped}

-- of a script that was served with so many refusals, or ended by a fault
abbrev pub status_of : Result ℕ Fault → Status
status_of (Ok refusals) = Read refusals
status_of (Err why) = Stopped why

abbrev pub fault_code_of : Fault → ℕ
fault_code_of OutOfMemory = 3
fault_code_of Disk = 4
fault_code_of Script = 5
fault_code_of Output = 6
fault_code_of (NotWarehouse at) = 7
fault_code_of (FileFull len need) = 8
fault_code_of (ScriptTooLong taken) = 9
fault_code_of (Damaged at) = 10

abbrev pub code_of : Status → ℕ
code_of (Read zero) = 0
code_of (Read (suc more)) = 1
code_of Usage = 2
code_of (Stopped why) = fault_code_of why
