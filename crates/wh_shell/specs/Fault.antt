-- Faults, and their causes.
--     fault_of_script, fault_of_halt, fault_of_open     faults of the crates below, as they are passed on
--     IsSpoilt                                          a partition is damaged, which none is of a told file
--     IsCounted, HasCause                               what a fault says of the devices, before and behind
use Rattle.std.specs.Prelude.{ℕ, ◌+◌, ◌<◌, is_some, IsTrue}
use Rattle.wh_world.specs.Told.{Rose}
use Rattle.wh_world.specs.declared.disk.Disk as disks
use Rattle.wh_world.specs.declared.source.Source as sources
use Rattle.wh_world.specs.declared.sink.Sink as sinks
use Rattle.wh_text.specs.declared.fault.ScriptFault.{ScriptFault}
use Rattle.wh_text.specs.declared.fault.ScriptFault.TheVariants as scripts
use Rattle.wh_engine.specs.declared.fault.Halt.{Halt}
use Rattle.wh_engine.specs.declared.fault.Halt.TheVariants as halts
use Rattle.wh_journal.specs.declared.fault.OpenFault.{OpenFault}
use Rattle.wh_journal.specs.declared.fault.OpenFault.TheVariants as opens
use Rattle.wh_engine.specs.Halts.{IsDamagedAt}
use Rattle.wh_shell.specs.World.{World}
use Rattle.wh_shell.specs.Run.{Rejects, WasTooLong}
use Rattle.wh_shell.specs.declared.fault.Fault.{Fault}
use Rattle.wh_shell.specs.declared.fault.Fault.TheVariants.{OutOfMemory, Disk, Script, Output}
use Rattle.wh_shell.specs.declared.fault.Fault.TheVariants.{NotWarehouse, Damaged, FileFull, ScriptTooLong}

abbrev pub fault_of_script : ScriptFault → Fault
fault_of_script scripts.OutOfMemory = OutOfMemory
fault_of_script scripts.Read = Script
fault_of_script (scripts.TooLong taken) = ScriptTooLong taken

-- a journal needs to be opened again only after a fault of its disk
abbrev pub fault_of_halt : Halt → Fault
fault_of_halt halts.OutOfMemory = OutOfMemory
fault_of_halt halts.DiskFault = Disk
fault_of_halt halts.ReadFault = Disk
fault_of_halt (halts.Damaged at) = Damaged at
fault_of_halt (halts.FileFull len need) = FileFull len need
fault_of_halt (halts.NeedsReopen faults) = Disk

abbrev pub fault_of_open : OpenFault → Fault
fault_of_open opens.OutOfMemory = OutOfMemory
fault_of_open opens.DiskFault = Disk
fault_of_open (opens.NotWarehouse at) = NotWarehouse at

-- ---- causes. Memory may always be wanting

-- it stands at that position; a file that is told is what commits left
pub record IsSpoilt {D : Type 0} (d : disks.Ghosts D) (old new : D) (at : ℕ) : Type 0 where
  pub untold : IsTrue (is_some (d.bytes old)) → ⊥
  pub damaged : IsDamagedAt (d.bytes new) (d.size new) at

-- over an open warehouse: the device's count has risen. What a full file and a long script say stands apart.
abbrev pub IsCounted : {D S K : Type 0} → disks.Ghosts D → sources.Ghosts S → sinks.Ghosts K → World D S K →
    World D S K → Fault → Type 0
IsCounted d s k old new OutOfMemory = Unit {0}
IsCounted d s k old new Disk = Rose (d.faults old.disk) (d.faults new.disk)
IsCounted d s k old new Script = Rose (s.faults old.script) (s.faults new.script)
IsCounted d s k old new Output = Rose (k.faults old.out) (k.faults new.out)
IsCounted d s k old new (NotWarehouse at) = ⊥
IsCounted d s k old new (Damaged at) = IsSpoilt d old.disk new.disk at
IsCounted d s k old new (FileFull len need) = Unit {0}
IsCounted d s k old new (ScriptTooLong taken) = Unit {0}

-- of a run over a file of at most so many bytes
abbrev pub HasCause : {D S K : Type 0} → disks.Ghosts D → sources.Ghosts S → sinks.Ghosts K → ℕ → World D S K →
    World D S K → Fault → Type 0
HasCause d s k limit old new OutOfMemory = Unit {0}
HasCause d s k limit old new Disk = Rose (d.faults old.disk) (d.faults new.disk)
HasCause d s k limit old new Script = Rose (s.faults old.script) (s.faults new.script)
HasCause d s k limit old new Output = Rose (k.faults old.out) (k.faults new.out)
HasCause d s k limit old new (NotWarehouse at) = Rejects d at old new
HasCause d s k limit old new (Damaged at) = IsSpoilt d old.disk new.disk at
HasCause d s k limit old new (FileFull len need) = limit < len + need
HasCause d s k limit old new (ScriptTooLong taken) = WasTooLong taken (s.left old.script) (s.left new.script)
