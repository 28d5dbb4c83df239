-- What the opening of a file gives.
use Rattle.std.specs.Prelude.{◌≡◌, ℕ, Result, Ok, Err, ⊤}
use Rattle.std.specs.Fs.{metadata_len}
use Rattle.std.specs.declared.fs.File.{File}
use Rattle.std.specs.declared.fs.Metadata.{Metadata}
use Rattle.std.specs.declared.fs.TryLockError.{TryLockError}
use Rattle.std.specs.declared.fs.TryLockError.TheVariants as locks
use Rattle.std.specs.declared.io.Error.{Error}
use Rattle.wh_system.specs.declared.file_disk.FileDisk.{FileDisk}
use Rattle.wh_system.specs.declared.file_disk.OpenError.{OpenError}
use Rattle.wh_system.specs.declared.file_disk.OpenError.TheVariants.{Locked, System}

abbrev pub error_of_lock : TryLockError → OpenError
error_of_lock locks.WouldBlock = Locked
error_of_lock (locks.Error error) = System error

-- over that file, of that many bytes, with no faults and reads so far
pub record IsFreshOver (disk : FileDisk) (file : File) (length : ℕ) : Type 0 where
  pub handle : disk.file ≡ file
  pub size : disk.size ≡ length
  pub faults : disk.faults ≡ 0
  pub reads : disk.reads ≡ 0

-- by what the system gave of the file's lock and of its length
abbrev pub IsOpening : File → Result ⊤ TryLockError → Result Metadata Error → Result FileDisk OpenError → Type 0
IsOpening file (Err error) metadata result = result ≡ Err (error_of_lock error)
IsOpening file (Ok _) (Err error) result = result ≡ Err (System error)
IsOpening file (Ok _) (Ok metadata) result =
    (disk : FileDisk) × (result ≡ Ok disk) × IsFreshOver disk file (metadata_len metadata)
