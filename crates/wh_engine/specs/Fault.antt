-- A fault of an append, and one of a fetch, as they are passed on.
use Rattle.std.specs.Prelude.{ℕ, Option, Some, None}
use Rattle.wh_journal.specs.declared.fault.AppendFault.{AppendFault}
use Rattle.wh_journal.specs.declared.fault.AppendFault.TheVariants as appends
use Rattle.wh_fetch.specs.declared.fault.FetchFault.{FetchFault}
use Rattle.wh_fetch.specs.declared.fault.FetchFault.TheVariants as fetches
use Rattle.wh_engine.specs.declared.fault.Halt.{Halt}
use Rattle.wh_engine.specs.declared.fault.Halt.TheVariants as halts

abbrev pub halt_of : AppendFault → Halt
halt_of appends.DiskFault = halts.DiskFault
halt_of (appends.FileFull len need) = halts.FileFull len need
halt_of (appends.NeedsReopen count) = halts.NeedsReopen count

-- with the position of the last partition that was found damaged
abbrev pub halt_of_fetch : FetchFault → Option ℕ → Halt
halt_of_fetch fetches.OutOfMemory damaged = halts.OutOfMemory
halt_of_fetch fetches.Read None = halts.ReadFault
halt_of_fetch fetches.Read (Some at) = halts.Damaged at
