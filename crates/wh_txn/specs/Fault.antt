-- Why a transaction has no commit.
--     is_read      whether a device failed
--     fault_of     a fault of a fetch
use Rattle.std.specs.Prelude.{Bool, true, false, Result, Ok, Err}
use Rattle.wh_fetch.specs.declared.fault.FetchFault.{FetchFault}
use Rattle.wh_fetch.specs.declared.fault.FetchFault.TheVariants as fetched
use Rattle.wh_txn.specs.declared.fault.RecordFault.{RecordFault}
use Rattle.wh_txn.specs.declared.fault.RecordFault.TheVariants.{Read, OutOfMemory, Limit}

abbrev pub is_read : {A : Type 0} → Result A RecordFault → Bool
is_read (Ok a) = false
is_read (Err Read) = true
is_read (Err OutOfMemory) = false
is_read (Err (Limit id which)) = false

abbrev pub fault_of : FetchFault → RecordFault
fault_of fetched.Read = Read
fault_of fetched.OutOfMemory = OutOfMemory
