-- When a script is too long.
--     FaultFits    the fault of a script, if it has one, fits the number of bytes that were taken
use Rattle.std.specs.Prelude.{◌≡◌, ℕ, ◌<◌, ◌≤◌, ◌^◌, Option, Some, None}
use Rattle.std.specs.Coded.{Coded-set, coded_ℕ, ×_prop, le_prop}
use Rattle.wh_text.specs.declared.fault.ScriptFault.{ScriptFault}
use Rattle.wh_text.specs.declared.fault.ScriptFault.TheVariants.{OutOfMemory, Read, TooLong}

-- too long is a script of which more than 2^30 bytes were taken, and no other
abbrev pub FaultFits : Option ScriptFault → ℕ → Type 0
FaultFits None taken = taken ≤ 2 ^ 30
FaultFits (Some OutOfMemory) taken = taken ≤ 2 ^ 30
FaultFits (Some Read) taken = taken ≤ 2 ^ 30
FaultFits (Some (TooLong count)) taken = (2 ^ 30 < taken) × (count ≡ taken)

pub FaultFits-prop : (fault : Option ScriptFault) (taken : ℕ) → IsProp (FaultFits fault taken)
FaultFits-prop None taken = le_prop
FaultFits-prop (Some OutOfMemory) taken = le_prop
FaultFits-prop (Some Read) taken = le_prop
FaultFits-prop (Some (TooLong count)) taken = ×_prop le_prop (Coded-set coded_ℕ count taken)
