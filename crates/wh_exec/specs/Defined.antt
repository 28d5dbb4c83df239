-- An evaluation as a run answers it.
--     IsDefinedAs     the value, None where a number is out of range, or want of memory
use Rattle.std.specs.Prelude.{◌≡◌, Option, Some, None, Result, Ok, Err}
use Rattle.wh_scalar.specs.declared.fault.EvalFault.{EvalFault}
use Rattle.wh_scalar.specs.declared.fault.EvalFault.TheVariants.{NumberOutOfRange, OutOfMemory}

abbrev pub IsDefinedAs : {A : Type 0} → Result A EvalFault → Option A → Type 0
IsDefinedAs (Ok value) found = found ≡ Some value
IsDefinedAs (Err NumberOutOfRange) found = found ≡ None
IsDefinedAs (Err OutOfMemory) found = ⊥
