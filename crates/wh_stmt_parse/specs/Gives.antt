-- What a function of the code returned is what reading gives.
use Rattle.std.specs.Prelude.{◌≡◌, Option, Some, Result, Ok, Err}
use Rattle.wh_cursor.specs.declared.fault.ParseFault.{ParseFault}
use Rattle.wh_cursor.specs.Gives.{Fails}

abbrev pub Gives : {A : Type 0} → Result A ParseFault → Option A → Type 0
Gives (Ok x) read = read ≡ Some x
Gives (Err fault) read = Fails fault read
