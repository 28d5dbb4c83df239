-- What a function of the code returned, and what it left, is what reading gives.
use Rattle.std.specs.Prelude.{◌≡◌, Option, Some, None, Result, Ok, Err}
use Rattle.wh_cursor.specs.declared.fault.ParseFault.{ParseFault}
use Rattle.wh_cursor.specs.declared.fault.ParseFault.TheVariants.{SyntaxError, OutOfMemory}

-- a syntax error is for nothing else than what isn't read
abbrev pub Fails : {Y : Type 0} → ParseFault → Option Y → Type 0
Fails SyntaxError read = read ≡ None
Fails OutOfMemory read = Unit {0}

abbrev pub Reads : {A S : Type 0} → Option (A × S) → Result A ParseFault → S → Type 0
Reads read (Ok x) new = read ≡ Some (x, new)
Reads read (Err fault) new = Fails fault read
