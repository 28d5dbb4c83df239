-- What a function of the code returned is what reading gives.
use Rattle.std.specs.Prelude.{◌≡◌, Option, Some, None, Result, Ok, Err}
use Rattle.wh_lex.specs.declared.fault.LexFault.{LexFault}
use Rattle.wh_lex.specs.declared.fault.LexFault.TheVariants.{SyntaxError, OutOfMemory}

-- a syntax error is for nothing else than what isn't read
abbrev pub Fails : {Y : Type 0} → LexFault → Option Y → Type 0
Fails SyntaxError read = read ≡ None
Fails OutOfMemory read = Unit {0}

-- what was returned, seen by view, is what was read, unless memory ran out
abbrev pub Gives : {X Y : Type 0} → (X → Y) → Result X LexFault → Option Y → Type 0
Gives view (Ok x) read = read ≡ Some (view x)
Gives view (Err fault) read = Fails fault read
