-- From what a call read to what is kept of it.
use Rattle.std.proofs.Common.{◌≡◌, Option, option_map, Result, Ok, Err, refl}
use Rattle.wh_cursor.specs.declared.fault.ParseFault.{ParseFault}
use Rattle.wh_cursor.specs.declared.fault.ParseFault.TheVariants as faults
use Rattle.wh_cursor.specs.Gives.{Reads}
use Rattle.wh_stmt_parse.specs.Gives.{Gives}

gives : {A S : Type 0} (read : Option (A × S)) (r : Result A ParseFault) (left : S) → Reads read r left
    → Gives r (option_map (λ p. p.0) read)
gives read (Ok x) left h = rw h refl
gives read (Err faults.SyntaxError) left h = rw h refl
gives read (Err faults.OutOfMemory) left h = tt

pub gives_reads : {A S : Type 0} (read : S → Option (A × S)) (from at : S) (r : Result A ParseFault) (left : S)
    → at ≡ from → Reads (read at) r left
    → Gives r (option_map (λ p. p.0) (read from))
gives_reads read from at r left e h = gives (read from) r left (rw (← e) h)
