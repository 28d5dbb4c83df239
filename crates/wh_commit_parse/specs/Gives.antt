-- What a function of the code returned, seen by view, is what a text means.
use Rattle.std.specs.Prelude.{◌≡◌, Option, Some, Result, Ok, Err}
use Rattle.wh_cursor.specs.declared.fault.ParseFault.{ParseFault}
use Rattle.wh_cursor.specs.Gives.{Fails}

abbrev pub GivesAs : {A X : Type 0} → (A → X) → Result A ParseFault → Option X → Type 0
GivesAs view (Ok a) meant = meant ≡ Some (view a)
GivesAs view (Err fault) meant = Fails fault meant
