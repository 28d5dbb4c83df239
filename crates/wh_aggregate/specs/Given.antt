-- What calls give.
--     GivesRows              the rows of the bag that is meant, or the fault where there is none
--     Gives, GivesListed     the value or the list that is meant, or the fault
--     Leaves                 the state that is meant, or the fault
use Rattle.std.specs.Prelude.{◌≡◌, List, Option, Some, None, Result, Ok, Err, Vec}
use Rattle.std.specs.declared.alloc.Global.{Global}
use Rattle.wh_value.specs.Value.{Row}
use Rattle.wh_meaning.specs.Bag.{Bag, bag_of}
use Rattle.wh_scalar.specs.declared.fault.EvalFault.{EvalFault}
use Rattle.wh_scalar.specs.declared.fault.EvalFault.TheVariants.{NumberOutOfRange, OutOfMemory}

abbrev pub GivesRows : Result (Vec Row Global) EvalFault → Option Bag → Type 0
GivesRows (Ok rows) meant = meant ≡ Some (bag_of rows.items)
GivesRows (Err NumberOutOfRange) meant = meant ≡ None
GivesRows (Err OutOfMemory) meant = Unit {0}

-- a fault is right where nothing is meant, and want of memory always
abbrev pub IsFaultOf : {A : Type 0} → EvalFault → Option A → Type 0
IsFaultOf NumberOutOfRange meant = meant ≡ None
IsFaultOf OutOfMemory meant = Unit {0}

abbrev pub Gives : {A : Type 0} → Result A EvalFault → Option A → Type 0
Gives (Ok found) meant = meant ≡ Some found
Gives (Err fault) meant = IsFaultOf fault meant

abbrev pub GivesListed : Result (Vec Row Global) EvalFault → Option (List Row) → Type 0
GivesListed (Ok rows) meant = meant ≡ Some rows.items
GivesListed (Err fault) meant = IsFaultOf fault meant

abbrev pub Leaves : {A B : Type 0} → Result B EvalFault → A → Option A → Type 0
Leaves (Ok done) state meant = meant ≡ Some state
Leaves (Err fault) state meant = IsFaultOf fault meant
