-- What the fault of an added row is in a change.
use Rattle.wh_bag.specs.declared.fault.AddFault.{AddFault}
use Rattle.wh_bag.specs.declared.fault.AddFault.TheVariants as add
use Rattle.wh_bag.specs.declared.fault.ApplyFault.{ApplyFault}
use Rattle.wh_bag.specs.declared.fault.ApplyFault.TheVariants.{TooMany, OutOfMemory}

abbrev pub fault_of_add : AddFault → ApplyFault
fault_of_add add.TooMany = TooMany
fault_of_add add.OutOfMemory = OutOfMemory
