use Rattle.bokzarn.proofs.ending.write_fault.Goals as goal

pub returns-in-FileFull : goal.returns-in-FileFull
returns-in-FileFull g c = rw c.in-FileFull.is c.write-in-FileFull.ensures.bytes

pub returns-in-ScriptTooLong : goal.returns-in-ScriptTooLong
returns-in-ScriptTooLong g c = rw c.in-ScriptTooLong.is c.write-in-ScriptTooLong.ensures.bytes

pub returns-in-Damaged : goal.returns-in-Damaged
returns-in-Damaged g c = rw c.in-Damaged.is c.write-in-Damaged.ensures.bytes
