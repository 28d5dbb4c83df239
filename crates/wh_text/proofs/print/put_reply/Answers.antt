use Rattle.wh_reply.specs.Reply.{print}
use Rattle.wh_text.proofs.print.put_reply.Goals as goal

pub returns-in-DroppedDynamicTable : goal.returns-in-DroppedDynamicTable
unfolding print
returns-in-DroppedDynamicTable c = rw c.in-DroppedDynamicTable.is c.put_name_line.ensures

pub returns-in-CreatedTable : goal.returns-in-CreatedTable
unfolding print
returns-in-CreatedTable c = rw c.in-CreatedTable.is c.put_name_line-in-CreatedTable.ensures

pub returns-in-DroppedTable : goal.returns-in-DroppedTable
unfolding print
returns-in-DroppedTable c = rw c.in-DroppedTable.is c.put_name_line-in-DroppedTable.ensures

pub returns-in-CreatedTask : goal.returns-in-CreatedTask
unfolding print
returns-in-CreatedTask c = rw c.in-CreatedTask.is c.put_name_line-in-CreatedTask.ensures

pub returns-in-DroppedTask : goal.returns-in-DroppedTask
unfolding print
returns-in-DroppedTask c = rw c.in-DroppedTask.is c.put_name_line-in-DroppedTask.ensures

pub returns-in-CommittedNothing : goal.returns-in-CommittedNothing
unfolding print
returns-in-CommittedNothing c = rw c.in-CommittedNothing.is c.extend.ensures.ok

pub returns-in-RolledBack : goal.returns-in-RolledBack
unfolding print
returns-in-RolledBack c = rw c.in-RolledBack.is c.extend-in-RolledBack.ensures.ok

pub returns-in-CreatedDynamicTable : goal.returns-in-CreatedDynamicTable
unfolding print
returns-in-CreatedDynamicTable c = rw c.in-CreatedDynamicTable.is (rw (← c.deref.ensures.value) c.put_created.ensures)
