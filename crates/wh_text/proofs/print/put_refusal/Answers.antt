use Rattle.wh_text.proofs.print.put_refusal.Goals as goal

pub returns-in-LagTooShort : goal.returns-in-LagTooShort
returns-in-LagTooShort c = rw c.in-LagTooShort.is c.put_names_of.ensures

pub returns-in-RootRunning : goal.returns-in-RootRunning
returns-in-RootRunning c = rw c.in-RootRunning.is c.put_name-in-RootRunning.ensures

pub returns-in-HasChildren : goal.returns-in-HasChildren
returns-in-HasChildren c = rw c.in-HasChildren.is c.put_name-in-HasChildren.ensures

pub returns-in-SourceGone : goal.returns-in-SourceGone
returns-in-SourceGone c = rw c.in-SourceGone.is c.put_name-in-SourceGone.ensures

pub returns-in-IsSuspended : goal.returns-in-IsSuspended
returns-in-IsSuspended c = rw c.in-IsSuspended.is c.put_name-in-IsSuspended.ensures

pub returns-in-NumberOutOfRange : goal.returns-in-NumberOutOfRange
returns-in-NumberOutOfRange c = rw c.in-NumberOutOfRange.is c.extend-in-NumberOutOfRange.ensures.ok

pub returns-in-AmbiguousMerge : goal.returns-in-AmbiguousMerge
returns-in-AmbiguousMerge c = rw c.in-AmbiguousMerge.is c.put_named_row.ensures
