use Rattle.bokzarn.proofs.ending.write_reason.Goals as goal

pub returns-in-Unopened : goal.returns-in-Unopened
returns-in-Unopened g c = rw c.in-Unopened.is c.write-in-Unopened.ensures.bytes
