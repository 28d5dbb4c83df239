use Rattle.std.proofs.Common.{refl}
use Rattle.bokzarn.proofs.run_over.Goals as goal

pub returns-clause-ending : goal.returns-clause-ending
returns-clause-ending g c =
    rw c.in-Ok.is (record { status = _; is = refl; usage = c.run-status.ensures.usage })

pub returns-clause-task : goal.returns-clause-task
returns-clause-task g c = rw c.in-Ok.is c.run-status.ensures.task
