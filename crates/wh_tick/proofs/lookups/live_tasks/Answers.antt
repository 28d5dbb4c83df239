use Rattle.std.proofs.Common.{sym, ◌∙◌, arith}
use Rattle.std.proofs.lemmas.Result.{IfOk-weaker}
use Rattle.wh_decide.proofs.CatalogLemmas.{tasks_are}
use Rattle.wh_tick.proofs.lookups.live_tasks.Goals as goal

pub returns-clause-tasks : goal.returns-clause-tasks
returns-clause-tasks c =
    IfOk-weaker c.live_tasks.result _ _ (λ tasks is. is ∙ sym (tasks_are c.args.catalog.now)) c.live_tasks.ensures.tasks

pub returns-clause-bounded : goal.returns-clause-bounded
returns-clause-bounded c =
    IfOk-weaker c.live_tasks.result _ _ (λ tasks is. omega (arith, is)) c.live_tasks.ensures.bounded
