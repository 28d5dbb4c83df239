use Rattle.std.proofs.Common.{List, map, length, ap, sym, ◌∙◌, arith}
use Rattle.std.proofs.lemmas.Result.{IfOk-weaker}
use Rattle.wh_ddl_naming.specs.Objects.{TaskRoot}
use Rattle.wh_ddl_naming.specs.Statements.{bound}
use Rattle.wh_ddl_bind.specs.View.{root_in}
use Rattle.wh_machine.specs.Names.{roots_from}
use Rattle.wh_task.specs.View.{tasks_of}
use Rattle.wh_catalog.specs.Catalog.{state_of}
use Rattle.wh_decide.specs.Names.{over, roots_told}
use Rattle.wh_decide.proofs.RootLemmas.{spares_roots, roots_are}
use Rattle.wh_decide.proofs.roots.task_roots.Goals as goal

pub returns-then-not-asks_roots : goal.returns-then-not-asks_roots
returns-then-not-asks_roots c = λ objects.
    spares_roots c.args.statement.now objects (map root_in c.new.result.items)
    (roots_from 1 (state_of c.args.catalog.now).objects) (sym c.asks_roots.ensures ∙ c.if-not-asks_roots.true)

pub roots_in-requires : goal.roots_in-requires
roots_in-requires c = omega (arith, c.in_ok-tasks.ensures.bounded, ap length c.deref.ensures.value)

pub returns : goal.returns
returns c =
    IfOk-weaker c.roots_in.result _ _
    (λ roots found objects. ap (λ (rs : List TaskRoot). bound (over objects rs) c.args.statement.now)
    (found ∙ ap (λ ts. roots_told 1 (tasks_of ts)) c.deref.ensures.value ∙ ap (roots_told 1) c.in_ok-tasks.ensures.tasks
    ∙ roots_are c.args.catalog.now)) c.roots_in.ensures
