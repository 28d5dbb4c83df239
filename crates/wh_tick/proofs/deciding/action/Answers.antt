use Rattle.std.proofs.Common.{List, Option, length, map, sym, ap, ◌∙◌, arith}
use denote.Ref.{Bor}
use Rattle.wh_naming.specs.View.{named_of}
use Rattle.wh_task.specs.View.{tasks_of}
use Rattle.wh_task.specs.declared.task.Task.{Task}
use Rattle.wh_decide.specs.Sight.{machine_in}
use Rattle.wh_tick.specs.Holding.{held_among, is_free_over}
use Rattle.wh_tick.proofs.HoldingLaws.{action_is}
use Rattle.wh_tick.proofs.deciding.action.Goals as goal

pub next_action-requires : goal.next_action-requires
next_action-requires c = omega (arith, c.in_ok-tasks.ensures.bounded, ap length c.deref-3.ensures.value)

pub returns : goal.returns
returns c =
    let m = machine_in c.args.sight.now in
    let names = map named_of c.deref.result.now in
    c.next_action.ensures
    ∙ action_is m names (tasks_of c.deref-3.result.now) c.deref-4.result.now
    (ap (map named_of) c.deref.ensures.value ∙ c.in_ok-names.ensures)
    (ap tasks_of c.deref-3.ensures.value ∙ c.in_ok-tasks.ensures.tasks)
    (c.deref-4.ensures.value ∙ c.in_ok-held.ensures
    ∙ ap (λ (tasks : List (Option (Bor Task))). held_among (is_free_over names m) (tasks_of tasks))
    (c.deref-2.ensures.value ∙ sym c.deref-3.ensures.value))
