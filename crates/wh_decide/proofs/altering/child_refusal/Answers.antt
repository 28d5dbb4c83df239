use Rattle.std.proofs.Common.{ℕ, List, Some, None, ap, sym, ◌∙◌}
use Rattle.wh_reply.specs.Reply.{HasChildren}
use Rattle.wh_task.specs.View.{tasks_of}
use Rattle.wh_decide.proofs.AlterLemmas.{child_told}
use Rattle.wh_decide.proofs.altering.child_refusal.Goals as goal

pub returns-in_default : goal.returns-in_default
returns-in_default c =
    sym (child_told c.args.catalog.now c.args.id (tasks_of c.deref.result.now) c.first_child.result None
    (ap tasks_of c.deref.ensures.value ∙ c.in_ok-tasks.ensures.tasks) c.first_child.ensures c.in_default.is)

pub returns : goal.returns
returns c =
    ap (λ (name : List ℕ). Some (HasChildren name)) c.in_ok-name.ensures
    ∙ sym (child_told c.args.catalog.now c.args.id (tasks_of c.deref.result.now) c.first_child.result
    (Some c.in-Some.child) (ap tasks_of c.deref.ensures.value ∙ c.in_ok-tasks.ensures.tasks) c.first_child.ensures
    c.in-Some.is)
