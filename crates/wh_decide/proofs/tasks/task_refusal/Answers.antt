use Rattle.std.proofs.Common.{◌≡◌, ℕ, List, Some, None, option_map, ap, sym, ◌∙◌}
use Rattle.wh_ddl_bind.specs.View.{new_task_of}
use Rattle.wh_reply.specs.View.{refusal_view}
use Rattle.wh_machine.specs.Tests.{first_of}
use Rattle.wh_machine.specs.Tasks.{root_refusals}
use Rattle.wh_catalog.specs.Catalog.{state_of}
use Rattle.wh_decide.specs.Tasks.{limit_refusal}
use Rattle.wh_decide.proofs.NamingLemmas.{alone}
use Rattle.wh_decide.proofs.TaskLemmas.{refusal_by}
use Rattle.wh_decide.proofs.tasks.task_refusal.Goals.{In_ok-why}
use Rattle.wh_decide.proofs.tasks.task_refusal.Goals as goal

-- the first test, of its root
of_root : (c : In_ok-why)
    → option_map refusal_view c.in_ok-why.field-0
    ≡ first_of (root_refusals (state_of c.args.catalog.now).objects c.args.task.now.after.items)
of_root c = c.in_ok-why.ensures
    ∙ ap (λ (ids : List ℕ). first_of (root_refusals (state_of c.args.catalog.now).objects ids)) c.deref.ensures.value

pub returns-in-Some : goal.returns-in-Some
returns-in-Some c =
    sym (refusal_by (state_of c.args.catalog.now) (new_task_of c.args.task.now) (Some (refusal_view c.in-Some.why))
    (sym (ap (option_map refusal_view) c.in-Some.is) ∙ of_root (goal.at.returns-in-Some c).In_ok-why))

pub returns : goal.returns
returns c =
    let s = state_of c.args.catalog.now in
    let n = new_task_of c.args.task.now in
    c.limit_refusal.ensures ∙ sym (alone (limit_refusal s n))
    ∙ sym (refusal_by s n None
    (sym (ap (option_map refusal_view) c.in_default.is) ∙ of_root (goal.at.returns c).In_ok-why))
