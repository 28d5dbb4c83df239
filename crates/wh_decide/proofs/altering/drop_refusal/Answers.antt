use Rattle.std.proofs.Common.{[], ◌∷◌, ap, ◌∙◌}
use Rattle.wh_reply.specs.View.{refusal_view}
use Rattle.wh_machine.specs.Tests.{first_of}
use Rattle.wh_machine.specs.Tasks.{root_running, root_resumed}
use Rattle.wh_catalog.specs.Catalog.{state_of}
use Rattle.wh_decide.proofs.OutcomeLemmas.{first_three}
use Rattle.wh_decide.proofs.altering.drop_refusal.Goals as goal

pub returns : goal.returns
returns c =
    let objects = (state_of c.args.catalog.now).objects in
    let running = c.in_ok-running.ensures ∙ ap (root_running objects) c.root_at-root.ensures in
    let resumed = c.in_ok-resumed.ensures ∙ ap (root_resumed objects) c.root_at-root.ensures in
    rw (c.or-2.ensures, c.or.ensures)
    (first_three refusal_view c.in_ok-running.running c.in_ok-resumed.resumed c.in_ok-child.child
    ∙ (λ i. first_of (running i ∷ resumed i ∷ c.in_ok-child.ensures i ∷ [])))
