use Rattle.std.proofs.Common.{length, sym, ap, ◌∙◌, arith}
use Rattle.wh_moment.specs.Upstream.{Dynamics}
use Rattle.wh_moment.specs.Moment.{due_table}
use Rattle.wh_machine.specs.Ticks.{refreshes}
use Rattle.wh_dynamic.specs.View.{dynamics_in, due_of}
use Rattle.wh_decide.specs.Sight.{machine_in}
use Rattle.wh_decide.proofs.CatalogLemmas.{dynamics_are}
use Rattle.wh_decide.proofs.OutcomeLemmas.{decides_as, comes_as}
use Rattle.std.proofs.Common.{ℕ, Option, subst}
use Rattle.std.specs.Result.{IfOk}
use Rattle.wh_decide.specs.Decision.{answer_of}
use Rattle.wh_decide.specs.RefreshAsked.{AsksAsReplied}
use Rattle.wh_tick.proofs.deciding.refresh_due.Goals as goal

pub due_table-requires : goal.due_table-requires
due_table-requires g c = omega (arith, c.in_ok-all.ensures.bounded, ap length c.deref.ensures.value)

pub returns-in-Some-clause-comes : goal.returns-in-Some-clause-comes
returns-in-Some-clause-comes g c = λ shown sound.
    let sight = c.args.sight.now in
    comes_as sight c.scheduled_refresh.result
    (ap (refreshes (machine_in sight))
    (sym (ap due_of c.in-Some.is) ∙ c.in_ok-id.ensures
    ∙ ap (λ (all : Dynamics). due_table all sight.stamp)
    (ap dynamics_in c.deref.ensures.value ∙ c.in_ok-all.ensures.watched ∙ sym (dynamics_are sight.catalog.now))))
    (c.scheduled_refresh.ensures.comes shown sound)

pub returns-clause-comes : goal.returns-clause-comes
returns-clause-comes g c = λ _ _.
    let sight = c.args.sight.now in
    decides_as sight c.idle.result
    (ap (refreshes (machine_in sight))
    (sym (ap due_of c.in-None.is) ∙ c.in_ok-id.ensures
    ∙ ap (λ (all : Dynamics). due_table all sight.stamp)
    (ap dynamics_in c.deref.ensures.value ∙ c.in_ok-all.ensures.watched ∙ sym (dynamics_are sight.catalog.now))))
    c.idle.ensures.comes

-- ---- what is asked for

pub returns-in-Some-clause-fetches : goal.returns-in-Some-clause-fetches
returns-in-Some-clause-fetches g c =
    let sight = c.args.sight.now in
    subst (λ (which : Option (ℕ × ℕ)). IfOk c.scheduled_refresh.result (λ d. AsksAsReplied sight.catalog.now which
    c.args.fetch.now.asked.items c.scheduled_refresh.new.fetch.asked.items (answer_of d)))
    (sym (ap due_of c.in-Some.is) ∙ c.in_ok-id.ensures
    ∙ ap (λ (all : Dynamics). due_table all sight.stamp)
    (ap dynamics_in c.deref.ensures.value ∙ c.in_ok-all.ensures.watched ∙ sym (dynamics_are sight.catalog.now)))
    c.scheduled_refresh.ensures.fetches

pub returns-clause-fetches : goal.returns-clause-fetches
returns-clause-fetches g c =
    let sight = c.args.sight.now in
    subst (λ (which : Option (ℕ × ℕ)). AsksAsReplied sight.catalog.now which
    c.args.fetch.now.asked.items c.args.fetch.now.asked.items (answer_of c.idle.result))
    (sym (ap due_of c.in-None.is) ∙ c.in_ok-id.ensures
    ∙ ap (λ (all : Dynamics). due_table all sight.stamp)
    (ap dynamics_in c.deref.ensures.value ∙ c.in_ok-all.ensures.watched ∙ sym (dynamics_are sight.catalog.now)))
    tt
