use Rattle.std.proofs.Common.{◌<◌, length, map, option_map, refl, sym, ap, ◌∙◌, arith}
use Rattle.std.specs.Prelude.{slice_set}
use Rattle.wh_txn.specs.View.{transaction_of, sessions_of}
use Rattle.wh_txn.proofs.SlotLemmas.{with_slot, slot_in, slot_same}
use Rattle.wh_txn.proofs.TableLemmas.{on_err}
use Rattle.wh_txn.proofs.sessions.Sessions.stage.Goals as goal

pub returns-in_err-stage-in-Some-clause-err : goal.returns-in_err-stage-in-Some-clause-err
unfolding sessions_of
returns-in_err-stage-in-Some-clause-err c =
    let slots = c.args.self.now.slots in
    let within : c.args.session < length slots.items = omega (arith, c.in-Some.ensures.variant.0 refl, slots.ok.0) in
    on_err c.from_residual.result
    (slot_same slots.items c.args.session c.in-Some.slot.now within c.in-Some.ensures.value c.stage.new.slot
    c.in_err-stage-in-Some.ensures.err)

pub returns-in_ok-stage-in-Some-clause-ok : goal.returns-in_ok-stage-in-Some-clause-ok
unfolding sessions_of
returns-in_ok-stage-in-Some-clause-ok c = λ t opened.
    let slots = c.args.self.now.slots in
    let within : c.args.session < length slots.items = omega (arith, c.in-Some.ensures.variant.0 refl, slots.ok.0) in
    let here = slot_in slots.items c.args.session c.in-Some.slot.now within c.in-Some.ensures.value in
    with_slot slots.items c.args.session c.stage.new.slot
    ∙ ap (slice_set (map (option_map transaction_of) slots.items) c.args.session)
    (c.in_ok-stage-in-Some.ensures.ok t (sym here ∙ opened))

pub returns-in_err-stage-in-Some-clause-closed : goal.returns-in_err-stage-in-Some-clause-closed
unfolding sessions_of
returns-in_err-stage-in-Some-clause-closed c = λ none.
    let slots = c.args.self.now.slots in
    let within : c.args.session < length slots.items = omega (arith, c.in-Some.ensures.variant.0 refl, slots.ok.0) in
    slot_same slots.items c.args.session c.in-Some.slot.now within c.in-Some.ensures.value c.stage.new.slot
    c.in_err-stage-in-Some.ensures.err

pub returns-in_ok-stage-in-Some-clause-closed : goal.returns-in_ok-stage-in-Some-clause-closed
unfolding sessions_of
returns-in_ok-stage-in-Some-clause-closed c = λ none.
    let slots = c.args.self.now.slots in
    let within : c.args.session < length slots.items = omega (arith, c.in-Some.ensures.variant.0 refl, slots.ok.0) in
    let here = slot_in slots.items c.args.session c.in-Some.slot.now within c.in-Some.ensures.value in
    slot_same slots.items c.args.session c.in-Some.slot.now within c.in-Some.ensures.value c.stage.new.slot
    (c.in_ok-stage-in-Some.ensures.closed (sym here ∙ none))
