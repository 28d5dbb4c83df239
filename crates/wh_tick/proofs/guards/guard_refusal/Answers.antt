use Rattle.std.proofs.Common.{List, ℕ, Some, None, refl, sym, ap, ◌∙◌}
use Rattle.std.proofs.lemmas.Result.{IfOk-weaker}
use Rattle.wh_ddl_naming.specs.Names.{names_at}
use Rattle.wh_reply.specs.Reply.{UnknownName, WrongKind}
use Rattle.wh_machine.specs.Reading.{reading_refusal}
use Rattle.wh_decide.specs.Sight.{machine_in}
use Rattle.wh_tick.proofs.GuardLemmas.{tests_of}
use Rattle.wh_tick.proofs.guards.guard_refusal.Goals as goal

pub returns-in-Some : goal.returns-in-Some
returns-in-Some c =
    let m = machine_in c.args.sight.now in
    ap (λ (name : List ℕ). Some (UnknownName name)) c.in_ok-copy.ensures
    ∙ sym (tests_of m (names_at c.args.streams.now) (Some (UnknownName c.in-Some.name.now))
    _ (sym c.in-Some.ensures) refl)

pub returns-in-Some-first_other : goal.returns-in-Some-first_other
returns-in-Some-first_other c =
    let m = machine_in c.args.sight.now in
    ap (λ (name : List ℕ). Some (WrongKind name)) c.in_ok-copy-2.ensures
    ∙ sym (tests_of m (names_at c.args.streams.now) None (Some (WrongKind c.in-Some-first_other.name.now))
    (sym c.in_default.ensures) (sym c.in-Some-first_other.ensures))

pub returns : goal.returns
returns c =
    let m = machine_in c.args.sight.now in
    IfOk-weaker c.reading_refusal.result _ _
    (λ found is. is ∙ ap (reading_refusal m.state.objects m.state.last) (c.deref.ensures.value ∙ c.in_ok-ids.ensures)
    ∙ sym (tests_of m (names_at c.args.streams.now) None None (sym c.in_default.ensures)
    (sym c.in_default-first_other.ensures))) c.reading_refusal.ensures
