use Rattle.std.proofs.Common.{◌≡◌, ℕ, Bool, true, false, cond, List, sym, ap, ◌∙◌, arith}
use Rattle.std.proofs.lemmas.Bool.Decides.{nat_tests}
use Rattle.std.specs.Prelude.{nat_eq}
use Rattle.wh_reply.specs.Reply.{NoData, Full}
use Rattle.wh_state.specs.State.{Object}
use Rattle.wh_state.specs.Dynamic.{Dynamic, DynamicState, ids_read}
use Rattle.wh_dynamic.specs.View.{dynamic_of}
use Rattle.wh_machine.specs.Brought.{after_all}
use Rattle.wh_machine.specs.Refresh.{has_new_data, by_mode, action_of}
use Rattle.wh_refresh.specs.Objects.{objects_in}
use Rattle.wh_refresh.proofs.bringing.action.Goals as goal

acts : (objects : List Object) (moment from : ℕ) (d : Dynamic) (ids : List ℕ) (new : Bool)
    → from ≡ d.state.moment → ids ≡ ids_read d.query → (from ≡ 0 → ⊥) → new ≡ has_new_data objects from moment ids
    → action_of objects moment d ≡ cond new (by_mode d.is_incremental) NoData
acts objects moment from d ids new same reads some is =
    let other : nat_eq d.state.moment 0 ≡ false = grind (arith, nat_tests, same, some) in
    let more : has_new_data objects d.state.moment moment (ids_read d.query) ≡ new =
    ap (λ (n : ℕ). has_new_data objects n moment (ids_read d.query)) (sym same)
    ∙ ap (has_new_data objects from moment) (sym reads) ∙ sym is in
    ap (λ (t : Bool). cond t Full (cond (has_new_data objects d.state.moment moment (ids_read d.query))
    (by_mode d.is_incremental) NoData)) other
    ∙ ap (λ (t : Bool). cond t (by_mode d.is_incremental) NoData) more

pub returns-then-has_new_data-clause-action : goal.returns-then-has_new_data-clause-action
returns-then-has_new_data-clause-action c stamp bs are above =
    c.by_mode.ensures
    ∙ sym (acts (after_all stamp c.args.moment bs (objects_in c.args.objects.now)) c.args.moment
    c.state-from.result.moment (dynamic_of c.args.dynamic.now) c.reads.result.now true
    (ap (λ (s : DynamicState). s.moment) c.state-from.ensures) c.reads.ensures c.if-from-eq0.false
    (c.if-has_new_data.ensures stamp bs are above))

pub returns-else-has_new_data-clause-action : goal.returns-else-has_new_data-clause-action
returns-else-has_new_data-clause-action c stamp bs are above =
    sym (acts (after_all stamp c.args.moment bs (objects_in c.args.objects.now)) c.args.moment
    c.state-from.result.moment (dynamic_of c.args.dynamic.now) c.reads.result.now false
    (ap (λ (s : DynamicState). s.moment) c.state-from.ensures) c.reads.ensures c.if-from-eq0.false
    (c.if-has_new_data.ensures stamp bs are above))
