use Rattle.std.proofs.Common.{◌≡◌, ℕ, List, [], Option, Some, refl, sym, ap, subst, ◌∙◌}
use Rattle.std.specs.Prelude.{is_some}
use Rattle.std.specs.List.{list_any}
use Rattle.std.proofs.lemmas.Result.{IfOk-weaker}
use Rattle.wh_bag.specs.declared.change.Signed.{Signed}
use Rattle.wh_core_bind.specs.declared.parts.BoundQuery as code
use Rattle.wh_core_bind.specs.View.{query_in}
use Rattle.wh_naming.specs.Select.{BoundQuery}
use Rattle.wh_meaning.specs.Bag.{Bag}
use Rattle.wh_meaning.specs.Query.{Query, Instance, eval}
use Rattle.wh_algebra.specs.View.{query_of as plain_query_of}
use Rattle.wh_maintenance.specs.Delta as changes
use Rattle.wh_delta.specs.Found.{FindsNet}
use Rattle.wh_state.specs.State.{Object}
use Rattle.wh_state.specs.Dynamic.{DynamicQuery, Dynamic, DynamicState, ids_read}
use Rattle.wh_state.specs.Bound.{query_bound}
use Rattle.wh_state.specs.Moments.{instance_at, evaluated_at}
use Rattle.wh_dynamic.specs.View.{dynamic_of}
use Rattle.wh_machine.specs.Refresh as machine
use Rattle.wh_machine.specs.Brought.{after_all, AreAbove, edits_sought}
use Rattle.wh_refresh.specs.Objects.{objects_in, stored_in}
use Rattle.std.proofs.lemmas.Result.{on_ok_weaker}
use Rattle.wh_refresh.specs.Asked.{ids_of, IsFiledIn}
use Rattle.wh_refresh.proofs.AskLaws.{moves_wider, none_filed, of_change}
use Rattle.wh_refresh.proofs.RefreshLemmas.{evaluated_over, sources_same}
use Rattle.wh_refresh.proofs.changes.change_of_rows.Goals as goal

-- a query that is bound over what it reads gives what is evaluated
found_over : (stamp moment from : ℕ) (bs : List machine.Brought) (objects : List Object) (d : Dynamic) (q : Query)
    (ids : List ℕ) (was : Bag) (new : Instance) (found : Option Signed) → AreAbove 0 bs
    → q ≡ (query_bound objects d.query).query → from ≡ d.state.moment → ids ≡ ids_read d.query
    → new ≡ instance_at (after_all stamp moment bs objects) moment ids
    → evaluated_at objects d.state.moment d ≡ Some was
    → (eval q (instance_at objects from ids) ≡ Some was → FindsNet was (eval q new) found)
    → FindsNet was (evaluated_at (after_all stamp moment bs objects) moment d) found
unfolding evaluated_at
found_over stamp moment from bs objects d q ids was new found above bound then reads now has finds =
    let before : eval q (instance_at objects from ids)
    ≡ eval (query_bound objects d.query).query (instance_at objects d.state.moment (ids_read d.query)) =
    ap (λ (x : Query). eval x (instance_at objects from ids)) bound
    ∙ ap (λ (m : ℕ). eval (query_bound objects d.query).query (instance_at objects m ids)) then
    ∙ ap (λ (l : List ℕ). eval (query_bound objects d.query).query (instance_at objects d.state.moment l)) reads in
    subst (λ (e : Option Bag). FindsNet was e found)
    (ap (λ (x : Query). eval x new) bound
    ∙ ap (eval (query_bound objects d.query).query) now
    ∙ ap (λ (l : List ℕ). eval (query_bound objects d.query).query
    (instance_at (after_all stamp moment bs objects) moment l)) reads
    ∙ sym (evaluated_over stamp moment bs objects above d))
    (finds (before ∙ has))

pub returns-then-not-some_brought-clause-change : goal.returns-then-not-some_brought-clause-change
unfolding query_in
returns-then-not-some_brought-clause-change g c = λ shown.
    let objects = objects_in c.args.objects.now in
    let d = dynamic_of c.args.dynamic.now in
    let moment = c.args.moment in
    let bound = ap (λ (b : code.BoundQuery). plain_query_of b.query) c.get.ensures
    ∙ ap (λ (b : BoundQuery). b.query) c.in_ok-bound.ensures
    ∙ ap (λ (q : DynamicQuery). (query_bound objects q).query) c.query.ensures in
    IfOk-weaker c.change_by_moves.result _ _ (λ found is. λ stamp bs was are above has.
    found_over stamp moment _ bs objects d _ _ was _ found above bound
    (ap (λ (s : DynamicState). s.moment) c.state-from.ensures) c.reads-then-not-some_brought.ensures
    (sym (sources_same stamp moment bs objects above _ (
    ap (λ (ids : List ℕ). list_any (λ id. is_some (edits_sought id bs)) ids)
    (c.reads-then-not-some_brought.ensures ∙ sym c.reads.ensures)
    ∙ sym (c.some_brought.ensures (stored_in c.args.objects.now) bs are)
    ∙ c.if-not-some_brought.true
    ))) has (is was)) (c.change_by_moves.ensures.change shown)

pub returns-clause-change : goal.returns-clause-change
unfolding query_in
returns-clause-change g c = λ shown.
    let objects = objects_in c.args.objects.now in
    let d = dynamic_of c.args.dynamic.now in
    let moment = c.args.moment in
    let bound = ap (λ (b : code.BoundQuery). plain_query_of b.query) c.get.ensures
    ∙ ap (λ (b : BoundQuery). b.query) c.in_ok-bound.ensures
    ∙ ap (λ (q : DynamicQuery). (query_bound objects q).query) c.query.ensures in
    IfOk-weaker c.change_by_sources.result _ _ (λ found is. λ stamp bs was are above has.
    found_over stamp moment _ bs objects d _ c.reads-2.result.now was
    (instance_at (after_all stamp moment bs objects) moment c.reads-2.result.now) found above bound
    (ap (λ (s : DynamicState). s.moment) c.state-from.ensures) c.reads-2.ensures refl has (is stamp bs was are above))
    (c.change_by_sources.ensures.change shown)

pub returns-then-not-some_brought-clause-asks : goal.returns-then-not-some_brought-clause-asks
unfolding query_in
returns-then-not-some_brought-clause-asks g c = λ linear.
    let objects = objects_in c.args.objects.now in
    let bound = ap (λ (b : code.BoundQuery). plain_query_of b.query) c.get.ensures
    ∙ ap (λ (b : BoundQuery). b.query) c.in_ok-bound.ensures
    ∙ ap (λ (q : DynamicQuery). (query_bound objects q).query) c.query.ensures in
    on_ok_weaker c.change_by_moves.result (λ asks. of_change (IsFiledIn c.args.objects.now (ids_of c.args.before.now))
    c.args.objects.now c.args.moment _ _ _ (dynamic_of c.args.dynamic.now) _ _
    (ap (λ (s : DynamicState). s.moment) c.state-from.ensures) c.reads-then-not-some_brought.ensures bound
    (moves_wider (IsFiledIn c.args.objects.now []) (IsFiledIn c.args.objects.now (ids_of c.args.before.now))
    c.args.objects.now _ _ _ _ _ _ (none_filed c.args.objects.now (ids_of c.args.before.now)) asks))
    c.change_by_moves.ensures.asks

pub returns-clause-asks : goal.returns-clause-asks
unfolding query_in
returns-clause-asks g c = λ linear.
    let objects = objects_in c.args.objects.now in
    let bound = ap (λ (b : code.BoundQuery). plain_query_of b.query) c.get.ensures
    ∙ ap (λ (b : BoundQuery). b.query) c.in_ok-bound.ensures
    ∙ ap (λ (q : DynamicQuery). (query_bound objects q).query) c.query.ensures in
    on_ok_weaker c.change_by_sources.result (of_change (IsFiledIn c.args.objects.now (ids_of c.args.before.now))
    c.args.objects.now c.args.moment _ _ _ (dynamic_of c.args.dynamic.now) _ _
    (ap (λ (s : DynamicState). s.moment) c.state-from.ensures) c.reads-2.ensures bound)
    (c.change_by_sources.ensures.asks (ap changes.linear bound ∙ linear))
