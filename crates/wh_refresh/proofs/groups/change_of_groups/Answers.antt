use Rattle.std.proofs.Common.{ℕ, List, [], sym, ap, ◌∙◌}
use Rattle.std.specs.Prelude.{is_some}
use Rattle.std.specs.List.{list_any}
use Rattle.std.proofs.lemmas.Result.{IfOk-weaker}
use Rattle.wh_naming.specs.Select.{BoundQuery}
use Rattle.wh_algebra.specs.View.{query_of as plain_query_of}
use Rattle.wh_core_bind.specs.declared.parts.BoundQuery as code
use Rattle.wh_core_bind.specs.View.{query_in}
use Rattle.wh_group.specs.Slots.{kept_groups}
use Rattle.wh_state.specs.Dynamic.{DynamicQuery, DynamicState}
use Rattle.wh_state.specs.Bound.{query_bound}
use Rattle.wh_state.specs.Moments.{instance_at}
use Rattle.wh_dynamic.specs.View.{dynamic_of}
use Rattle.wh_machine.specs.Brought.{after_all, edits_sought}
use Rattle.wh_refresh.specs.Objects.{objects_in, stored_in}
use Rattle.std.proofs.lemmas.Result.{on_ok_weaker}
use Rattle.wh_refresh.specs.Asked.{ids_of, IsFiledIn}
use Rattle.wh_refresh.proofs.AskLaws.{moves_wider, none_filed, of_change}
use Rattle.wh_refresh.proofs.RefreshLemmas.{sources_same}
use Rattle.wh_refresh.proofs.GroupLaws.{found_further}
use Rattle.wh_refresh.proofs.groups.change_of_groups.Goals as goal

pub returns-then-not-some_brought-clause-change : goal.returns-then-not-some_brought-clause-change
unfolding query_in
returns-then-not-some_brought-clause-change g c = λ shown has.
    let objects = objects_in c.args.objects.now in
    let d = dynamic_of c.args.dynamic.now in
    let moment = c.args.moment in
    let ids = c.reads-then-not-some_brought.result.now in
    let bound = ap (λ (b : code.BoundQuery). plain_query_of b.query) c.get.ensures
    ∙ ap (λ (b : BoundQuery). b.query) c.in_ok-bound.ensures
    ∙ ap (λ (q : DynamicQuery). (query_bound objects q).query) c.query.ensures in
    IfOk-weaker c.kept_by_moves.result _ _ (λ found is. λ stamp bs are above was stood.
    found_further stamp moment bs objects above d has _ _ ids (instance_at objects moment ids) was
    (kept_groups c.args.groups.now) found bound (ap (λ (s : DynamicState). s.moment) c.state-from.ensures)
    c.reads-then-not-some_brought.ensures
    (sym (sources_same stamp moment bs objects above ids (
    ap (λ (ids : List ℕ). list_any (λ id. is_some (edits_sought id bs)) ids)
    (c.reads-then-not-some_brought.ensures ∙ sym c.reads.ensures)
    ∙ sym (c.some_brought.ensures (stored_in c.args.objects.now) bs are)
    ∙ c.if-not-some_brought.true
    ))
    ∙ ap (instance_at (after_all stamp moment bs objects) moment) c.reads-then-not-some_brought.ensures)
    stood is) (c.kept_by_moves.ensures.change shown)

pub returns-clause-change : goal.returns-clause-change
unfolding query_in
returns-clause-change g c = λ shown has.
    let objects = objects_in c.args.objects.now in
    let d = dynamic_of c.args.dynamic.now in
    let moment = c.args.moment in
    let ids = c.reads-2.result.now in
    let bound = ap (λ (b : code.BoundQuery). plain_query_of b.query) c.get.ensures
    ∙ ap (λ (b : BoundQuery). b.query) c.in_ok-bound.ensures
    ∙ ap (λ (q : DynamicQuery). (query_bound objects q).query) c.query.ensures in
    IfOk-weaker c.kept_by_sources.result _ _ (λ found is. λ stamp bs are above was stood.
    found_further stamp moment bs objects above d has _ _ ids
    (instance_at (after_all stamp moment bs objects) moment ids) was (kept_groups c.args.groups.now) found bound
    (ap (λ (s : DynamicState). s.moment) c.state-from.ensures) c.reads-2.ensures
    (ap (instance_at (after_all stamp moment bs objects) moment) c.reads-2.ensures) stood (is stamp bs are above))
    (c.kept_by_sources.ensures.change shown)

pub returns-then-not-some_brought-clause-asks : goal.returns-then-not-some_brought-clause-asks
unfolding query_in
returns-then-not-some_brought-clause-asks g c =
    let objects = objects_in c.args.objects.now in
    let bound = ap (λ (b : code.BoundQuery). plain_query_of b.query) c.get.ensures
    ∙ ap (λ (b : BoundQuery). b.query) c.in_ok-bound.ensures
    ∙ ap (λ (q : DynamicQuery). (query_bound objects q).query) c.query.ensures in
    on_ok_weaker c.kept_by_moves.result (λ asks. of_change (IsFiledIn c.args.objects.now (ids_of c.args.before.now))
    c.args.objects.now c.args.moment _ _ _ (dynamic_of c.args.dynamic.now) _ _
    (ap (λ (s : DynamicState). s.moment) c.state-from.ensures) c.reads-then-not-some_brought.ensures bound
    (moves_wider (IsFiledIn c.args.objects.now []) (IsFiledIn c.args.objects.now (ids_of c.args.before.now))
    c.args.objects.now _ _ _ _ _ _ (none_filed c.args.objects.now (ids_of c.args.before.now)) asks))
    c.kept_by_moves.ensures.asks

pub returns-clause-asks : goal.returns-clause-asks
unfolding query_in
returns-clause-asks g c =
    let objects = objects_in c.args.objects.now in
    let bound = ap (λ (b : code.BoundQuery). plain_query_of b.query) c.get.ensures
    ∙ ap (λ (b : BoundQuery). b.query) c.in_ok-bound.ensures
    ∙ ap (λ (q : DynamicQuery). (query_bound objects q).query) c.query.ensures in
    on_ok_weaker c.kept_by_sources.result (of_change (IsFiledIn c.args.objects.now (ids_of c.args.before.now))
    c.args.objects.now c.args.moment _ _ _ (dynamic_of c.args.dynamic.now) _ _
    (ap (λ (s : DynamicState). s.moment) c.state-from.ensures) c.reads-2.ensures bound)
    c.kept_by_sources.ensures.asks
