use Rattle.std.proofs.Common.{◌≡◌, ◌∙◌, ap, sym, subst}
use Rattle.std.specs.FinMap.{entries}
use Rattle.wh_value.specs.Value.{Row}
use Rattle.wh_value.specs.Order.{row_total}
use Rattle.wh_meaning.proofs.KeyMaps.{entries_in_order}
use Rattle.wh_meaning.specs.Scalar.{of_two}
use Rattle.wh_algebra.specs.View.{calls_of}
use Rattle.wh_aggregate.proofs.FaultLemmas.{still, passed_on}
use Rattle.wh_group.specs.Moves.{Move}
use Rattle.wh_group.specs.Slots.{kept_groups}
use Rattle.wh_group.specs.Settling.{befores, afters, pair, IsSettled, Settles}
use Rattle.wh_group.proofs.WalkLaws.{settling_begun, settling_step, settling_fails, settling_end}
use Rattle.wh_group.proofs.settling.settled.Goals as goal

pub loop-key-init : goal.loop-key-init
loop-key-init c = settling_begun (calls_of c.args.calls.now) (kept_groups c.args.groups.now) c.into_iter-key-iterator.result _
    c.new-2.ensures.items c.in_ok-with_capacity.ensures.items c.new.ensures.items

pub loop-key-preserved : goal.loop-key-preserved
loop-key-preserved c =
    let at = c.loop-key in
    let e : Row × Move = (c.in-Some.key, c.in-Some.moving) in
    settling_step (calls_of c.args.calls.now) (kept_groups c.args.groups.now) _ at.key-iterator c.next.new.self e at.updated
    c.in-Some.ensures.steps at.invariant c.settle.new.updated c.in_ok-settle.ensures

pub returns-in_err-settle : goal.returns-in_err-settle
returns-in_err-settle c =
    let calls = calls_of c.args.calls.now in
    let groups = kept_groups c.args.groups.now in
    let at = c.loop-key in
    let e : Row × Move = (c.in-Some.key, c.in-Some.moving) in
    let all : entries c.args.touched ≡ c.into_iter-key-iterator.result =
    ap entries (sym c.touched.view_is) ∙ entries_in_order row_total c.touched.inside.map.entries c.len.ensures.ordered
    ∙ sym c.into_iter-key-iterator.ensures.into_iter_gives.0 in
    let handed = c.from_residual-in_err-settle in
    passed_on handed.result c.in_err-settle.field-0.0 (λ r. Settles r calls groups (entries c.args.touched))
    handed.ensures.1 (still c.in_err-settle.field-0.0 _ _ (λ none.
    ap (λ es. of_two pair (befores calls groups es) (afters calls groups es)) all
    ∙ settling_fails calls groups _ at.key-iterator c.next.new.self e at.updated c.in-Some.ensures.steps at.invariant
    none) c.in_err-settle.ensures)

pub returns : goal.returns
returns c =
    let calls = calls_of c.args.calls.now in
    let groups = kept_groups c.args.groups.now in
    let at = c.loop-key in
    let all : entries c.args.touched ≡ c.into_iter-key-iterator.result =
    ap entries (sym c.touched.view_is) ∙ entries_in_order row_total c.touched.inside.map.entries c.len.ensures.ordered
    ∙ sym c.into_iter-key-iterator.ensures.into_iter_gives.0 in
    subst (λ es. IsSettled calls groups es at.updated) (sym all)
    (settling_end calls groups c.into_iter-key-iterator.result at.key-iterator at.updated c.in-None.ensures.steps.0
    at.invariant)
