use Rattle.std.proofs.Common.{◌∙◌, ℕ}
use Rattle.std.proofs.lemmas.Bool.{OnFalse_at}
use Rattle.wh_value.specs.Value.{Row}
use Rattle.wh_part.specs.Holding.{IsWithin, columns_of}
use Rattle.wh_refresh.proofs.HeldLaws.{at_first, one_past}
use Rattle.wh_refresh.proofs.going.may_lose.Goals as goal

pub loop-row-init : goal.loop-row-init
loop-row-init c row within =
    at_first c.args.rows.now c.into_iter-row-iterator.result
    (c.into_iter-row-iterator.ensures.into_iter_gives ∙ c.iter-row-items.ensures) row

pub loop-row-preserved : goal.loop-row-preserved
loop-row-preserved c =
    let columns = columns_of c.args.meta.now in
    let e : Row × ℕ = (c.in-Some.row.now, c.in-Some.field-0-1.now) in
    let outside : IsWithin columns e.0 → ⊥ =
    λ within. OnFalse_at c.if-are_within.false c.are_within.ensures
    (rw (c.deref.ensures.value, c.values.ensures) within) in
    one_past c.args.rows.now columns c.loop-row.row-iterator c.next.new.self e outside c.in-Some.ensures.steps
    c.loop-row.invariant
