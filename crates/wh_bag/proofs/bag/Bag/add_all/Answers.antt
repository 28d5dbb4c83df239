use Rattle.std.proofs.Common.{◌∙◌, ap, Err, ℕ, ◌^◌}
use Rattle.wh_value.specs.Value.{Row}
use Rattle.wh_bag.specs.declared.fault.AddFault.TheVariants.{TooMany}
use Rattle.wh_bag.proofs.Faults.{passed_on}
use Rattle.wh_bag.proofs.Sum.{sum-turn, sum-is, sum-full, sum-within}
use Rattle.wh_bag.proofs.bag.Bag.add_all.Goals as goal

pub loop-row-preserved : goal.loop-row-preserved
loop-row-preserved c =
    let at = c.loop-row in
    let e : Row × ℕ = (c.in-Some.row.now, c.in-Some.times.now) in
    let walked = sum-turn at.row-iterator e c.next.new.self at.self c.add.new.self c.in_ok-copy.field-0 c.count.result
    c.in-Some.ensures.steps c.in_ok-copy.ensures c.count.ensures c.in_ok-add.ensures.ok in (
      at.invariant.0 ∙ walked,
      λ within. sum-within _ c.in_ok-copy.field-0 c.count.result at.self c.add.new.self
          c.in_ok-add.ensures.ok c.in_ok-add.ensures.too_many.1 (at.invariant.1 within),
    )

pub returns-in_err-add-clause-too_many : goal.returns-in_err-add-clause-too_many
returns-in_err-add-clause-too_many c full =
    let at = c.loop-row in
    let e : Row × ℕ = (c.in-Some.row.now, c.in-Some.times.now) in
    let handed = c.from_residual-in_err-add in
    let fault = passed_on handed.result c.in_err-add.field-0.0 TooMany handed.ensures.1 full in
    sum-full c.args.other.now c.args.self.now at.self at.row-iterator e c.next.new.self c.in_ok-copy.field-0
    c.count.result (2 ^ 64)
    c.in-Some.ensures.steps c.in_ok-copy.ensures c.count.ensures at.invariant.0
    (c.in_err-add.ensures.too_many.0 (ap Err fault))

pub returns-clause-ok : goal.returns-clause-ok
returns-clause-ok c =
    sum-is c.args.other.now c.args.self.now c.loop-row.self c.loop-row.row-iterator
    c.in-None.ensures.steps.0 c.loop-row.invariant.0
