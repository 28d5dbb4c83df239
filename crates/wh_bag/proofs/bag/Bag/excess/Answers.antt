use Rattle.std.proofs.Common.{◌≡◌, ◌∙◌, refl, sym, subst, ℕ, suc, ◌-◌, ◌<◌, ◌^◌, arith}
use Rattle.std.proofs.lemmas.Grind.{common_steps}
use Rattle.wh_value.specs.Value.{Row}
use Rattle.wh_meaning.specs.Bag.{count}
use Rattle.wh_meaning.specs.BagChange.{IsWithin}
use Rattle.wh_bag.proofs.Excess.{excess-turn, excess-is, none-within, entered-within}
use Rattle.wh_bag.proofs.bag.Bag.excess.Goals as goal

pub loop-row-init : goal.loop-row-init
loop-row-init c = (grind (arith, common_steps), subst IsWithin (sym c.new-more.ensures) none-within)

pub loop-row-preserved-in_ok-enter : goal.loop-row-preserved-in_ok-enter
loop-row-preserved-in_ok-enter c =
    let at = c.loop-row in
    let e : Row × ℕ = (c.in-Some.row.now, c.in-Some.times.now) in
    let many : c.saturating_sub-count.result ≡ suc e.1 - count c.args.other.now e.0 =
    omega (arith, c.count.ensures, c.count-in-loop-row.ensures, c.saturating_sub-count.ensures) in
    let walked = excess-turn c.args.other.now at.row-iterator e c.next.new.self at.more c.enter.new.self
    c.in_ok-copy.field-0 c.saturating_sub-count.result
    c.in-Some.ensures.steps c.in_ok-copy.ensures many c.in_ok-enter.ensures.ok in
    let fits : c.saturating_sub-count.result < 2 ^ 64 = omega (arith, c.saturating_sub-count.type_inv) in (
      at.invariant.0 ∙ walked,
      entered-within c.in_ok-copy.field-0 c.saturating_sub-count.result at.more c.enter.new.self
          c.in_ok-enter.ensures.ok fits at.invariant.1,
    )

pub loop-row-preserved : goal.loop-row-preserved
loop-row-preserved c =
    let at = c.loop-row in
    let e : Row × ℕ = (c.in-Some.row.now, c.in-Some.times.now) in
    let many : 0 ≡ suc e.1 - count c.args.other.now e.0 =
    omega (
      arith,
      c.count.ensures,
      c.count-in-loop-row.ensures,
      c.saturating_sub-count.ensures,
      c.if-count-gt0.false,
    ) in
    let walked = excess-turn c.args.other.now at.row-iterator e c.next.new.self at.more at.more e.0 0
    c.in-Some.ensures.steps refl many refl in
    (at.invariant.0 ∙ walked, at.invariant.1)

pub returns-clause-excess : goal.returns-clause-excess
returns-clause-excess c =
    excess-is c.args.self.now c.args.other.now c.loop-row.more c.loop-row.row-iterator
    c.in-None.ensures.steps.0 c.loop-row.invariant.0
