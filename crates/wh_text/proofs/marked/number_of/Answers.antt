use Rattle.std.proofs.Common.{ℕ, ◌≤◌, ◌^◌, arith}
use Rattle.std.proofs.Math.Nat.{pow-le-pow_right}
use Rattle.wh_text.proofs.marked.number_of.Goals as goal

power : (i : ℕ) → i ≤ 18 → 10 ^ i ≤ 1000000000000000000
power i short = pow-le-pow_right (omega arith) short

pub overflow_mul-number : goal.overflow_mul-number
overflow_mul-number c = omega (arith, c.loop-digit.invariant.small, power c.loop-digit.digit-index (omega arith))

pub overflow_add-number : goal.overflow_add-number
overflow_add-number c = omega (arith, c.loop-digit.invariant.small, power c.loop-digit.digit-index (omega arith))

pub returns-clause-small : goal.returns-clause-small
returns-clause-small c = omega (arith, c.loop-digit.invariant.small, power c.loop-digit.digit-index (omega arith))
