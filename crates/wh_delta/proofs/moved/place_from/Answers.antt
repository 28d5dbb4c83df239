use Rattle.std.proofs.Common.{arith}
use Rattle.wh_delta.proofs.Places.{has_there, has_none, same_numbers}
use Rattle.wh_delta.proofs.moved.place_from.Goals as goal

pub returns-then-number-clause-found : goal.returns-then-number-clause-found
returns-then-number-clause-found c =
    has_there c.args.others.now c.args.one.now c.loop-place.place c.index-others-place.result c.loop-place-test.true
    c.index-others-place.is
    (same_numbers c.args.one.now c.index-others-place.result.now _ _ c.number.ensures c.number-in-loop-place.ensures
    c.if-number.true)

pub returns-clause-none : goal.returns-clause-none
returns-clause-none c = λ zero is.
    has_none c.args.others.now c.args.one.now (λ k d below. c.loop-place.invariant k d (omega arith) (omega arith))
