use Rattle.std.proofs.lemmas.Result.{err_from_is_err_and}
use Rattle.wh_value.specs.View.{value_of}
use Rattle.wh_part.specs.Decoding.{value_at}
use Rattle.wh_part.specs.Reading.{items_at}
use Rattle.wh_part.proofs.Loops.{goes_on, ends, is_done}
use Rattle.wh_record.proofs.groups_decoding.read_key.Goals as goal

pub returns-in_err-value : goal.returns-in_err-value
returns-in_err-value c =
    let p = err_from_is_err_and c.from_residual-in_err-value.result c.from_residual-in_err-value.ensures.1 in
    rw (p.1, p.2) (ends value_at c.in_err-value.field-0.0 c.loop.key c.args.keys c.loop.counter
    c.loop.rest.now (items_at value_at c.args.keys c.args.bytes.now) c.loop-test.true c.in_err-value.ensures
    c.loop.invariant)

pub loop-preserved : goal.loop-preserved
loop-preserved c =
    rw (c.in_ok-push.ensures.ok) (goes_on value_at c.loop.key c.args.keys c.loop.counter
    c.loop.rest.now (value_of c.in_ok-value.value) c.in_ok-value.after.now
    (items_at value_at c.args.keys c.args.bytes.now) c.loop-test.true c.in_ok-value.ensures c.loop.invariant)

pub returns : goal.returns
returns c = is_done value_at c.loop.key c.args.keys c.loop.counter c.loop.rest.now
    (items_at value_at c.args.keys c.args.bytes.now) c.loop-test.false c.loop.invariant
