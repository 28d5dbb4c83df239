use Rattle.std.proofs.lemmas.Result.{err_from_is_err_and}
use Rattle.wh_part.specs.Reading.{items_at}
use Rattle.wh_part.specs.Decoding.{partition_at}
use Rattle.wh_part.proofs.Loops.{goes_on, ends, is_done}
use Rattle.wh_record.proofs.decoding.read_each_outline.Goals as goal

pub returns-in_err-outline : goal.returns-in_err-outline
returns-in_err-outline c =
    let p = err_from_is_err_and c.from_residual.result c.from_residual.ensures.1 in
    rw (p.1, p.2) (ends (partition_at c.args.width) c.in_err-outline.field-0.0 c.loop.outlines.items c.args.count
    c.loop.counter c.loop.rest.now (items_at (partition_at c.args.width) c.args.count c.args.bytes.now)
    c.loop-test.true c.in_err-outline.ensures c.loop.invariant)

pub loop-preserved : goal.loop-preserved
loop-preserved c =
    rw (c.in_ok-push.ensures.items) (goes_on (partition_at c.args.width) c.loop.outlines.items
    c.args.count c.loop.counter c.loop.rest.now c.in_ok-outline.outline c.in_ok-outline.after.now
    (items_at (partition_at c.args.width) c.args.count c.args.bytes.now) c.loop-test.true
    c.in_ok-outline.ensures c.loop.invariant)

pub returns : goal.returns
returns c = is_done (partition_at c.args.width) c.loop.outlines.items c.args.count c.loop.counter c.loop.rest.now
    (items_at (partition_at c.args.width) c.args.count c.args.bytes.now) c.loop-test.false c.loop.invariant
