use Rattle.std.proofs.lemmas.Result.{err_from_is_err_and}
use Rattle.wh_part.specs.Reading.{items_at}
use Rattle.wh_part.proofs.Loops.{goes_on, ends, is_done}
use Rattle.wh_record.specs.Decoding.{total_at}
use Rattle.wh_record.proofs.groups_decoding.read_totals.Goals as goal

pub returns-in_err-total : goal.returns-in_err-total
returns-in_err-total c =
    let p = err_from_is_err_and c.from_residual-in_err-total.result c.from_residual-in_err-total.ensures.1 in
    rw (p.1, p.2) (ends total_at c.in_err-total.field-0.0 c.loop.totals.items c.args.calls c.loop.counter
    c.loop.rest.now (items_at total_at c.args.calls c.args.bytes.now) c.loop-test.true c.in_err-total.ensures
    c.loop.invariant)

pub loop-preserved : goal.loop-preserved
loop-preserved c =
    rw (c.in_ok-push.ensures.ok) (goes_on total_at c.loop.totals.items c.args.calls c.loop.counter
    c.loop.rest.now c.in_ok-total.total c.in_ok-total.after.now
    (items_at total_at c.args.calls c.args.bytes.now) c.loop-test.true c.in_ok-total.ensures c.loop.invariant)

pub returns : goal.returns
returns c = is_done total_at c.loop.totals.items c.args.calls c.loop.counter c.loop.rest.now
    (items_at total_at c.args.calls c.args.bytes.now) c.loop-test.false c.loop.invariant
