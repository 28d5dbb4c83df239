use Rattle.std.proofs.lemmas.Result.{err_from_is_err_and}
use Rattle.wh_part.specs.Reading.{items_at}
use Rattle.wh_part.proofs.Loops.{goes_on, ends, is_done}
use Rattle.wh_record.specs.Decoding.{entry_at}
use Rattle.wh_record.proofs.groups_decoding.read_each_entry.Goals as goal

pub returns-in_err-entry : goal.returns-in_err-entry
returns-in_err-entry c =
    let p = err_from_is_err_and c.from_residual-in_err-entry.result c.from_residual-in_err-entry.ensures.1 in
    let reader = entry_at c.args.keys c.args.calls in
    rw (p.1, p.2) (ends reader c.in_err-entry.field-0.0 c.loop.entries.items c.args.count c.loop.counter
    c.loop.rest.now (items_at reader c.args.count c.args.bytes.now) c.loop-test.true c.in_err-entry.ensures
    c.loop.invariant)

pub loop-preserved : goal.loop-preserved
loop-preserved c =
    let reader = entry_at c.args.keys c.args.calls in
    rw (c.in_ok-push.ensures.items) (goes_on reader c.loop.entries.items c.args.count c.loop.counter
    c.loop.rest.now c.in_ok-entry.entry c.in_ok-entry.after.now
    (items_at reader c.args.count c.args.bytes.now) c.loop-test.true c.in_ok-entry.ensures c.loop.invariant)

pub returns : goal.returns
returns c =
    let reader = entry_at c.args.keys c.args.calls in
    is_done reader c.loop.entries.items c.args.count c.loop.counter c.loop.rest.now
    (items_at reader c.args.count c.args.bytes.now) c.loop-test.false c.loop.invariant
