use Rattle.std.proofs.Common.{◌≡◌, ◌++◌, ◌∷◌, [], map}
use Rattle.std.proofs.lemmas.Result.{err_from_is_err_and}
use Rattle.std.proofs.lemmas.List.{map_push}
use Rattle.wh_record.specs.View.{text_change_of}
use Rattle.wh_part.specs.Reading.{items_at}
use Rattle.wh_part.proofs.Loops.{goes_on, ends, is_done}
use Rattle.wh_record.specs.Decoding.{change_at}
use Rattle.wh_record.proofs.decoding.read_each_change.Goals as goal

pub returns-in_err-change : goal.returns-in_err-change
returns-in_err-change c =
    let p = err_from_is_err_and c.from_residual.result c.from_residual.ensures.1 in
    rw (p.1, p.2) (ends change_at c.in_err-change.field-0.0
    (map text_change_of c.loop.changes.items) c.args.count c.loop.counter c.loop.rest.now
    (items_at change_at c.args.count c.args.bytes.now) c.loop-test.true c.in_err-change.ensures c.loop.invariant)

pub loop-preserved : goal.loop-preserved
loop-preserved c =
    let read = c.in_ok-change.change in
    let e : map text_change_of c.push.new.self.items
    ≡ map text_change_of c.loop.changes.items ++ text_change_of read ∷ [] =
    rw c.in_ok-push.ensures.items (map_push _ c.loop.changes.items read) in
    rw e (goes_on change_at (map text_change_of c.loop.changes.items) c.args.count c.loop.counter c.loop.rest.now
    (text_change_of read) c.in_ok-change.after.now
    (items_at change_at c.args.count c.args.bytes.now) c.loop-test.true c.in_ok-change.ensures c.loop.invariant)

pub returns : goal.returns
returns c = is_done change_at (map text_change_of c.loop.changes.items) c.args.count c.loop.counter c.loop.rest.now
    (items_at change_at c.args.count c.args.bytes.now) c.loop-test.false c.loop.invariant
