use Rattle.std.proofs.Common.{◌≡◌, ◌++◌, ◌∷◌, [], map}
use Rattle.std.proofs.lemmas.Result.{err_from_is_err_and}
use Rattle.std.proofs.lemmas.List.{map_push}
use Rattle.wh_part.specs.View.{numbered_of}
use Rattle.wh_part.specs.Reading.{items_at}
use Rattle.wh_part.specs.Decoding.{row_at}
use Rattle.wh_part.proofs.Loops.{goes_on, ends, is_done}
use Rattle.wh_part.proofs.decoding.read_counted.Goals as goal

pub returns-in_err-numbered : goal.returns-in_err-numbered
returns-in_err-numbered c =
    let p = err_from_is_err_and c.from_residual-in_err-numbered.result c.from_residual-in_err-numbered.ensures.1 in
    rw (p.1, p.2) (ends (row_at c.args.width) c.in_err-numbered.field-0.0 (map numbered_of c.loop.rows.items)
    c.args.count c.loop.counter c.loop.rest.now (items_at (row_at c.args.width) c.args.count c.args.bytes.now)
    c.loop-test.true c.in_err-numbered.ensures c.loop.invariant)

pub loop-preserved : goal.loop-preserved
loop-preserved c =
    let read = c.in_ok-numbered.numbered in
    let e : map numbered_of c.push.new.self.items ≡ map numbered_of c.loop.rows.items ++ numbered_of read ∷ [] =
    rw c.in_ok-push.ensures.items (map_push _ c.loop.rows.items read) in
    rw e (goes_on (row_at c.args.width) (map numbered_of c.loop.rows.items) c.args.count c.loop.counter c.loop.rest.now
    (numbered_of read) c.in_ok-numbered.after.now (items_at (row_at c.args.width) c.args.count c.args.bytes.now)
    c.loop-test.true c.in_ok-numbered.ensures c.loop.invariant)

pub returns : goal.returns
returns c = is_done (row_at c.args.width) (map numbered_of c.loop.rows.items) c.args.count c.loop.counter
    c.loop.rest.now (items_at (row_at c.args.width) c.args.count c.args.bytes.now) c.loop-test.false c.loop.invariant
