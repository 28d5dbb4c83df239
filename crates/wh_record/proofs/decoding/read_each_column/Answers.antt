use Rattle.std.proofs.Common.{◌≡◌, ◌++◌, ◌∷◌, [], map}
use Rattle.std.proofs.lemmas.Result.{err_from_is_err_and}
use Rattle.std.proofs.lemmas.List.{map_push}
use Rattle.wh_value.specs.View.{column_of}
use Rattle.wh_part.specs.Reading.{items_at}
use Rattle.wh_part.proofs.Loops.{goes_on, ends, is_done}
use Rattle.wh_record.specs.Decoding.{column_at}
use Rattle.wh_record.proofs.decoding.read_each_column.Goals as goal

pub returns-in_err-column : goal.returns-in_err-column
returns-in_err-column c =
    let p = err_from_is_err_and c.from_residual.result c.from_residual.ensures.1 in
    rw (p.1, p.2) (ends column_at c.in_err-column.field-0.0
    (map column_of c.loop.columns.items) c.args.count c.loop.counter c.loop.rest.now
    (items_at column_at c.args.count c.args.bytes.now) c.loop-test.true c.in_err-column.ensures c.loop.invariant)

pub loop-preserved : goal.loop-preserved
loop-preserved c =
    let read = c.in_ok-column.column in
    let e : map column_of c.push.new.self.items ≡ map column_of c.loop.columns.items ++ column_of read ∷ [] =
    rw c.in_ok-push.ensures.items (map_push _ c.loop.columns.items read) in
    rw e (goes_on column_at (map column_of c.loop.columns.items) c.args.count c.loop.counter c.loop.rest.now
    (column_of read) c.in_ok-column.after.now
    (items_at column_at c.args.count c.args.bytes.now) c.loop-test.true c.in_ok-column.ensures c.loop.invariant)

pub returns : goal.returns
returns c = is_done column_at (map column_of c.loop.columns.items) c.args.count c.loop.counter c.loop.rest.now
    (items_at column_at c.args.count c.args.bytes.now) c.loop-test.false c.loop.invariant
