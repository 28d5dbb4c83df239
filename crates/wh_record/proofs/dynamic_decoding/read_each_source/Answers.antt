use Rattle.std.proofs.Common.{◌≡◌, ◌++◌, ◌∷◌, [], map}
use Rattle.std.proofs.lemmas.Result.{err_from_is_err_and}
use Rattle.std.proofs.lemmas.List.{map_push}
use Rattle.wh_dynamic.specs.View.{source_of}
use Rattle.wh_part.specs.Reading.{items_at}
use Rattle.wh_part.proofs.Loops.{goes_on, ends, is_done}
use Rattle.wh_record.specs.Decoding.{source_at}
use Rattle.wh_record.proofs.dynamic_decoding.read_each_source.Goals as goal

pub returns-in_err-source : goal.returns-in_err-source
returns-in_err-source c =
    let p = err_from_is_err_and c.from_residual.result c.from_residual.ensures.1 in
    rw (p.1, p.2) (ends source_at c.in_err-source.field-0.0
    (map source_of c.loop.sources.items) c.args.count c.loop.counter c.loop.rest.now
    (items_at source_at c.args.count c.args.bytes.now) c.loop-test.true c.in_err-source.ensures c.loop.invariant)

pub loop-preserved : goal.loop-preserved
loop-preserved c =
    let read = c.in_ok-source.source in
    let e : map source_of c.push.new.self.items ≡ map source_of c.loop.sources.items ++ source_of read ∷ [] =
    rw c.in_ok-push.ensures.items (map_push _ c.loop.sources.items read) in
    rw e (goes_on source_at (map source_of c.loop.sources.items) c.args.count c.loop.counter c.loop.rest.now
    (source_of read) c.in_ok-source.after.now
    (items_at source_at c.args.count c.args.bytes.now) c.loop-test.true c.in_ok-source.ensures c.loop.invariant)

pub returns : goal.returns
returns c = is_done source_at (map source_of c.loop.sources.items) c.args.count c.loop.counter c.loop.rest.now
    (items_at source_at c.args.count c.args.bytes.now) c.loop-test.false c.loop.invariant
