use Rattle.std.proofs.Common.{◌≡◌, ◌++◌, ◌∷◌, [], map}
use Rattle.std.proofs.lemmas.Result.{err_from_is_err_and}
use Rattle.std.proofs.lemmas.List.{map_push}
use Rattle.wh_part.specs.Extent.{extent_of}
use Rattle.wh_part.specs.Skim.{start_at, starts_at}
use Rattle.wh_part.proofs.Loops.{goes_on, ends, is_done}
use Rattle.wh_part.proofs.skimming.start_each.Goals as goal

pub returns-in_err-extent : goal.returns-in_err-extent
returns-in_err-extent c =
    let p = err_from_is_err_and c.from_residual.result c.from_residual.ensures.1 in
    rw (p.1, p.2) (ends start_at c.in_err-extent.field-0.0 (map extent_of c.loop.extents.items) c.args.width
    c.loop.counter c.loop.rest.now (starts_at c.args.width c.args.bytes.now) c.loop-test.true
    c.in_err-extent.ensures c.loop.invariant)

pub loop-preserved : goal.loop-preserved
loop-preserved c =
    let read = c.in_ok-extent.extent in
    let e : map extent_of c.push.new.self.items ≡ map extent_of c.loop.extents.items ++ extent_of read ∷ [] =
    rw c.in_ok-push.ensures.items (map_push _ c.loop.extents.items read) in
    rw e (goes_on start_at (map extent_of c.loop.extents.items) c.args.width c.loop.counter c.loop.rest.now
    (extent_of read) c.in_ok-extent.after.now (starts_at c.args.width c.args.bytes.now)
    c.loop-test.true c.in_ok-extent.ensures c.loop.invariant)

pub returns : goal.returns
returns c = is_done start_at (map extent_of c.loop.extents.items) c.args.width c.loop.counter c.loop.rest.now
    (starts_at c.args.width c.args.bytes.now) c.loop-test.false c.loop.invariant
