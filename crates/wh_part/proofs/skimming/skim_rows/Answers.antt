use Rattle.std.proofs.Common.{◌+◌, map}
use Rattle.std.proofs.lemmas.Result.{err_from_is_err_and}
use Rattle.wh_part.specs.Extent.{extent_of}
use Rattle.wh_part.specs.Skim.{skims_at}
use Rattle.wh_part.proofs.AbsorbLaws.{skimmed_more, skimmed_fails, skimmed_all}
use Rattle.wh_part.proofs.skimming.skim_rows.Goals as goal

pub returns-in_err-number : goal.returns-in_err-number
returns-in_err-number c =
    let p = err_from_is_err_and c.from_residual.result c.from_residual.ensures.1 in
    rw (p.1, p.2) (skimmed_fails c.in_err-number.field-0.0 c.args.count c.loop.counter (c.loop.last + 1)
    (map extent_of c.loop.extents) c.loop.rest.now
    (skims_at c.args.count (c.args.first + 1) (map extent_of c.args.extents.now) c.args.bytes.now) c.loop-test.true
    c.in_err-number.ensures c.loop.invariant)

pub loop-preserved : goal.loop-preserved
loop-preserved c =
    skimmed_more c.args.count c.loop.counter (c.loop.last + 1) (c.in_ok-number.number + 1)
    (map extent_of c.loop.extents) (map extent_of c.skim_row.new.extents) c.loop.rest.now c.in_ok-number.after.now
    (skims_at c.args.count (c.args.first + 1) (map extent_of c.args.extents.now) c.args.bytes.now) c.loop-test.true
    c.in_ok-number.ensures c.loop.invariant

pub returns : goal.returns
returns c =
    skimmed_all c.args.count c.loop.counter (c.loop.last + 1) (map extent_of c.loop.extents) c.loop.rest.now
    (skims_at c.args.count (c.args.first + 1) (map extent_of c.args.extents.now) c.args.bytes.now) c.loop-test.false
    c.loop.invariant
