use Rattle.std.proofs.Common.{◌∙◌, ◌≡◌, ◌<◌, ap, arith, length, map}
use Rattle.std.proofs.lemmas.List.{length-set}
use Rattle.std.proofs.lemmas.Result.{err_from_is_err_and}
use Rattle.wh_part.specs.Extent.{extent_of, seen_value}
use Rattle.wh_part.specs.Skim.{absorbs_at}
use Rattle.wh_part.proofs.AbsorbLaws.{absorbed_more, absorbed_all, absorbed_fails}
use Rattle.wh_part.proofs.skimming.absorb_each.Goals as goal

pub returns-in_err-seen : goal.returns-in_err-seen
returns-in_err-seen c =
    let p = err_from_is_err_and c.from_residual.result c.from_residual.ensures.1 in
    rw (p.1, p.2) (absorbed_fails c.in_err-seen.field-0.0 c.loop-place.extents c.loop-place.place c.loop-place.rest.now
    (absorbs_at (map extent_of c.args.extents.now) c.args.bytes.now)
    (omega (arith, c.loop-place-test.true, c.loop-place.invariant.count)) c.in_err-seen.ensures c.loop-place.invariant.read)

pub loop-place-preserved : goal.loop-place-preserved
loop-place-preserved c =
    record {
      count = length-set c.loop-place.extents c.loop-place.place c.absorb.new.extent ∙ c.loop-place.invariant.count;
      read = absorbed_more c.loop-place.extents c.loop-place.place _ c.absorb.new.extent c.loop-place.rest.now
          c.in_ok-seen.after.now (seen_value c.in_ok-seen.seen)
          (absorbs_at (map extent_of c.args.extents.now) c.args.bytes.now)
          (omega (arith, c.loop-place-test.true, c.loop-place.invariant.count)) c.in_ok-seen.ensures c.absorb.ensures
          c.loop-place.invariant.read;
    }

pub returns : goal.returns
returns c =
    absorbed_all c.loop-place.extents c.loop-place.place c.loop-place.rest.now
    (absorbs_at (map extent_of c.args.extents.now) c.args.bytes.now)
    (omega (arith, c.loop-place-test.false, c.loop-place.invariant.count)) c.loop-place.invariant.read
