use Rattle.std.proofs.Common.{◌∷◌, [], refl, arith}
use Rattle.wh_filed.specs.Filed.{partitions_at}
use Rattle.wh_state.specs.Edits.{touched}
use Rattle.wh_version.specs.Lasting.{filed_in}
use Rattle.wh_version.proofs.Kept.{holds}
use Rattle.wh_version.proofs.Steps.{one_on, all_on}
use Rattle.wh_version.proofs.Touched.{touched_of, each_touched}
use Rattle.wh_version.proofs.touching.candidates.Goals as goal

pub loop-one-preserved : goal.loop-one-preserved
loop-one-preserved c =
    let edits = c.args.edits.now in
    let kept = c.args.kept.now in
    let at = c.loop-one in
    let now = c.add_candidate.new.found.items in (
      one_on (λ k. touched_of edits (k ∷ [])) (touched_of edits) (each_touched edits) kept at.one-index
          c.one-item.result (touched edits (partitions_at at.found.items)) (touched edits (partitions_at now))
          (touched_of edits kept) (omega arith) c.one-item.is c.in_ok-add_candidate.ensures.touched at.invariant.0,
      c.in_ok-add_candidate.ensures.among (filed_in kept)
          (holds kept at.one-index c.one-item.result (omega arith) c.one-item.is) at.invariant.1,
    )

pub returns-clause-touched : goal.returns-clause-touched
returns-clause-touched c =
    let edits = c.args.edits.now in
    let kept = c.args.kept.now in
    let at = c.loop-one in
    all_on (λ k. touched_of edits (k ∷ [])) (touched_of edits) refl kept at.one-index
    (touched edits (partitions_at at.found.items)) (touched_of edits kept) (omega arith) at.invariant.0
