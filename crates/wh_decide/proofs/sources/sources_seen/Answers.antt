use Rattle.std.proofs.Common.{rules, ◌∙◌, ℕ, refl, get_or, is_some}
use Rattle.wh_fetch.specs.DiskFetch.{goes_on}
use Rattle.wh_state.specs.Objects.{stream_at}
use Rattle.wh_catalog.specs.Catalog.{stored_of, filed_of}
use Rattle.wh_machine.specs.Reading.{rows_read, start_in}
use Rattle.wh_plan.proofs.ListLaws.{mapped_next, among_next}
use Rattle.wh_decide.specs.Sight.{machine_in}
use Rattle.wh_decide.specs.Sources.{filed_by, is_stream}
use Rattle.wh_decide.proofs.ReadyLemmas.{still_shown}
use Rattle.wh_decide.proofs.SourceLemmas.{seen_next}
use Rattle.wh_decide.proofs.AskLemmas.{moved_more}
use Rattle.wh_decide.proofs.sources.sources_seen.Goals as goal

pub loop-id-preserved : goal.loop-id-preserved
loop-id-preserved g c =
    let sight = c.args.sight.now in
    let at = c.loop-id in record {
      right = c.in_ok-source.ensures.goes.right at.invariant.right;
      seen = λ shown. seen_next (rows_read (machine_in sight) sight.session) c.args.ids.now at.id-index at.seen.items _
          c.in_ok-source.source c.loop-id-test.true c.in_ok-push.ensures.items (at.invariant.seen shown)
          (c.in_ok-source.ensures.seen (still_shown sight at.invariant.same shown));
      among = among_next filed_by (filed_of sight.catalog.now) at.seen.items _ c.in_ok-source.source
          c.in_ok-push.ensures.items at.invariant.among c.in_ok-source.ensures.among;
      streams = mapped_next is_stream (λ (id : ℕ). is_some (stream_at (stored_of sight.catalog.now).objects id))
          c.args.ids.now at.id-index at.seen.items _ c.in_ok-source.source (get_or c.args.ids.now at.id-index 0) 0
          c.loop-id-test.true refl c.in_ok-push.ensures.items at.invariant.streams c.in_ok-source.ensures.stream;
      asks = moved_more sight.catalog.now (start_in (machine_in sight) sight.session) c.args.ids.now at.id-index 0
          _ _ _ c.loop-id-test.true at.invariant.asks c.source_seen.ensures.asks;
      sound = λ shown. c.in_ok-source.ensures.sound (still_shown sight at.invariant.same shown)
          ∙ at.invariant.sound shown;
      same = search rules;
      goes = goes_on g.D.Disk _ _ _ at.invariant.goes c.in_ok-source.ensures.goes;
      counted = search rules;
    }

pub returns-in_err-source-clause-sound : goal.returns-in_err-source-clause-sound
returns-in_err-source-clause-sound g c = λ shown.
    c.in_err-source.ensures.sound (still_shown c.args.sight.now c.loop-id.invariant.same shown)
    ∙ c.loop-id.invariant.sound shown

pub returns-in_err-source-clause-goes : goal.returns-in_err-source-clause-goes
returns-in_err-source-clause-goes g c =
    goes_on g.D.Disk _ _ _ c.loop-id.invariant.goes c.in_err-source.ensures.goes

pub returns-in_err-push-clause-sound : goal.returns-in_err-push-clause-sound
returns-in_err-push-clause-sound g c = λ shown.
    c.in_ok-source.ensures.sound (still_shown c.args.sight.now c.loop-id.invariant.same shown)
    ∙ c.loop-id.invariant.sound shown

pub returns-in_err-push-clause-goes : goal.returns-in_err-push-clause-goes
returns-in_err-push-clause-goes g c =
    goes_on g.D.Disk _ _ _ c.loop-id.invariant.goes c.in_ok-source.ensures.goes

pub returns-in_err-source-clause-asks : goal.returns-in_err-source-clause-asks
returns-in_err-source-clause-asks g c =
    let sight = c.args.sight.now in
    moved_more sight.catalog.now (start_in (machine_in sight) sight.session) c.args.ids.now c.loop-id.id-index 0
    _ _ _ c.loop-id-test.true c.loop-id.invariant.asks c.source_seen.ensures.asks

pub returns-in_err-push-clause-asks : goal.returns-in_err-push-clause-asks
returns-in_err-push-clause-asks g c =
    let sight = c.args.sight.now in
    moved_more sight.catalog.now (start_in (machine_in sight) sight.session) c.args.ids.now c.loop-id.id-index 0
    _ _ _ c.loop-id-test.true c.loop-id.invariant.asks c.source_seen.ensures.asks
