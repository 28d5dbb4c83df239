use Rattle.std.proofs.Common.{[], refl, rules, ◌∙◌, ◌≤◌, arith}
use Rattle.wh_filed.specs.Filed.{filed_at}
use Rattle.wh_filed.specs.Fetching.{AllShownBy}
use Rattle.wh_filed.specs.Asking.{names_at}
use Rattle.wh_filed.proofs.FetchingLaws.{still_covered}
use Rattle.wh_filed.proofs.AskingLaws.{none_among, among_all}
use Rattle.wh_exec.proofs.PartLaws.{meant-none}
use Rattle.wh_exec.proofs.BatchLaws.{batch, shown_part, covered_part, batch_more, batch_lacks, batch_asked}
use Rattle.wh_exec.proofs.scan.scan_filed.Given.{Over}
use Rattle.wh_exec.proofs.scan.scan_filed.Goals.{After-scan_batch}
use Rattle.wh_exec.proofs.scan.scan_filed.Goals as goal

pub loop-at-init : goal.loop-at-init
loop-at-init g c = record {
  within = omega arith;
  covered = c.requires;
  fed = λ all. meant-none c.args.steps.now c.args.sink.now;
  sound = λ all. refl;
  asks = none_among [] (g.F.Fetch.asked c.args.fetch.now);
  same = refl;
  goes = g.met.F.Fetch.stays_so c.args.fetch.now;
  counted = refl;
}

pub scan_batch-requires : goal.scan_batch-requires
scan_batch-requires g c = (
  c.type_bounds.sync-R,
  covered_part c.args.filed.now c.loop-at.at c.batch_end-end.result (g.F.Fetch.covers c.loop-at.fetch)
      c.loop-at.invariant.covered,
)

module _ (g : Over) (c : After-scan_batch g) where
  le : c.loop-at.at ≤ c.batch_end-end.result
  le = omega (arith, c.batch_end-end.ensures.more)

  shown : AllShownBy (g.F.Fetch.contents c.args.fetch.now) (filed_at c.args.filed.now)
      → AllShownBy (g.F.Fetch.contents c.loop-at.fetch)
      (filed_at (batch c.args.filed.now c.loop-at.at c.batch_end-end.result))
  shown = shown_part c.args.filed.now c.loop-at.at c.batch_end-end.result (g.F.Fetch.contents c.args.fetch.now)
      (g.F.Fetch.contents c.loop-at.fetch) c.loop-at.invariant.same

pub loop-at-preserved : goal.loop-at-preserved
loop-at-preserved g c =
    let at = c.loop-at in
    let here = (goal.at.loop-at-preserved g c).After-scan_batch in
    let end = c.batch_end-end.result in
    let feeds = rw c.in-Some.is at c.in_ok-scan_batch.ensures.feeds in
    let goes = c.in_ok-scan_batch.ensures.goes in
    record {
      within = c.batch_end-end.ensures.within;
      covered = still_covered _ _ (filed_at c.args.filed.now) (λ part. g.met.F.Fetch.covers_on _ _ part goes)
          at.invariant.covered;
      fed = λ all. batch_more c.args.filed.now at.at end (le g here) c.args.steps.now (at.invariant.fed all)
          (feeds (shown g here all));
      sound = λ all. c.in_ok-scan_batch.ensures.sound (shown g here all) ∙ at.invariant.sound all;
      asks = batch_asked c.args.filed.now at.at end (le g here) _ _ _ at.invariant.asks c.in_ok-scan_batch.ensures.asks;
      same = search rules;
      goes = g.met.F.Fetch.stays_on _ _ _ at.invariant.goes goes;
      counted = search rules;
    }

pub returns-in_err-scan_batch-clause-sound : goal.returns-in_err-scan_batch-clause-sound
returns-in_err-scan_batch-clause-sound g c all =
    c.in_err-scan_batch.ensures.sound (shown g (goal.at.returns-in_err-scan_batch-clause-sound g c).After-scan_batch all)
    ∙ c.loop-at.invariant.sound all

pub returns-in_default-clause-feeds : goal.returns-in_default-clause-feeds
returns-in_default-clause-feeds g c all =
    let at = c.loop-at in
    let here = (goal.at.returns-in_default-clause-feeds g c).After-scan_batch in
    batch_lacks c.args.filed.now at.at c.batch_end-end.result (le g here) c.args.steps.now (at.invariant.fed all)
    ((rw c.in_default.is at c.in_ok-scan_batch.ensures.feeds) (shown g here all))

pub returns-in_default-clause-sound : goal.returns-in_default-clause-sound
returns-in_default-clause-sound g c all =
    c.in_ok-scan_batch.ensures.sound (shown g (goal.at.returns-in_default-clause-sound g c).After-scan_batch all)
    ∙ c.loop-at.invariant.sound all

pub returns-in_default-clause-asks : goal.returns-in_default-clause-asks
returns-in_default-clause-asks g c =
    let here = (goal.at.returns-in_default-clause-asks g c).After-scan_batch in
    among_all c.batch_end-end.result (names_at c.args.filed.now) _ _
    (batch_asked c.args.filed.now c.loop-at.at c.batch_end-end.result (le g here) _ _ _ c.loop-at.invariant.asks
    c.in_ok-scan_batch.ensures.asks)

pub returns-clause-asks : goal.returns-clause-asks
returns-clause-asks g c = among_all c.loop-at.at (names_at c.args.filed.now) _ _ c.loop-at.invariant.asks
