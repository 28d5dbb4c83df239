use Rattle.std.proofs.Common.{[], Some, refl, sym, ap, rules, ◌∙◌}
use Rattle.wh_filed.specs.Filed.{filed_at, partitions_at}
use Rattle.wh_filed.specs.Fetching.{IsShownBy, AllShownBy, IsCovered}
use Rattle.wh_filed.specs.Asking.{names_at}
use Rattle.wh_filed.proofs.FetchingLaws.{at_place, shown_now, still_covered}
use Rattle.wh_filed.proofs.AskingLaws.{none_among, among_next, among_all}
use Rattle.wh_meaning.specs.Bag.{beside, bag_of}
use Rattle.wh_exec.specs.Step.{through}
use Rattle.wh_exec.proofs.PartLaws.{filed_there, part_met, values_of}
use Rattle.wh_exec.proofs.scan.load.Given.{Over}
use Rattle.wh_exec.proofs.scan.load.Goals.{After-load_one}
use Rattle.wh_exec.proofs.scan.load.Goals as goal

pub loop-one-init : goal.loop-one-init
loop-one-init g c = record {
  covered = c.requires;
  loaded = search rules;
  sound = λ all. refl;
  asks = none_among [] (g.F.Fetch.asked c.args.fetch.now);
  same = refl;
  goes = g.met.F.Fetch.stays_so c.args.fetch.now;
  counted = refl;
}

pub load_one-requires : goal.load_one-requires
load_one-requires g c =
    let at = c.loop-one in
    at_place (IsCovered (g.F.Fetch.covers at.fetch)) c.args.filed.now at.one-index c.one-item.result
    c.loop-one-test.true c.one-item.is at.invariant.covered

module _ (g : Over) (c : After-load_one g) where
  shown : AllShownBy (g.F.Fetch.contents c.args.fetch.now) (filed_at c.args.filed.now)
      → IsShownBy (g.F.Fetch.contents c.loop-one.fetch) c.one-item.result.now
  shown =
      shown_now (g.F.Fetch.contents c.args.fetch.now) (g.F.Fetch.contents c.loop-one.fetch) c.loop-one.invariant.same
      c.args.filed.now c.loop-one.one-index c.one-item.result c.loop-one-test.true c.one-item.is

pub loop-one-preserved : goal.loop-one-preserved
loop-one-preserved g c =
    let at = c.loop-one in
    let one = shown g (goal.at.loop-one-preserved g c).After-load_one in
    let there = filed_there c.args.filed.now at.one-index c.one-item.result c.loop-one-test.true c.one-item.is in
    let p = c.one-item.result.now.partition in
    let goes = c.in_ok-load_one.ensures.goes in
    record {
      covered = still_covered _ _ (filed_at c.args.filed.now) (λ part. g.met.F.Fetch.covers_on _ _ part goes)
          at.invariant.covered;
      loaded = λ all. c.in_ok-load_one.ensures.loaded (one all)
          ∙ ap (λ found. beside found (through c.args.steps.now (Some (bag_of (values_of p))))) (at.invariant.loaded all)
          ∙ sym (part_met c.args.steps.now (partitions_at c.args.filed.now) at.one-index p there.within there.at);
      sound = λ all. c.in_ok-load_one.ensures.sound (one all) ∙ at.invariant.sound all;
      asks = among_next c.args.filed.now at.one-index c.one-item.result c.loop-one-test.true c.one-item.is _ _ _
          at.invariant.asks c.in_ok-load_one.ensures.asks;
      same = search rules;
      goes = g.met.F.Fetch.stays_on _ _ _ at.invariant.goes goes;
      counted = search rules;
    }

pub returns-in_err-load_one-clause-sound : goal.returns-in_err-load_one-clause-sound
returns-in_err-load_one-clause-sound g c all =
    c.in_err-load_one.ensures.sound (shown g (goal.at.returns-in_err-load_one-clause-sound g c).After-load_one all)
    ∙ c.loop-one.invariant.sound all

pub returns-clause-asks : goal.returns-clause-asks
returns-clause-asks g c = among_all c.loop-one.one-index (names_at c.args.filed.now) _ _ c.loop-one.invariant.asks
