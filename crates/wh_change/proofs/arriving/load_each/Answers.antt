use Rattle.std.proofs.Common.{rules, List, ℕ, Option, sym, subst, ◌∙◌}
use Rattle.wh_fetch.specs.DiskFetch.{told_of, goes_on}
use Rattle.wh_filed.specs.Filed.{AllShown, filed_at}
use Rattle.wh_change.specs.Appended.{EachShown}
use Rattle.wh_change.proofs.Loading.{shown_at, arrived_more}
use Rattle.wh_change.proofs.arriving.load_each.Goals as goal

pub loop-arrivals-preserved : goal.loop-arrivals-preserved
loop-arrivals-preserved g c =
    let at = c.loop-arrivals in
    let one = c.in_ok-arrived.ensures in
    let here : EachShown (told_of g.D.Disk c.args.fetch.now) c.args.later.now
    → AllShown (told_of g.D.Disk at.fetch) (filed_at c.arrivals-item.result.came.items)
    = λ each. subst (λ (told : Option (List ℕ)). AllShown told (filed_at c.arrivals-item.result.came.items))
    (sym at.invariant.same)
    (shown_at (told_of g.D.Disk c.args.fetch.now) c.args.later.now at.arrivals-index c.arrivals-item.result
    c.loop-arrivals-test.true c.arrivals-item.is each) in
    record {
      right = one.goes.right at.invariant.right;
      loaded = λ each. arrived_more c.args.later.now at.arrivals-index c.arrivals-item.result at.found.items
          c.push.new.self.items c.in_ok-arrived.arrived c.loop-arrivals-test.true c.arrivals-item.is
          c.in_ok-push.ensures.items (at.invariant.loaded each) (one.loaded (here each));
      sound = λ each. one.sound (here each) ∙ at.invariant.sound each;
      same = search rules;
      goes = goes_on g.D.Disk _ _ _ at.invariant.goes one.goes;
      counted = search rules;
    }

pub returns-in_err-arrived-clause-goes : goal.returns-in_err-arrived-clause-goes
returns-in_err-arrived-clause-goes g c =
    goes_on g.D.Disk _ _ _ c.loop-arrivals.invariant.goes c.in_err-arrived.ensures.goes

pub returns-in_err-push-clause-goes : goal.returns-in_err-push-clause-goes
returns-in_err-push-clause-goes g c =
    goes_on g.D.Disk _ _ _ c.loop-arrivals.invariant.goes c.in_ok-arrived.ensures.goes
