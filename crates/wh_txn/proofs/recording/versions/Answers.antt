use Rattle.std.proofs.Common.{◌≡◌, ℕ, List, Option, Some, Err, refl, sym, ap, subst, ◌∙◌, rules}
use Rattle.std.proofs.lemmas.Result.{IfOk-from_err}
use Rattle.wh_fetch.specs.DiskFetch.{goes_none, goes_on}
use Rattle.wh_filed.specs.Filed.{Filed, AllShown}
use Rattle.wh_catalog.specs.Catalog.{filed_of}
use Rattle.wh_txn.specs.declared.fault.RecordFault.{RecordFault}
use Rattle.wh_txn.specs.Recording.{AreRead}
use Rattle.wh_txn.proofs.VersionLemmas.{none_yet, one_within, one_more, limit_found, all_made, all_within}
use Rattle.wh_txn.proofs.recording.versions.Goals as goal

pub loop-one-init : goal.loop-one-init
loop-one-init g c = record {
  right = c.requires.right;
  versions = none_yet _ _ _ _ _ _ _ _ c.into_iter-one-iterator.ensures.into_iter_gives.0 (search rules)
      c.new-changes.ensures.items c.requires.within;
  read = subst (λ changes. AreRead changes) (sym c.new-changes.ensures.items) tt;
  same = refl;
  sound = λ _. refl;
  goes = goes_none g.D.Disk _;
  counted = refl;
}

pub add_version-requires : goal.add_version-requires
add_version-requires g c = record {
  right = c.loop-one.invariant.right;
  within = one_within _ _ _ _ _ _ _ _ c.loop-one.invariant.versions _ _ c.in-Some.ensures.steps.0;
}

-- what was shown at first is shown of the disk that the next version is made over
shown_still : (filed : List Filed) {then now : Option (List ℕ)} → now ≡ then → AllShown then filed → AllShown now filed
shown_still filed same shown = subst (λ (told : Option (List ℕ)). AllShown told filed) (sym same) shown

pub loop-one-preserved : goal.loop-one-preserved
loop-one-preserved g c =
    let before = c.loop-one.invariant in
    let called = c.in_ok-add_version.ensures in
    record {
      right = called.goes.right before.right;
      versions = one_more _ _ _ _ _ _ _ _ before.versions _ _ c.in-Some.ensures.steps.0 _ _
          c.in-Some.ensures.steps.1
          (λ shown. (called.adds (shown_still (filed_of c.args.catalog.now) before.same shown)).made)
          (λ shown. (called.adds (shown_still (filed_of c.args.catalog.now) before.same shown)).within);
      read = called.read before.read;
      same = called.same ∙ before.same;
      sound = λ shown. called.sound (shown_still (filed_of c.args.catalog.now) before.same shown) ∙ before.sound shown;
      goes = goes_on g.D.Disk _ _ _ before.goes called.goes;
      counted = called.counts ∙ before.counted;
    }

pub returns-clause-gives : goal.returns-clause-gives
returns-clause-gives g c = λ shown. record {
  made = all_made _ _ _ _ _ _ _ _ c.loop-one.invariant.versions c.in-None.ensures.steps.0 shown;
  within = all_within _ _ _ _ _ _ _ _ c.loop-one.invariant.versions c.in-None.ensures.steps.0 shown;
  limit = λ id which is. absurd cc;
}

pub returns-in_err-add_version-clause-gives : goal.returns-in_err-add_version-clause-gives
returns-in_err-add_version-clause-gives g c = λ shown. record {
  made = IfOk-from_err c.from_residual.result _ c.from_residual.ensures.0;
  within = IfOk-from_err c.from_residual.result _ c.from_residual.ensures.0;
  limit = λ id which is.
      let same = rw is at c.from_residual.ensures.1 in
      let there = shown_still (filed_of c.args.catalog.now) c.loop-one.invariant.same shown in
      let added = c.in_err-add_version.ensures.adds there in
      let found = added.limit id which (ap (λ (fault : RecordFault). Err fault) (sym same)) in
      limit_found _ _ _ _ _ _ _ _ c.loop-one.invariant.versions _ _ c.in-Some.ensures.steps.0 shown found.2
      ∙ (λ i. Some (sym found.0 i, sym found.1 i));
}

pub returns-in_err-add_version-clause-goes : goal.returns-in_err-add_version-clause-goes
returns-in_err-add_version-clause-goes g c =
    goes_on g.D.Disk _ _ _ c.loop-one.invariant.goes c.in_err-add_version.ensures.goes
