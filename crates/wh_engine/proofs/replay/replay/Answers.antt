use Rattle.std.proofs.Common.{Some, Err, ap, sym, subst, ◌∙◌, arith, rules}
use Rattle.wh_filed.specs.Filed.{AllShown}
use Rattle.wh_catalog.specs.Catalog.{stored_of, filed_of}
use Rattle.wh_engine.proofs.HaltLemmas.{same_fault}
use Rattle.wh_engine.proofs.ReplayLemmas.{replayed_more, replayed_all, stray_found, still_listed, still_shown}
use Rattle.wh_engine.proofs.ReplayLemmas.{reads_none, reads_then}
use Rattle.wh_engine.proofs.replay.replay.Goals as goal

pub loop-at-init : goal.loop-at-init
loop-at-init g c = record {
  replayed = search rules;
  shown = λ payloads listed image same. subst (AllShown (Some image)) (sym c.new-catalog.ensures.filed) tt;
  means = search rules;
  reads = reads_none g.D.Disk g.met.D.Disk.only_now c.args.disk.now;
  no_fault = search rules;
}

pub loop-at-preserved : goal.loop-at-preserved
loop-at-preserved g c = record {
  replayed = λ payloads listed.
      replayed_more payloads (stored_of c.loop-at.catalog) (stored_of c.replay_at.new.catalog) c.loop-at.at
      (c.loop-at.invariant.replayed payloads listed) (c.in_ok-replay_at.ensures.carried payloads
      (still_listed _ _ c.args.journal.now payloads c.loop-at.invariant.reads.same.0 listed));
  shown =
      let same = c.loop-at.invariant.reads.same.0 in
      let first = g.D.Disk.bytes c.args.disk.now in
      let now = g.D.Disk.bytes c.loop-at.disk in
      still_shown now first c.args.journal.now (filed_of c.replay_at.new.catalog) (sym same)
      (c.in_ok-replay_at.ensures.shown
      (still_shown first now c.args.journal.now (filed_of c.loop-at.catalog) same c.loop-at.invariant.shown));
  means = c.in_ok-replay_at.ensures.means;
  reads = reads_then g.D.Disk g.met.D.Disk.only_now c.args.disk.now c.loop-at.disk c.replay_at.new.disk
      c.loop-at.invariant.reads c.replay_at.ensures.reads;
  no_fault = c.in_ok-replay_at.ensures.counts.no_fault ∙ c.loop-at.invariant.no_fault;
}

pub returns-in_err-replay_at-clause-strays : goal.returns-in_err-replay_at-clause-strays
returns-in_err-replay_at-clause-strays g c = λ at stray payloads listed.
    let fault = same_fault c.from_residual.result c.in_err-replay_at.field-0.0 _ c.from_residual.ensures.1 stray in
    stray_found payloads (stored_of c.loop-at.catalog) c.loop-at.at at
    (c.loop-at.invariant.replayed payloads listed) (c.in_err-replay_at.ensures.strays at (ap Err fault) payloads
    (still_listed _ _ c.args.journal.now payloads c.loop-at.invariant.reads.same.0 listed))

pub returns-in_err-replay_at-clause-reads : goal.returns-in_err-replay_at-clause-reads
returns-in_err-replay_at-clause-reads g c =
    reads_then g.D.Disk g.met.D.Disk.only_now c.args.disk.now c.loop-at.disk c.replay_at.new.disk
    c.loop-at.invariant.reads c.replay_at.ensures.reads

pub returns-clause-led : goal.returns-clause-led
returns-clause-led g c = λ payloads listed.
    replayed_all payloads c.args.journal.now c.loop-at.at (stored_of c.loop-at.catalog) listed.lists
    (omega (arith, c.count-at-end.ensures)) (c.loop-at.invariant.replayed payloads listed)
