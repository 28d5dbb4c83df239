use Rattle.std.proofs.Common.{◌≡◌, ℕ, List, [], ◌∷◌, ◌++◌, ◌<◌, length, Option, Some, Err, refl, ap, sym, subst, ◌∙◌}
use Rattle.std.proofs.Common.{arith, rules}
use Rattle.wh_frame.specs.File.{header}
use Rattle.wh_world.specs.Told.{Rose}
use Rattle.wh_world.specs.Crash.{Only}
use Rattle.wh_state.specs.Fault.{IsFirstFault}
use Rattle.wh_journal.specs.Crash.{IsKeptOrShort}
use Rattle.wh_journal.specs.Opening.{LeavesKept}
use Rattle.wh_journal.proofs.CrashLemmas.{both, weaker}
use Rattle.wh_catalog.specs.Catalog.{stored_of}
use Rattle.wh_engine.specs.Warehouse.{Filed}
use Rattle.wh_journal.specs.Fault.{fault_of_read}
use Rattle.wh_engine.specs.Opening.{FailsToOpen}
use Rattle.wh_journal.specs.declared.fault.OpenFault.TheVariants.{OutOfMemory, NotWarehouse}
use Rattle.wh_engine.proofs.HaltLemmas.{passed_on}
use Rattle.wh_engine.proofs.OpenLemmas.{begun_file, opened, filed, gate_ends, fault_first, stray_first, left_by_opening}
use Rattle.wh_engine.proofs.OpenLemmas.{unread, fails}
use Rattle.wh_engine.proofs.open.read.Given.{Over}
use Rattle.wh_engine.proofs.open.read.Goals.{After-replay}
use Rattle.wh_engine.proofs.open.read.Goals as goal

module _ (g : Over) (c : After-replay g) where
  -- what the replay reads is on the disk, and stays so
  kept : (file : List ℕ) → g.D.Disk.bytes c.recover.new.disk ≡ Some file
      → Only file (g.D.Disk.may_leave c.replay.new.disk)
  kept file told =
      λ image left. c.in_ok-journal.ensures.durable file told image (c.replay.ensures.reads.crash image left)

  any_moment : LeavesKept g.D.Disk c.args.disk.now c.replay.new.disk
  any_moment file told only =
      let mid = c.recover.new.disk in
      let left = left_by_opening (g.D.Disk.bytes c.args.disk.now)
      (g.D.Disk.bytes mid) c.in_ok-journal.journal c.in_ok-journal.fault (g.D.Disk.may_leave mid)
      c.in_ok-journal.ensures.short c.in_ok-journal.ensures.long c.in_ok-journal.ensures.durable file told in
      both g.D.Disk.moment g.D.Disk.left_since c.args.disk.now mid c.replay.new.disk (IsKeptOrShort file)
      (c.recover.ensures.any_moment file told only)
      (weaker g.D.Disk.moment g.D.Disk.left_since mid c.replay.new.disk (g.D.Disk.may_leave mid)
      (IsKeptOrShort file) left c.replay.ensures.reads.any_moment)

  -- the first fault of a longer file, which stays
  stays : (at : ℕ) (file : List ℕ)
      → (8 < length file) × IsFirstFault file at × (g.D.Disk.bytes c.recover.new.disk ≡ Some file)
      → (8 < length file) × IsFirstFault file at × (g.D.Disk.bytes c.replay.new.disk ≡ Some file)
      × Only file (g.D.Disk.may_leave c.replay.new.disk)
  stays at file first = (first.0, first.1, c.replay.ensures.reads.same.0 ∙ first.2, kept file first.2)

pub returns-in_err-journal-clause-refused : goal.returns-in_err-journal-clause-refused
returns-in_err-journal-clause-refused g c =
    passed_on c.from_residual.result (fault_of_read c.in_err-journal.field-0.0)
    (λ fault. FailsToOpen g.D.Disk c.args.disk.now c.recover.new.disk fault) c.from_residual.ensures.1
    (unread g.D.Disk c.args.disk.now c.recover.new.disk _ c.in_err-journal.field-0.0 refl c.recover.ensures.any_moment
    c.in_err-journal.ensures.counts)

-- a record that strays, or a fault of reading
pub returns-in_err-catalog-clause-refused : goal.returns-in_err-catalog-clause-refused
returns-in_err-catalog-clause-refused g c =
    let after = (goal.at.returns-in_err-catalog-clause-refused g c).After-replay in
    let failed = c.in_err-catalog.ensures in
    let same = c.in_ok-journal.ensures.counts.no_fault in
    passed_on c.from_residual-in_err-catalog.result c.in_err-catalog.field-0.0
    (λ fault. FailsToOpen g.D.Disk c.args.disk.now c.replay.new.disk fault) c.from_residual-in_err-catalog.ensures.1
    (record {
      not_warehouse = λ at file is told. stays g after at file (stray_first (g.D.Disk.bytes c.args.disk.now)
          (g.D.Disk.bytes c.recover.new.disk) c.in_ok-journal.journal c.in_ok-journal.fault at
          c.in_ok-journal.ensures.short c.in_ok-journal.ensures.long
          (failed.some at (ap Err is)) (failed.strays at (ap Err is)) file told);
      unfailed = λ at is. failed.unfailed at (ap Err is) ∙ same;
      memory = λ is. failed.counts.starved (ap Err is) ∙ same;
      disk_fault = λ is. subst (λ (n : ℕ). Rose n (g.D.Disk.faults c.replay.new.disk)) same
          (failed.counts.disk_fault (ap Err is));
      later = omega (arith, same, c.replay.ensures.counts.later);
      any_moment = any_moment g after;
    })

-- the fault that the file breaks off at
pub returns-in-Some-clause-refused : goal.returns-in-Some-clause-refused
returns-in-Some-clause-refused g c =
    let after = (goal.at.returns-in-Some-clause-refused g c).After-replay in
    fails g.D.Disk c.args.disk.now c.replay.new.disk (NotWarehouse c.in-Some.at) (λ disk. cc)
    (c.in_ok-catalog.ensures.counts.no_fault ∙ c.in_ok-journal.ensures.counts.no_fault) (any_moment g after)
    (λ at is file told.
    let found : c.in_ok-journal.fault ≡ Some at = c.in-Some.is ∙ ap Some cc in
    stays g after at file (fault_first (g.D.Disk.bytes c.args.disk.now) (g.D.Disk.bytes c.recover.new.disk)
    c.in_ok-journal.journal c.in_ok-journal.fault at (stored_of c.in_ok-catalog.catalog)
    found c.in_ok-journal.ensures.short c.in_ok-journal.ensures.long c.in_ok-catalog.ensures.led file told))

pub returns-in_err-sessions-in-None-clause-refused : goal.returns-in_err-sessions-in-None-clause-refused
returns-in_err-sessions-in-None-clause-refused g c =
    passed_on c.from_residual-in_err-sessions-in-None.result OutOfMemory
    (λ fault. FailsToOpen g.D.Disk c.args.disk.now c.replay.new.disk fault)
    c.from_residual-in_err-sessions-in-None.ensures.1
    (fails g.D.Disk c.args.disk.now c.replay.new.disk OutOfMemory (λ disk. cc)
    (c.in_ok-catalog.ensures.counts.no_fault ∙ c.in_ok-journal.ensures.counts.no_fault)
    (any_moment g (goal.at.returns-in_err-sessions-in-None-clause-refused g c).After-replay) (λ at is. absurd cc))

-- ---- a file that was replayed to its end

pub returns-in_ok-sessions-in-None-clause-opened : goal.returns-in_ok-sessions-in-None-clause-opened
returns-in_ok-sessions-in-None-clause-opened g c =
    let after = (goal.at.returns-in_ok-sessions-in-None-clause-opened g c).After-replay in
    let before = g.D.Disk.bytes c.args.disk.now in
    let mid = g.D.Disk.bytes c.recover.new.disk in
    let j = c.in_ok-journal.journal in
    let fault = c.in_ok-journal.fault in
    let found = c.in_ok-journal.ensures in
    let led = c.in_ok-catalog.ensures.led in
    let same = c.replay.ensures.reads.same.0 in
    record {
      kept = opened before mid j fault (stored_of c.in_ok-catalog.catalog) c.in-None.is found.short found.long led;
      means = c.in_ok-catalog.ensures.means;
      sessions = c.in_ok-sessions-in-None.ensures;
      filed = subst (λ (bytes : Option (List ℕ)). Filed bytes j c.in_ok-catalog.catalog) (sym same)
          (filed before mid j fault c.in_ok-catalog.catalog found.told c.in-None.is found.short found.long led
          c.in_ok-catalog.ensures.shown);
      told = search rules;
      ends = gate_ends before mid j fault c.in-None.is found.short found.long;
      reach = search rules;
      same = λ file told long. same ∙ (found.long file told long).0;
      anew = λ file told short. same ∙ (found.short file told short).0;
      fresh = λ file told short. (header ++ 0 ∷ [], same ∙ (found.short file told short).0, begun_file);
      durable = record { each = λ file told. kept g after file (sym same ∙ told) };
      any_moment = any_moment g after;
      healthy = found.numbers.healthy;
      limit = found.numbers.limit_kept;
      no_fault = c.in_ok-catalog.ensures.counts.no_fault ∙ found.counts.no_fault;
    }
