-- A run that opened no file.
--     failed_runs        what a run promises whose file wasn't opened
--     idle_runs          and where memory was wanting before
use Rattle.std.proofs.Common.{◌≡◌, inl, inr, ℕ, ◌≤◌, List, [], ◌++◌, length, Some, refl, sym}
use Rattle.std.proofs.Common.{ap, ◌∙◌, arith, append-nil}
use Rattle.wh_state.specs.State.{State}
use Rattle.wh_machine.specs.Outcome.{opened}
use Rattle.wh_machine.specs.Step.{Event, text}
use Rattle.wh_commit_parse.proofs.FaultLaws.{faulty_file_stands_for_none}
use Rattle.wh_world.specs.Crash.{Only}
use Rattle.wh_world.specs.declared.disk.Disk as disks
use Rattle.wh_world.specs.declared.source.Source as sources
use Rattle.wh_world.specs.declared.sink.Sink as sinks
use Rattle.wh_journal.specs.Opening.{LeavesKept}
use Rattle.wh_engine.specs.Opening.{FailsToOpen}
use Rattle.wh_journal.specs.declared.fault.OpenFault.{OpenFault}
use Rattle.wh_journal.specs.declared.fault.OpenFault.TheVariants as opens
use Rattle.wh_shell.specs.Crash.{Survives}
use Rattle.wh_shell.specs.Fault.{fault_of_open, HasCause}
use Rattle.wh_shell.specs.Full.{Fills}
use Rattle.wh_shell.specs.Promised.{RunsWithin}
use Rattle.wh_shell.specs.Run.{IsStart, RefusesFile, StopsTooLong}
use Rattle.wh_shell.specs.Timing.{Timing}
use Rattle.wh_shell.specs.World.{World}
use Rattle.wh_shell.specs.declared.fault.Fault.TheVariants.{OutOfMemory, FileFull}
use Rattle.wh_shell.specs.declared.status.Status.{Status}
use Rattle.wh_shell.specs.declared.status.Status.TheVariants.{Stopped}
use Rattle.wh_shell.proofs.Opening.{some_gate, not_opened, unopened_survives}

-- ---- a full file

-- an opening fills no file
opening_fills_none : (fault : OpenFault) (len need : ℕ) → fault_of_open fault ≡ FileFull len need → ⊥
opening_fills_none opens.OutOfMemory len need is = cc
opening_fills_none opens.DiskFault len need is = cc
opening_fills_none (opens.NotWarehouse at) len need is = cc

module _ {D S K : Type 0} (d : disks.Ghosts D) (s : sources.Ghosts S) (k : sinks.Ghosts K) (timing : Timing)
    (old new : World D S K) where
  -- ---- what a crash leaves

  idle_survives : (counts_now : (disk : D) (t : ℕ) (image : List ℕ) → t ≤ d.moment disk →
      d.may_leave disk image → d.left_since disk t image) →
      LeavesKept d old.disk new.disk → new.out ≡ old.out →
      (file input before written : List ℕ) (start : State) (es : List Event) →
      IsStart timing (d.bytes old.disk) (s.left old.script) (k.held old.out) file input before start es →
      Only file (d.may_leave old.disk) → k.held new.out ≡ Some (before ++ written) →
      Survives d old.disk new.disk (opened start) es (length written)
  idle_survives counts_now leaves out file input before written start es is only held_is =
      unopened_survives d counts_now old.disk new.disk (k.held old.out) (k.held new.out) file before written start es
      is.stands (leaves file is.told_file only) (ap k.held out) is.told_output held_is

  -- ---- a file that couldn't be opened

  failed_fills : (limit : ℕ) (fault : OpenFault) → Fills d s k limit timing old new (Stopped (fault_of_open fault))
  failed_fills limit fault = λ file input stored start es says.
      let gate = some_gate file stored says.keeps in
      record {
        end = gate.0;
        gate = gate.1;
        fills = λ len need is. absurd (opening_fills_none fault len need is);
        written = λ len need is. absurd (opening_fills_none fault len need cc);
      }

  failed_refuses : (fault : OpenFault) → RefusesFile (Stopped (fault_of_open fault))
  failed_refuses opens.OutOfMemory = inr (inl refl)
  failed_refuses opens.DiskFault = inr (inr refl)
  failed_refuses (opens.NotWarehouse at) = inl (at, refl)

  failed_cause : (limit : ℕ) (fault : OpenFault) → FailsToOpen d old.disk new.disk fault → new.script ≡ old.script →
      new.out ≡ old.out → HasCause d s k limit old new (fault_of_open fault)
  failed_cause limit opens.OutOfMemory fails script out = tt
  failed_cause limit opens.DiskFault fails script out = fails.disk_fault refl
  failed_cause limit (opens.NotWarehouse at) fails script out = record {
    script = script;
    out = out;
    file = λ file told.
        let found = fails.not_warehouse at file refl told in
        record {
          foreign =
              record { long = found.0; none = λ state. faulty_file_stands_for_none file at state found.0 found.1 };
          first_fault = found.1;
          same = found.2;
          only = found.3;
        };
  }

  -- nothing was taken
  idle_short : (status : Status) → new.script ≡ old.script → StopsTooLong s old.script new.script status
  idle_short status same = λ input rest told told_new long.
      let whole : Some input ≡ Some rest = sym told ∙ sym (ap s.left same) ∙ told_new in
      let one : input ≡ rest = cc in
      absurd (omega (arith, long, ap {B = ℕ} length one))

  pub failed_runs : (counts_now : (disk : D) (t : ℕ) (image : List ℕ) → t ≤ d.moment disk →
      d.may_leave disk image → d.left_since disk t image) →
      (limit : ℕ) (fault : OpenFault) → FailsToOpen d old.disk new.disk fault → new.script ≡ old.script →
      new.out ≡ old.out → RunsWithin d s k limit timing old new (Stopped (fault_of_open fault))
  failed_runs counts_now limit fault fails script out = record {
    started = λ is. absurd cc;
    runs = λ file input held start es is. record {
      front = [];
      rest = text (opened start) es;
      parts = refl;
      written = ap k.held out ∙ is.told_output ∙ ap Some (sym (append-nil held));
    };
    commits = λ file input stored start es says payloads has. tt;
    any_moment = λ file input before written start es is only held_is.
        (idle_survives counts_now fails.any_moment out file input before written start es is only held_is).any_moment;
    at_exit = λ file input before written start es is only held_is.
        (idle_survives counts_now fails.any_moment out file input before written start es is only held_is).at_exit;
    durable = tt;
    causes = failed_cause limit fault fails script out;
    foreign = λ file told foreign. failed_refuses fault;
    full = failed_fills limit fault;
    long = idle_short (Stopped (fault_of_open fault)) script;
  }

-- nothing was touched
pub idle_runs : {D S K : Type 0} (d : disks.Ghosts D) (s : sources.Ghosts S) (k : sinks.Ghosts K) (timing : Timing)
    (world : World D S K) → ((disk : D) (t : ℕ) (image : List ℕ) → t ≤ d.moment disk →
    d.may_leave disk image → d.left_since disk t image) →
    ((disk : D) (image : List ℕ) → d.left_since disk (d.moment disk) image → d.may_leave disk image) →
    (limit : ℕ) → RunsWithin d s k limit timing world world (Stopped OutOfMemory)
idle_runs d s k timing world counts_now only_now limit =
    failed_runs d s k timing world world counts_now limit opens.OutOfMemory
    (record {
      not_warehouse = λ at file is. absurd cc;
      unfailed = λ at is. refl;
      memory = λ is. refl;
      disk_fault = λ is. absurd cc;
      later = omega arith;
      any_moment = λ file told only. not_opened d only_now world.disk file only;
    }) refl refl
