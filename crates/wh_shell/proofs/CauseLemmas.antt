-- Where the causes of faults come from.
--     passed_on                                  a fault that a `?` passes on
--     halt_cause, script_cause, script_long      of faults of the crates below
--     halted_cause, full_first                   of a turn whose event is known
--     counted_since, has_cause                   of all turns; of a run
use Rattle.std.proofs.Common.{◌≡◌, ℕ, ◌+◌, ◌<◌, ◌≤◌, ◌^◌, List, [], Option, Some, refl, sym, ap, ◌∙◌, subst, arith}
use Rattle.std.proofs.Common.{None}
use Rattle.std.specs.Prelude.{Result, Ok, Err, IfErr, IsErrAnd, IsTrue, is_some, true}
use Rattle.wh_state.specs.Written.{is_beyond, added_length}
use Rattle.wh_machine.specs.Step.{Event, text}
use Rattle.wh_world.specs.Told.{Rose}
use Rattle.wh_world.specs.declared.disk.Disk as disks
use Rattle.wh_world.specs.declared.source.Source as sources
use Rattle.wh_world.specs.declared.sink.Sink as sinks
use Rattle.wh_text.specs.Script.{taken_of}
use Rattle.wh_text.specs.declared.script.Script.{Script}
use Rattle.wh_text.specs.declared.fault.ScriptFault.{ScriptFault}
use Rattle.wh_text.specs.declared.fault.ScriptFault.TheVariants as scripts
use Rattle.wh_journal.specs.Journal.{end_of, limit_of, failed_of}
use Rattle.wh_engine.specs.Warehouse.{made_in, machine_of}
use Rattle.wh_engine.specs.Halts.{Halted, HaltedSome, IsDamagedAt}
use Rattle.wh_engine.specs.declared.fault.Halt.{Halt}
use Rattle.wh_engine.specs.declared.fault.Halt.TheVariants as halts
use Rattle.wh_engine.specs.declared.warehouse.Warehouse.{Warehouse}
use Rattle.wh_shell.specs.Fault.{fault_of_script, fault_of_halt, IsCounted, HasCause}
use Rattle.wh_shell.specs.Open.{IsOpen, IsTold}
use Rattle.wh_shell.specs.Point.{point_of}
use Rattle.wh_shell.specs.Reading.{GivesEvent, FailsBy}
use Rattle.wh_shell.specs.Room.{reach_of, made_at, first_beyond, fitting_at}
use Rattle.wh_shell.specs.Run.{WasTooLong}
use Rattle.wh_shell.specs.Serving.{HaltsBy, IsFull}
use Rattle.wh_shell.specs.World.{World, world_of, IsLater}
use Rattle.wh_shell.specs.Writing.{Writes}
use Rattle.wh_shell.specs.declared.fault.Fault.{Fault}
use Rattle.wh_shell.specs.declared.fault.Fault.TheVariants.{OutOfMemory, Disk, Script as ScriptFails, Output}
use Rattle.wh_shell.specs.declared.fault.Fault.TheVariants.{NotWarehouse, Damaged, FileFull, ScriptTooLong}
use Rattle.wh_shell.proofs.Told.{shows_open}
use Rattle.wh_shell.proofs.RoomLemmas.{past_limit, first_lacks, none_fits}
use Rattle.wh_shell.proofs.Written.{writes_none}

pub passed_on : {A : Type 0} (P : Fault → Type 0) (result : Result A Fault) (fault : Fault) →
    IsErrAnd result (λ e. e ≡ fault) → P fault → IfErr result P
passed_on P (Ok a) fault is holds = tt
passed_on P (Err e) fault is holds = subst P (sym is) holds

-- ---- of one event

-- the journal of an open warehouse needs no reopening
pub halt_cause : {D K : Type 0} {g : disks.Ghosts D} (k : sinks.Ghosts K) (old new : Warehouse D g) (event : Event)
    (out : K) (halt : Halt) → IsOpen old → HaltedSome old new halt →
    (IsTold old → Halted old new (made_in old event) halt) → HaltsBy k old new event out out (fault_of_halt halt)
halt_cause k old new event out halts.OutOfMemory ready some meant = tt
halt_cause k old new event out halts.DiskFault ready some meant = some.halted.disk_fault refl
halt_cause k old new event out halts.ReadFault ready some meant = some.halted.read_fault refl
halt_cause {D} {K} {g} k old new event out (halts.Damaged at) ready some meant =
    let same = some.halted.untouched (λ e. cc) in
    let found = some.halted.damaged at refl in
    record {
      untold = λ told. some.halted.sound at refl (shows_open old ready told);
      damaged = subst (λ (size : ℕ). IsDamagedAt (g.bytes new.fetch.disk) size at) (sym same.disk.size)
          (subst (λ (bytes : Option (List ℕ)). IsDamagedAt bytes (g.size old.fetch.disk) at) (sym same.disk.bytes)
          found);
    }
halt_cause k old new event out (halts.FileFull len need) ready some meant =
    let beyond = some.halted.file_full len need refl in
    let past : limit_of old.journal < end_of old.journal + added_length some.commit =
    past_limit (limit_of old.journal) (end_of old.journal) some.commit beyond.0 in (
      omega (arith, past, beyond.1, beyond.2),
      refl,
      λ told.
          let full = (meant told).file_full len need refl in
          record { beyond = full.0; from = full.1; wants = full.2 },
    )
halt_cause k old new event out (halts.NeedsReopen faults) ready some meant =
    let failed : failed_of old.journal ≡ Some faults = (some.halted.needs_reopen faults).0 refl in
    let healthy : failed_of old.journal ≡ None = ready.healthy in
    absurd cc

module _ {D S K : Type 0} (g : disks.Ghosts D) where
  pub halted_cause : (s : sources.Ghosts S) (k : sinks.Ghosts K) (old new : Warehouse D g) (event : Event)
      (script script_new : S) (out out_new : K) (why : Fault) → HaltsBy k old new event out out_new why →
      IsCounted g s k (world_of old.fetch.disk script out) (world_of new.fetch.disk script_new out_new) why
  halted_cause s k old new event script script_new out out_new OutOfMemory cause = tt
  halted_cause s k old new event script script_new out out_new Disk cause = cause
  halted_cause s k old new event script script_new out out_new ScriptFails cause = absurd cause
  halted_cause s k old new event script script_new out out_new Output cause = cause
  halted_cause s k old new event script script_new out out_new (NotWarehouse at) cause = cause
  halted_cause s k old new event script script_new out out_new (Damaged at) cause = cause
  halted_cause s k old new event script script_new out out_new (FileFull len need) cause = tt
  halted_cause s k old new event script script_new out out_new (ScriptTooLong taken) cause = tt

  -- its commit is the first that there is no room for, and nothing was written
  pub full_first : (k : sinks.Ghosts K) (old new : Warehouse D g) (event : Event) (left left_new : Option (List Event))
      (script script_new : S) (out out_new : K) (why : Fault) (len need : ℕ) → why ≡ FileFull len need →
      GivesEvent left event left_new → HaltsBy k old new event out out_new why →
      IsFull g k (point_of old left script out) (world_of new.fetch.disk script_new out_new) len need
  full_first k old new event left left_new script script_new out out_new why len need is gives cause =
      let full : HaltsBy k old new event out out_new (FileFull len need) =
      subst (HaltsBy k old new event out out_new) is cause in
      let limit : ℕ = limit_of old.journal in
      let reach = reach_of old in
      record {
        past = full.0;
        first = λ told es told_left.
            let lacks = full.2 told in
            let beyond : is_beyond limit reach.end (made_at reach event) ≡ true = lacks.beyond in
            let given = gives.each es told_left in
            let first = first_lacks limit event reach given.0 beyond in
            let from = lacks.from in
            let wants = lacks.wants in
            ap (first_beyond limit reach) given.2 ∙ first ∙ cc;
        written = λ told es told_left.
            let lacks = full.2 told in
            let beyond : is_beyond limit reach.end (made_at reach event) ≡ true = lacks.beyond in
            let given = gives.each es told_left in
            let none : fitting_at limit reach es ≡ [] =
            ap (fitting_at limit reach) given.2 ∙ none_fits limit event reach given.0 beyond in
            subst (λ (fs : List Event). Writes (text (machine_of old) fs) (k.held out) (k.held out_new)) (sym none)
            (ap k.held full.1 ∙ writes_none (k.held out));
      }

-- ---- of the script

pub script_cause : {D S K : Type 0} (d : disks.Ghosts D) (s : sources.Ghosts S) (k : sinks.Ghosts K)
    (old new : World D S K) (script : Script) (fault : ScriptFault) →
    FailsBy (Rose (s.faults old.script) (s.faults new.script)) script fault →
    IsCounted d s k old new (fault_of_script fault)
script_cause d s k old new script scripts.OutOfMemory fails = tt
script_cause d s k old new script scripts.Read fails = fails
script_cause d s k old new script (scripts.TooLong taken) fails = tt

-- and its number
pub script_long : (failed : Type 0) (script : Script) (fault : ScriptFault) (taken : ℕ) →
    fault_of_script fault ≡ ScriptTooLong taken → FailsBy failed script fault →
    (2 ^ 30 < taken) × (taken ≡ taken_of script)
script_long failed script scripts.OutOfMemory taken is fails = absurd cc
script_long failed script scripts.Read taken is fails = absurd cc
script_long failed script (scripts.TooLong other) taken is fails =
    let same : taken ≡ other = cc in
    subst (λ (n : ℕ). (2 ^ 30 < n) × (n ≡ taken_of script)) (sym same) fails

-- no file is full by it
pub script_fills_none : (fault : ScriptFault) (len need : ℕ) → fault_of_script fault ≡ FileFull len need → ⊥
script_fills_none scripts.OutOfMemory len need is = cc
script_fills_none scripts.Read len need is = cc
script_fills_none (scripts.TooLong taken) len need is = cc

-- ---- of all turns

-- a count that rose since later has risen since earlier
rose_since : (first mid last : ℕ) → first ≤ mid → Rose mid last → Rose first last
rose_since first mid last later rose = omega arith

module _ {D S K : Type 0} (d : disks.Ghosts D) (s : sources.Ghosts S) (k : sinks.Ghosts K) where
  pub counted_since : (first mid last : World D S K) → IsLater d s k first mid →
      (IsTrue (is_some (d.bytes first.disk)) → IsTrue (is_some (d.bytes mid.disk))) → (why : Fault) →
      IsCounted d s k mid last why → IsCounted d s k first last why
  counted_since first mid last later told OutOfMemory cause = tt
  counted_since first mid last later told Disk cause =
      rose_since (d.faults first.disk) (d.faults mid.disk) (d.faults last.disk) later.disk cause
  counted_since first mid last later told ScriptFails cause =
      rose_since (s.faults first.script) (s.faults mid.script) (s.faults last.script) later.script cause
  counted_since first mid last later told Output cause =
      rose_since (k.faults first.out) (k.faults mid.out) (k.faults last.out) later.out cause
  counted_since first mid last later told (NotWarehouse at) cause = cause
  counted_since first mid last later told (Damaged at) cause = record {
    untold = λ is. cause.untold (told is);
    damaged = cause.damaged;
  }
  counted_since first mid last later told (FileFull len need) cause = tt
  counted_since first mid last later told (ScriptTooLong taken) cause = tt

  -- what is said apart of a full file and a long script is said with the other causes
  pub has_cause : (limit : ℕ) (old new : World D S K) (why : Fault) → IsCounted d s k old new why →
      ((len need : ℕ) → why ≡ FileFull len need → limit < len + need) →
      ((taken : ℕ) → why ≡ ScriptTooLong taken → WasTooLong taken (s.left old.script) (s.left new.script)) →
      HasCause d s k limit old new why
  has_cause limit old new OutOfMemory cause full long = tt
  has_cause limit old new Disk cause full long = cause
  has_cause limit old new ScriptFails cause full long = cause
  has_cause limit old new Output cause full long = cause
  has_cause limit old new (NotWarehouse at) cause full long = absurd cause
  has_cause limit old new (Damaged at) cause full long = cause
  has_cause limit old new (FileFull len need) cause full long = full len need refl
  has_cause limit old new (ScriptTooLong taken) cause full long = long taken refl
