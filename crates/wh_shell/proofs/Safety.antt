-- What a crash leaves of an open warehouse, of a turn, and of all turns.
--     leaves_open, leaves_same     over an open warehouse; while nothing is done
--     stays_open                   where an event is carried out
--     stays_none, stays_then       while nothing is done, and one turn behind others
--     open_stands                  what a crash leaves now
--     none_safely                  a turn that carried out nothing
--     halts_safely                 a turn that was stopped at an event
--     safely_more                  all turns, the last of which ended so
use Rattle.std.proofs.Common.{◌≡◌, ⊎_elim, inl, ℕ, ◌≤◌, List, [], ◌++◌, length, refl, sym, ap, subst, ◌∙◌}
use Rattle.std.proofs.Common.{length-append, Option}
use Rattle.wh_state.specs.State.{State}
use Rattle.wh_state.specs.File.{Stands}
use Rattle.wh_machine.specs.Outcome.{Machine, rest_of}
use Rattle.wh_machine.specs.Sound.{SoundMachine}
use Rattle.wh_machine.specs.Step.{Event, step, after, text}
use Rattle.wh_machine.proofs.SoundLaws.{sound_step}
use Rattle.wh_world.specs.declared.disk.Disk.{Ghosts}
use Rattle.wh_world.specs.declared.sink.Sink as sinks
use Rattle.wh_journal.specs.Crash.{LeavesOnly}
use Rattle.wh_journal.specs.Journal.{limit_of}
use Rattle.wh_journal.proofs.CrashLemmas.{weaker, started}
use Rattle.wh_engine.specs.Warehouse.{machine_of}
use Rattle.wh_engine.specs.Answers.{CarriesSome}
use Rattle.wh_engine.specs.Leaves.{StandsForEither, Leaves}
use Rattle.wh_engine.specs.declared.warehouse.Warehouse.{Warehouse}
use Rattle.wh_engine.proofs.FileLemmas.{stands_for}
use Rattle.wh_shell.specs.Reading.{GivesEvent}
use Rattle.wh_shell.specs.Room.{Reach}
use Rattle.wh_shell.specs.Open.{IsOpen, IsTold, StaysOpen}
use Rattle.wh_shell.specs.Point.{Point, point_of, IsToldAt}
use Rattle.wh_shell.specs.World.{World, world_of}
use Rattle.wh_shell.specs.Crash.{Survives, EndsSafely}
use Rattle.wh_shell.specs.Serving.{Halts, GoesOn, Goes}
use Rattle.wh_shell.specs.declared.fault.Fault.{Fault}
use Rattle.wh_shell.proofs.Told.{told_file}
use Rattle.wh_shell.proofs.Written.{writes_none, writes_both}
use Rattle.wh_shell.proofs.RoomLemmas.{machine_reached}
use Rattle.wh_shell.proofs.Survival.{none_survives, halt_survives, survives_more}

module _ {D : Type 0} {g : Ghosts D} where
  -- over an open warehouse
  pub leaves_open : (old new : Warehouse D g) (state : State) → IsOpen old → IsTold old → Leaves old new state →
      LeavesOnly g.moment g.left_since old.fetch.disk new.fetch.disk (StandsForEither (machine_of old).state state)
  leaves_open old new state ready told leaves =
      let found = told_file (g.bytes old.fetch.disk) told.told in
      leaves.each found.0 found.1 (ready.settled.each found.0 found.1) ready.filed

  -- it stays open where an event is carried out
  pub stays_open : (old new : Warehouse D g) (event : Event) → IsOpen old → CarriesSome old new →
      limit_of new.journal ≡ limit_of old.journal →
      (IsTold old → machine_of new ≡ (step (machine_of old) event).0) → StaysOpen old new
  stays_open old new event ready some limit stepped = record {
    opens = record {
      filed = some.carried.filed ready.filed;
      settled = some.carried.durable ready.settled;
      healthy = some.carried.still_healthy;
    };
    told = some.carried.told;
    limit = limit;
    sound = λ told. record {
      told = some.carried.told ∙ told.told;
      sound = subst SoundMachine (sym (stepped told)) (sound_step (machine_of old) event told.sound);
    };
  }

  -- while nothing is done
  pub stays_none : (w : Warehouse D g) → IsOpen w → StaysOpen w w
  stays_none w ready = record { opens = ready; told = refl; limit = refl; sound = λ told. told }

  pub stays_then : (first now new : Warehouse D g) → StaysOpen first now → StaysOpen now new → StaysOpen first new
  stays_then first now new one two = record {
    opens = two.opens;
    told = two.told ∙ one.told;
    limit = two.limit ∙ one.limit;
    sound = λ told. two.sound (one.sound told);
  }

  module _ (only_now : (disk : D) (image : List ℕ) → g.left_since disk (g.moment disk) image →
      g.may_leave disk image) where
    -- while nothing is done a crash leaves a file that stands for the state
    pub leaves_same : (w : Warehouse D g) (state : State) → Leaves w w state
    leaves_same w state = record {
      each = λ file told only filed.
          weaker g.moment g.left_since w.fetch.disk w.fetch.disk (g.may_leave w.fetch.disk) (StandsForEither (machine_of w).state state)
          (λ image left. inl (subst (λ (l : List ℕ). Stands l (rest_of (machine_of w))) (sym (only image left))
          (stands_for file w.journal w.catalog (filed.each file told))))
          (started g.moment g.left_since g.may_leave only_now w.fetch.disk);
    }

    -- and so does one now
    pub open_stands : (counts_now : (disk : D) (t : ℕ) (image : List ℕ) → t ≤ g.moment disk → g.may_leave disk image →
        g.left_since disk t image) →
        (w : Warehouse D g) → IsOpen w → IsTold w → (image : List ℕ) → g.may_leave w.fetch.disk image →
        Stands image (rest_of (machine_of w))
    open_stands counts_now w ready told image left =
        let still = leaves_open w w (machine_of w).state ready told (leaves_same w (machine_of w).state) in
        ⊎_elim (λ is. is) (λ is. is) (still.each image (counts_now w.fetch.disk (g.moment w.fetch.disk) image still.later left))

module _ {D S K : Type 0} (d : Ghosts D) (k : sinks.Ghosts K) where
  -- a turn that was stopped at an event
  pub halts_safely : (old new : Warehouse D d) (event : Event) (left left_new : Option (List Event))
      (script script_new : S) (out out_new : K) (why : Fault) →
      GivesEvent left event left_new →
      (IsTold old → LeavesOnly d.moment d.left_since old.fetch.disk new.fetch.disk
      (StandsForEither (machine_of old).state (step (machine_of old) event).0.state)) →
      Halts k old new event out out_new why →
      EndsSafely d k (point_of old left script out) (world_of new.fetch.disk script_new out_new)
  halts_safely old new event left left_new script script_new out out_new why gives run halts = record {
    each = λ told es told_left.
        let given = gives.each es told_left in
        let end = halts.breaks told in
        record {
          piece = end.front;
          written = end.written;
          survives =
              subst (λ (fs : List Event). Survives d old.fetch.disk new.fetch.disk (machine_of old) fs
              (length end.front)) (sym given.2)
              (halt_survives d old.fetch.disk new.fetch.disk (machine_of old) event given.0 end.front end.rest
              end.parts (run told) end.leaves);
        };
  }

  -- all turns, the last of which ended so
  pub safely_more : (first now : Point D S K) (new : World D S K) (count : ℕ) →
      (IsToldAt d first → IsToldAt d now) → Goes d k first now count → EndsSafely d k now new →
      EndsSafely d k first new
  safely_more first now new count stays goes ends = record {
    each = λ told es told_left.
        let start : Machine = first.reach.machine in
        let so_far : GoesOn d k first now count es = goes.each told es told_left in
        let machine : now.reach.machine ≡ after start so_far.done =
        ap (λ (r : Reach). r.machine) so_far.reach ∙ machine_reached first.reach so_far.done in
        let front : List ℕ = text start so_far.done in
        let more = ends.each (stays told) so_far.rest so_far.left in
        record {
          piece = front ++ more.piece;
          written =
              writes_both front more.piece (k.held first.world.out) (k.held now.world.out) (k.held new.out)
              so_far.written more.written;
          survives =
              subst (Survives d first.world.disk new.disk start es) (sym (length-append front more.piece))
              (survives_more d first.world.disk now.world.disk new.disk start now.reach.machine es so_far.done
              so_far.rest (length more.piece) so_far.parts machine so_far.leaves more.survives);
        };
  }

  -- a turn that carried out nothing, and left the disk
  pub none_safely : (counts_now : (disk : D) (t : ℕ) (image : List ℕ) → t ≤ d.moment disk → d.may_leave disk image →
      d.left_since disk t image) →
      (old : Point D S K) (new : World D S K) → new.out ≡ old.world.out → new.disk ≡ old.world.disk →
      (IsToldAt d old → LeavesOnly d.moment d.left_since old.world.disk old.world.disk
      (StandsForEither old.reach.machine.state old.reach.machine.state)) → EndsSafely d k old new
  none_safely counts_now old new out disk run = record {
    each = λ told es told_left. record {
      piece = [];
      written = ap k.held out ∙ writes_none (k.held old.world.out);
      survives =
          subst (λ (last : D). Survives d old.world.disk last old.reach.machine es 0) (sym disk)
          (none_survives d counts_now old.world.disk old.world.disk old.reach.machine es (run told));
    };
  }
