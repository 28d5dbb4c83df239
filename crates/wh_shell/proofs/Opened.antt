-- A run whose file was opened.
--     opened_runs     what it promises
use Rattle.std.proofs.Common.{◌≡◌, inl, inr, ℕ, List, ◌++◌, length, Option, Some, sym, ap, ◌∙◌, subst, refl}
use Rattle.std.proofs.Common.{arith, option_map}
use Rattle.std.specs.Prelude.{is_some}
use Rattle.wh_frame.specs.File.{IsFileOf}
use Rattle.wh_state.specs.State.{State}
use Rattle.wh_state.specs.Sound.{Sound}
use Rattle.wh_state.specs.Stored.{Stored, meant}
use Rattle.wh_state.specs.Commit.{Commit}
use Rattle.wh_machine.specs.Outcome.{Machine, opened}
use Rattle.wh_machine.specs.Sound.{SoundMachine}
use Rattle.wh_machine.specs.Step.{Event, text}
use Rattle.wh_machine.specs.Made.{all_made, overflow, fitting}
use Rattle.wh_machine.proofs.SoundLaws.{sound_opened}
use Rattle.wh_commit_parse.proofs.FileLaws.{file_fixes_stored}
use Rattle.wh_world.specs.Crash.{Only}
use Rattle.wh_world.specs.declared.disk.Disk as disks
use Rattle.wh_world.specs.declared.source.Source as sources
use Rattle.wh_world.specs.declared.sink.Sink as sinks
use Rattle.wh_journal.specs.Journal.{end_of, limit_of}
use Rattle.wh_catalog.specs.Catalog.{stored_of, state_of}
use Rattle.wh_engine.specs.Opening.{Opens}
use Rattle.wh_engine.specs.Warehouse.{IsSettled, machine_of}
use Rattle.wh_engine.specs.declared.warehouse.Warehouse.{Warehouse}
use Rattle.wh_shell.specs.Commits.{HasPayloads, IsFileBehind, Says, AddsCommits}
use Rattle.wh_shell.specs.Crash.{Survives, EndsSafely}
use Rattle.wh_shell.specs.Events.{events}
use Rattle.wh_shell.specs.Fault.{HasCause}
use Rattle.wh_shell.specs.Full.{Fills}
use Rattle.wh_shell.specs.Point.{Point, point_of, IsToldAt}
use Rattle.wh_shell.specs.Promised.{RunsWithin}
use Rattle.wh_shell.specs.Room.{FillsBy}
use Rattle.wh_shell.specs.Run.{IsStart, IsWhole, IsFront, Runs, Through, EndsBy, StopsWhereTooLong}
use Rattle.wh_shell.specs.Serving.{EndsAs}
use Rattle.wh_shell.specs.Timing.{Timing, IsScriptBy, timed}
use Rattle.wh_shell.specs.World.{World}
use Rattle.wh_shell.specs.Writing.{Writes}
use Rattle.wh_shell.specs.declared.fault.Fault.TheVariants.{FileFull}
use Rattle.wh_shell.specs.declared.status.Status.{Status}
use Rattle.wh_shell.specs.declared.status.Status.TheVariants.{Usage, Read, Stopped}
use Rattle.wh_shell.proofs.CauseLemmas.{counted_since, has_cause}
use Rattle.wh_shell.proofs.Ending.{ends_safely}
use Rattle.wh_shell.proofs.EventLemmas.{told_events}
use Rattle.wh_shell.proofs.Opening.{machine_is, machine_opened, run_survives}

module _ {D S K : Type 0} (d : disks.Ghosts D) (s : sources.Ghosts S) (k : sinks.Ghosts K) (limit : ℕ)
    (timing : Timing) (old new : World D S K) (w : Warehouse D d) (opens : Opens d old.disk limit w) where
  abbrev pub left_of : Option (List Event)
  left_of = timed timing (option_map events (s.left old.script))

  -- the warehouse, and all events of the script
  abbrev pub start_of : Point D S K
  start_of = point_of w left_of old.script old.out

  told_left : (input : List ℕ) (es : List Event) → s.left old.script ≡ Some input →
      IsScriptBy timing input es → left_of ≡ Some es
  told_left input es told script = told_events timing input es (s.left old.script) told script

  -- the file is told, and the machine that a sound state is opened to is sound
  told_start : (file : List ℕ) (start : State) → d.bytes old.disk ≡ Some file → machine_of w ≡ opened start →
      Sound start → IsToldAt d start_of
  told_start file start told machine sound = record {
    told = opens.told ∙ ap is_some told;
    sound = subst SoundMachine (sym machine) (sound_opened start sound);
  }

  -- ---- what was written and left

  -- the machine of the state that the file stands for is the one that was opened
  same : {file input before : List ℕ} {start : State} {es : List Event} →
      IsStart timing (d.bytes old.disk) (s.left old.script) (k.held old.out) file input before start es →
      machine_of w ≡ opened start
  same {file} {input} {before} {start} is =
      sym (machine_opened file (stored_of w.catalog) start (machine_of w) is.stands (opens.kept file is.told_file)
      opens.means opens.sessions)

  runs : (status : Status) → EndsAs d s k start_of new status → Runs d s k timing old new status
  runs Usage ends = absurd ends
  runs (Read count) ends = λ file input held start es is.
      let left : left_of ≡ Some es = told_left input es is.told_script is.events in
      let told = told_start file start is.told_file (same is) is.sound in
      let all = ends.each told es left in
      let left_file = ends.stands told es left in
      subst (λ (m : Machine). IsWhole m es held count (k.held new.out) (d.bytes new.disk) (s.left new.script)) (same is)
      (record {
        written = all.written ∙ ap (option_map (λ x. x ++ text (machine_of w) es)) is.told_output;
        refused = all.refused;
        read = all.read;
        file = left_file.0;
        told = left_file.1;
        stands = left_file.2;
      })
  runs (Stopped why) ends = λ file input held start es is.
      let end = ends.front (told_start file start is.told_file (same is) is.sound) es
      (told_left input es is.told_script is.events) in
      subst (λ (m : Machine). IsFront m es held (k.held new.out)) (same is)
      (record {
        front = end.front;
        rest = end.rest;
        parts = end.parts;
        written = end.written ∙ ap (option_map (λ x. x ++ end.front)) is.told_output;
      })

  -- ---- what the file says

  stored_is : {file input : List ℕ} {stored : Stored} {start : State} {es : List Event} →
      Says timing (d.bytes old.disk) (s.left old.script) file input stored start es → stored_of w.catalog ≡ stored
  stored_is {file} {input} {stored} says =
      file_fixes_stored file (stored_of w.catalog) stored (opens.kept file says.told_file) says.keeps

  machine_said : {file input : List ℕ} {stored : Stored} {start : State} {es : List Event} →
      Says timing (d.bytes old.disk) (s.left old.script) file input stored start es → machine_of w ≡ opened start
  machine_said {file} {input} {stored} {start} says =
      machine_is (machine_of w) start (opens.means ∙ ap meant (stored_is says) ∙ sym says.means) opens.sessions

  -- a file of more than 8 bytes is as it was, and any other is of no payloads
  has_opened : (file : List ℕ) (payloads : List (List ℕ)) → d.bytes old.disk ≡ Some file → HasPayloads payloads file →
      (now : List ℕ) × (d.bytes w.fetch.disk ≡ Some now) × IsFileOf payloads now
  has_opened file payloads told (inl long) = (file, opens.same file told long.0, long.1)
  has_opened file payloads told (inr short) =
      let fresh = opens.fresh file told short.0 in
      (fresh.0, fresh.1, subst (λ (ps : List (List ℕ)). IsFileOf ps fresh.0) (sym short.1) fresh.2)

  commits : (status : Status) → EndsAs d s k start_of new status → AddsCommits d s timing old new status
  commits Usage ends = absurd ends
  commits (Read count) ends = λ file input stored start es says payloads has.
      let all = ends.each (told_start file start says.told_file (machine_said says) says.sound) es
      (told_left input es says.told_script says.events) in
      let found = has_opened file payloads says.told_file has in
      let made : all_made (stored_of w.catalog) (machine_of w) es ≡ all_made stored (opened start) es =
      ap (λ (t : Stored). all_made t (machine_of w) es) (stored_is says)
      ∙ ap (λ (m : Machine). all_made stored m es) (machine_said says) in
      subst (λ (cs : List Commit). IsFileBehind payloads cs (d.bytes new.disk)) made
      (all.adds.each found.0 payloads found.1 found.2)
  commits (Stopped why) ends = λ file input stored start es says payloads has. tt

  -- ---- what a crash leaves

  survives : EndsSafely d k start_of new → (file input before written : List ℕ) (start : State) (es : List Event) →
      IsStart timing (d.bytes old.disk) (s.left old.script) (k.held old.out) file input before start es →
      Only file (d.may_leave old.disk) → k.held new.out ≡ Some (before ++ written) →
      Survives d old.disk new.disk (opened start) es (length written)
  survives safe file input before written start es is only held_is =
      run_survives d old.disk w.fetch.disk new.disk (k.held old.out) (k.held new.out) file before written start
      (machine_of w) es is.stands (sym (same is)) (opens.any_moment file is.told_file only)
      (safe.each (told_start file start is.told_file (same is) is.sound) es
      (told_left input es is.told_script is.events))
      is.told_output held_is

  durable : (status : Status) → EndsAs d s k start_of new status →
      Through status (IsSettled (d.bytes new.disk) (d.may_leave new.disk))
  durable Usage ends = tt
  durable (Read count) ends = ends.durable
  durable (Stopped why) ends = tt

  -- ---- why it ended

  causes : (status : Status) → EndsAs d s k start_of new status → StopsWhereTooLong s old.script new.script status →
      EndsBy (HasCause d s k limit old new) status
  causes Usage ends long = tt
  causes (Read count) ends long = tt
  causes (Stopped why) ends long =
      has_cause d s k limit old new why
      (counted_since d s k old start_of.world new
      (record { disk = omega (arith, opens.no_fault); script = omega arith; out = omega arith })
      (λ told. opens.told ∙ told) why ends.cause)
      (λ len need is. omega (arith, (ends.full len need is).past, opens.limit))
      (λ taken is. long.too_long taken (ap Stopped is))

  fills_by : (es : List Event) (status : Status) → IsToldAt d start_of → left_of ≡ Some es →
      EndsAs d s k start_of new status →
      FillsBy status (overflow (limit_of w.journal) (end_of w.journal) (stored_of w.catalog) (machine_of w) es)
  fills_by es Usage told left ends = tt
  fills_by es (Read count) told left ends = (ends.each told es left).room
  fills_by es (Stopped why) told left ends = λ len need is. (ends.full len need is).first told es left

  written_by : (es : List Event) (status : Status) (len need : ℕ) → status ≡ Stopped (FileFull len need) →
      IsToldAt d start_of → left_of ≡ Some es → EndsAs d s k start_of new status →
      Writes (text (machine_of w)
      (fitting (limit_of w.journal) (end_of w.journal) (stored_of w.catalog) (machine_of w) es))
      (k.held old.out) (k.held new.out)
  written_by es status len need is told left ends =
      let stops : EndsAs d s k start_of new (Stopped (FileFull len need)) =
      subst (EndsAs d s k start_of new) is ends in
      (stops.full len need refl).written told es left

  full : (status : Status) → EndsAs d s k start_of new status → Fills d s k limit timing old new status
  full status ends = λ file input stored start es says.
      let left : left_of ≡ Some es = told_left input es says.told_script says.events in
      let stored_same = stored_is says in
      let machine_same = machine_said says in
      let told = told_start file start says.told_file machine_same says.sound in
      let limit_same = opens.limit in
      let room : overflow (limit_of w.journal) (end_of w.journal) (stored_of w.catalog) (machine_of w) es
      ≡ overflow limit (end_of w.journal) stored (opened start) es = cc in
      let fits : text (machine_of w)
      (fitting (limit_of w.journal) (end_of w.journal) (stored_of w.catalog) (machine_of w) es)
      ≡ text (opened start) (fitting limit (end_of w.journal) stored (opened start) es) = cc in
      record {
        end = end_of w.journal;
        gate = opens.ends file says.told_file;
        fills = subst (FillsBy status) room (fills_by es status told left ends);
        written = λ len need is.
            subst (λ (l : List ℕ). Writes l (k.held old.out) (k.held new.out)) fits
            (written_by es status len need is told left ends);
      }

  pub opened_runs : (status : Status) → EndsAs d s k start_of new status →
      StopsWhereTooLong s old.script new.script status →
      RunsWithin d s k limit timing old new status
  opened_runs status ends long =
      let safe = ends_safely d s k start_of new status ends in
      record {
        started = λ is. subst (EndsAs d s k start_of new) is ends;
        runs = runs status ends;
        commits = commits status ends;
        any_moment = λ file input before written start es is only held_is.
            (survives safe file input before written start es is only held_is).any_moment;
        at_exit = λ file input before written start es is only held_is.
            (survives safe file input before written start es is only held_is).at_exit;
        durable = durable status ends;
        causes = causes status ends long;
        -- a file that was opened stands for a state
        foreign = λ file told foreign.
            absurd (foreign.none (state_of w.catalog) (stored_of w.catalog, opens.kept file told, opens.means));
        full = full status ends;
        long = long.long;
      }
