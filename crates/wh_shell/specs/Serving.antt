-- What contracts say of the turns of a run.
--     Carries              an event was carried out, and its reply written
--     HaltsBy, Breaks, Halts     it was stopped, and a front of its reply written
--     Answers, Finds       a turn carried out the first event, or found none
--     Advances             so by what it found
--     IsFull, Stops        a front of the text was written
--     Serves               all events were carried out
--     Closes, EndsAs       the same where the file is closed behind them
--     Goes                 what the turns so far did
use Rattle.std.specs.Prelude.{◌≡◌, ◌⊎◌, ℕ, ◌+◌, ◌<◌, ◌≤◌, false, List, [], ◌∷◌, ◌++◌, length, Option, Some, None}
use Rattle.std.specs.Prelude.{if◌then◌else◌}
use Rattle.std.specs.Option.{option_to_list}
use Rattle.wh_reply.specs.Reply.{is_refusal, print}
use Rattle.wh_state.specs.File.{Stands}
use Rattle.wh_state.specs.Written.{is_beyond}
use Rattle.wh_machine.specs.Outcome.{Machine, rest_of}
use Rattle.wh_machine.specs.Step.{Event, step, after, text, refusals}
use Rattle.wh_machine.specs.Stop.{StandsWithin}
use Rattle.wh_world.specs.Told.{Rose}
use Rattle.wh_world.specs.declared.disk.Disk as disks
use Rattle.wh_world.specs.declared.source.Source as sources
use Rattle.wh_world.specs.declared.sink.Sink as sinks
use Rattle.wh_journal.specs.Journal.{limit_of}
use Rattle.wh_journal.specs.Crash.{LeavesOnly}
use Rattle.wh_engine.specs.Warehouse.{IsSettled, machine_of}
use Rattle.wh_engine.specs.Leaves.{StandsForEither}
use Rattle.wh_engine.specs.declared.warehouse.Warehouse.{Warehouse}
use Rattle.wh_shell.specs.Commits.{Adds}
use Rattle.wh_shell.specs.Crash.{EndsSafely}
use Rattle.wh_shell.specs.Fault.{IsSpoilt, IsCounted}
use Rattle.wh_shell.specs.Open.{IsTold}
use Rattle.wh_shell.specs.Point.{Point, IsToldAt}
use Rattle.wh_shell.specs.Reading.{EndsEvents}
use Rattle.wh_shell.specs.Room.{reach_of, made_at, reach_after, all_made_at, reach_after_all, LacksRoom, first_beyond}
use Rattle.wh_shell.specs.Room.{fitting_at}
use Rattle.wh_shell.specs.World.{World}
use Rattle.wh_shell.specs.Writing.{Writes, WritesFront}
use Rattle.wh_shell.specs.declared.fault.Fault.{Fault}
use Rattle.wh_shell.specs.declared.fault.Fault.TheVariants.{OutOfMemory, Disk, Script, Output}
use Rattle.wh_shell.specs.declared.fault.Fault.TheVariants.{NotWarehouse, Damaged, FileFull, ScriptTooLong}
use Rattle.wh_shell.specs.declared.status.Status.{Status}
use Rattle.wh_shell.specs.declared.status.Status.TheVariants.{Usage, Read, Stopped}

-- ---- one event

-- 1 for a refusal
abbrev pub refusals_of : Machine → Event → ℕ
refusals_of m e = if is_refusal (step m e).1 then 1 else 0

-- there was room for its commit, which is in the file alone behind what was there, and its whole reply was written
pub record Carries {D K : Type 0} {disk : disks.Ghosts D} (k : sinks.Ghosts K) (old new : Warehouse D disk)
    (event : Event) (out out_new : K) (count : ℕ) : Type 0 where
  pub room : is_beyond (limit_of old.journal) (reach_of old).end (made_at (reach_of old) event) ≡ false
  pub reach : reach_of new ≡ reach_after (reach_of old) event
  pub adds : Adds (disk.bytes old.fetch.disk) (disk.bytes new.fetch.disk)
      (option_to_list (made_at (reach_of old) event))
  pub written : Writes (print (step (machine_of old) event).1) (k.held out) (k.held out_new)
  pub refused : count ≡ refusals_of (machine_of old) event

-- at a full file nothing was written
abbrev pub HaltsBy : {D K : Type 0} {disk : disks.Ghosts D} → sinks.Ghosts K → Warehouse D disk → Warehouse D disk →
    Event → K → K → Fault → Type 0
HaltsBy k old new event out out_new OutOfMemory = Unit {0}
HaltsBy {D} {K} {disk} k old new event out out_new Disk =
    Rose (disk.faults old.fetch.disk) (disk.faults new.fetch.disk)
HaltsBy k old new event out out_new Script = ⊥
HaltsBy k old new event out out_new Output = Rose (k.faults out) (k.faults out_new)
HaltsBy k old new event out out_new (NotWarehouse at) = ⊥
HaltsBy {D} {K} {disk} k old new event out out_new (Damaged at) = IsSpoilt disk old.fetch.disk new.fetch.disk at
HaltsBy k old new event out out_new (FileFull len need) =
    (limit_of old.journal < len + need) × (out_new ≡ out)
    × (IsTold old → LacksRoom (limit_of old.journal) event (reach_of old) len need)
HaltsBy k old new event out out_new (ScriptTooLong taken) = ⊥

-- A front of the reply was written. What a crash now leaves stands for what is committed after the command, or where
-- nothing was written for that before it.
pub record Breaks {D K : Type 0} {disk : disks.Ghosts D} (k : sinks.Ghosts K) (old new : Warehouse D disk)
    (event : Event) (out out_new : K) : Type 0 where
  pub front : List ℕ
  pub rest : List ℕ
  pub parts : front ++ rest ≡ print (step (machine_of old) event).1
  pub written : Writes front (k.held out) (k.held out_new)
  pub leaves : (image : List ℕ) → disk.may_leave new.fetch.disk image →
      ((front ≡ []) × Stands image (rest_of (machine_of old))) ⊎ Stands image (rest_of (step (machine_of old) event).0)

-- so over a told file
pub record Halts {D K : Type 0} {disk : disks.Ghosts D} (k : sinks.Ghosts K) (old new : Warehouse D disk)
    (event : Event) (out out_new : K) (why : Fault) : Type 0 where
  pub breaks : IsTold old → Breaks k old new event out out_new
  pub cause : HaltsBy k old new event out out_new why

-- ---- one turn

-- the first of these events was carried out
pub record AnswersFirst {D S K : Type 0} (d : disks.Ghosts D) (k : sinks.Ghosts K) (old new : Point D S K)
    (count : ℕ) (es : List Event) : Type 0 where
  pub event : Event
  pub rest : List Event
  pub first : es ≡ event ∷ rest
  pub left : new.left ≡ Some rest
  pub room : is_beyond old.limit old.reach.end (made_at old.reach event) ≡ false
  pub reach : new.reach ≡ reach_after old.reach event
  pub adds : Adds (d.bytes old.world.disk) (d.bytes new.world.disk) (option_to_list (made_at old.reach event))
  pub written : Writes (print (step old.reach.machine event).1) (k.held old.world.out) (k.held new.world.out)
  pub refused : count ≡ refusals_of old.reach.machine event

-- so where events and the file are told, and at most one reply more was a refusal; a crash left the state before it or
-- after it
pub record Answers {D S K : Type 0} (d : disks.Ghosts D) (k : sinks.Ghosts K) (old new : Point D S K)
    (count : ℕ) : Type 0 where
  pub few : count ≤ 1
  pub each : IsToldAt d old → (es : List Event) → old.left ≡ Some es → AnswersFirst d k old new count es
  pub leaves : IsToldAt d old → LeavesOnly d.moment d.left_since old.world.disk new.world.disk
      (StandsForEither old.reach.machine.state new.reach.machine.state)

-- no event was left, the source has nothing left, and nothing else changed
pub record Finds {D S K : Type 0} (s : sources.Ghosts S) (old new : Point D S K) : Type 0 where
  pub ends : EndsEvents old.left new.left (s.left new.world.script)
  pub reach : new.reach ≡ old.reach
  pub disk : new.world.disk ≡ old.world.disk
  pub out : new.world.out ≡ old.world.out

abbrev pub Advances : {D S K : Type 0} → disks.Ghosts D → sources.Ghosts S → sinks.Ghosts K → Point D S K →
    Point D S K → Option ℕ → Type 0
Advances d s k old new None = Finds s old new
Advances d s k old new (Some count) = Answers d k old new count

-- ---- how it ends

-- `need` bytes from `len` on pass the limit. Where events and the file are told, it is the first of their commits that
-- there is no room for, and what was written is the whole text of the events before it.
pub record IsFull {D S K : Type 0} (d : disks.Ghosts D) (k : sinks.Ghosts K) (old : Point D S K) (new : World D S K)
    (len need : ℕ) : Type 0 where
  pub past : old.limit < len + need
  pub first : IsToldAt d old → (es : List Event) → old.left ≡ Some es →
      first_beyond old.limit old.reach es ≡ Some (len, need)
  pub written : IsToldAt d old → (es : List Event) → old.left ≡ Some es →
      Writes (text old.reach.machine (fitting_at old.limit old.reach es)) (k.held old.world.out) (k.held new.out)

-- where events and the file are told, a front of their text was written
pub record Stops {D S K : Type 0} (d : disks.Ghosts D) (s : sources.Ghosts S) (k : sinks.Ghosts K)
    (old : Point D S K) (new : World D S K) (why : Fault) : Type 0 where
  pub front : IsToldAt d old → (es : List Event) → old.left ≡ Some es →
      WritesFront (text old.reach.machine es) (k.held old.world.out) (k.held new.out)
  pub safe : EndsSafely d k old new
  pub cause : IsCounted d s k old.world new why
  pub full : (len need : ℕ) → why ≡ FileFull len need → IsFull d k old new len need

-- all of these events were carried out, there was room for all of their commits, and the file has them
pub record ServesAll {D S K : Type 0} (d : disks.Ghosts D) (s : sources.Ghosts S) (k : sinks.Ghosts K)
    (old : Point D S K) (new : World D S K) (count : ℕ) (es : List Event) : Type 0 where
  pub written : Writes (text old.reach.machine es) (k.held old.world.out) (k.held new.out)
  pub refused : count ≡ refusals old.reach.machine es
  pub read : s.left new.script ≡ Some []
  pub room : first_beyond old.limit old.reach es ≡ None
  pub adds : Adds (d.bytes old.world.disk) (d.bytes new.disk) (all_made_at old.reach es)

-- so where events and the file are told, and that is the machine then
pub record Serves {D S K : Type 0} (d : disks.Ghosts D) (s : sources.Ghosts S) (k : sinks.Ghosts K)
    (old : Point D S K) (machine : Machine) (new : World D S K) (count : ℕ) : Type 0 where
  pub each : IsToldAt d old → (es : List Event) → old.left ≡ Some es → ServesAll d s k old new count es
  pub reached : IsToldAt d old → (es : List Event) → old.left ≡ Some es → machine ≡ after old.reach.machine es
  pub safe : EndsSafely d k old new

-- the file is all on the disk, and where it and the events are told it stands for what is committed after them
pub record Closes {D S K : Type 0} (d : disks.Ghosts D) (s : sources.Ghosts S) (k : sinks.Ghosts K)
    (old : Point D S K) (new : World D S K) (count : ℕ) : Type 0 where
  pub each : IsToldAt d old → (es : List Event) → old.left ≡ Some es → ServesAll d s k old new count es
  pub safe : EndsSafely d k old new
  pub durable : IsSettled (d.bytes new.disk) (d.may_leave new.disk)
  pub stands : IsToldAt d old → (es : List Event) → old.left ≡ Some es →
      (file : List ℕ) × (d.bytes new.disk ≡ Some file) × Stands file (rest_of (after old.reach.machine es))

abbrev pub EndsAs : {D S K : Type 0} → disks.Ghosts D → sources.Ghosts S → sinks.Ghosts K → Point D S K →
    World D S K → Status → Type 0
EndsAs d s k old new Usage = ⊥
EndsAs d s k old new (Read count) = Closes d s k old new count
EndsAs d s k old new (Stopped why) = Stops d s k old new why

-- ---- the turns so far

-- the first events were carried out, and their whole text was written; over a told file a crash so far left what was
-- committed after some of them
pub record GoesOn {D S K : Type 0} (d : disks.Ghosts D) (k : sinks.Ghosts K) (first now : Point D S K) (count : ℕ)
    (es : List Event) : Type 0 where
  pub rest : List Event
  pub left : now.left ≡ Some rest
  pub done : List Event
  pub parts : done ++ rest ≡ es
  pub reach : now.reach ≡ reach_after_all first.reach done
  pub room : first_beyond first.limit first.reach es ≡ first_beyond first.limit now.reach rest
  pub fits : fitting_at first.limit first.reach es ≡ done ++ fitting_at first.limit now.reach rest
  pub adds : Adds (d.bytes first.world.disk) (d.bytes now.world.disk) (all_made_at first.reach done)
  pub written : Writes (text first.reach.machine done) (k.held first.world.out) (k.held now.world.out)
  pub refused : count ≡ refusals first.reach.machine done
  pub leaves : LeavesOnly d.moment d.left_since first.world.disk now.world.disk
      (StandsWithin first.reach.machine es 0 (length done))

-- so where events and the file are told
pub record Goes {D S K : Type 0} (d : disks.Ghosts D) (k : sinks.Ghosts K) (first now : Point D S K)
    (count : ℕ) : Type 0 where
  pub each : IsToldAt d first → (es : List Event) → first.left ≡ Some es → GoesOn d k first now count es
