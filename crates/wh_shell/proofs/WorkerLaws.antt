-- The number of workers changes no answer.
--     promised_alike     what is promised
--     written_alike      what is written
use Rattle.std.proofs.Common.{◌≡◌, ℕ, List, Option, Some, None, refl, sym, ap, subst, ◌∙◌}
use Rattle.wh_machine.specs.Outcome.{opened, rest_of}
use Rattle.wh_machine.specs.Step.{after}
use Rattle.wh_world.specs.declared.disk.Disk as disks
use Rattle.wh_world.specs.declared.source.Source as sources
use Rattle.wh_world.specs.declared.sink.Sink as sinks
use Rattle.wh_words.specs.declared.task.Task.{Task}
use Rattle.wh_words.specs.declared.task.Task.TheVariants.{Run, Bench}
use Rattle.wh_shell.specs.Asked.{asked_by, CarriesOut, wants_clock}
use Rattle.wh_shell.specs.Workers.{with_one_worker, AskAlike, SamePromises, PromisesAlike, WritesAlike}
use Rattle.wh_shell.specs.World.{World}
use Rattle.wh_shell.specs.declared.status.Status.{Status}

-- a task promises what it promises by one worker
by_one : {D S K : Type 0} (d : disks.Ghosts D) (s : sources.Ghosts S) (k : sinks.Ghosts K)
    (readings : Option (List ℕ)) (task : Task) (old new : World D S K) (status : Status) →
    CarriesOut d s k readings task old new status → CarriesOut d s k readings (with_one_worker task) old new status
by_one d s k readings (Run workers system) old new status kept = kept
by_one d s k readings (Bench workers rows seed) old new status kept = kept

-- and no more
by_several : {D S K : Type 0} (d : disks.Ghosts D) (s : sources.Ghosts S) (k : sinks.Ghosts K)
    (readings : Option (List ℕ)) (task : Task) (old new : World D S K) (status : Status) →
    CarriesOut d s k readings (with_one_worker task) old new status → CarriesOut d s k readings task old new status
by_several d s k readings (Run workers system) old new status kept = kept
by_several d s k readings (Bench workers rows seed) old new status kept = kept

carried_alike : {D S K : Type 0} (d : disks.Ghosts D) (s : sources.Ghosts S) (k : sinks.Ghosts K)
    (readings : Option (List ℕ)) (task other : Task) (old new : World D S K) (status : Status) →
    with_one_worker task ≡ with_one_worker other → CarriesOut d s k readings task old new status →
    CarriesOut d s k readings other old new status
carried_alike d s k readings task other old new status same kept =
    by_several d s k readings other old new status
    (subst (λ (t : Task). CarriesOut d s k readings t old new status) same
    (by_one d s k readings task old new status kept))

clock_by_one : (task : Task) → wants_clock (Some task) ≡ wants_clock (Some (with_one_worker task))
clock_by_one (Run workers system) = refl
clock_by_one (Bench workers rows seed) = refl

one_task : (t u : Task) → AskAlike (Some t) (Some u) → with_one_worker t ≡ with_one_worker u
one_task t u alike = cc

same_promises : {D S K : Type 0} (d : disks.Ghosts D) (s : sources.Ghosts S) (k : sinks.Ghosts K)
    (readings : Option (List ℕ)) (one other : Option Task) → AskAlike one other →
    SamePromises d s k readings one other
same_promises d s k readings None None alike = record {
  refuses = λ status refused. refused;
  carries = λ task other_task old new status is also kept. absurd cc;
  clock = refl;
}
same_promises d s k readings (Some t) None alike = absurd cc
same_promises d s k readings None (Some u) alike = absurd cc
same_promises d s k readings (Some t) (Some u) alike =
    let same = one_task t u alike in
    record {
      refuses = λ status refused. refused;
      carries = λ task other_task old new status is also kept.
          let first : t ≡ task = cc in
          let second : u ≡ other_task = cc in
          carried_alike d s k readings task other_task old new status
          (ap with_one_worker (sym first) ∙ same ∙ ap with_one_worker second) kept;
      clock = clock_by_one t ∙ ap (λ task. wants_clock (Some task)) same ∙ sym (clock_by_one u);
    }

pub promised_alike : {D S K : Type 0} (d : disks.Ghosts D) (s : sources.Ghosts S) (k : sinks.Ghosts K) →
    PromisesAlike d s k
promised_alike d s k readings one other alike = same_promises d s k readings (asked_by one) (asked_by other) alike

-- both wrote the machine's text, and both files stand for what it has committed
pub written_alike : {D S K : Type 0} (d : disks.Ghosts D) (s : sources.Ghosts S) (k : sinks.Ghosts K) →
    WritesAlike d s k
written_alike d s k limit timing one one_new other other_new n m alike runs also =
    let file = alike.file in
    let first = runs.runs file alike.input alike.before alike.start alike.events alike.first in
    let second = also.runs file alike.input alike.before alike.start alike.events alike.second in
    record {
      refused = first.refused ∙ sym second.refused;
      written = first.written ∙ sym second.written;
      state = rest_of (after (opened alike.start) alike.events);
      first = (first.file, first.told, first.stands);
      second = (second.file, second.told, second.stands);
    }
