-- Known texts of replies and refusals, worked out by hand: a wrong rule doesn't check.
use Rattle.std.proofs.Common.{◌≡◌, [], ◌∷◌, Some, None, true, false, refl}
use Rattle.std.specs.Prelude.{codes}
use Rattle.std.specs.Fmt.{digits}
use Rattle.wh_reply.specs.Reply.{Aftermath, Inserted, Updated, Deleted, Merged, RootRunning, RootNotSuspended}
use Rattle.wh_reply.specs.Reply.{HasChildren, SourceGone, CreatedTask, DroppedTask, Resumed, Suspended, Started}
use Rattle.wh_reply.specs.Reply.{TaskSucceeded, TaskSkipped, TaskFailed, Changed, Refused, is_refusal, print}
use Rattle.wh_reply.specs.Reply.{NoData, Full, Refreshed, CreatedDynamicTable, RefreshedTables, RefreshFailed}
use Rattle.wh_reply.specs.Reply.{NumberOutOfRange}

-- the run goes on, and no other task is skipped
abbrev goes_on : Aftermath
goes_on = record { skipped = []; graph = None }

abbrev succeeds : Aftermath
succeeds = record { skipped = []; graph = Some (record { root = codes "R"; has_failed = false; is_suspended = false }) }

abbrev fails : Aftermath
fails = record {
  skipped = codes "B" ∷ codes "C" ∷ [];
  graph = Some (record { root = codes "R"; has_failed = true; is_suspended = true });
}

merged : print (TaskSucceeded (codes "A") (Merged 1 20 3) succeeds)
    ≡ codes "TASK A SUCCEEDED MERGED 1 INSERTED 20 UPDATED 3 DELETED\nGRAPH R SUCCEEDED\n"
unfolding print digits
merged = refl

-- the tasks that are skipped in their order, and the run's end behind them
failed : print (TaskFailed (codes "A") (SourceGone (codes "S")) fails)
    ≡ codes "TASK A FAILED E15 SourceGone S\nTASK B SKIPPED\nTASK C SKIPPED\nGRAPH R FAILED SUSPENDED\n"
unfolding print
failed = refl

skipped : print (TaskSkipped (codes "A") goes_on) ≡ codes "TASK A SKIPPED\n"
unfolding print
skipped = refl

-- a statement by itself
changed : (print (Changed (Inserted 0)) ≡ codes "INSERTED 0\n") × (print (Changed (Updated 12)) ≡ codes "UPDATED 12\n")
    × (print (Changed (Deleted 3)) ≡ codes "DELETED 3\n")
    × (print (Changed (Merged 1 2 3)) ≡ codes "MERGED 1 INSERTED 2 UPDATED 3 DELETED\n")
unfolding print digits
changed = (refl, refl, refl, refl)

named : (print (CreatedTask (codes "A")) ≡ codes "CREATED TASK A\n")
    × (print (DroppedTask (codes "A")) ≡ codes "DROPPED TASK A\n") × (print (Resumed (codes "A")) ≡ codes "RESUMED A\n")
    × (print (Suspended (codes "A")) ≡ codes "SUSPENDED A\n") × (print (Started (codes "R")) ≡ codes "STARTED R\n")
unfolding print
named = (refl, refl, refl, refl, refl)

refused : (print (Refused (RootRunning (codes "R"))) ≡ codes "E12 RootRunning R\n")
    × (print (Refused (RootNotSuspended (codes "R"))) ≡ codes "E12 RootNotSuspended R\n")
    × (print (Refused (HasChildren (codes "B"))) ≡ codes "E12 HasChildren B\n")
unfolding print
refused = (refl, refl, refl)

-- ---- dynamic tables

abbrev kept : Refreshed
kept = record { name = codes "D"; moment = 48000; action = NoData; plus = 0; minus = 0 }

abbrev evaluated : Refreshed
evaluated = record { name = codes "E"; moment = 48000; action = Full; plus = 12; minus = 3 }

initialized : print (CreatedDynamicTable (codes "E") (kept ∷ evaluated ∷ []))
    ≡ codes "CREATED DYNAMIC TABLE E\nD REFRESHED 48000 NO_DATA +0 -0\nE REFRESHED 48000 FULL +12 -3\n"
unfolding print digits
initialized = refl

-- where each stands for the moment already
nothing_refreshed : print (RefreshedTables []) ≡ codes "IDLE\n"
unfolding print
nothing_refreshed = refl

refresh_failed : print (RefreshFailed (codes "D") 96000 NumberOutOfRange true)
    ≡ codes "D FAILED 96000 E19 NumberOutOfRange SUSPENDED\n"
unfolding print digits
refresh_failed = refl

-- ---- replies that are no refusals

-- a task that failed is no refusal of its command
no_refusal : is_refusal (TaskFailed (codes "A") (SourceGone (codes "S")) fails) ≡ false
no_refusal = refl

refresh_is_no_refusal : is_refusal (RefreshFailed (codes "D") 96000 NumberOutOfRange true) ≡ false
refresh_is_no_refusal = refl
