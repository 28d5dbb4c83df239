-- Whether the file has room for what is committed.
--     Reach, reach_of                    where a file's gate ends, what it says, and the machine
--     made_at, reach_after               the commit of one event, and the reach behind it
--     all_made_at, reach_after_all       the commits of events, and the reach behind them
--     LacksRoom                          there is no room for the commit of one event
--     first_beyond, fitting_at           the first commit of events that there is no room for, and the events before it
--     FillsBy                            what the status of a run says of it
use Rattle.std.specs.Prelude.{◌≡◌, ℕ, ◌+◌, IsTrue, List, [], ◌∷◌, Option, Some, None}
use Rattle.wh_state.specs.Stored.{Stored}
use Rattle.wh_state.specs.Commit.{Commit}
use Rattle.wh_state.specs.Written.{kept_after, is_beyond, added_length}
use Rattle.wh_machine.specs.Outcome.{Machine}
use Rattle.wh_machine.specs.Step.{Event, step}
use Rattle.wh_machine.specs.Made.{made, all_made, overflow, fitting}
use Rattle.wh_world.specs.declared.disk.Disk.{Ghosts}
use Rattle.wh_journal.specs.Journal.{end_of}
use Rattle.wh_catalog.specs.Catalog.{stored_of}
use Rattle.wh_engine.specs.Warehouse.{machine_of}
use Rattle.wh_engine.specs.declared.warehouse.Warehouse.{Warehouse}
use Rattle.wh_shell.specs.declared.fault.Fault.TheVariants.{FileFull}
use Rattle.wh_shell.specs.declared.status.Status.{Status}
use Rattle.wh_shell.specs.declared.status.Status.TheVariants.{Usage, Read, Stopped}

pub record Reach : Type 0 where
  pub end : ℕ
  pub stored : Stored
  pub machine : Machine

abbrev pub reach_of : {D : Type 0} {disk : Ghosts D} → Warehouse D disk → Reach
reach_of w = record { end = end_of w.journal; stored = stored_of w.catalog; machine = machine_of w }

-- ---- one event, and several

abbrev pub made_at : Reach → Event → Option Commit
made_at r e = made r.stored r.machine e

abbrev pub reach_after : Reach → Event → Reach
reach_after r e = record {
  end = r.end + added_length (made_at r e);
  stored = kept_after r.stored (made_at r e);
  machine = (step r.machine e).0;
}

abbrev pub all_made_at : Reach → List Event → List Commit
all_made_at r es = all_made r.stored r.machine es

abbrev pub reach_after_all : Reach → List Event → Reach
reach_after_all r [] = r
reach_after_all r (e ∷ es) = reach_after_all (reach_after r e) es

-- ---- room

-- `need` bytes from `len` on are too many
pub record LacksRoom (limit : ℕ) (event : Event) (old : Reach) (len need : ℕ) : Type 0 where
  pub beyond : IsTrue (is_beyond limit old.end (made_at old event))
  pub from : len ≡ old.end
  pub wants : need ≡ added_length (made_at old event)

-- where the first commit of some events begins that a file of so many bytes has no room for, and what it needs
abbrev pub first_beyond : ℕ → Reach → List Event → Option (ℕ × ℕ)
first_beyond limit r es = overflow limit r.end r.stored r.machine es

abbrev pub fitting_at : ℕ → Reach → List Event → List Event
fitting_at limit r es = fitting limit r.end r.stored r.machine es

-- where the script was read to its end there is none, and a full file has its numbers
abbrev pub FillsBy : Status → Option (ℕ × ℕ) → Type 0
FillsBy Usage first = Unit {0}
FillsBy (Read refusals) first = first ≡ None
FillsBy (Stopped why) first = (len need : ℕ) → why ≡ FileFull len need → first ≡ Some (len, need)
