-- What a call that goes well makes of a warehouse.
--     AddsCommit     the commits of a file are those before, and one more if there is one
--     CarriesOut     a commit is added, where there is one, and the machine is that
--     CarriesSome    so of some commit and some machine
--     Answered       an event is carried out, and that is its reply
use Rattle.std.specs.Prelude.{◌≡◌, ◌+◌, ◌++◌, ℕ, List, [], ◌∷◌, Option, Some, None, is_some, false}
use Rattle.wh_state.specs.Commit.{Commit}
use Rattle.wh_state.specs.Written.{kept_after, added_length, is_beyond}
use Rattle.wh_machine.specs.Outcome.{Machine}
use Rattle.wh_machine.specs.Step.{Event, step}
use Rattle.wh_reply.specs.Reply.{Reply}
use Rattle.wh_world.specs.declared.disk.Disk.{Ghosts}
use Rattle.wh_fetch.specs.Device.{OnlyRead}
use Rattle.wh_journal.specs.Journal.{end_of, limit_of, failed_of}
use Rattle.wh_journal.specs.declared.journal.Journal.{Journal}
use Rattle.wh_catalog.specs.Catalog.{stored_of}
use Rattle.wh_catalog.specs.declared.catalog.Catalog.{Catalog}
use Rattle.wh_engine.specs.Warehouse.{IsFileOfCommits, Filed, IsSettled, machine_of, made_in, led_to}
use Rattle.wh_engine.specs.declared.warehouse.Warehouse.{Warehouse}

-- none, or one
abbrev pub commits_in : Option Commit → List Commit
commits_in None = []
commits_in (Some commit) = commit ∷ []

-- behind the commits of a file stands that one, if there is one, and nothing else
abbrev pub AddsCommit : Option (List ℕ) → Option (List ℕ) → Journal → Journal → Catalog → Catalog → Option Commit
    → Type 0
AddsCommit old new j k c d commit = (before after : List ℕ) → old ≡ Some before → new ≡ Some after
    → (h : IsFileOfCommits before j c)
    → (g : IsFileOfCommits after k d) × (g.commits ≡ h.commits ++ commits_in commit)

pub record CarriesOut {D : Type 0} {seen : Ghosts D} (old new : Warehouse D seen) (commit : Option Commit)
    (machine : Machine) : Type 0 where
  pub stepped : machine_of new ≡ machine
  pub stored : stored_of new.catalog ≡ kept_after (stored_of old.catalog) commit
  -- the file goes with the state, and what was all on the disk still is
  pub filed : Filed (seen.bytes old.fetch.disk) old.journal old.catalog
      → Filed (seen.bytes new.fetch.disk) new.journal new.catalog
  -- whose records are those before and the commit's
  pub adds : AddsCommit (seen.bytes old.fetch.disk) (seen.bytes new.fetch.disk) old.journal new.journal
      old.catalog new.catalog commit
  pub told : is_some (seen.bytes new.fetch.disk) ≡ is_some (seen.bytes old.fetch.disk)
  pub durable : IsSettled (seen.bytes old.fetch.disk) (seen.may_leave old.fetch.disk)
      → IsSettled (seen.bytes new.fetch.disk) (seen.may_leave new.fetch.disk)
  -- without a commit the disk is only read
  pub kept : commit ≡ None → OnlyRead seen old.fetch.disk new.fetch.disk
  -- there was room, and it is taken
  pub room : is_beyond (limit_of old.journal) (end_of old.journal) commit ≡ false
  pub grows : end_of new.journal ≡ end_of old.journal + added_length commit
  -- nothing failed before, or now
  pub healthy : failed_of old.journal ≡ None
  pub still_healthy : failed_of new.journal ≡ None
  pub no_fault : seen.faults new.fetch.disk ≡ seen.faults old.fetch.disk

-- over any disk: what is read of one whose bytes aren't told may be anything
pub record CarriesSome {D : Type 0} {seen : Ghosts D} (old new : Warehouse D seen) : Type 0 where
  pub commit : Option Commit
  pub machine : Machine
  pub carried : CarriesOut old new commit machine

pub record Answered {D : Type 0} {seen : Ghosts D} (old new : Warehouse D seen)
    (event : Event) (reply : Reply) : Type 0 where
  pub replied : reply ≡ (step (machine_of old) event).1
  pub carried : CarriesOut old new (made_in old event) (led_to old event)
