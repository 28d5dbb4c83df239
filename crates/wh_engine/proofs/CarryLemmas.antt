-- What a call makes of a warehouse.
--     carries_nothing     no commit: a stamp passes, or none is left
--     carries_behind, answered_behind     behind calls that only read
--     state_passed        the state where a stamp passes
--     state_reached       the state with a commit
--     has_room, lacks_room, is_lacking     whether there is room for it
--     record_fits, place_behind           how far it then reaches, and where its payload stands
use Rattle.std.proofs.Common.{◌≡◌, ℕ, ◌+◌, ◌-◌, ◌^◌, ◌<◌, ◌≤◌, min, List, Option, Some, None, is_some, false, inl, inr, sym, ap, subst}
use Rattle.std.proofs.Common.{◌∙◌, arith}
use Rattle.std.specs.Prelude.{IsTrue}
use Rattle.std.proofs.lemmas.Bool.{cases_lt, lt-ltb, le-ltb, ltb-true, ltb-false}
use Rattle.wh_state.specs.State.{State, stamped}
use Rattle.wh_state.specs.Stored.{Stored, meant}
use Rattle.wh_state.specs.Commit.{Commit, applied}
use Rattle.wh_state.specs.Written.{kept_after, added_length, is_beyond, record_length}
use Rattle.wh_world.specs.declared.disk.Disk.{Ghosts}
use Rattle.wh_fetch.specs.Device.{OnlyRead, only_read_on}
use Rattle.wh_journal.specs.Journal.{end_of, limit_of, failed_of}
use Rattle.wh_journal.specs.declared.journal.Journal.{Journal}
use Rattle.wh_catalog.specs.Catalog.{stored_of, state_of, filed_of}
use Rattle.wh_catalog.specs.declared.catalog.Catalog.{Catalog}
use Rattle.wh_engine.specs.declared.warehouse.Warehouse.{Warehouse}
use Rattle.wh_reply.specs.Reply.{Reply}
use Rattle.wh_machine.specs.Outcome.{Machine}
use Rattle.wh_machine.specs.Step.{Event, step}
use Rattle.wh_engine.specs.Warehouse.{IsSettled, IsOnlyRead, machine_of, made_in, led_to, state_with}
use Rattle.wh_engine.specs.Answers.{AddsCommit, CarriesOut, Answered}
use Rattle.wh_decide.proofs.CatalogLemmas.{state_is}
use Rattle.wh_engine.proofs.FileLemmas.{filed_same, adds_none}
use Rattle.wh_engine.proofs.ReadLemmas.{filed_behind, machine_behind, made_behind, led_behind}

-- ---- no commit

-- a crash leaves the file alone still
settled_read : {D : Type 0} (seen : Ghosts D) (old new : D) → OnlyRead seen old new
    → IsSettled (seen.bytes old) (seen.may_leave old) → IsSettled (seen.bytes new) (seen.may_leave new)
settled_read seen old new read settled = record {
  each = λ file told image left. settled.each file (sym read.bytes ∙ told) image (read.images image left);
}

module _ {D : Type 0} {seen : Ghosts D} where
  pub carries_nothing : (old new : Warehouse D seen) (commit : Option Commit) (machine : Machine) → commit ≡ None
      → OnlyRead seen old.fetch.disk new.fetch.disk → seen.faults new.fetch.disk ≡ seen.faults old.fetch.disk
      → new.journal ≡ old.journal → stored_of new.catalog ≡ stored_of old.catalog
      → filed_of new.catalog ≡ filed_of old.catalog → machine_of new ≡ machine → failed_of old.journal ≡ None
      → CarriesOut old new commit machine
  carries_nothing old new commit machine none read no_fault journal stored filed is healthy = record {
    stepped = is;
    stored = rw none stored;
    filed = λ h. rw (read.bytes, journal)
        (filed_same (seen.bytes old.fetch.disk) old.journal old.catalog new.catalog stored filed h);
    adds = rw (none, journal) (adds_none (seen.bytes old.fetch.disk) (seen.bytes new.fetch.disk) old.journal
        old.catalog new.catalog read.bytes stored filed);
    told = ap is_some read.bytes;
    durable = settled_read seen old.fetch.disk new.fetch.disk read;
    kept = λ _. read;
    room = rw none;
    grows = rw none (omega (arith, ap end_of journal));
    healthy = healthy;
    still_healthy = ap failed_of journal ∙ healthy;
    no_fault = no_fault;
  }

  -- behind calls that only read
  pub carries_behind : (old mid new : Warehouse D seen) (commit : Option Commit) (machine : Machine)
      → IsOnlyRead old mid → seen.faults mid.fetch.disk ≡ seen.faults old.fetch.disk → CarriesOut mid new commit machine
      → CarriesOut old new commit machine
  carries_behind old mid new commit machine read no_fault h = record {
    stepped = h.stepped;
    stored = subst (λ (c : Catalog). stored_of new.catalog ≡ kept_after (stored_of c) commit) read.catalog h.stored;
    filed = λ filed. h.filed (filed_behind old mid read filed);
    adds = subst (λ (bytes : Option (List ℕ)). AddsCommit bytes (seen.bytes new.fetch.disk) old.journal new.journal
        old.catalog new.catalog commit) read.disk.bytes
        (subst (λ (j : Journal). AddsCommit (seen.bytes mid.fetch.disk) (seen.bytes new.fetch.disk) j new.journal
        old.catalog new.catalog commit) read.journal
        (subst (λ (c : Catalog). AddsCommit (seen.bytes mid.fetch.disk) (seen.bytes new.fetch.disk) mid.journal
        new.journal c new.catalog commit) read.catalog h.adds));
    told = h.told ∙ ap is_some read.disk.bytes;
    durable = λ settled. h.durable (settled_read seen old.fetch.disk mid.fetch.disk read.disk settled);
    kept = λ none. only_read_on seen old.fetch.disk mid.fetch.disk new.fetch.disk read.disk (h.kept none);
    room = subst (λ (j : Journal). is_beyond (limit_of j) (end_of j) commit ≡ false) read.journal h.room;
    grows = subst (λ (j : Journal). end_of new.journal ≡ end_of j + added_length commit) read.journal h.grows;
    healthy = subst (λ (j : Journal). failed_of j ≡ None) read.journal h.healthy;
    still_healthy = h.still_healthy;
    no_fault = h.no_fault ∙ no_fault;
  }

-- so of an event
pub answered_behind : {D : Type 0} {seen : Ghosts D} (old mid new : Warehouse D seen) (event : Event) (reply : Reply)
    → IsOnlyRead old mid → seen.faults mid.fetch.disk ≡ seen.faults old.fetch.disk → Answered mid new event reply
    → Answered old new event reply
answered_behind old mid new event reply read no_fault h = record {
  replied = h.replied ∙ ap (λ (m : Machine). (step m event).1) (machine_behind old mid read);
  carried = carries_behind old mid new (made_in old event) (led_to old event) read no_fault
      (subst (λ (commit : Option Commit). CarriesOut mid new commit (led_to old event)) (made_behind old mid event read)
      (subst (CarriesOut mid new (made_in mid event)) (led_behind old mid event read) h.carried));
}

pub state_passed : (old new : Catalog) (stamp : ℕ) (commit : Option Commit) → commit ≡ None
    → state_of new ≡ record (state_of old) { last = stamp }
    → state_of new ≡ state_with (stored_of old) stamp commit
state_passed old new stamp commit none is =
    is ∙ ap (λ (s : State). stamped s stamp) (state_is old) ∙ ap (state_with (stored_of old) stamp) (sym none)

-- ---- a commit

-- the state with a commit, from what the catalog then says
pub state_reached : (old new : Catalog) (c : Commit) → stored_of new ≡ applied (stored_of old) c
    → (state_of new).last ≡ c.stamp
    → state_of new ≡ state_with (stored_of old) c.stamp (Some c)
state_reached old new c stored last =
    state_is new ∙ ap (λ (s : Stored). stamped (meant s) (state_of new).last) stored
    ∙ ap (stamped (meant (applied (stored_of old) c))) last

pub has_room : (most end : ℕ) (c : Commit) → (IsTrue (is_beyond most end (Some c)) → ⊥)
    → is_beyond most end (Some c) ≡ false
has_room most end c none = elim (cases_lt most (end + record_length c)) [
  | inl past ↦ absurd (none (lt-ltb most (end + record_length c) past))
  | inr within ↦ le-ltb most (end + record_length c) within
]

pub lacks_room : (most end : ℕ) (c : Commit) → most < end + record_length c → IsTrue (is_beyond most end (Some c))
lacks_room most end c h = lt-ltb most (end + record_length c) h

pub is_lacking : (most end : ℕ) (c : Commit) → IsTrue (is_beyond most end (Some c)) → most < end + record_length c
is_lacking most end c h = ltb-true most (end + record_length c) h

-- within the limit of a journal
pub record_fits : (j : Journal) (c : Commit) → is_beyond (limit_of j) (end_of j) (Some c) ≡ false
    → end_of j + record_length c ≤ 2 ^ 40
record_fits j c room =
    let fits : end_of j + record_length c ≤ limit_of j = ltb-false (limit_of j) (end_of j + record_length c) room in
    omega (arith, fits, j.limited)

-- the next payload stands behind the present gate and its length
pub place_behind : (j : Journal) (c : Commit) (at : ℕ) → is_beyond (limit_of j) (end_of j) (Some c) ≡ false
    → at ≡ min (end_of j + 8) (2 ^ 64 - 1) → at ≡ end_of j + 8
place_behind j c at room is =
    let low : end_of j + record_length c ≤ 2 ^ 40 = record_fits j c room in
    omega arith
