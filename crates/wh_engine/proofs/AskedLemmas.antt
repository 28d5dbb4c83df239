-- What an event asks for, of an open warehouse.
--     unasked          it asks for nothing
--     asked_behind     what was asked for behind a call that only read, at the event's stamp
--     asked_still      nothing more is asked for
use Rattle.std.proofs.Common.{◌≡◌, ℕ, ◌+◌, max, List, [], sym, subst, ◌∙◌, arith}
use Rattle.wh_world.specs.declared.disk.Disk.{Ghosts}
use Rattle.wh_part.specs.declared.meta.PartId.{PartId}
use Rattle.wh_state.specs.State.{stamped}
use Rattle.wh_machine.specs.Outcome.{Machine}
use Rattle.wh_machine.specs.Step.{Event, Command, Tick, reading_of, stamp_of}
use Rattle.wh_catalog.specs.Catalog.{state_of}
use Rattle.wh_catalog.specs.declared.catalog.Catalog.{Catalog}
use Rattle.wh_txn.specs.View.{sessions_of}
use Rattle.wh_txn.specs.declared.sessions.Sessions.{Sessions}
use Rattle.wh_decide.specs.Decision.{machine_at}
use Rattle.wh_decide.specs.Asked.{AsksInEvent}
use Rattle.wh_decide.proofs.AskLemmas.{request_unasked}
use Rattle.wh_engine.specs.declared.warehouse.Warehouse.{Warehouse}
use Rattle.wh_engine.specs.Warehouse.{IsOnlyRead, IsBegun, ReadsNothing, fetched_of, decided_at}

event_unasked : (c : Catalog) (m : Machine) (e : Event) (names : List PartId) → AsksInEvent c m e names names
event_unasked c m (Command reading session r) names = request_unasked c m session r names
event_unasked c m (Tick reading) names = tt

module _ {D : Type 0} {seen : Ghosts D} where
  pub unasked : (old begun : Warehouse D seen) (e : Event) → IsBegun begun
      → AsksInEvent old.catalog (decided_at old e) e [] (fetched_of begun)
  unasked old begun e is =
      subst (AsksInEvent old.catalog (decided_at old e) e []) (sym is.asked)
      (event_unasked old.catalog (decided_at old e) e [])

  -- whatever is said of it
  pub asked_behind : (Asks : Catalog → Machine → List PartId → List PartId → Type 0) (old begun new : Warehouse D seen)
      (e : Event) (stamp : ℕ)
      → IsOnlyRead old new
      → IsBegun begun
      → stamp ≡ stamp_of (state_of old.catalog) (reading_of e)
      → Asks new.catalog (machine_at (stamped (state_of new.catalog) stamp) (sessions_of new.sessions))
      (fetched_of begun) (fetched_of new)
      → Asks old.catalog (decided_at old e) [] (fetched_of new)
  asked_behind Asks old begun new e stamp same is at asks =
      subst (λ (names : List PartId). Asks old.catalog (decided_at old e) names (fetched_of new)) is.asked
      (subst (λ (n : ℕ). Asks old.catalog
      (machine_at (stamped (state_of old.catalog) n) (sessions_of old.sessions)) (fetched_of begun) (fetched_of new)) at
      (subst (λ (s : Sessions). Asks old.catalog (machine_at (stamped (state_of old.catalog) stamp) (sessions_of s))
      (fetched_of begun) (fetched_of new)) same.sessions
      (subst (λ (c : Catalog). Asks c (machine_at (stamped (state_of c) stamp) (sessions_of new.sessions))
      (fetched_of begun) (fetched_of new)) same.catalog asks)))

  pub asked_still : (Asks : List PartId → Type 0) (new last : Warehouse D seen) → ReadsNothing new last
      → Asks (fetched_of new)
      → Asks (fetched_of last)
  asked_still Asks new last nothing asks = subst Asks (sym nothing.asked) asks
