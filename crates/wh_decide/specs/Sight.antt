-- What a statement of a session is decided by.
--     machine_in      the machine at the statement's stamp
--     objects_seen    the objects as the session sees them
--     IsShown         what is told of the file's partitions is what they were
--     IsSound         the file's state is sound
--     Comes           a decision comes to that outcome of it
--     IsReady         a decision can be carried out
--     commit_meant    the commit of an outcome, where it makes one
use Rattle.std.specs.Prelude.{ℕ, List, Option, option_map}
use Rattle.wh_state.specs.Sound.{Sound}
use Rattle.wh_state.specs.State.{Object, stamped}
use Rattle.wh_state.specs.Commit.{Commit}
use Rattle.wh_state.specs.Written.{commit_for}
use Rattle.wh_filed.specs.Filed.{AllShown}
use Rattle.wh_catalog.specs.Catalog.{stored_of, state_of, filed_of}
use Rattle.wh_txn.specs.View.{sessions_of}
use Rattle.wh_machine.specs.Reading as reading
use Rattle.wh_machine.specs.Outcome.{Machine, Outcome, acts_in}
use Rattle.wh_decide.specs.declared.decision.Decision.{Decision}
use Rattle.wh_decide.specs.declared.sight.Sight.{Sight}
use Rattle.wh_decide.specs.Decision.{Decides, CanSettle, settlement_of, machine_at}

abbrev pub machine_in : Sight → Machine
machine_in sight = machine_at (stamped (state_of sight.catalog.now) sight.stamp) (sessions_of sight.sessions.now)

abbrev pub objects_seen : Sight → List Object
objects_seen sight = reading.objects_seen (machine_in sight) sight.session

-- where the bytes of the file are told
abbrev pub IsShown : Option (List ℕ) → Sight → Type 0
IsShown told sight = AllShown told (filed_of sight.catalog.now)

abbrev pub IsSound : Sight → Type 0
IsSound sight = Sound (state_of sight.catalog.now)

abbrev pub Comes : Sight → Decision → Outcome → Type 0
Comes sight decision outcome =
    Decides (stored_of sight.catalog.now) (sessions_of sight.sessions.now) sight.stamp decision outcome

-- over any disk
abbrev pub IsReady : Sight → Decision → Type 0
IsReady sight decision = CanSettle (sessions_of sight.sessions.now) sight.stamp (settlement_of decision)

abbrev pub commit_meant : Sight → Outcome → Option Commit
commit_meant sight outcome = option_map (commit_for (stored_of sight.catalog.now) sight.stamp) (acts_in outcome)
