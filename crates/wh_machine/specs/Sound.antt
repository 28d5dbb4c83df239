-- What holds of every machine that is reached from a sound one.
--     IsBegun             a transaction began no later than at a stamp
--     AreBegun            so did the open transactions of all sessions
--     IsTableAt           the object of an id is a table, and no dynamic one
--     ChangesTables       a transaction changes such tables alone
--     AllChangeTables     so do the open transactions of all sessions
--     SoundMachine        the committed state is sound, and the sessions are of its stamps and its tables
use Rattle.std.specs.Prelude.{◌≡◌, ℕ, ◌≤◌, IsTrue, List, Option, Some, None}
use Rattle.std.specs.List.{AllByRecursion}
use Rattle.std.specs.Option.{IsSomeAnd}
use Rattle.std.specs.FinMap.{get}
use Rattle.wh_state.specs.State.{Object, at_id}
use Rattle.wh_state.specs.Objects.{is_table}
use Rattle.wh_state.specs.Sound.{Sound}
use Rattle.wh_machine.specs.Transaction.{Staged, Transaction}
use Rattle.wh_machine.specs.Sessions.{Sessions}
use Rattle.wh_machine.specs.Outcome.{Machine}

abbrev pub IsBegun : ℕ → Option Transaction → Type 0
IsBegun last None = Unit {0}
IsBegun last (Some t) = t.number ≤ last

abbrev pub AreBegun : ℕ → Sessions → Type 0
AreBegun last sessions = AllByRecursion (IsBegun last) sessions

abbrev pub IsTableAt : List Object → ℕ → Type 0
IsTableAt objects id = IsSomeAnd (at_id objects id) (λ o. IsTrue (is_table o.kind))

abbrev pub ChangesTables : List Object → Option Transaction → Type 0
ChangesTables objects None = Unit {0}
ChangesTables objects (Some t) = (id : ℕ) (s : Staged) → get t.tables id ≡ Some s → IsTableAt objects id

abbrev pub AllChangeTables : List Object → Sessions → Type 0
AllChangeTables objects sessions = AllByRecursion (ChangesTables objects) sessions

pub record SoundMachine (m : Machine) : Type 0 where
  pub state : Sound m.state
  pub begun : AreBegun m.state.last m.sessions
  pub tables : AllChangeTables m.state.objects m.sessions
