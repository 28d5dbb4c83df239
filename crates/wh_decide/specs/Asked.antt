-- The partitions that are asked for by a statement that reads standard streams alone.
--     IsStandardAt        an id of a standard stream
--     IsMovedBelow        a partition that moved for the stream of one of some ids, up to the session's start
--     AsksForMoved        of sources that are all standard streams, no other partition is asked for
--     AsksAsBound         so of a SELECT, and of a test for data
--     AsksAsRequested     and of the text of a command
--     AsksInEvent         and of an event
use Rattle.std.specs.Prelude.{◌≡◌, ℕ, List, [], ◌∷◌, Some, Contains}
use Rattle.std.specs.List.{AllByRecursion}
use Rattle.wh_part.specs.declared.meta.PartId.{PartId}
use Rattle.wh_filed.specs.Filed.{Filed}
use Rattle.wh_filed.specs.Asking.{AsksFor}
use Rattle.wh_grammar.specs.Spelled.{Request, TooLong, Unreadable, Asked}
use Rattle.wh_ddl_naming.specs.Statements as ddl
use Rattle.wh_ddl_naming.specs.Statements.{Bound}
use Rattle.wh_state.specs.State.{Stream}
use Rattle.wh_state.specs.Objects.{stream_at}
use Rattle.wh_machine.specs.Outcome.{Machine}
use Rattle.wh_machine.specs.Reading.{start_in}
use Rattle.wh_machine.specs.Statements.{meant_in}
use Rattle.wh_machine.specs.Step.{Event, Command, Tick}
use Rattle.wh_catalog.specs.declared.catalog.Catalog.{Catalog}
use Rattle.wh_catalog.specs.Catalog.{stored_of}
use Rattle.wh_stream.specs.Asked.{IsStandard, IsMovedFor}

pub record IsStandardAt (c : Catalog) (id : ℕ) : Type 0 where
  pub stream : Stream
  pub found : stream_at (stored_of c).objects id ≡ Some stream
  pub standard : IsStandard stream

pub record IsMovedBelow (c : Catalog) (start : ℕ) (ids : List ℕ) (f : Filed) : Type 0 where
  pub id : ℕ
  pub read : Contains ids id
  pub stream : Stream
  pub found : stream_at (stored_of c).objects id ≡ Some stream
  pub moved : IsMovedFor c stream start f

abbrev pub AsksForMoved : Catalog → ℕ → List ℕ → List PartId → List PartId → Type 0
AsksForMoved c start ids before after =
    AllByRecursion (IsStandardAt c) ids → AsksFor (IsMovedBelow c start ids) before after

abbrev pub AsksAsBound : Catalog → ℕ → Bound → List PartId → List PartId → Type 0
AsksAsBound c start (ddl.Select b) before after = AsksForMoved c start b.sources before after
AsksAsBound c start (ddl.HasData id) before after = AsksForMoved c start (id ∷ []) before after
AsksAsBound c start _ before after = Unit {0}

abbrev pub AsksAsRequested : Catalog → Machine → ℕ → Request → List PartId → List PartId → Type 0
AsksAsRequested c m session (Asked tree) before after =
    AsksAsBound c (start_in m session) (meant_in m tree).value before after
AsksAsRequested c m session TooLong before after = Unit {0}
AsksAsRequested c m session Unreadable before after = Unit {0}

abbrev pub AsksInEvent : Catalog → Machine → Event → List PartId → List PartId → Type 0
AsksInEvent c m (Command reading session request) before after = AsksAsRequested c m session request before after
AsksInEvent c m (Tick reading) before after = Unit {0}
