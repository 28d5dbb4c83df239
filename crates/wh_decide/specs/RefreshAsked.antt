-- What a refresh asks the fetch for, of which its reply tells that it brings each table by its changes.
--     refresh_bound, refresh_requested, refresh_acted, refresh_in
--         the dynamic table that a statement, a command's text, what a tick carries out, and an event refresh,
--         and the moment that it is brought to
--     AsksToRefresh     of the objects of a catalog, as lines tell
--     AsksToBring       so of what a refresh comes to
--     AsksAsReplied     and of the reply to an event
use Rattle.std.specs.Prelude.{◌≡◌, ℕ, List, map, Option, Some, None}
use denote.Ref.{Bor}
use Rattle.wh_part.specs.declared.meta.PartId.{PartId}
use Rattle.wh_reply.specs.Reply.{Reply, Refreshed, RefreshedTables}
use Rattle.wh_reply.specs.View.{refreshed_view}
use Rattle.wh_grammar.specs.Spelled.{Request, TooLong, Unreadable, Asked}
use Rattle.wh_ddl_naming.specs.Statements.{Bound, RefreshDynamicTable}
use Rattle.wh_graph.specs.Action.{Action, DoesNothing}
use Rattle.wh_moment.specs.Upstream.{dynamics_of, brought}
use Rattle.wh_moment.specs.Moment.{due_table}
use Rattle.wh_machine.specs.Outcome.{Machine}
use Rattle.wh_machine.specs.Statements.{meant_in}
use Rattle.wh_machine.specs.Step.{Event, Command, Tick}
use Rattle.wh_machine.specs.Ticks.{action_at}
use Rattle.wh_catalog.specs.declared.catalog.Catalog.{Catalog}
use Rattle.wh_catalog.specs.declared.object.StoredObject.{StoredObject}
use Rattle.wh_catalog.specs.Catalog.{kept_of}
use Rattle.wh_catalog.specs.Object.{kept_objects}
use Rattle.wh_refresh.specs.Objects.{objects_in, objects_at}
use Rattle.wh_refresh.specs.Asked.{AsksAsTold}
use Rattle.wh_refresh.specs.declared.refreshing.Refreshing.{Refreshing}
use Rattle.wh_refresh.specs.declared.refreshing.Refreshing.TheVariants.{Fails, Brings}

abbrev pub refresh_bound : ℕ → Bound → Option (ℕ × ℕ)
refresh_bound stamp (RefreshDynamicTable id) = Some (id, stamp)
refresh_bound stamp _ = None

abbrev pub refresh_requested : Machine → Request → Option (ℕ × ℕ)
refresh_requested m (Asked tree) = refresh_bound m.state.last (meant_in m tree).value
refresh_requested m TooLong = None
refresh_requested m Unreadable = None

abbrev pub refresh_acted : Machine → Action → Option (ℕ × ℕ)
refresh_acted m DoesNothing = due_table (dynamics_of m.state.objects) m.state.last
refresh_acted m _ = None

abbrev pub refresh_in : Machine → Event → Option (ℕ × ℕ)
refresh_in m (Command reading session request) = refresh_requested m request
refresh_in m (Tick reading) = refresh_acted m (action_at m)

pub record AsksToRefresh (c : Catalog) (id moment : ℕ) (before after : List PartId) (lines : List Refreshed)
    : Type 0 where
  pub objects : List (Bor StoredObject)
  pub all : kept_objects (objects_at objects) ≡ kept_of c
  pub asks : AsksAsTold objects moment (brought (dynamics_of (objects_in objects)) id moment) before after lines

abbrev pub AsksToBring : Catalog → ℕ → ℕ → List PartId → List PartId → Refreshing → Type 0
AsksToBring c id moment before after (Fails why) = Unit {0}
AsksToBring c id moment before after (Brings lines changes) =
    AsksToRefresh c id moment before after (map refreshed_view lines.items)

abbrev pub AsksAsReplied : Catalog → Option (ℕ × ℕ) → List PartId → List PartId → Reply → Type 0
AsksAsReplied c (Some (id, moment)) before after (RefreshedTables lines) = AsksToRefresh c id moment before after lines
AsksAsReplied c _ before after _ = Unit {0}
