-- What a refresh asks of a fetch, where it brings a table by a change.
--     ids_of              the ids of the tables that were brought so far
--     IsFiledIn           a partition of the table of one of some ids
--     versions_at         the versions of the table of an id
--     Moves               partitions of the table of an id that moved between two moments, no number twice
--     AllMoved            what came and what went in each of some sources moved
--     StandsAt            a source holds the partitions of a version of its table for a moment
--     IsBroughtIn         its table was brought, and it holds partitions of it
--     AllStanding         one or the other of each source
--     AsksBeside          besides those of which something holds, each name came on the list at most as often as it
--                         stands on another
--     AsksByMoves         so of those that moved in the sources of a query, of each source as often as it is scanned
--     AsksOfChange        so of the query of a dynamic table
--     Besides             a partition of those brought so far, or one of some
--     IsCounted           a dynamic table whose query is linear, or of which groups are kept
--     AsksOf, AsksOfAll   what the table of an id asks for, and each of several, one after the other
--     IsCountedBy, AreCounted     one that is brought by nothing new, or by the change of such a query, and several
--     actions_of          what is done to those brought so far
--     by_waves            the ids of a refresh, wave by wave
--     AsksAsTold          so of a refresh that tells of each table that it is brought so
--     AsksAsBrought       and of one that may fail
use Rattle.std.specs.Prelude.{◌≡◌, ◌⊎◌, ◌≤◌, ℕ, List, [], ◌∷◌, ◌++◌, map, Contains, slice_index_or as get_or}
use Rattle.std.specs.Prelude.{true, Some, is_some}
use Rattle.std.specs.List.{AllByRecursion}
use Rattle.std.specs.Option.{option_map_or}
use denote.Ref.{Bor}
use Rattle.wh_part.specs.declared.meta.PartId.{PartId}
use Rattle.wh_filed.specs.Filed.{Filed, partitions_filed}
use Rattle.wh_filed.specs.Asking.{IsNameOf, times}
use Rattle.wh_meaning.specs.Query.{Query}
use Rattle.wh_maintenance.specs.Delta.{linear}
use Rattle.wh_maintenance.specs.Parts.{IsDistinct}
use Rattle.wh_reply.specs.Reply.{Refreshed, RefreshAction, Full, Incremental, NoData}
use Rattle.wh_reply.specs.View.{action_view, refreshed_view}
use Rattle.wh_exec.specs.Asked.{asked_for}
use Rattle.wh_delta.specs.Moved.{same_number}
use Rattle.wh_state.specs.State.{Object, content_in}
use Rattle.wh_state.specs.Stored.{StoredVersion}
use Rattle.wh_state.specs.Objects.{table_at, dynamic_at}
use Rattle.wh_state.specs.Dynamic.{Dynamic, ids_read}
use Rattle.wh_state.specs.Bound.{query_bound}
use Rattle.wh_moment.specs.Upstream.{dynamics_of}
use Rattle.wh_waves.specs.Waves.{waves, all_in}
use Rattle.wh_version.specs.Times.{data_at}
use Rattle.wh_version.specs.Moved.{IsMoved}
use Rattle.wh_catalog.specs.declared.object.StoredObject.{StoredObject}
use Rattle.wh_refresh.specs.Objects.{objects_in, stored_in, filed_at_id}
use Rattle.wh_refresh.specs.declared.refreshing.Refreshing.{Refreshing}
use Rattle.wh_refresh.specs.declared.refreshing.Refreshing.TheVariants.{Fails, Brings}
use Rattle.wh_refresh.specs.Sources.{filed_by, IsPartOf}
use Rattle.wh_refresh.specs.declared.sources.SourceHeld.{SourceHeld}
use Rattle.wh_refresh.specs.declared.brought.Brought.{Brought}

abbrev pub ids_of : List Brought → List ℕ
ids_of brought = map (λ one. one.id) brought

pub record IsFiledIn (objects : List (Bor StoredObject)) (ids : List ℕ) (f : Filed) : Type 0 where
  pub id : ℕ
  pub among : Contains ids id
  pub filed : Contains (filed_at_id objects id) f

abbrev pub versions_at : List (Bor StoredObject) → ℕ → List StoredVersion
versions_at objects id = option_map_or (λ t. t.versions) (table_at (stored_in objects) id) []

pub record Moves (objects : List (Bor StoredObject)) (from to id : ℕ) (fs : List Filed) : Type 0 where
  pub moved : AllByRecursion (IsMoved from to (versions_at objects id) (filed_at_id objects id)) fs
  pub once : IsDistinct same_number fs

abbrev pub AllMoved : List (Bor StoredObject) → ℕ → ℕ → List ℕ → List SourceHeld → List SourceHeld → Type 0
AllMoved objects from to [] [] [] = Unit {0}
AllMoved objects from to (id ∷ ids) (came ∷ all_came) (went ∷ all_went) =
    Moves objects from to id (filed_by came ++ filed_by went) × AllMoved objects from to ids all_came all_went
AllMoved objects from to _ _ _ = ⊥

pub record StandsAt (objects : List (Bor StoredObject)) (moment id : ℕ) (source : SourceHeld) : Type 0 where
  pub stand : partitions_filed (filed_by source) ≡ content_in [] (data_at moment (versions_at objects id))
  pub part : IsPartOf (filed_at_id objects id) (filed_by source)

pub record IsBroughtIn (objects : List (Bor StoredObject)) (brought : List ℕ) (id : ℕ) (source : SourceHeld)
    : Type 0 where
  pub among : Contains brought id
  pub filed : AllByRecursion (Contains (filed_at_id objects id)) (filed_by source)

abbrev pub AllStanding : List (Bor StoredObject) → List ℕ → ℕ → List ℕ → List SourceHeld → Type 0
AllStanding objects brought moment [] [] = Unit {0}
AllStanding objects brought moment (id ∷ ids) (source ∷ sources) =
    (IsBroughtIn objects brought id source ⊎ StandsAt objects moment id source)
    × AllStanding objects brought moment ids sources
AllStanding objects brought moment _ _ = ⊥

pub record AsksBeside (Own : Filed → Type 0) (names before after : List PartId) : Type 0 where
  pub more : List PartId
  pub behind : after ≡ before ++ more
  pub among : (id : PartId) → (IsNameOf Own id → ⊥) → times id more ≤ times id names

pub record AsksByMoves (Own : Filed → Type 0) (objects : List (Bor StoredObject)) (from to : ℕ) (ids : List ℕ)
    (q : Query) (before after : List PartId) : Type 0 where
  pub filed : ℕ → List Filed
  pub moves : (place : ℕ) → Moves objects from to (get_or ids place 0) (filed place)
  pub asks : AsksBeside Own (asked_for q filed) before after

abbrev pub AsksOfChange : (Filed → Type 0) → List (Bor StoredObject) → ℕ → Dynamic → List PartId → List PartId → Type 0
AsksOfChange Own objects moment d before after = AsksByMoves Own objects d.state.moment moment (ids_read d.query)
    (query_bound (objects_in objects) d.query).query before after

abbrev pub Besides : List (Bor StoredObject) → List Brought → List Filed → Filed → Type 0
Besides objects brought own f = IsFiledIn objects (ids_of brought) f ⊎ Contains own f

abbrev pub IsCounted : List (Bor StoredObject) → Dynamic → Type 0
IsCounted objects d = (linear (query_bound (objects_in objects) d.query).query ≡ true) ⊎ (is_some d.kept ≡ true)

abbrev pub IsCountedAt : List (Bor StoredObject) → ℕ → Type 0
IsCountedAt objects id = (d : Dynamic) → dynamic_at (objects_in objects) id ≡ Some d → IsCounted objects d

pub record AsksOf (Own : Filed → Type 0) (objects : List (Bor StoredObject)) (moment id : ℕ)
    (before after : List PartId) : Type 0 where
  pub dynamic : Dynamic
  pub found : dynamic_at (objects_in objects) id ≡ Some dynamic
  pub asks : AsksOfChange Own objects moment dynamic before after

abbrev pub AsksOfAll : (Filed → Type 0) → List (Bor StoredObject) → ℕ → List ℕ → List PartId → List PartId → Type 0
AsksOfAll Own objects moment [] before after = after ≡ before
AsksOfAll Own objects moment (id ∷ ids) before after = (between : List PartId)
    × AsksOf Own objects moment id before between × AsksOfAll Own objects moment ids between after

abbrev pub IsCountedBy : List (Bor StoredObject) → ℕ → RefreshAction → Type 0
IsCountedBy objects id NoData = Unit {0}
IsCountedBy objects id Incremental = IsCountedAt objects id
IsCountedBy objects id Full = ⊥

abbrev pub AreCounted : List (Bor StoredObject) → List ℕ → List RefreshAction → Type 0
AreCounted objects [] [] = Unit {0}
AreCounted objects (id ∷ ids) (action ∷ actions) = IsCountedBy objects id action × AreCounted objects ids actions
AreCounted objects _ _ = ⊥

abbrev pub actions_of : List Brought → List RefreshAction
actions_of brought = map (λ one. action_view one.action) brought

abbrev pub by_waves : List Object → List ℕ → List ℕ
by_waves objects ids = all_in (waves (dynamics_of objects) ids)

abbrev pub AsksAsTold : List (Bor StoredObject) → ℕ → List ℕ → List PartId → List PartId → List Refreshed → Type 0
AsksAsTold objects moment ids before after lines = AreCounted objects ids (map (λ line. line.action) lines)
    → AsksOfAll (IsFiledIn objects ids) objects moment (by_waves (objects_in objects) ids) before after

abbrev pub AsksAsBrought : List (Bor StoredObject) → ℕ → List ℕ → List PartId → List PartId → Refreshing → Type 0
AsksAsBrought objects moment ids before after (Fails why) = Unit {0}
AsksAsBrought objects moment ids before after (Brings lines changes) =
    AsksAsTold objects moment ids before after (map refreshed_view lines.items)
