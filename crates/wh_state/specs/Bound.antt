-- What the query of a dynamic table binds to, over the objects of the ids that it is kept with.
--     names_among     the objects that its text names
--     query_bound     its query over numbered sources, with their ids
--     grouping_bound  its Group, where groups may be kept of it
--     kept_for        as its groups are kept first: where changes are carried through its query, and that has such a Group
--     Binds           it binds to these columns
use Rattle.std.specs.Prelude.{◌≡◌, Bool, IsTrue, false, List, [], ◌∷◌, map, length, Option, None, option_map}
use Rattle.std.specs.Prelude.{if◌then◌else◌}
use Rattle.std.specs.FinMap.{empty}
use Rattle.std.specs.List.{AllByRecursion, flat_map}
use Rattle.std.specs.Option.{IsSomeAnd, option_map_or}
use Rattle.wh_value.specs.Column.{Column}
use Rattle.wh_naming.specs.Findings.{Findings, first_failing}
use Rattle.wh_naming.specs.Scope.{ObjectKind, TableObject, TaskObject, DynamicTableObject, Named}
use Rattle.wh_naming.specs.Select.{BoundQuery, bound_query, column_of}
use Rattle.wh_state.specs.State.{TableOf, ObjectOf, KindOf, TableKind, StreamKind, TaskKind, DynamicKind, columns_in}
use Rattle.wh_state.specs.State.{table_in, at_id}
use Rattle.wh_maintenance.specs.Above.{Grouping, grouping}
use Rattle.wh_state.specs.Dynamic.{Source, DynamicQuery, Kept}

-- a stream is no source of a dynamic table, as a task is none anywhere
abbrev pub source_kind : {T : Type 0} → KindOf T → ObjectKind
source_kind (TableKind t) = TableObject
source_kind (StreamKind s) = TaskObject
source_kind (TaskKind t) = TaskObject
source_kind (DynamicKind d t) = DynamicTableObject

abbrev pub named_as : {Content : Type 0} → Source → ObjectOf (KindOf (TableOf Content)) → Named
named_as s o = record { name = s.name; id = s.id; kind = source_kind o.kind; columns = columns_in o.kind }

abbrev pub names_among : {Content : Type 0} → List (ObjectOf (KindOf (TableOf Content))) → List Source → List Named
names_among objects sources = flat_map (λ s. option_map_or (λ o. named_as s o ∷ []) (at_id objects s.id) []) sources

abbrev pub query_bound : {Content : Type 0} → List (ObjectOf (KindOf (TableOf Content))) → DynamicQuery → BoundQuery
query_bound objects q = bound_query q.tree (names_among objects q.sources) 0

abbrev pub grouping_bound : {Content : Type 0} → List (ObjectOf (KindOf (TableOf Content))) → DynamicQuery
    → Option Grouping
grouping_bound objects q = grouping (query_bound objects q).query

abbrev pub kept_first : Grouping → Kept
kept_first g = record { keys = length g.by; calls = length g.calls; groups = empty }

abbrev pub kept_for : {Content : Type 0} → List (ObjectOf (KindOf (TableOf Content))) → Bool → DynamicQuery
    → Option Kept
kept_for objects is_incremental q = if is_incremental then option_map kept_first (grouping_bound objects q) else None

-- ---- when it binds

-- a live table, or a live dynamic table
abbrev pub IsLiveSource : {T : Type 0} → Option (ObjectOf (KindOf T)) → Type 0
IsLiveSource found = IsSomeAnd found (λ o. IsTrue o.is_live × IsSomeAnd (table_in o.kind) (λ t. Unit {0}))

abbrev pub HasOneId : List Source → Source → Type 0
HasOneId sources s = AllByRecursion (λ other. other.name ≡ s.name → other.id ≡ s.id) sources

-- names and types, but for names of columns that come twice
abbrev pub but_taken : Findings → Findings
but_taken f = record f { taken = None }

-- more objects may stand beside it than its text names, and a name stands for one object
pub record Binds {Content : Type 0}
    (objects : List (ObjectOf (KindOf (TableOf Content)))) (q : DynamicQuery) (columns : List Column) : Type 0 where
  pub sources : AllByRecursion (λ s. IsLiveSource (at_id objects s.id)) q.sources
  pub one_id : AllByRecursion (HasOneId q.sources) q.sources
  pub right : first_failing (but_taken (query_bound objects q).findings) ≡ None
  pub narrow : (query_bound objects q).is_wide ≡ false
  pub outputs : map column_of (query_bound objects q).outputs ≡ columns
