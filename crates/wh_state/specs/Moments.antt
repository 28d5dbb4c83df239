-- The queries of dynamic tables, evaluated for a moment.
--     bag_at, instance_at     the rows of a source, and of all sources of a query
--     evaluated_at            what a query gives then; None where it is undefined
--     groups_at               the groups of its Group then
--     all_given, written_out, over_tables     the same over tables alone, where each dynamic table that it reads is
--                             written out as its query
--     StandsFor               a table's rows are what its query gives for its moment
use Rattle.std.specs.Prelude.{◌≡◌, ℕ, zero, suc, ◌<◌, ◌≤◌, List, [], ◌∷◌, map, Option, Some, None, option_map}
use Rattle.std.specs.List.{AllByRecursion}
use Rattle.std.specs.Option.{IfSome, option_and_then, option_map_or}
use Rattle.std.specs.FinMap.{values}
use Rattle.wh_meaning.specs.Bag.{Bag, no_rows, bag_of}
use Rattle.wh_meaning.specs.Query.{Instance, eval}
use Rattle.wh_maintenance.specs.Standing.{Groups}
use Rattle.wh_maintenance.specs.Entries.{groups_over}
use Rattle.wh_state.specs.State.{Kind, TableKind, StreamKind, TaskKind, DynamicKind, Object, Table, last_rows}
use Rattle.wh_state.specs.State.{rows_at, at_id}
use Rattle.wh_state.specs.Objects.{table_at, dynamic_at}
use Rattle.wh_state.specs.Dynamic.{Dynamic, ids_read}
use Rattle.wh_state.specs.Bound.{query_bound, grouping_bound}

-- each row as often as it stands there
abbrev pub bag_at : List Object → ℕ → ℕ → Bag
bag_at objects moment id = option_map_or (λ t. bag_of (values (rows_at t moment))) (table_at objects id) no_rows

abbrev pub instance_at : List Object → ℕ → List ℕ → Instance
instance_at objects moment ids = map (bag_at objects moment) ids

unfoldable pub evaluated_at : List Object → ℕ → Dynamic → Option Bag
evaluated_at objects moment d =
    eval (query_bound objects d.query).query (instance_at objects moment (ids_read d.query))

-- None where it has no Group of which groups may be kept, or where that is undefined
unfoldable pub groups_at : List Object → ℕ → Dynamic → Option Groups
groups_at objects moment d =
    option_and_then (groups_over (instance_at objects moment (ids_read d.query))) (grouping_bound objects d.query)

-- ---- over tables alone

abbrev pub with_given : Option Bag → Option Instance → Option Instance
with_given None rest = None
with_given (Some b) rest = option_map (λ bags. b ∷ bags) rest

abbrev pub all_given : List (Option Bag) → Option Instance
all_given [] = Some []
all_given (b ∷ bs) = with_given b (all_given bs)

-- by what each object gives that it reads
unfoldable pub written_out : (ℕ → Option Bag) → List Object → Dynamic → Option Bag
written_out gives objects d =
    option_and_then (eval (query_bound objects d.query).query) (all_given (map gives (ids_read d.query)))

abbrev pub given_by : (ℕ → Option Bag) → List Object → ℕ → Kind → Option Bag
given_by gives objects moment (TableKind t) = Some (bag_of (values (rows_at t moment)))
given_by gives objects moment (DynamicKind d t) = written_out gives objects d
given_by gives objects moment (StreamKind s) = Some no_rows
given_by gives objects moment (TaskKind t) = Some no_rows

-- with so many layers of queries; the rows of dynamic tables are not looked at
abbrev pub over_tables : ℕ → List Object → ℕ → ℕ → Option Bag
over_tables zero objects moment id = None
over_tables (suc layers) objects moment id = option_map_or
    (λ o. given_by (over_tables layers objects moment) objects moment o.kind) (at_id objects id) (Some no_rows)

-- ---- a table that stands for a moment

-- the groups that are kept of it are those for its moment, and each dynamic table that it reads stands for that moment, or
-- a later one. Wherever there are layers enough for what it reads, its rows are those of its query over tables alone, too
pub record StandsFor (objects : List Object) (d : Dynamic) (t : Table) : Type 0 where
  pub rows : evaluated_at objects d.state.moment d ≡ Some (bag_of (values (last_rows t)))
  pub groups : IfSome d.kept (λ k. groups_at objects d.state.moment d ≡ Some k.groups)
  pub sources : AllByRecursion (λ id. IfSome (dynamic_at objects id) (λ e. d.state.moment ≤ e.state.moment))
      (ids_read d.query)
  pub whole : (layers : ℕ) → AllByRecursion (λ id. id < layers) (ids_read d.query)
      → written_out (over_tables layers objects d.state.moment) objects d ≡ Some (bag_of (values (last_rows t)))
