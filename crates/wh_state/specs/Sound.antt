-- What holds of every state that the machine reaches from a sound one.
--     HasRow, LacksRow     a version has a row of that number, or none
--     IsSoundTable         what holds of a table's versions
--     IsSoundDynamic       and of those of a dynamic table, among all objects
--     ReadsEarlier         what a dynamic table reads was created before it
--     Sound                of a state
--     IsSoundFile          of each state that a file stands for
use Rattle.std.specs.Prelude.{◌≡◌, ℕ, ◌<◌, ◌≤◌, IsTrue, List, [], ◌∷◌, Option, Some, None}
use Rattle.std.specs.List.{AllByRecursion}
use Rattle.std.specs.Option.{IfSome, IsSomeAnd}
use Rattle.std.specs.FinMap.{get, empty}
use Rattle.wh_value.specs.Value.{Row}
use Rattle.wh_state.specs.State.{Version, Table, Kind, TableKind, StreamKind, TaskKind, DynamicKind, Object, State}
use Rattle.wh_algebra.specs.Increments.{incrementable}
use Rattle.wh_state.specs.Dynamic.{Kept, Dynamic, ids_read}
use Rattle.wh_state.specs.Objects.{table_at, dynamic_at}
use Rattle.wh_state.specs.Bound.{query_bound, kept_for}
use Rattle.wh_state.specs.Moments.{StandsFor}
use Rattle.wh_state.specs.File.{Stands}

pub record HasRow (v : Version) (number : ℕ) : Type 0 where
  pub row : Row
  pub is_there : get v.content.rows number ≡ Some row

abbrev pub LacksRow : ℕ → Version → Type 0
LacksRow number v = get v.content.rows number ≡ None

-- stamps rise, and data timestamps don't fall
abbrev pub Rise : List Version → Type 0
Rise [] = Unit {0}
Rise (v ∷ []) = Unit {0}
Rise (v ∷ w ∷ vs) = (v.stamp < w.stamp) × (v.data_timestamp ≤ w.data_timestamp) × Rise (w ∷ vs)

-- a row number that a version had and the next one lacks stands in no later version
abbrev pub NoneReturns : List Version → Type 0
NoneReturns [] = Unit {0}
NoneReturns (v ∷ []) = Unit {0}
NoneReturns (v ∷ w ∷ vs) = ((number : ℕ) → HasRow v number → LacksRow number w → AllByRecursion (LacksRow number) vs)
    × NoneReturns (w ∷ vs)

-- a version's two times are equal and not after the last commit
pub record IsTimely (committed : ℕ) (v : Version) : Type 0 where
  pub stamp : v.stamp ≤ committed
  pub data_timestamp : v.data_timestamp ≡ v.stamp

-- its row numbers are below the table's next one
abbrev pub IsBelow : ℕ → Version → Type 0
IsBelow next v = (number : ℕ) → HasRow v number → number < next

-- it wasn't created after the last commit
pub record IsSoundTable (committed : ℕ) (t : Table) : Type 0 where
  pub created : t.created ≤ committed
  pub timely : AllByRecursion (IsTimely committed) t.versions
  pub rise : Rise t.versions
  pub below : AllByRecursion (IsBelow t.next_row) t.versions
  pub none_returns : NoneReturns t.versions

-- a version of a dynamic table stands for no moment behind the table's own
pub record IsTimelyFor (committed moment : ℕ) (v : Version) : Type 0 where
  pub stamp : v.stamp ≤ committed
  pub data_timestamp : v.data_timestamp ≤ moment

-- no dynamic table that it reads was created behind it
abbrev pub IsOlder : List Object → ℕ → ℕ → Type 0
IsOlder objects created id =
    IfSome (dynamic_at objects id) (λ e. IfSome (table_at objects id) (λ u. u.created ≤ created))

-- its groups are kept as its query and its mode ask for
abbrev pub IsKeptAs : Option Kept → Option Kept → Type 0
IsKeptAs None found = found ≡ None
IsKeptAs (Some first) found = IsSomeAnd found (λ k. (k.keys ≡ first.keys) × (k.calls ≡ first.calls))

-- one that stands for a moment has the rows of its query for it, and one that stands for none has no version, and no group
pub record IsSoundDynamic (committed : ℕ) (objects : List Object) (d : Dynamic) (t : Table) : Type 0 where
  pub created : t.created ≤ committed
  pub older : AllByRecursion (IsOlder objects t.created) (ids_read d.query)
  pub moment : d.state.moment ≤ committed
  pub tried : d.state.tried ≤ committed
  pub timely : AllByRecursion (IsTimelyFor committed d.state.moment) t.versions
  pub rise : Rise t.versions
  pub below : AllByRecursion (IsBelow t.next_row) t.versions
  pub none_returns : NoneReturns t.versions
  pub mode : IsTrue d.is_incremental → IsTrue (incrementable (query_bound objects d.query).query)
  pub kept : IsKeptAs (kept_for objects d.is_incremental d.query) d.kept
  pub stands : 0 < d.state.moment → StandsFor objects d t
  pub none : d.state.moment ≡ 0 → t.versions ≡ []
  pub no_groups : d.state.moment ≡ 0 → IfSome d.kept (λ k. k.groups ≡ empty)

-- a stream's offset isn't after the last commit
abbrev pub IsSoundKind : ℕ → List Object → Kind → Type 0
IsSoundKind committed objects (TableKind t) = IsSoundTable committed t
IsSoundKind committed objects (StreamKind s) = s.offset ≤ committed
IsSoundKind committed objects (TaskKind t) = Unit {0}
IsSoundKind committed objects (DynamicKind d t) = IsSoundDynamic committed objects d t

abbrev pub IsSoundObject : ℕ → List Object → Object → Type 0
IsSoundObject committed objects o = IsSoundKind committed objects o.kind

-- each object that a dynamic table reads was created before it
abbrev pub ReadsEarlier : List Object → Type 0
ReadsEarlier objects = (id : ℕ) (d : Dynamic) → dynamic_at objects id ≡ Some d
    → AllByRecursion (λ s. s.id < id) d.query.sources

pub record Sound (s : State) : Type 0 where
  pub ordered : s.committed ≤ s.last
  pub objects : AllByRecursion (IsSoundObject s.committed s.objects) s.objects
  pub earlier : ReadsEarlier s.objects

abbrev pub IsSoundFile : List ℕ → Type 0
IsSoundFile file = (state : State) → Stands file state → Sound state
