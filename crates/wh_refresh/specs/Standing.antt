-- Dynamic tables whose rows are those of their queries.
--     HasItsRows   a table has the rows of its query for its moment, and where groups are kept of it these are those of
--                  its query, too
--     IsKeyed      groups are kept of it only where its query is one Group with keys over a linear one
--     StandsBy     both, as it is brought by an action
--     AllStand     so does each that stands for a moment, and so is each
use Rattle.std.specs.Prelude.{◌≡◌, ◌<◌, ℕ, List, ◌∷◌, Some}
use Rattle.std.specs.Option.{IfSome}
use Rattle.std.specs.FinMap.{values}
use Rattle.wh_meaning.specs.Bag.{bag_of}
use Rattle.wh_state.specs.State.{Object, Table, last_rows}
use Rattle.wh_state.specs.Dynamic.{Dynamic}
use Rattle.wh_state.specs.Objects.{table_at, dynamic_at}
use Rattle.wh_meaning.specs.Scalar.{Scalar}
use Rattle.wh_maintenance.specs.Above.{Grouping}
use Rattle.wh_reply.specs.declared.reply.RefreshAction.{RefreshAction}
use Rattle.wh_reply.specs.declared.reply.RefreshAction.TheVariants.{Incremental}
use Rattle.wh_state.specs.Bound.{grouping_bound}
use Rattle.wh_state.specs.Moments.{evaluated_at, groups_at}

pub record HasItsRows (objects : List Object) (d : Dynamic) (t : Table) : Type 0 where
  pub rows : evaluated_at objects d.state.moment d ≡ Some (bag_of (values (last_rows t)))
  pub groups : IfSome d.kept (λ k. groups_at objects d.state.moment d ≡ Some k.groups)

pub record HasKeys (objects : List Object) (d : Dynamic) : Type 0 where
  pub group : Grouping
  pub is : grouping_bound objects d.query ≡ Some group
  pub key : Scalar
  pub keys : List Scalar
  pub by : group.by ≡ key ∷ keys

abbrev pub IsKeyed : List Object → Dynamic → Type 0
IsKeyed objects d = IfSome d.kept (λ k. HasKeys objects d)

-- as it is brought by an action
pub record StandsBy (action : RefreshAction) (objects : List Object) (d : Dynamic) (t : Table) : Type 0 where
  pub moment : action ≡ Incremental → 0 < d.state.moment
  pub rows : 0 < d.state.moment → HasItsRows objects d t
  pub keyed : IsKeyed objects d

pub record AllStand (objects : List Object) : Type 0 where
  pub each : (id : ℕ) (d : Dynamic) (t : Table) → dynamic_at objects id ≡ Some d → table_at objects id ≡ Some t
      → 0 < d.state.moment → HasItsRows objects d t
  pub keyed : (id : ℕ) (d : Dynamic) → dynamic_at objects id ≡ Some d → IsKeyed objects d
