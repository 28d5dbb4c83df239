-- Changes of the groups that are kept of dynamic tables.
--     StandsWith      a table stands for its moment with these rows and groups of its query
--     FindsGroups     the change of its rows and groups from these to those of its query for a moment
use Rattle.std.specs.Prelude.{◌≡◌, ℕ, List, Option, Some}
use Rattle.wh_meaning.specs.Bag.{Bag}
use Rattle.wh_maintenance.specs.Standing.{Groups}
use Rattle.wh_state.specs.State.{Object}
use Rattle.wh_state.specs.Dynamic.{Dynamic}
use Rattle.wh_state.specs.Moments.{evaluated_at, groups_at}
use Rattle.wh_delta.specs.Kept.{FindsKept}
use Rattle.wh_delta.specs.declared.kept.KeptChange.{KeptChange}

pub record StandsWith (rows : Bag) (groups : Groups) (objects : List Object) (d : Dynamic) : Type 0 where
  pub gives : evaluated_at objects d.state.moment d ≡ Some rows
  pub groups_are : groups_at objects d.state.moment d ≡ Some groups

abbrev pub FindsGroups : Bag → Groups → List Object → ℕ → Dynamic → Option KeptChange → Type 0
FindsGroups was groups objects moment d found =
    FindsKept was (evaluated_at objects moment d) groups (groups_at objects moment d) found
