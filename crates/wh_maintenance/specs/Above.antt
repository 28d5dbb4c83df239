-- What stands above the Group of a query.
--     Grouping, grouping     the Group of a query that is one Group over a linear query, with any number of Filter and
--                            Project above; None where it is no such query
--     group_of         that Group
--     above            what the operators above it make of a change of the group rows
use Rattle.std.specs.Prelude.{List, Option, Some, None, if◌then◌else◌}
use Rattle.wh_meaning.specs.Scalar.{Scalar, of_one}
use Rattle.wh_meaning.specs.Query.{Query, Call, Scan, Filter, Project, Join, UnionAll, Group, kept_by, image_by}
use Rattle.wh_maintenance.specs.Carried.{Change, carried_over}
use Rattle.wh_maintenance.specs.Delta.{linear}

pub record Grouping : Type 0 where
  pub below : Query
  pub by : List Scalar
  pub calls : List Call

unfoldable pub grouping : Query → Option Grouping
grouping (Scan source) = None
grouping (Filter q condition) = grouping q
grouping (Project q items) = grouping q
grouping (Join left right on) = None
grouping (UnionAll left right) = None
grouping (Group q by calls) = if linear q then Some (record { below = q; by = by; calls = calls }) else None

unfoldable pub group_of : Query → Query
group_of (Scan source) = Scan source
group_of (Filter q condition) = group_of q
group_of (Project q items) = group_of q
group_of (Join left right on) = Join left right on
group_of (UnionAll left right) = UnionAll left right
group_of (Group q by calls) = Group q by calls

unfoldable pub above : Query → Option Change → Option Change
above (Scan source) found = found
above (Filter q condition) found = of_one (carried_over (kept_by condition)) (above q found)
above (Project q items) found = of_one (carried_over (image_by items)) (above q found)
above (Join left right on) found = found
above (UnionAll left right) found = found
above (Group q by calls) found = found
