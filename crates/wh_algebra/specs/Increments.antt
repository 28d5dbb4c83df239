-- Queries through which changes of their sources can be carried.
--     incrementable     each Group has at least one key, and no condition of a Join holds arithmetic
use Rattle.std.specs.Prelude.{Bool, true, not, ◌&&◌, nat_lt, length}
use Rattle.wh_meaning.specs.Scalar.{has_arithmetic}
use Rattle.wh_meaning.specs.Query.{Query, Scan, Filter, Project, Join, UnionAll, Group}

unfoldable pub incrementable : Query → Bool
incrementable (Scan source) = true
incrementable (Filter q condition) = incrementable q
incrementable (Project q items) = incrementable q
incrementable (Join left right on) = not (has_arithmetic on) && (incrementable left && incrementable right)
incrementable (UnionAll left right) = incrementable left && incrementable right
incrementable (Group q by calls) = nat_lt 0 (length by) && incrementable q
