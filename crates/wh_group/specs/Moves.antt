-- What moves groups: of each key that a row has which comes or goes, what its rows add up to on both sides.
--     Move, Moves     of one group, and by key
--     noted           with a row more on a side
--     added           with rows more, from the last to the first; None where a key or an argument has no value
use Rattle.std.specs.Prelude.{List, [], ◌∷◌, Option, Some, option_map, unwrap_or}
use Rattle.std.specs.FinMap.{FinMap, get, insert}
use Rattle.wh_value.specs.Value.{Row, row_cmp}
use Rattle.wh_meaning.specs.Scalar.{Scalar, of_two}
use Rattle.wh_meaning.specs.Query.{Call, values_on}
use Rattle.wh_maintenance.specs.Standing.{Standing}
use Rattle.wh_group.specs.Tally.{begun_standing, stepped}
use Rattle.wh_group.specs.declared.moving.Side.{Side}
use Rattle.wh_group.specs.declared.moving.Side.TheVariants.{Comes, Goes}

abbrev pub Move : Type 0
Move = Standing × Standing

abbrev pub Moves : Type 0
Moves = FinMap row_cmp Move

abbrev pub begun_move : List Call → Move
begun_move calls = (begun_standing calls, begun_standing calls)

abbrev pub move_at : List Call → Moves → Row → Move
move_at calls moves key = unwrap_or (get moves key) (begun_move calls)

abbrev pub with_came : Move → Standing → Move
with_came move s = (s, move.1)

abbrev pub with_went : Move → Standing → Move
with_went move s = (move.0, s)

abbrev pub taken : Side → List Call → Row → Move → Option Move
taken Comes calls row move = option_map (with_came move) (stepped calls row move.0)
taken Goes calls row move = option_map (with_went move) (stepped calls row move.1)

abbrev pub noted : Side → List Call → Row → Row → Moves → Option Moves
noted side calls row key moves = option_map (insert moves key) (taken side calls row (move_at calls moves key))

abbrev pub added : Side → List Scalar → List Call → Moves → List Row → Option Moves
added side by calls moves [] = Some moves
added side by calls moves (row ∷ rows) =
    of_two (noted side calls row) (values_on by row) (added side by calls moves rows)
