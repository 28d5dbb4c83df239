-- The root of a graph: its schedule, and what a run's end does to it.
--     point_at         the last time of a schedule that isn't after a stamp
--     is_due           whether a run of it begins at a stamp
--     is_tenth         whether a failed run is the tenth in a row
--     state_behind     its state behind a run that ended
use Rattle.std.specs.Prelude.{ℕ, ◌+◌, ◌-◌, ◌*◌, ◌/◌, Bool, true, false, not, ◌&&◌, if◌then◌else◌, nat_eq, nat_lt}
use Rattle.wh_state.specs.Task.{TaskState, Task, most_failures}
use Rattle.wh_graph.specs.Graph.{is_under_way}

-- in milliseconds
abbrev pub minutes_long : ℕ → ℕ
minutes_long minutes = minutes * 60000

-- the base where no time of the schedule has come
abbrev pub point_at : ℕ → ℕ → ℕ → ℕ
point_at base minutes stamp = base + (stamp - base) / minutes_long minutes * minutes_long minutes

-- whether a time of its schedule has come behind the base, and none of its runs began since then
abbrev pub is_behind : ℕ → TaskState → Bool
is_behind point s = nat_lt s.base point && nat_lt s.last_start point

unfoldable pub is_due : ℕ → Task → Bool
is_due stamp t = t.state.is_resumed && nat_lt 0 t.minutes && not (is_under_way t.run)
    && is_behind (point_at t.state.base t.minutes stamp) t.state

abbrev pub is_tenth : Bool → TaskState → Bool
is_tenth failed s = failed && nat_eq (s.failures + 1) most_failures

-- the tenth failed run in a row suspends it; the count goes no further
unfoldable pub state_behind : Bool → TaskState → TaskState
state_behind false s = record s { failures = 0 }
state_behind true s =
    if nat_lt s.failures most_failures
    then record s { failures = s.failures + 1; is_resumed = s.is_resumed && not (is_tenth true s) }
    else s
