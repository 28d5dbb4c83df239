-- When a dynamic table is due, and to which moment it is brought.
--     period, grid      of a lag: how far its moments lie apart, and the last one that isn't after a stamp
--     is_due, target    whether a table is due at a stamp, and the moment that it is brought to
--     due_table         the due table with the least target and then the least id
--     behind_failure    its state behind a scheduled refresh that failed
use Rattle.std.specs.Prelude.{ℕ, zero, suc, ◌+◌, ◌*◌, ◌/◌, max, min, Bool, false, not, ◌&&◌, ◌||◌, if◌then◌else◌}
use Rattle.std.specs.Prelude.{List, []}
use Rattle.std.specs.Prelude.{◌∷◌, Option, Some, None, nat_eq, nat_le, nat_lt}
use Rattle.std.specs.List.{list_any}
use Rattle.std.specs.Option.{option_map_or}
use Rattle.wh_state.specs.Dynamic.{DynamicState, most_failed_refreshes}
use Rattle.wh_moment.specs.Upstream.{Watched, Dynamics, watched_at, upstream}

-- ---- moments, in milliseconds

-- the greatest of a number, twice it, four times and so on that isn't above a limit
abbrev pub doubled_up_to : ℕ → ℕ → ℕ → ℕ
doubled_up_to zero limit n = n
doubled_up_to (suc turns) limit n = if nat_le (2 * n) limit then doubled_up_to turns limit (2 * n) else n

-- the greatest 48 * 2^k seconds that aren't above the lag; no lag is 48 * 2^14 seconds long
unfoldable pub period : ℕ → ℕ
period lag = doubled_up_to 14 lag 48 * 1000

-- the greatest multiple of the period, from 0
unfoldable pub grid : ℕ → ℕ → ℕ
grid lag stamp = stamp / period lag * period lag

-- ---- tables that are due

abbrev pub is_suspended_at : Dynamics → ℕ → Bool
is_suspended_at all id = option_map_or (λ w. w.state.is_suspended) (watched_at all id) false

-- where a table stands for no moment its creation counts
abbrev pub stands_since : Watched → ℕ
stands_since w = if nat_eq w.state.moment 0 then w.created else w.state.moment

-- whether a moment has come that it neither stands for nor was tried for
abbrev pub has_come : ℕ → Watched → Bool
has_come point w = nat_lt (stands_since w) point && nat_lt w.state.tried point

-- DOWNSTREAM is never due
abbrev pub is_waiting_for : ℕ → Watched → Bool
is_waiting_for stamp w = w.is_live && not w.state.is_suspended && nat_lt 0 w.state.lag
    && has_come (grid w.state.lag stamp) w

unfoldable pub is_due : Dynamics → ℕ → ℕ → Bool
is_due all stamp id = option_map_or (is_waiting_for stamp) (watched_at all id) false
    && not (list_any (is_suspended_at all) (upstream all id))

-- ---- the target

abbrev pub moment_at : Dynamics → ℕ → ℕ
moment_at all id = option_map_or (λ w. w.state.moment) (watched_at all id) 0

abbrev pub greatest_moment : Dynamics → List ℕ → ℕ
greatest_moment all [] = 0
greatest_moment all (id ∷ ids) = max (moment_at all id) (greatest_moment all ids)

-- of a scheduled refresh
unfoldable pub target : Dynamics → ℕ → ℕ → ℕ
target all stamp id = max (option_map_or (λ w. grid w.state.lag stamp) (watched_at all id) 0)
    (greatest_moment all (upstream all id))

-- an id with its target
abbrev pub sooner : Option (ℕ × ℕ) → ℕ × ℕ → ℕ × ℕ
sooner None next = next
sooner (Some found) next = if nat_lt next.1 found.1 then next else found

-- of a list of ids, beside one that was found before
abbrev pub due_among : Dynamics → ℕ → Option (ℕ × ℕ) → List ℕ → Option (ℕ × ℕ)
due_among all stamp found [] = found
due_among all stamp found (id ∷ ids) = due_among all stamp
    (if is_due all stamp id then Some (sooner found (id, target all stamp id)) else found) ids

abbrev pub ids_from : {X : Type 0} → ℕ → List X → List ℕ
ids_from id [] = []
ids_from id (x ∷ xs) = id ∷ ids_from (suc id) xs

unfoldable pub due_table : Dynamics → ℕ → Option (ℕ × ℕ)
due_table all stamp = due_among all stamp None (ids_from 1 all)

-- ---- behind a refresh

-- that brought it to a moment
abbrev pub brought_to : ℕ → DynamicState → DynamicState
brought_to moment s = record s { failures = 0; tried = 0; moment = moment }

-- a scheduled one that failed; the fifth in a row suspends it, and the count goes no further
unfoldable pub behind_failure : ℕ → DynamicState → DynamicState
behind_failure tried s = record s {
  failures = min most_failed_refreshes (s.failures + 1);
  tried = tried;
  is_suspended = s.is_suspended || nat_le most_failed_refreshes (s.failures + 1);
}
