-- Moments, what dynamic tables read and which rows stay, worked out by hand: a wrong rule doesn't check.
use Rattle.std.proofs.Common.{◌≡◌, ℕ, List, [], ◌∷◌, Some, None, Bool, true, false, refl}
use Rattle.wh_state.specs.Dynamic.{DynamicState}
use Rattle.wh_moment.specs.Upstream.{Watched, Dynamics, upstream, brought}
use Rattle.wh_moment.specs.Moment.{period, grid, is_due, target, due_table, behind_failure}

-- 48, 96 and 192 seconds, and 48 * 2^13 for a week
periods : (period 60 ≡ 48000) × (period 95 ≡ 48000) × (period 96 ≡ 96000) × (period 300 ≡ 192000)
    × (period 604800 ≡ 393216000)
unfolding period
periods = (refl, refl, refl, refl, refl)

grids : (grid 60 47999 ≡ 0) × (grid 60 48000 ≡ 48000) × (grid 60 100000 ≡ 96000)
unfolding grid period
grids = (refl, refl, refl)

abbrev table : Bool → ℕ → List ℕ → ℕ → ℕ → Bool → Watched
table is_live created sources lag moment is_suspended = record {
  is_live = is_live;
  created = created;
  sources = sources;
  state = record { lag = lag; is_suspended = is_suspended; failures = 0; tried = 0; moment = moment };
}

-- a table T with the id 1; D of 2 over it, E of 3 over D, F of 4 over both, G of 5 over T alone
abbrev chain : Dynamics
chain = None
    ∷ Some (table true 2 (1 ∷ []) 0 48000 false)
    ∷ Some (table true 3 (2 ∷ []) 60 48000 false)
    ∷ Some (table true 4 (3 ∷ 2 ∷ []) 96 3 false)
    ∷ Some (table true 5 (1 ∷ []) 60 0 false)
    ∷ []

upstreams : (upstream chain 2 ≡ []) × (upstream chain 3 ≡ 2 ∷ []) × (upstream chain 4 ≡ 2 ∷ 3 ∷ [])
    × (upstream chain 5 ≡ []) × (upstream chain 1 ≡ [])
unfolding upstream
upstreams = (refl, refl, refl, refl, refl)

-- those that stand for that moment are left alone
refreshed : (brought chain 4 48000 ≡ 4 ∷ []) × (brought chain 4 96000 ≡ 2 ∷ 3 ∷ 4 ∷ []) × (brought chain 5 3 ≡ 5 ∷ [])
unfolding brought upstream
refreshed = (refl, refl, refl)

-- DOWNSTREAM is never due; E stands for 48000 already; G stands for nothing, and counts from its creation
due : (is_due chain 95999 2 ≡ false) × (is_due chain 95999 3 ≡ false) × (is_due chain 96000 3 ≡ true)
    × (is_due chain 47999 5 ≡ false) × (is_due chain 48000 5 ≡ true)
unfolding is_due upstream grid period
due = (refl, refl, refl, refl, refl)

-- the least target, and then the least id
first_due : (due_table chain 48000 ≡ Some (5, 48000)) × (due_table chain 96000 ≡ Some (3, 96000))
    × (due_table chain 47999 ≡ None)
unfolding due_table is_due target upstream grid period
first_due = (refl, refl, refl)

-- the fifth failure suspends, and no sixth is counted
failures : (s : DynamicState) → (behind_failure 7 (record s { failures = 3; is_suspended = false })
    ≡ record s { failures = 4; is_suspended = false; tried = 7 })
    × (behind_failure 7 (record s { failures = 4; is_suspended = false })
    ≡ record s { failures = 5; is_suspended = true; tried = 7 })
    × (behind_failure 7 (record s { failures = 5; is_suspended = true })
    ≡ record s { failures = 5; is_suspended = true; tried = 7 })
unfolding behind_failure
failures s = (refl, refl, refl)
