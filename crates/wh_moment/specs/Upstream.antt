-- What dynamic tables read.
--     Watched            what a schedule looks at of a dynamic table
--     Dynamics           all of them by their ids, dropped ones too
--     dynamics_of        those of a state
--     upstream           the dynamic tables that one reads, directly or through others
--     brought            those that a refresh of one brings to a moment
use Rattle.std.specs.Prelude.{ℕ, zero, suc, ◌-◌, Bool, false, ◌||◌, ◌&&◌, if◌then◌else◌, List, [], ◌∷◌, ◌++◌, map}
use Rattle.std.specs.Prelude.{Option}
use Rattle.std.specs.Prelude.{Some, None, is_some, unwrap_or, nat_eq, nat_lt}
use Rattle.std.specs.List.{filter}
use Rattle.std.specs.Option.{option_map_or}
use Rattle.wh_state.specs.State.{TableOf, ObjectOf, KindOf, DynamicKind, at_id}
use Rattle.wh_state.specs.Edits.{is_among}
use Rattle.wh_state.specs.Dynamic.{DynamicState, ids_read}

-- the ids of the objects that its query reads, and the stamp of its creation
pub record Watched : Type 0 where
  pub is_live : Bool
  pub created : ℕ
  pub sources : List ℕ
  pub state : DynamicState

-- at the place of its id, from 1; None where the object of an id is no dynamic table
abbrev pub Dynamics : Type 0
Dynamics = List (Option Watched)

abbrev pub watched_at : Dynamics → ℕ → Option Watched
watched_at all id = unwrap_or (at_id all id) None

-- ---- of objects

abbrev pub watched : {Content : Type 0} → Bool → KindOf (TableOf Content) → Option Watched
watched is_live (DynamicKind d t) = Some (record {
  is_live = is_live;
  created = t.created;
  sources = ids_read d.query;
  state = d.state;
})
watched is_live _ = None

abbrev pub watched_object : {Content : Type 0} → ObjectOf (KindOf (TableOf Content)) → Option Watched
watched_object o = watched o.is_live o.kind

abbrev pub dynamics_of : {Content : Type 0} → List (ObjectOf (KindOf (TableOf Content))) → Dynamics
dynamics_of objects = map watched_object objects

-- ---- what they read

-- what the dynamic table of an id reads; nothing where it isn't among some
abbrev pub more_read : Dynamics → ℕ → List ℕ → List ℕ
more_read all id ids = if is_among id ids then option_map_or (λ w. w.sources) (watched_at all id) [] else []

abbrev pub if_reached : Dynamics → ℕ → List ℕ → List ℕ
if_reached all id ids = if is_among id ids && is_some (watched_at all id) then id ∷ [] else []

-- the dynamic tables up to an id that are among some ids, or that these read; by rising ids. What a table reads has
-- lower ids, so one pass down is enough
abbrev pub reached_from : Dynamics → ℕ → List ℕ → List ℕ
reached_from all zero ids = []
reached_from all (suc id) ids =
    reached_from all id (ids ++ more_read all (suc id) ids) ++ if_reached all (suc id) ids

-- dropped ones too, and through dropped ones
unfoldable pub upstream : Dynamics → ℕ → List ℕ
upstream all id = option_map_or (λ w. reached_from all (id - 1) w.sources) (watched_at all id) []

-- a table that stands for no moment counts as below each
abbrev pub is_below : ℕ → DynamicState → Bool
is_below target s = nat_eq s.moment 0 || nat_lt s.moment target

abbrev pub stands_below : Dynamics → ℕ → ℕ → Bool
stands_below all target id = option_map_or (λ w. is_below target w.state) (watched_at all id) false

-- the table itself, and those of its upstream; each where it is below the target
unfoldable pub brought : Dynamics → ℕ → ℕ → List ℕ
brought all id target = filter (stands_below all target) (upstream all id ++ id ∷ [])
