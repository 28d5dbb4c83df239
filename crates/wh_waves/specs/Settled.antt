-- Tables of a refresh that were brought wave by wave, each over those below it that it reads.
--     sources_at         what the dynamic table of an id reads
--     below              those of some tables that have lower ids
--     put_in             a table among others, by its id
--     IsClosed           what a table reads of those to be brought, below it, was brought
--     Settled            each of some tables is what the refresh brings
--     IsReady, AreReady  a table, or each of a wave, may be brought over those so far
--     SettledMore        those so far and some of a wave are settled
--     WavesDone          those of some waves are, and no others are there
use Rattle.std.specs.Prelude.{◌≡◌, ℕ, ◌<◌, true, ◌||◌, if◌then◌else◌, List, [], ◌∷◌, Option, Some, None, is_some, nat_lt}
use Rattle.std.specs.List.{AllByRecursion, filter}
use Rattle.std.specs.Option.{option_map_or}
use Rattle.wh_state.specs.State.{Object}
use Rattle.wh_state.specs.Objects.{dynamic_at}
use Rattle.wh_state.specs.Dynamic.{ids_read}
use Rattle.wh_state.specs.Edits.{is_among}
use Rattle.wh_machine.specs.Refresh.{Brought, brought_one}
use Rattle.wh_machine.specs.Brought.{after_all, AreAbove, sought}
use Rattle.wh_waves.specs.Waves.{all_in, Once}

abbrev pub sources_at : List Object → ℕ → List ℕ
sources_at objects id = option_map_or (λ d. ids_read d.query) (dynamic_at objects id) []

abbrev pub below : ℕ → List Brought → List Brought
below id bs = filter (λ b. nat_lt b.id id) bs

abbrev pub put_in : Brought → List Brought → List Brought
put_in b [] = b ∷ []
put_in b (c ∷ bs) = if nat_lt b.id c.id then b ∷ (c ∷ bs) else c ∷ put_in b bs

abbrev pub IsClosed : List Object → List ℕ → List Brought → ℕ → Type 0
IsClosed objects ids bs id = (source : ℕ) → is_among source (sources_at objects id) ≡ true → source < id
    → is_among source ids ≡ true → is_some (sought source bs) ≡ true

-- over what those below it leave
abbrev pub IsBroughtOver : ℕ → ℕ → List Object → List Brought → ℕ → Option Brought → Type 0
IsBroughtOver stamp moment objects bs id found =
    brought_one (after_all stamp moment (below id bs) objects) moment id ≡ found

pub record IsSettled (stamp moment : ℕ) (objects : List Object) (ids : List ℕ) (bs : List Brought) (id : ℕ)
    (b : Brought) : Type 0 where
  pub among : is_among id ids ≡ true
  pub fixed : IsBroughtOver stamp moment objects bs id (Some b)
  pub closed : IsClosed objects ids bs id

pub record Settled (stamp moment : ℕ) (objects : List Object) (ids : List ℕ) (bs : List Brought) : Type 0 where
  pub rise : AreAbove 0 bs
  pub each : (id : ℕ) (b : Brought) → sought id bs ≡ Some b → IsSettled stamp moment objects ids bs id b

-- ---- by waves

-- it may be brought: it is one of those to be brought, isn't yet, and what it reads of them, below it, was
pub record IsReady (objects : List Object) (ids : List ℕ) (bs : List Brought) (id : ℕ) : Type 0 where
  pub among : is_among id ids ≡ true
  pub new : sought id bs ≡ None
  pub closed : IsClosed objects ids bs id

-- each of a wave, none twice
pub record AreReady (objects : List Object) (ids : List ℕ) (bs : List Brought) (wave : List ℕ) : Type 0 where
  pub each : AllByRecursion (IsReady objects ids bs) wave
  pub once : Once wave

-- those that a wave brings besides
pub record SettledMore (stamp moment : ℕ) (objects : List Object) (ids : List ℕ) (bs : List Brought) (wave : List ℕ)
    (more : List Brought) : Type 0 where
  pub settled : Settled stamp moment objects ids more
  pub here : (id : ℕ) → is_some (sought id more) ≡ (is_some (sought id bs) || is_among id wave)

-- all of some waves, and no others
pub record WavesDone (stamp moment : ℕ) (objects : List Object) (ids : List ℕ) (front : List (List ℕ))
    (bs : List Brought) : Type 0 where
  pub settled : Settled stamp moment objects ids bs
  pub here : (id : ℕ) → is_some (sought id bs) ≡ is_among id (all_in front)
