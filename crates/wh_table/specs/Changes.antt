-- What the rows that went and came between two versions say of all rows.
--     IsShown        a number's row then and now is that which went and came, or it is the same and neither
--     AreChanges     so at each number; they stand by rising number
--     AreArrivals    those that came with the first of the later versions
use Rattle.std.specs.Prelude.{◌≡◌, ℕ, ◌⊎◌, List, ◌∷◌, Option, None}
use Rattle.std.specs.FinMap.{get, entries}
use Rattle.wh_value.specs.Value.{Row}
use Rattle.wh_state.specs.State.{Rows}
use Rattle.wh_state.specs.Stored.{StoredVersion, rows_of}
use Rattle.wh_version.specs.History.{standing_in}

abbrev pub IsShown : Option Row → Option Row → Option Row → Option Row → Type 0
IsShown old new went came = ((went ≡ old) × (came ≡ new)) ⊎ ((old ≡ new) × (went ≡ None) × (came ≡ None))

pub record AreChanges (went came : List (ℕ × Row)) (old new : Rows) : Type 0 where
  pub gone : Rows
  pub arrived : Rows
  pub by_went : went ≡ entries gone
  pub by_came : came ≡ entries arrived
  pub each : (number : ℕ) → IsShown (get old number) (get new number) (get gone number) (get arrived number)

pub record AreArrivals (stamp : ℕ) (came : List (ℕ × Row)) (earlier later : List StoredVersion) : Type 0 where
  pub version : StoredVersion
  pub rest : List StoredVersion
  pub first : later ≡ version ∷ rest
  pub stamped : version.stamp ≡ stamp
  pub went : List (ℕ × Row)
  pub changes : AreChanges went came (rows_of (standing_in earlier)) (rows_of version.content)
