-- The rows of a table brought to another bag.
--     kept_apart     the row numbers that go, and the rows that are left to come
--     rebase         the edits: of each row so many stay as it has before and behind, those with the lowest numbers
use Rattle.std.specs.Prelude.{ℕ, zero, suc, Bool, true, false, not, List, [], ◌∷◌, Option, Some, None, is_some}
use Rattle.std.specs.FinMap.{get, insert, remove, entries}
use Rattle.wh_value.specs.Value.{Row}
use Rattle.wh_meaning.specs.Bag.{Bag}
use Rattle.wh_meaning.specs.Listing.{listed}
use Rattle.wh_state.specs.State.{Rows}
use Rattle.wh_state.specs.Edits.{Edits, edits_from}

-- a bag with a row once less; a count is kept less one
abbrev pub less_by_count : Row → Bag → Option ℕ → Bag
less_by_count row b None = b
less_by_count row b (Some zero) = remove b row
less_by_count row b (Some (suc n)) = insert b row n

abbrev pub without_row : Row → Bag → Bag
without_row row b = less_by_count row b (get b row)

pub record KeptApart : Type 0 where
  pub gone : List ℕ
  pub left : Bag

abbrev pub also_gone : ℕ → KeptApart → KeptApart
also_gone number k = record k { gone = number ∷ k.gone }

-- by rising row numbers, over the rows that are still to be found
abbrev pub gone_if : Bool → ℕ → KeptApart → KeptApart
gone_if true number k = also_gone number k
gone_if false number k = k

abbrev pub kept_apart : Bag → List (ℕ × Row) → KeptApart
kept_apart new [] = record { gone = []; left = new }
kept_apart new (e ∷ es) =
    gone_if (not (is_some (get new e.1))) e.0 (kept_apart (without_row e.1 new) es)

-- the rows that come have the next numbers, in the row order
unfoldable pub rebase : Rows → Bag → Edits
rebase old new = edits_from (kept_apart new (entries old)).gone [] (listed [] (kept_apart new (entries old)).left)
