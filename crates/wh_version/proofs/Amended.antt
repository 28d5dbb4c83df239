-- Later edits that name no row: only the rows that come are added.
use Rattle.std.proofs.Common.{◌≡◌, ℕ, ◌+◌, List, [], ◌∷◌, ◌++◌, map, refl, sym, ap, ◌∙◌}
use Rattle.std.specs.FinMap.{empty, entries, get-empty}
use Rattle.std.specs.Ordering.{nat_cmp}
use Rattle.wh_value.specs.Value.{Row}
use Rattle.wh_frame.specs.Partition.{numbered}
use Rattle.wh_state.specs.Edits.{Edits, row_as, edited, with_later, added_left, later_edits}
use Rattle.wh_version.proofs.EditMaps.{no_entries}

all_left : (next : ℕ) (rows : List Row) → added_left next empty rows ≡ rows
all_left next [] = refl
all_left next (row ∷ rows) =
    ap (λ o. map (λ e. e.1) (row_as (next, row) o ++ edited empty (numbered (next + 1) rows))) (get-empty nat_cmp next)
    ∙ ap (row ∷◌) (all_left (next + 1) rows)

pub none_later : (next : ℕ) (old new : Edits) → new.rows ≡ empty
    → record { rows = old.rows; added = old.added ++ new.added } ≡ later_edits next old new
unfolding later_edits
none_later next old new none =
    let rows : with_later next old.rows (entries new.rows) ≡ old.rows =
    ap (with_later next old.rows) (ap entries none ∙ no_entries) in
    let added : added_left next new.rows old.added ≡ old.added =
    ap (λ edits. added_left next edits old.added) none ∙ all_left next old.added in
    λ i. record { rows = sym rows i; added = sym added i ++ new.added }
