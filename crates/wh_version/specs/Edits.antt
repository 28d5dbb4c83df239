-- What `Edits` stands for, and what it takes to make them.
--     edits_in          the edits of the machine
--     row_left          the row that a reference points to, if there is one, by its number
--     HaveTouched       partitions have those of a history's last version that the edits touch
use Rattle.std.specs.Prelude.{◌≡◌, ℕ, List, [], ◌∷◌, Option, Some, None}
use denote.Ref.{Bor}
use Rattle.wh_value.specs.Value.{Row}
use Rattle.wh_frame.specs.Partition.{Partition}
use Rattle.wh_state.specs.Edits as machine
use Rattle.wh_state.specs.Edits.{touched}
use Rattle.wh_version.specs.declared.edits.Edits.{Edits}
use Rattle.wh_version.specs.declared.history.History.{History}
use Rattle.wh_version.specs.History.{versions_of, standing_in}

abbrev pub edits_in : Edits → machine.Edits
edits_in e = record { rows = e.rows; added = e.added.items }

abbrev pub row_left : ℕ → Option (Bor Row) → List (ℕ × Row)
row_left number None = []
row_left number (Some row) = (number, row.now) ∷ []

-- whatever else they have, these are all of them and in order
abbrev pub HaveTouched : History → machine.Edits → List Partition → Type 0
HaveTouched h e partitions = touched e.rows partitions ≡ touched e.rows (standing_in (versions_of h))
