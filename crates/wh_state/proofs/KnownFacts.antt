-- Known values of the definitions on rows and values, worked out by hand: a wrong rule doesn't check.
use Rattle.std.proofs.Common.{◌≡◌, List, [], ◌∷◌, true, pos, negsuc, refl}
use Rattle.std.specs.Prelude.{codes}
use Rattle.std.specs.FinMap.{empty, values}
use Rattle.wh_value.specs.Value.{Number, Truth, Text, Null, Row, in_order, literal}
use Rattle.wh_frame.specs.Partition.{numbered, partitions_of}
use Rattle.wh_state.specs.State.{with_entries}
use Rattle.wh_state.proofs.KnownMaps.{map_steps}

abbrev three : List Row
three =
    (Number (pos 2) ∷ Number (pos 5) ∷ []) ∷ (Number (pos 1) ∷ Null ∷ []) ∷ (Number (pos 2) ∷ Number (pos 5) ∷ []) ∷ []

ordered : in_order three ≡ (Number (pos 1) ∷ Null ∷ []) ∷ (Number (pos 2) ∷ Number (pos 5) ∷ [])
    ∷ (Number (pos 2) ∷ Number (pos 5) ∷ []) ∷ []
ordered = refl

null_last : in_order ((Null ∷ []) ∷ (Text (codes "a") ∷ []) ∷ (Truth true ∷ []) ∷ (Number (negsuc 3) ∷ []) ∷ [])
    ≡ (Number (negsuc 3) ∷ []) ∷ (Truth true ∷ []) ∷ (Text (codes "a") ∷ []) ∷ (Null ∷ []) ∷ []
null_last = refl

printed : literal (Text (codes "x'y")) ≡ codes "'x''y'"
printed = refl

-- three rows of a version, by row number
kept : values (with_entries empty (numbered 1 three)) ≡ three
kept = simp map_steps

-- 1,000 rows fill one partition, and one more begins another
filled : (partitions_of 0 ≡ 0) × (partitions_of 1 ≡ 1) × (partitions_of 1000 ≡ 1) × (partitions_of 1001 ≡ 2)
filled = (refl, refl, refl, refl)
