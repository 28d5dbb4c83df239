-- The row numbers of a partition.
use Rattle.std.proofs.Common.{◌≡◌, ℕ, zero, suc, ◌+◌, List, [], ◌∷◌, length, map, get_or, refl, arith}
use Rattle.wh_frame.specs.Partition.{last_number}
use Rattle.wh_part.specs.declared.partition.NumberedRow.{NumberedRow}
use Rattle.wh_part.specs.View.{numbered_of}

-- the last row has the last number
pub last_at : (rows : List NumberedRow) (n : ℕ) (x : NumberedRow) → length rows ≡ n + 1
    → (get_or rows n x).number ≡ last_number (map numbered_of rows)
last_at [] n x e = absurd (omega arith)
last_at (r ∷ []) zero x e = refl
last_at (r ∷ []) (suc n) x e = absurd (omega arith)
last_at (r ∷ s ∷ rows) zero x e = absurd (omega arith)
last_at (r ∷ s ∷ rows) (suc n) x e = last_at (s ∷ rows) n x (omega arith)
