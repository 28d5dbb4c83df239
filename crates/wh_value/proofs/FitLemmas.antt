-- Rows that have more values than there are columns, or fewer.
use Rattle.std.proofs.Common.{◌≡◌, false, [], ◌∷◌, List, length, refl, arith}
use Rattle.std.proofs.lemmas.Bool.{and_right}
use Rattle.wh_value.specs.Value.{Row}
use Rattle.wh_value.specs.Column.{Column}
use Rattle.wh_value.specs.Fits.{fits, row_fits}

pub not_as_long : (columns : List Column) (row : Row) → (length columns ≡ length row → ⊥) → row_fits columns row ≡ false
not_as_long [] [] apart = absurd (apart refl)
not_as_long [] (v ∷ vs) apart = refl
not_as_long (c ∷ cs) [] apart = refl
not_as_long (c ∷ cs) (v ∷ vs) apart = and_right (fits c.column_type v) _ (not_as_long cs vs (λ e. apart (omega arith)))
