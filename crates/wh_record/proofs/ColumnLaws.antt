-- What is read of columns is spelled so, and what is spelled so is read.
--     reads_column     the two laws
use Rattle.std.proofs.Common.{◌≡◌, ℕ, zero, suc, List, [], ◌∷◌, ◌++◌, Some, refl}
use Rattle.wh_value.specs.Column.{ColumnType, NumberType, VarcharType, BooleanType}
use Rattle.wh_state.specs.Spelling.{type_byte, column_bytes, IsColumn}
use Rattle.wh_part.proofs.ReaderLaws.{AreBytes, Reads, reads_then, reads_text}
use Rattle.wh_record.specs.Decoding.{type_at, column_at}
use Rattle.wh_record.proofs.FieldLaws.{byte_taken, reads_record}

type_takes : (bytes : List ℕ) (t : ColumnType) (rest : List ℕ) → AreBytes bytes → type_at bytes ≡ Some (t, rest)
    → (bytes ≡ type_byte t ∷ [] ++ rest) × Unit {0}
unfolding type_at
type_takes [] t rest fits e = absurd cc
type_takes (zero ∷ bytes) t rest fits e = absurd cc
type_takes (suc zero ∷ bytes) t rest fits e = byte_taken type_byte NumberType t bytes rest e
type_takes (suc (suc zero) ∷ bytes) t rest fits e = byte_taken type_byte VarcharType t bytes rest e
type_takes (suc (suc (suc zero)) ∷ bytes) t rest fits e = byte_taken type_byte BooleanType t bytes rest e
type_takes (suc (suc (suc (suc tag))) ∷ bytes) t rest fits e = absurd cc

type_again : (t : ColumnType) (rest : List ℕ) → Unit {0} → type_at (type_byte t ∷ [] ++ rest) ≡ Some (t, rest)
unfolding type_at
type_again NumberType rest good = refl
type_again VarcharType rest good = refl
type_again BooleanType rest good = refl

reads_type : Reads (λ t. type_byte t ∷ []) (λ t. Unit {0}) type_at
reads_type = record { takes = type_takes; again = type_again }

pub reads_column : Reads column_bytes IsColumn column_at
unfolding column_at column_bytes
reads_column =
    reads_record column_bytes IsColumn column_at
    (λ c. (c.name, c.column_type)) (λ bytes. refl) (λ c. refl) (λ p. refl) (λ p good. good.0) (λ c good. (good, tt))
    (reads_then reads_text (λ name _. reads_type))
