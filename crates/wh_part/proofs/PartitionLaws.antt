-- What is read of values, rows and partitions is spelled so, and what is spelled so is read.
--     reads_value, reads_row, reads_partition     the two laws of each
--     fixes_partitions                            a partition's spelling fixes it
use Rattle.std.proofs.Common.{◌≡◌, ℕ, zero, suc, ◌+◌, ◌-◌, ◌^◌, ◌<◌, ◌≤◌, true, false, ltb, leb, List, [], ◌∷◌, ◌++◌}
use Rattle.std.proofs.Common.{length, take, ℤ, pos, negsuc, Option, Some, None, refl, sym, ap, subst, ◌∙◌, arith}
use Rattle.std.specs.Prelude.{unsigned_abs}
use Rattle.std.specs.List.{AllByRecursion}
use Rattle.std.specs.Int.{w32, w64, to_be_bytes, cast_unsigned, cast_signed}
use Rattle.std.proofs.lemmas.Bool.{and_parts, ltb-true, lt-ltb, leb-true, le-leb}
use Rattle.std.proofs.lemmas.Option.{same_Some}
use Rattle.std.proofs.lemmas.List.{take_at, length-append}
use Rattle.std.proofs.lemmas.Int.{of_z-to_z, to_z-of_z, fits_signed_from_abs}
use Rattle.wh_value.specs.Value.{Value, Number, Truth, Text, Null, Row, IsValue}
use Rattle.wh_frame.specs.Partition.{Partition}
use Rattle.wh_frame.specs.Spelling.{list_bytes, value_bytes, row_bytes, partition_bytes, RisesFrom}
use Rattle.wh_frame.specs.Spelling.{IsNumberedRow, IsPartition}
use Rattle.wh_part.specs.Reading.{◌>>=◌, number_at, text_at}
use Rattle.wh_part.specs.Decoding.{is_short, whole_number_at, value_at, row_at, is_row_count, rises_from, row_count_at}
use Rattle.wh_part.specs.Decoding.{rows_at, partition_at, AreRows}
use Rattle.wh_part.specs.Laws.{SpellingFixesPartitions}
use Rattle.wh_part.proofs.ReaderLaws.{AreBytes, AreBytes-behind, Reads, bind_some, reads_then}
use Rattle.wh_part.proofs.ReaderLaws.{reads_where, reads_as, reads_same, reads_items, reads_list, wide32, wide64}
use Rattle.wh_part.proofs.ReaderLaws.{reads_number, reads_text}

-- ---- values

-- a whole number that its two's complement in 64 bits tells
abbrev IsWide64 : ℤ → Type 0
IsWide64 z = (cast_unsigned w64 z < 2 ^ 64) × (cast_signed w64 (cast_unsigned w64 z) ≡ z)

short_below : (z : ℤ) → unsigned_abs z < 1000000000000000000 → cast_unsigned w64 z < 2 ^ 64
short_below (pos n) h = omega arith
short_below (negsuc n) h = omega arith

short_is_wide : (z : ℤ) → unsigned_abs z < 1000000000000000000 → IsWide64 z
short_is_wide z h = (short_below z h, to_z-of_z w64 z (fits_signed_from_abs w64 z (omega arith)))

pub reads_whole_number : Reads (λ z. to_be_bytes w64 (cast_unsigned w64 z))
    (λ z. unsigned_abs z < 1000000000000000000) whole_number_at
unfolding whole_number_at
reads_whole_number =
    reads_same (λ z. to_be_bytes w64 (cast_unsigned w64 z)) (λ z. unsigned_abs z < 1000000000000000000) whole_number_at
    (λ bytes. refl) (λ z. refl)
    (λ z good. ltb-true (unsigned_abs z) 1000000000000000000 good.1)
    (λ z good. (short_is_wide z good, lt-ltb (unsigned_abs z) 1000000000000000000 good))
    (reads_where is_short
    (reads_as (λ z. to_be_bytes w64 (cast_unsigned w64 z)) IsWide64 (cast_signed w64) (cast_unsigned w64)
    (λ n lt. let same = of_z-to_z w64 n lt in
    (ap (to_be_bytes w64) (sym same), (rw same lt, ap (cast_signed w64) same)))
    (λ z good. (refl, good.0, good.1))
    (reads_number wide64)))

value_takes : (bytes : List ℕ) (v : Value) (rest : List ℕ) → AreBytes bytes → value_at bytes ≡ Some (v, rest)
    → (bytes ≡ value_bytes v ++ rest) × IsValue v
unfolding value_at value_bytes
value_takes [] v rest fits e = absurd cc
value_takes (zero ∷ bytes) v rest fits e =
    subst (λ (z : Value × List ℕ). (0 ∷ bytes ≡ value_bytes z.0 ++ z.1) × IsValue z.0)
    (same_Some (Null, bytes) (v, rest) e) (refl, tt)
value_takes (suc zero ∷ bytes) v rest fits e =
    let a = bind_some (whole_number_at bytes) (λ x. Some (Number x.0, x.1)) (v, rest) e in
    let one = reads_whole_number.takes bytes a.0.0 a.0.1 (λ i. fits (suc i)) a.1 in
    subst (λ (z : Value × List ℕ). (1 ∷ bytes ≡ value_bytes z.0 ++ z.1) × IsValue z.0)
    (same_Some (Number a.0.0, a.0.1) (v, rest) a.2)
    (ap (λ (l : List ℕ). 1 ∷ l) one.0, one.1)
value_takes (suc (suc zero) ∷ bytes) v rest fits e =
    subst (λ (z : Value × List ℕ). (2 ∷ bytes ≡ value_bytes z.0 ++ z.1) × IsValue z.0)
    (same_Some (Truth false, bytes) (v, rest) e) (refl, tt)
value_takes (suc (suc (suc zero)) ∷ bytes) v rest fits e =
    subst (λ (z : Value × List ℕ). (3 ∷ bytes ≡ value_bytes z.0 ++ z.1) × IsValue z.0)
    (same_Some (Truth true, bytes) (v, rest) e) (refl, tt)
value_takes (suc (suc (suc (suc zero))) ∷ bytes) v rest fits e =
    let a = bind_some (text_at bytes) (λ x. Some (Text x.0, x.1)) (v, rest) e in
    let one = reads_text.takes bytes a.0.0 a.0.1 (λ i. fits (suc i)) a.1 in
    subst (λ (z : Value × List ℕ). (4 ∷ bytes ≡ value_bytes z.0 ++ z.1) × IsValue z.0)
    (same_Some (Text a.0.0, a.0.1) (v, rest) a.2)
    (ap (λ (l : List ℕ). 4 ∷ l) one.0, one.1)
value_takes (suc (suc (suc (suc (suc tag)))) ∷ bytes) v rest fits e = absurd cc

value_again : (v : Value) (rest : List ℕ) → IsValue v → value_at (value_bytes v ++ rest) ≡ Some (v, rest)
unfolding value_at value_bytes
value_again (Number z) rest good =
    ap (λ (o : Option (ℤ × List ℕ)). o >>= λ x. Some (Number x.0, x.1)) (reads_whole_number.again z rest good)
value_again (Truth false) rest good = refl
value_again (Truth true) rest good = refl
value_again (Text bytes) rest good =
    ap (λ (o : Option (List ℕ × List ℕ)). o >>= λ x. Some (Text x.0, x.1)) (reads_text.again bytes rest good)
value_again Null rest good = refl

pub reads_value : Reads value_bytes IsValue value_at
reads_value = record { takes = value_takes; again = value_again }

-- ---- rows

pub reads_row : (width : ℕ) → Reads row_bytes (IsNumberedRow width) (row_at width)
unfolding row_at row_bytes
reads_row width =
    reads_same row_bytes (IsNumberedRow width) (row_at width) (λ bytes. refl) (λ e. refl)
    (λ e good. (good.0, good.1.0, good.1.1)) (λ e good. (good.0, (good.1, good.2)))
    (reads_then (reads_number wide64) (λ n _. reads_items reads_value width))

reads_row_count : Reads (to_be_bytes w32) (λ n. (0 < n) × (n ≤ 1000)) row_count_at
unfolding row_count_at
reads_row_count =
    reads_same (to_be_bytes w32) (λ n. (0 < n) × (n ≤ 1000)) row_count_at (λ bytes. refl) (λ n. refl)
    (λ n good. let both = and_parts (ltb 0 n) (leb n 1000) good.1 in (ltb-true 0 n both.0, leb-true n 1000 both.1))
    (λ n good. (omega arith, rw (lt-ltb 0 n good.0, le-leb n 1000 good.1) refl))
    (reads_where is_row_count (reads_number wide32))

pub rising_is : (least : ℕ) (rows : List (ℕ × Row)) → rises_from least rows ≡ true → RisesFrom least rows
rising_is least [] e = tt
rising_is least (r ∷ rows) e =
    let both = and_parts (leb least r.0) (rises_from (r.0 + 1) rows) e in
    (leb-true least r.0 both.0, rising_is (r.0 + 1) rows both.1)

pub is_rising : (least : ℕ) (rows : List (ℕ × Row)) → RisesFrom least rows → rises_from least rows ≡ true
is_rising least [] h = refl
is_rising least (r ∷ rows) h = rw (le-leb least r.0 h.0) (is_rising (r.0 + 1) rows h.1)

pub reads_rows : (width : ℕ)
    → Reads (list_bytes row_bytes) (λ rows. AreRows rows × AllByRecursion (IsNumberedRow width) rows) (rows_at width)
unfolding rows_at
reads_rows width =
    reads_same (list_bytes row_bytes) (λ rows. AreRows rows × AllByRecursion (IsNumberedRow width) rows) (rows_at width)
    (λ bytes. refl) (λ rows. refl)
    (λ rows good. ((good.0.0.0, good.0.0.1, rising_is 0 rows good.1), good.0.1))
    (λ rows good. (((good.0.0, good.0.1), good.1), is_rising 0 rows good.0.2))
    (reads_where (rises_from 0) (reads_list reads_row_count (reads_row width)))

-- ---- partitions

pub reads_partition : (width : ℕ) → Reads partition_bytes (IsPartition width) (partition_at width)
unfolding partition_at partition_bytes
reads_partition width =
    reads_same partition_bytes (IsPartition width) (partition_at width) (λ bytes. refl) (λ p. refl)
    (λ p good. good) (λ p good. good)
    (reads_as partition_bytes (IsPartition width) (λ p. record { number = p.0; rows = p.1 }) (λ p. (p.number, p.rows))
    (λ p good. (
      refl,
      record { number = good.0; some = good.1.0.0; few = good.1.0.1; rising = good.1.0.2; rows = good.1.1 },
    ))
    (λ p good. (refl, (good.number, ((good.some, good.few, good.rising), good.rows)), refl))
    (reads_then (reads_number wide64) (λ n _. reads_rows width)))

pub fixes_partitions : SpellingFixesPartitions
fixes_partitions width p q x y hp hq same =
    let both : ◌≡◌ {A = Option (Partition × List ℕ)} (Some (p, x)) (Some (q, y)) =
    sym ((reads_partition width).again p x hp) ∙ ap (partition_at width) same ∙ (reads_partition width).again q y hq in
    let pairs = same_Some (p, x) (q, y) both in
    (ap (λ (z : Partition × List ℕ). z.0) pairs, ap (λ (z : Partition × List ℕ). z.1) pairs)

-- ---- what a reading says

pub rest_is_shorter : (width : ℕ) (bytes : List ℕ) (p : Partition) (rest : List ℕ) → AreBytes bytes
    → partition_at width bytes ≡ Some (p, rest)
    → length rest ≤ length bytes
rest_is_shorter width bytes p rest fits e =
    let taken = (reads_partition width).takes bytes p rest fits e in
    omega (arith, ap length taken.0, length-append (partition_bytes p) rest)

pub is_found : (width : ℕ) (bytes : List ℕ) (p : Partition) (rest : List ℕ) → AreBytes bytes
    → partition_at width bytes ≡ Some (p, rest)
    → IsPartition width p × (take (length bytes - length rest) bytes ≡ partition_bytes p)
is_found width bytes p rest fits e =
    let taken = (reads_partition width).takes bytes p rest fits e in
    let n : length (partition_bytes p) ≡ length bytes - length rest =
    omega (arith, ap length taken.0, length-append (partition_bytes p) rest) in (
      taken.1,
      ap (take (length bytes - length rest)) taken.0
          ∙ take_at (partition_bytes p) rest (length bytes - length rest) n,
    )

pub is_none : (width : ℕ) (bytes : List ℕ) → partition_at width bytes ≡ None → (p : Partition) (rest : List ℕ)
    → IsPartition width p → bytes ≡ partition_bytes p ++ rest
    → ⊥
is_none width bytes none p rest good spelled =
    let read : ◌≡◌ {A = Option (Partition × List ℕ)} None (Some (p, rest)) =
    sym none ∙ ap (partition_at width) spelled ∙ (reads_partition width).again p rest good in
    absurd cc

-- the rows that are read behind a partition's number
pub rows_read : (width : ℕ) (bytes : List ℕ) (number : ℕ) (behind : List ℕ) (rows : List (ℕ × Row)) (rest : List ℕ)
    → AreBytes bytes → number_at w64 bytes ≡ Some (number, behind) → rows_at width behind ≡ Some (rows, rest)
    → AreRows rows
rows_read width bytes number behind rows rest fits e f =
    let first = (reads_number wide64).takes bytes number behind fits e in
    ((reads_rows width).takes behind rows rest
    (AreBytes-behind bytes (to_be_bytes w64 number) behind fits first.0) f).1.0

-- what was written is read again, with its length
pub is_again : (width : ℕ) (bytes : List ℕ) (q : Partition) (behind : List ℕ)
    → partition_at width bytes ≡ Some (q, behind) → (p : Partition) (rest : List ℕ) → IsPartition width p
    → bytes ≡ partition_bytes p ++ rest
    → (q ≡ p) × (length bytes - length behind ≡ length (partition_bytes p))
is_again width bytes q behind e p rest good spelled =
    let both : ◌≡◌ {A = Option (Partition × List ℕ)} (Some (q, behind)) (Some (p, rest)) =
    sym e ∙ ap (partition_at width) spelled ∙ (reads_partition width).again p rest good in
    let pairs = same_Some (q, behind) (p, rest) both in
    let same : length behind ≡ length rest = ap (λ (z : Partition × List ℕ). length z.1) pairs in (
      ap (λ (z : Partition × List ℕ). z.0) pairs,
      omega (arith, ap length spelled, length-append (partition_bytes p) rest),
    )
