-- Partitions that stand in the file one behind the other.
--     behind_front       what stands at a position, and what stands behind it
--     spelled_again      the bytes of a partition spell it
--     all_even           partitions within the format have as many values in each row as in the first
--     spelled_from       the bytes of partitions spell each where it stands
--     ends_from          and each ends with them all
--     partitions_from    they are these partitions
--     each_at            what holds of each item holds of the one at a place
use Rattle.std.proofs.Common.{◌≡◌, ℕ, zero, suc, ◌+◌, ◌^◌, ◌<◌, ◌≤◌, List, [], ◌∷◌, ◌++◌, length, take, drop, Some}
use Rattle.std.proofs.Common.{get_or, refl, sym, ap, ◌∙◌, arith, append_assoc, length-append}
use Rattle.std.specs.List.{flat_map, AllByRecursion}
use Rattle.std.proofs.lemmas.Bool.{lt-ltb}
use Rattle.std.proofs.lemmas.List.{append-nil, take_at, drop_at, drop-drop}
use Rattle.std.proofs.lemmas.List.Concat.{flat_map-cons}
use Rattle.wh_value.specs.Value.{Row}
use Rattle.wh_world.specs.Bytes.{part_at}
use Rattle.wh_frame.specs.Partition.{Partition}
use Rattle.wh_frame.specs.Spelling.{partition_bytes, IsPartition, IsNumberedRow}
use Rattle.wh_part.specs.Meta.{width_of, IsEven}
use Rattle.wh_part.specs.Decoding.{partition_at}
use Rattle.wh_part.proofs.PartitionLaws.{reads_partition}
use Rattle.wh_filed.specs.Filed.{partitions_filed}
use Rattle.wh_fetch.specs.Place.{all_of, spelled}
use Rattle.wh_filed.specs.Filing.{filed_one, filed_from, IsSpelledIn, EndsBy}

-- ---- bytes at a position

pub behind_front : (at : ℕ) (bytes front rest : List ℕ) → drop at bytes ≡ front ++ rest
    → (part_at at (length front) bytes ≡ front) × (drop (at + length front) bytes ≡ rest)
behind_front at bytes front rest is = (
  ap (λ (l : List ℕ). take (length front) l) is ∙ take_at front rest (length front) refl,
  sym (drop-drop (length front) at bytes) ∙ ap (λ (l : List ℕ). drop (length front) l) is
      ∙ drop_at front rest (length front) refl,
)

-- the first of listed items, and the others behind it
pub first_of : {X : Type 0} (f : X → List ℕ) (x : X) (xs : List X) (at : ℕ) (bytes rest : List ℕ)
    → drop at bytes ≡ flat_map f (x ∷ xs) ++ rest → drop at bytes ≡ f x ++ (flat_map f xs ++ rest)
first_of f x xs at bytes rest is =
    is ∙ ap (λ (l : List ℕ). l ++ rest) (flat_map-cons f x xs) ∙ append_assoc (f x) (flat_map f xs) rest

pub size_of_all : {X : Type 0} (f : X → List ℕ) (x : X) (xs : List X)
    → length (flat_map f (x ∷ xs)) ≡ length (f x) + length (flat_map f xs)
size_of_all f x xs = ap length (flat_map-cons f x xs) ∙ length-append (f x) (flat_map f xs)

-- ---- partitions within the format

pub spelled_again : (width : ℕ) (p : Partition) → width < 2 ^ 32 → IsPartition width p
    → spelled width (partition_bytes p) ≡ Some p
spelled_again width p few good =
    rw (lt-ltb width 4294967296 few)
    (ap (λ (l : List ℕ). all_of (partition_at width l)) (sym (append-nil (partition_bytes p)))
    ∙ ap all_of ((reads_partition width).again p [] good))

width_is : (width : ℕ) (rows : List (ℕ × Row)) → 0 < length rows → AllByRecursion (IsNumberedRow width) rows
    → width_of rows ≡ width
width_is width [] some each = absurd (omega arith)
width_is width (e ∷ es) some each = each.0.1

-- ---- items of a list

pub each_at : {X : Type 0} (P : X → Type 0) (xs : List X) (i : ℕ) (d : X) → AllByRecursion P xs → i < length xs
    → P (get_or xs i d)
each_at P [] i d each within = absurd (omega arith)
each_at P (x ∷ xs) zero d each within = each.0
each_at P (x ∷ xs) (suc i) d each within = each_at P xs i d each.1 (omega arith)

row_width : (width : ℕ) (rows : List (ℕ × Row)) → AllByRecursion (IsNumberedRow width) rows
    → AllByRecursion (λ e. length e.1 ≡ width) rows
row_width width [] each = tt
row_width width (e ∷ es) each = (each.0.1, row_width width es each.1)

pub all_even : (width : ℕ) (ps : List Partition) → AllByRecursion (IsPartition width) ps
    → AllByRecursion (λ p. IsEven p.rows) ps
all_even width [] good = tt
all_even width (p ∷ ps) good = (
  λ i d within. each_at (λ e. length e.1 ≡ width) p.rows i d (row_width width p.rows good.0.rows) within
      ∙ sym (width_is width p.rows good.0.some good.0.rows),
  all_even width ps good.1,
)

-- ---- one behind the other

one_spelled : (object at width : ℕ) (p : Partition) (bytes rest : List ℕ) → width < 2 ^ 32 → IsPartition width p
    → drop at bytes ≡ partition_bytes p ++ rest
    → IsSpelledIn bytes (filed_one object at p)
one_spelled object at width p bytes rest few good is =
    ap (λ (w : ℕ). spelled w (part_at at (length (partition_bytes p)) bytes)) (width_is width p.rows good.some good.rows)
    ∙ ap (spelled width) (behind_front at bytes (partition_bytes p) rest is).0 ∙ spelled_again width p few good

pub spelled_from : (object at width : ℕ) (ps : List Partition) (bytes rest : List ℕ) → width < 2 ^ 32
    → AllByRecursion (IsPartition width) ps → drop at bytes ≡ flat_map partition_bytes ps ++ rest
    → AllByRecursion (IsSpelledIn bytes) (filed_from object at ps)
spelled_from object at width [] bytes rest few good is = tt
spelled_from object at width (p ∷ ps) bytes rest few good is =
    let behind = flat_map partition_bytes ps ++ rest in
    let grouped = first_of partition_bytes p ps at bytes rest is in
    let there = (behind_front at bytes (partition_bytes p) behind grouped).1 in (
      one_spelled object at width p bytes behind few good.0 grouped,
      spelled_from object (at + length (partition_bytes p)) width ps bytes rest few good.1 there,
    )

pub ends_from : (object at n : ℕ) (ps : List Partition) → at + length (flat_map partition_bytes ps) ≤ n
    → AllByRecursion (EndsBy n) (filed_from object at ps)
ends_from object at n [] within = tt
ends_from object at n (p ∷ ps) within =
    let size = size_of_all partition_bytes p ps in (
      omega (arith, size),
      ends_from object (at + length (partition_bytes p)) n ps (omega (arith, size)),
    )

pub partitions_from : (object at : ℕ) (ps : List Partition) → partitions_filed (filed_from object at ps) ≡ ps
partitions_from object at [] = refl
partitions_from object at (p ∷ ps) =
    ap (λ (qs : List Partition). p ∷ qs) (partitions_from object (at + length (partition_bytes p)) ps)
