-- Rows one after the other, and the partitions that they are cut into.
--     entries_append, rows_append         the rows of some entries, and then of more
--     cut_joined                          the rows of the partitions are those that were cut
use Rattle.std.proofs.Common.{◌≡◌, ℕ, zero, suc, ◌+◌, ◌*◌, ◌≤◌, List, [], ◌∷◌, ◌++◌, length, take}
use Rattle.std.proofs.Common.{drop, refl, ap, ◌∙◌, arith}
use Rattle.std.specs.List.{flat_map}
use Rattle.std.specs.FinMap.{empty, insert}
use Rattle.std.proofs.lemmas.List.{take-append-drop, length-drop}
use Rattle.std.proofs.lemmas.List.Concat.{flat_map-append}
use Rattle.wh_value.specs.Value.{Row}
use Rattle.wh_frame.specs.Partition.{Partition, partitions_of, cut, cut_into}
use Rattle.wh_state.specs.State.{Rows, with_entries}
use Rattle.wh_state.specs.Stored.{rows_of}

pub entries_append : (rows : Rows) (xs ys : List (ℕ × Row))
    → with_entries rows (xs ++ ys) ≡ with_entries (with_entries rows xs) ys
entries_append rows [] ys = refl
entries_append rows (x ∷ xs) ys = entries_append (insert rows x.0 x.1) xs ys

pub rows_append : (ps qs : List Partition) → rows_of (ps ++ qs) ≡ with_entries (rows_of ps) (flat_map (λ p. p.rows) qs)
rows_append ps qs =
    ap (with_entries empty) (flat_map-append (λ (p : Partition). p.rows) ps qs)
    ∙ entries_append empty (flat_map (λ p. p.rows) ps) (flat_map (λ p. p.rows) qs)

-- none is left over where there are enough partitions
joined_into : (next count : ℕ) (rows : List (ℕ × Row)) → length rows ≤ count * 1000
    → flat_map (λ p. p.rows) (cut_into next count rows) ≡ rows
joined_into next zero [] h = refl
joined_into next zero (row ∷ rows) h = absurd (omega arith)
joined_into next (suc count) rows h =
    let left : length (drop 1000 rows) ≤ count * 1000 = omega (arith, length-drop 1000 rows) in
    ap (λ (l : List (ℕ × Row)). take 1000 rows ++ l) (joined_into (next + 1) count (drop 1000 rows) left)
    ∙ take-append-drop 1000 rows

enough : (count : ℕ) → count ≤ partitions_of count * 1000
enough count = omega arith

pub cut_joined : (next : ℕ) (rows : List (ℕ × Row)) → flat_map (λ p. p.rows) (cut next rows) ≡ rows
cut_joined next rows = joined_into next (partitions_of (length rows)) rows (enough (length rows))
