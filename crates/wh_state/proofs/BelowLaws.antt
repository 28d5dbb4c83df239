-- The row numbers that stand in a sound table.
--     entries_have     rows that are put in one after the other stand at their numbers
--     rows_below       they are below the table's next one, where those of its versions are
--     below_next       so they are in a sound table
use Rattle.std.proofs.Common.{◌≡◌, ℕ, ◌<◌, Bool, true, false, cond, List, [], ◌∷◌, ◌++◌, map, Some}
use Rattle.std.proofs.Common.{ap, ◌∙◌}
use Rattle.std.specs.List.{AllByRecursion, flat_map}
use Rattle.std.specs.FinMap.{empty, get, insert}
use Rattle.std.specs.Ordering.{nat_cmp, eq_by_cmp}
use Rattle.std.proofs.lemmas.Bool.Decides.{nat_tests}
use Rattle.std.proofs.Common.{arith}
use Rattle.wh_value.specs.Value.{Row}
use Rattle.wh_frame.specs.Partition.{Partition}
use Rattle.wh_state.specs.State.{Rows, with_entries, content_in, last_of}
use Rattle.wh_state.specs.Stored.{StoredVersion, StoredTable, version_meant, table_meant}
use Rattle.wh_state.specs.Sound.{IsBelow, IsSoundTable}
use Rattle.wh_state.proofs.AllLaws.{all_map}
use Rattle.wh_state.proofs.RowLaws.{put_get}
use Rattle.wh_state.proofs.AppliesLaws.{IsBelowNext}

abbrev Has : Rows → ℕ → Type 0
Has rows q = (row : Row) × (get rows q ≡ Some row)

put_has : (rows : Rows) (k : ℕ) (row : Row) (q : ℕ) → Has rows q → Has (insert rows k row) q
put_has rows k row q has = by_tie (eq_by_cmp nat_cmp q k) (put_get rows k row q)
  where
    by_tie : (tie : Bool) → get (insert rows k row) q ≡ cond tie (Some row) (get rows q) → Has (insert rows k row) q
    by_tie true is = (row, is)
    by_tie false is = (has.0, is ∙ has.1)

still_has : (rows : Rows) (es : List (ℕ × Row)) (q : ℕ) → Has rows q → Has (with_entries rows es) q
still_has rows [] q has = has
still_has rows (e ∷ es) q has = still_has (insert rows e.0 e.1) es q (put_has rows e.0 e.1 q has)

put_in : (rows : Rows) (k : ℕ) (row : Row) → Has (insert rows k row) k
put_in rows k row =
    let self : eq_by_cmp nat_cmp k k ≡ true = grind (arith, nat_tests) in
    (row, put_get rows k row k ∙ ap (λ (tie : Bool). cond tie (Some row) (get rows k)) self)

pub entries_have : (rows : Rows) (es : List (ℕ × Row)) → AllByRecursion (λ e. Has (with_entries rows es) e.0) es
entries_have rows [] = tt
entries_have rows (e ∷ es) =
    (still_has (insert rows e.0 e.1) es e.0 (put_in rows e.0 e.1), entries_have (insert rows e.0 e.1) es)

front_all : (P : ℕ × Row → Type 0) (xs ys : List (ℕ × Row)) → AllByRecursion P (xs ++ ys)
    → AllByRecursion P xs × AllByRecursion P ys
front_all P [] ys h = (tt, h)
front_all P (x ∷ xs) ys h = let rest = front_all P xs ys h.1 in ((h.0, rest.0), rest.1)

pub each_part : (P : ℕ × Row → Type 0) (ps : List Partition) → AllByRecursion P (flat_map (λ p. p.rows) ps)
    → AllByRecursion (λ p. AllByRecursion P p.rows) ps
each_part P [] h = tt
each_part P (p ∷ ps) h =
    let both = front_all P p.rows (flat_map (λ p. p.rows) ps) h in
    (both.0, each_part P ps both.1)

version_below : (next : ℕ) (v : StoredVersion) → IsBelow next (version_meant v)
    → AllByRecursion (λ p. AllByRecursion (λ e. e.0 < next) p.rows) v.content
version_below next v below =
    each_part (λ e. e.0 < next) v.content
    (all_map (λ e. Has (with_entries empty (flat_map (λ p. p.rows) v.content)) e.0) (λ e. e.0 < next)
    (λ e has. below e.0 (record { row = has.0; is_there = has.1 })) (flat_map (λ p. p.rows) v.content)
    (entries_have empty (flat_map (λ p. p.rows) v.content)))

pub rows_below : (t : StoredTable) → AllByRecursion (IsBelow t.next_row) (map version_meant t.versions) → IsBelowNext t
rows_below t below = of_last t.versions below
  where
    of_last : (versions : List StoredVersion) → AllByRecursion (IsBelow t.next_row) (map version_meant versions)
        → AllByRecursion (λ p. AllByRecursion (λ e. e.0 < t.next_row) p.rows) (content_in [] (last_of versions))
    of_last [] below = tt
    of_last (v ∷ []) below = version_below t.next_row v below.0
    of_last (v ∷ w ∷ vs) below = of_last (w ∷ vs) below.1

pub below_next : (committed : ℕ) (t : StoredTable) → IsSoundTable committed (table_meant t) → IsBelowNext t
below_next committed t sound = rows_below t sound.below
