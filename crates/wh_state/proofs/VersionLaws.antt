-- Versions one after the other, and the row numbers that they have.
--     old_rows, after_get, still_lacks      numbers that no new row has, behind new rows and behind edits
--     last_below, rise_more, none_more      one more version
use Rattle.std.proofs.Common.{◌≡◌, ℕ, suc, ◌+◌, ◌<◌, ◌≤◌, ◌⊎◌, inl, inr, ⊎_elim}
use Rattle.std.proofs.Common.{Bool, true, false, cond, List, [], ◌∷◌, ◌++◌, length, Option, Some, None}
use Rattle.std.proofs.Common.{refl, ap, ◌∙◌, arith}
use Rattle.std.specs.List.{AllByRecursion}
use Rattle.std.specs.FinMap.{empty, get, insert, entries, get-empty}
use Rattle.std.specs.Ordering.{nat_cmp, eq_by_cmp}
use Rattle.wh_value.specs.Value.{Row}
use Rattle.wh_frame.specs.Partition.{numbered}
use Rattle.wh_state.specs.State.{Rows, Version, nothing_held, last_of, content_in, with_entries}
use Rattle.wh_state.specs.Edits.{Edits, edited, rows_after}
use Rattle.wh_state.specs.Sound.{LacksRow, Rise, NoneReturns, IsBelow}
use Rattle.wh_state.proofs.AllLaws.{all_more}
use Rattle.wh_state.proofs.RowLaws.{number_tied, put_get, entries_rebuilt, row_left, edited_at}

-- ---- rows

-- another number than that of a row that is put in keeps what it had
put_in : (rows : Rows) (k : ℕ) (row : Row) (number : ℕ)
    → (number ≡ k) ⊎ (get (insert rows k row) number ≡ get rows number)
put_in rows k row number = by_tie (eq_by_cmp nat_cmp number k) (put_get rows k row number) refl
  where
    by_tie : (tie : Bool)
        → get (insert rows k row) number ≡ cond (eq_by_cmp nat_cmp number k) (Some row) (get rows number)
        → eq_by_cmp nat_cmp number k ≡ tie
        → (number ≡ k) ⊎ (get (insert rows k row) number ≡ get rows number)
    by_tie true is e = inl (number_tied number k e)
    by_tie false is e = inr (rw e at is)

-- numbers below the first new one, and from the next one on, have what they had
pub old_rows : (rows : Rows) (next : ℕ) (more : List Row) (number : ℕ) → (number < next) ⊎ (next + length more ≤ number)
    → get (with_entries rows (numbered next more)) number ≡ get rows number
old_rows rows next [] number h = refl
old_rows rows next (row ∷ more) number h =
    ⊎_elim (λ is. absurd (apart h is))
    (λ same. old_rows (insert rows next row) (next + 1) more number (further h) ∙ same)
    (put_in rows next row number)
  where
    apart : (number < next) ⊎ (next + suc (length more) ≤ number) → number ≡ next → ⊥
    apart (inl before) is = omega arith
    apart (inr behind) is = omega arith

    further : (number < next) ⊎ (next + suc (length more) ≤ number)
        → (number < next + 1) ⊎ (next + 1 + length more ≤ number)
    further (inl before) = inl (omega arith)
    further (inr behind) = inr (omega arith)

-- and what edits leave of it
pub after_get : (next : ℕ) (e : Edits) (rows : Rows) (number : ℕ) → (number < next) ⊎ (next + length e.added ≤ number)
    → get (rows_after next e rows) number ≡ row_left (get rows number) (get e.rows number)
unfolding rows_after
after_get next e rows number h =
    old_rows (with_entries empty (edited e.rows (entries rows))) next e.added number h
    ∙ edited_at e.rows (entries rows) number
    ∙ ap (λ (old : Rows). row_left (get old number) (get e.rows number)) (entries_rebuilt rows)

-- a number that had no row has none afterwards
pub still_lacks : (next : ℕ) (e : Edits) (rows : Rows) (number : ℕ) → (number < next) ⊎ (next + length e.added ≤ number)
    → get rows number ≡ None
    → get (rows_after next e rows) number ≡ None
still_lacks next e rows number h lacks = after_get next e rows number h
    ∙ ap (λ (row : Option Row). row_left row (get e.rows number)) lacks

-- ---- versions

-- what the last one holds
abbrev pub last_held : List Version → Rows
last_held vs = (content_in nothing_held (last_of vs)).rows

pub empty_lacks : (number : ℕ) → get (empty {K = ℕ} {X = Row} {R = nat_cmp}) number ≡ None
empty_lacks number = get-empty nat_cmp number

-- what lacks a row in each version lacks it in the last
last_lacks : (number : ℕ) (vs : List Version) → AllByRecursion (LacksRow number) vs → get (last_held vs) number ≡ None
last_lacks number [] h = empty_lacks number
last_lacks number (v ∷ []) h = h.0
last_lacks number (v ∷ w ∷ vs) h = last_lacks number (w ∷ vs) h.1

-- the last version's row numbers are below the next one
pub last_below : (next : ℕ) (vs : List Version) → AllByRecursion (IsBelow next) vs → (number : ℕ) (row : Row)
    → get (last_held vs) number ≡ Some row
    → number < next
last_below next [] h number row has = absurd (cc (empty_lacks number))
last_below next (v ∷ []) h number row has = h.0 number (record { row = row; is_there = has })
last_below next (v ∷ w ∷ vs) h number row has = last_below next (w ∷ vs) h.1 number row has

-- a version that comes before another by its stamp, and stands for no later moment
abbrev pub IsBefore : Version → Version → Type 0
IsBefore v u = (u.stamp < v.stamp) × (u.data_timestamp ≤ v.data_timestamp)

-- a new version behind those that come before it
pub rise_more : (vs : List Version) (v : Version) → AllByRecursion (IsBefore v) vs → Rise vs → Rise (vs ++ v ∷ [])
rise_more [] v before rise = tt
rise_more (u ∷ []) v before rise = (before.0.0, before.0.1, tt)
rise_more (u ∷ w ∷ vs) v before rise = (rise.0, rise.1, rise_more (w ∷ vs) v before.1 rise.2)

-- a new version that lacks what the last one lacks below the next row number
pub none_more : (next : ℕ) (vs : List Version) (v : Version) → AllByRecursion (IsBelow next) vs → NoneReturns vs
    → ((number : ℕ) → number < next → get (last_held vs) number ≡ None → LacksRow number v) → NoneReturns (vs ++ v ∷ [])
none_more next [] v below none carries = tt
none_more next (u ∷ []) v below none carries = (λ number has lacks. tt, tt)
none_more next (u ∷ w ∷ vs) v below none carries = (
  λ number has lacks.
      let behind = none.0 number has lacks in
      let here = carries number (below.0 number has) (last_lacks number (w ∷ vs) (lacks, behind)) in
      all_more (LacksRow number) vs v behind here,
  none_more next (w ∷ vs) v below.1 none.1 carries,
)
