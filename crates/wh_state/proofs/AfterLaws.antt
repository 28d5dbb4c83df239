-- The rows of a version more as a list.
--     entries_of      rows that are put in by rising numbers are the entries
--     entries_rise    entries stand by rising numbers
--     after_entries   the entries that edits leave, and behind them the rows that come
--     after_values    so their values
use Rattle.std.proofs.Common.{◌≡◌, ℕ, ◌+◌, ◌<◌, ◌≤◌, List, [], ◌∷◌, ◌++◌, map, Option, Some, None}
use Rattle.std.proofs.Common.{refl, sym, ap, subst, ◌∙◌, arith, Ordering, Greater}
use Rattle.std.proofs.lemmas.Bool.Decides.{nat_tests}
use Rattle.std.specs.List.{AllByRecursion}
use Rattle.std.specs.FinMap.{empty, get, insert, entries, values, put, entries-insert, len-entries, len-empty}
use Rattle.std.specs.FinMap.Entries.{by_order}
use Rattle.std.specs.Cmp.{nat_cmp_total}
use Rattle.std.specs.Ordering.{nat_cmp}
use Rattle.std.proofs.lemmas.List.{nil_from_length, map-append, append-nil, append_assoc}
use Rattle.wh_value.specs.Value.{Row}
use Rattle.wh_frame.specs.Partition.{numbered}
pub use Rattle.wh_frame.specs.Spelling.{RisesFrom}
use Rattle.wh_state.specs.State.{Rows, with_entries}
use Rattle.wh_state.specs.Edits.{RowEdits, Edits, row_as, edited, rows_after}
use Rattle.wh_state.proofs.AllLaws.{all_map, all_more}
use Rattle.wh_state.proofs.RisingEntries.{map_rises}

abbrev AreBelow : ℕ → List (ℕ × Row) → Type 0
AreBelow least es = AllByRecursion (λ e. e.0 < least) es

-- ---- rows that are put in behind others

greater_is : (k n : ℕ) → n < k → nat_cmp k n ≡ Greater
greater_is k n h = grind (arith, nat_tests)

put_last : (k : ℕ) (row : Row) (es : List (ℕ × Row)) → AreBelow k es → put nat_cmp k row es ≡ es ++ (k, row) ∷ []
put_last k row [] below = refl
put_last k row (e ∷ es) below =
    let greater : nat_cmp k e.0 ≡ Greater = greater_is k e.0 below.0 in
    ap (λ (o : Ordering). by_order o ((k, row) ∷ e ∷ es) ((e.0, row) ∷ es) (e ∷ put nat_cmp k row es)) greater
    ∙ ap (λ (l : List (ℕ × Row)). e ∷ l) (put_last k row es below.1)

more_below : (k : ℕ) (row : Row) (es : List (ℕ × Row)) → AreBelow k es → AreBelow (k + 1) (es ++ (k, row) ∷ [])
more_below k row es below = all_more (λ e. e.0 < k + 1) es (k, row)
    (all_map (λ e. e.0 < k) (λ e. e.0 < k + 1) (λ e h. omega (arith, h)) es below) (omega arith)

entries_behind : (rows : Rows) (least : ℕ) (es : List (ℕ × Row)) → AreBelow least (entries rows) → RisesFrom least es
    → entries (with_entries rows es) ≡ entries rows ++ es
entries_behind rows least [] below rises = sym (append-nil (entries rows))
entries_behind rows least (e ∷ es) below rises =
    let behind : AreBelow e.0 (entries rows) =
    all_map (λ f. f.0 < least) (λ f. f.0 < e.0) (λ f h. omega (arith, h, rises.0)) (entries rows) below in
    let first : entries (insert rows e.0 e.1) ≡ entries rows ++ e ∷ [] =
    entries-insert nat_cmp_total rows e.0 e.1 ∙ put_last e.0 e.1 (entries rows) behind in
    entries_behind (insert rows e.0 e.1) (e.0 + 1) es
    (subst (AreBelow (e.0 + 1)) (sym first) (more_below e.0 e.1 (entries rows) behind)) rises.1
    ∙ ap (λ (l : List (ℕ × Row)). l ++ es) first ∙ append_assoc (entries rows) (e ∷ []) es

no_entries : entries (empty {K = ℕ} {X = Row} {R = nat_cmp}) ≡ []
no_entries = nil_from_length (entries empty) (sym (len-entries empty) ∙ len-empty nat_cmp Row)

pub entries_of : (es : List (ℕ × Row)) → RisesFrom 0 es → entries (with_entries empty es) ≡ es
entries_of es rises =
    entries_behind empty 0 es (subst (AreBelow 0) (sym no_entries) tt) rises
    ∙ ap (λ (l : List (ℕ × Row)). l ++ es) no_entries

-- ---- what edits leave

rises_earlier : (least from : ℕ) (es : List (ℕ × Row)) → least ≤ from → RisesFrom from es → RisesFrom least es
rises_earlier least from [] h rises = tt
rises_earlier least from (e ∷ es) h rises = (omega (arith, h, rises.0), rises.1)

edited_rise : (edits : RowEdits) (least : ℕ) (es : List (ℕ × Row)) → RisesFrom least es
    → RisesFrom least (edited edits es)
edited_rise edits least [] rises = tt
edited_rise edits least (e ∷ es) rises =
    by_edit (get edits e.0) (edited_rise edits (e.0 + 1) es rises.1)
  where
    by_edit : (edit : Option (Option Row)) → RisesFrom (e.0 + 1) (edited edits es)
        → RisesFrom least (row_as e edit ++ edited edits es)
    by_edit None rest = (rises.0, rest)
    by_edit (Some None) rest = rises_earlier least (e.0 + 1) (edited edits es) (omega (arith, rises.0)) rest
    by_edit (Some (Some row)) rest = (rises.0, rest)

edited_below : (edits : RowEdits) (next : ℕ) (es : List (ℕ × Row)) → AreBelow next es → AreBelow next (edited edits es)
edited_below edits next [] below = tt
edited_below edits next (e ∷ es) below = by_edit (get edits e.0) (edited_below edits next es below.1)
  where
    by_edit : (edit : Option (Option Row)) → AreBelow next (edited edits es)
        → AreBelow next (row_as e edit ++ edited edits es)
    by_edit None rest = (below.0, rest)
    by_edit (Some None) rest = rest
    by_edit (Some (Some row)) rest = (below.0, rest)

numbered_rise : (next : ℕ) (rows : List Row) → RisesFrom next (numbered next rows)
numbered_rise next [] = tt
numbered_rise next (row ∷ rows) = (omega arith, numbered_rise (next + 1) rows)

numbered_rows : (next : ℕ) (rows : List Row) → map (λ e. e.1) (numbered next rows) ≡ rows
numbered_rows next [] = refl
numbered_rows next (row ∷ rows) = ap (λ (l : List Row). row ∷ l) (numbered_rows (next + 1) rows)

pub entries_rise : (rows : Rows) → RisesFrom 0 (entries rows)
entries_rise rows = map_rises RisesFrom (λ least. tt) (λ least e es from rest. (from, rest)) rows

-- where the numbers that stand are below the next one
pub after_entries : (next : ℕ) (e : Edits) (rows : Rows) → AllByRecursion (λ f. f.0 < next) (entries rows)
    → entries (rows_after next e rows) ≡ edited e.rows (entries rows) ++ numbered next e.added
unfolding rows_after
after_entries next e rows below =
    let left : List (ℕ × Row) = edited e.rows (entries rows) in
    let same : entries (with_entries empty left) ≡ left =
    entries_of left (edited_rise e.rows 0 (entries rows) (entries_rise rows)) in
    entries_behind (with_entries empty left) next (numbered next e.added)
    (subst (AreBelow next) (sym same) (edited_below e.rows next (entries rows) below)) (numbered_rise next e.added)
    ∙ ap (λ (l : List (ℕ × Row)). l ++ numbered next e.added) same

pub after_values : (next : ℕ) (e : Edits) (rows : Rows) → AllByRecursion (λ f. f.0 < next) (entries rows)
    → values (rows_after next e rows) ≡ map (λ f. f.1) (edited e.rows (entries rows)) ++ e.added
after_values next e rows below =
    ap (map (λ f. f.1)) (after_entries next e rows below)
    ∙ map-append (λ f. f.1) (edited e.rows (entries rows)) (numbered next e.added)
    ∙ ap (λ (l : List Row). map (λ f. f.1) (edited e.rows (entries rows)) ++ l) (numbered_rows next e.added)
