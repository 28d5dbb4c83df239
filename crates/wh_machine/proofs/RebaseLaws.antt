-- The edits that bring a table to other rows fit its columns where these do.
--     found_row, all_inserted, all_removed     rows of a bag that are found, put in again, or taken out
--     left_all                                 what is left to come is among the new rows
--     rebase_fits                              the edits fit
use Rattle.std.proofs.Common.{◌≡◌, ℕ, zero, suc, Bool, true, false, cond, List, [], ◌∷◌, Option, Some, None, refl, sym}
use Rattle.std.proofs.Common.{subst, ap, ◌∙◌, IsTrue, T}
use Rattle.std.specs.Prelude.{not, is_some}
use Rattle.std.specs.List.{AllByRecursion}
use Rattle.std.specs.declared.cmp.Ordering.{Ordering}
use Rattle.std.specs.declared.cmp.Ordering.TheVariants.{Less, Equal, Greater}
use Rattle.std.specs.Ordering.{is_eq, is_lt, ordering_reverse}
use Rattle.std.specs.FinMap.{empty, get, insert, remove, entries, find, entries-insert, get-entries, get-empty}
use Rattle.std.specs.FinMap.{is_sorted, entries_sorted, get-remove}
use Rattle.std.specs.FinMap.Entries.{below_all}
use Rattle.std.specs.FinMap.{get-insert}
use Rattle.std.specs.Cmp.{nat_cmp_total}
use Rattle.std.specs.Ordering.{nat_cmp, eq_by_cmp}
use Rattle.wh_value.specs.Value.{Row, row_cmp}
use Rattle.wh_value.specs.Column.{Column}
use Rattle.wh_value.specs.Order.{row_total, row-IsAntisymmetric}
use Rattle.wh_value.specs.Fits.{row_fits}
use Rattle.wh_meaning.specs.Bag.{Bag}
use Rattle.wh_meaning.specs.Listing.{listed}
use Rattle.wh_state.specs.State.{Rows}
use Rattle.wh_state.specs.Edits.{RowEdits, with_removed, edits_from}
use Rattle.wh_value.proofs.TestLaws.{both_hold}
use Rattle.wh_state.proofs.AllLaws.{all_map, all_both}
use Rattle.wh_state.proofs.AppliesLaws.{EditsFit}
use Rattle.wh_moment.specs.Rebase.{less_by_count, without_row, gone_if, kept_apart, rebase}
use Rattle.wh_machine.proofs.BagRows.{AllEntries, AllRows, all_put, all_listed}
use Rattle.wh_machine.proofs.ValueTypes.{FitsTypes, types_of, fits_row}

-- ---- rows of a bag

tied_row : (o : Ordering) → is_eq o ≡ true → o ≡ Equal
tied_row Less is = absurd cc
tied_row Equal is = refl
tied_row Greater is = absurd cc

found_entry : (P : Row → Type 0) (row : Row) (n : ℕ) (es : List (Row × ℕ)) → AllEntries P es
    → find row_cmp row es ≡ Some n → P row
found_entry P row n [] h is = absurd cc
found_entry P row n (e ∷ es) h is = by_tie (is_eq (row_cmp row e.0)) refl is (found_entry P row n es h.1)
  where
    by_tie : (tie : Bool) → is_eq (row_cmp row e.0) ≡ tie → cond tie (Some e.1) (find row_cmp row es) ≡ Some n
        → (find row_cmp row es ≡ Some n → P row) → P row
    by_tie true tied is rest =
        subst P (sym (row-IsAntisymmetric row e.0 (tied_row (row_cmp row e.0) tied))) h.0
    by_tie false tied is rest = rest is

pub found_row : (P : Row → Type 0) (row : Row) (n : ℕ) (b : Bag) → AllRows P b → get b row ≡ Some n → P row
found_row P row n b h is = found_entry P row n (entries b) h (sym (get-entries b row) ∙ is)

pub all_inserted : (P : Row → Type 0) (row : Row) (n : ℕ) (b : Bag) → P row → AllRows P b → AllRows P (insert b row n)
all_inserted P row n b here h =
    subst (AllEntries P) (sym (entries-insert row_total b row n)) (all_put P row n (entries b) here h)

-- an entry is found, also behind a lower one
never_less : (a : Row) → row_cmp a a ≡ Less → ⊥
never_less a less =
    let turned : row_cmp a a ≡ ordering_reverse (row_cmp a a) = row_total.antisymm a a in
    let greater : Less ≡ Greater = sym less ∙ turned ∙ ap ordering_reverse less in
    absurd cc

not_equal : (a : Row) (e : Row × ℕ) → row_cmp a e.0 ≡ Less → is_eq (row_cmp e.0 a) ≡ false
not_equal a e less = by_test (is_eq (row_cmp e.0 a)) refl
  where
    by_test : (b : Bool) → is_eq (row_cmp e.0 a) ≡ b → b ≡ false
    by_test true tied = absurd (never_less a (subst (λ (r : Row). row_cmp a r ≡ Less)
        (row-IsAntisymmetric e.0 a (tied_row (row_cmp e.0 a) tied)) less))
    by_test false tied = refl

less_row : (o : Ordering) → T (is_lt o) → o ≡ Less
less_row Less h = refl
less_row Equal h = absurd h
less_row Greater h = absurd h

above : (row : Row) (es : List (Row × ℕ)) → T (below_all row_cmp row es)
    → AllByRecursion (λ e. row_cmp row e.0 ≡ Less) es
above row [] h = tt
above row (e ∷ es) h =
    let parts = both_hold (is_lt (row_cmp row e.0)) (below_all row_cmp row es) h in
    (less_row (row_cmp row e.0) parts.0, above row es parts.1)

self_equal : (a : Row) → is_eq (row_cmp a a) ≡ true
self_equal a = by_cmp (row_cmp a a) refl
  where
    by_cmp : (o : Ordering) → row_cmp a a ≡ o → is_eq o ≡ true
    by_cmp Less is = absurd (never_less a is)
    by_cmp Equal is = refl
    by_cmp Greater is =
        absurd (never_less a (row_total.antisymm a a ∙ ap ordering_reverse is))

entries_found : (es : List (Row × ℕ)) → T (is_sorted row_cmp es)
    → AllByRecursion (λ e. find row_cmp e.0 es ≡ Some e.1) es
entries_found [] h = tt
entries_found (e ∷ es) h =
    let parts = both_hold (below_all row_cmp e.0 es) (is_sorted row_cmp es) h in (
      ap (λ (b : Bool). cond b (Some e.1) (find row_cmp e.0 es)) (self_equal e.0),
      all_both (λ f. row_cmp e.0 f.0 ≡ Less) (λ f. find row_cmp f.0 es ≡ Some f.1)
          (λ f. find row_cmp f.0 (e ∷ es) ≡ Some f.1)
          (λ f less found. ap (λ (b : Bool). cond b (Some e.1) (find row_cmp f.0 es)) (not_equal e.0 f less) ∙ found)
          es (above e.0 es parts.0) (entries_found es parts.1),
    )

rows_by : (P : Row → Type 0) (b : Bag) → ((row : Row) (n : ℕ) → get b row ≡ Some n → P row) → AllRows P b
rows_by P b so =
    all_map (λ e. find row_cmp e.0 (entries b) ≡ Some e.1) (λ e. P e.0)
    (λ e found. so e.0 e.1 (get-entries b e.0 ∙ found)) (entries b) (entries_found (entries b) (entries_sorted b))

pub all_removed : (P : Row → Type 0) (row : Row) (b : Bag) → AllRows P b → AllRows P (remove b row)
all_removed P row b h = rows_by P (remove b row) (λ q n is.
    by_tie q n (eq_by_cmp row_cmp q row) (sym (get-remove row_total b row q) ∙ is))
  where
    by_tie : (q : Row) (n : ℕ) (tie : Bool) → cond tie None (get b q) ≡ Some n → P q
    by_tie q n true is = absurd cc
    by_tie q n false is = found_row P q n b h is

-- ---- rows that are still to come

without_all : (P : Row → Type 0) (row : Row) (b : Bag) → AllRows P b → AllRows P (without_row row b)
without_all P row b h = by_count (get b row) refl
  where
    by_count : (found : Option ℕ) → get b row ≡ found → AllRows P (less_by_count row b found)
    by_count None is = h
    by_count (Some zero) is = all_removed P row b h
    by_count (Some (suc n)) is = all_inserted P row n b (found_row P row (suc n) b h is) h

pub left_all : (P : Row → Type 0) (new : Bag) (es : List (ℕ × Row)) → AllRows P new
    → AllRows P (kept_apart new es).left
left_all P new [] h = h
left_all P new (e ∷ es) h = by_test (not (is_some (get new e.1))) (left_all P (without_row e.1 new) es
    (without_all P e.1 new h))
  where
    by_test : (b : Bool) → AllRows P (kept_apart (without_row e.1 new) es).left
        → AllRows P (gone_if b e.0 (kept_apart (without_row e.1 new) es)).left
    by_test true rest = rest
    by_test false rest = rest

-- ---- the edits

abbrev OnlyGoes : Option (Option Row) → Type 0
OnlyGoes found = (row : Row) → found ≡ Some (Some row) → ⊥

put_goes : (edits : RowEdits) (k : ℕ) → ((q : ℕ) → OnlyGoes (get edits q)) → (q : ℕ) →
    OnlyGoes (get (insert edits k None) q)
put_goes edits k goes q row is = by_tie (eq_by_cmp nat_cmp q k) (sym (get-insert nat_cmp_total edits k None q) ∙ is)
  where
    by_tie : (tie : Bool) → cond tie (Some None) (get edits q) ≡ Some (Some row) → ⊥
    by_tie true is = cc
    by_tie false is = goes q row is

all_go : (edits : RowEdits) (numbers : List ℕ) → ((q : ℕ) → OnlyGoes (get edits q)) → (q : ℕ)
    → OnlyGoes (get (with_removed edits numbers) q)
all_go edits [] goes = goes
all_go edits (number ∷ numbers) goes = all_go (insert edits number None) numbers (put_goes edits number goes)

pub rebase_fits : (columns : List Column) (old : Rows) (new : Bag) → AllRows (FitsTypes (types_of columns)) new
    → EditsFit columns (rebase old new)
unfolding rebase edits_from
rebase_fits columns old new fit = record {
  rows = λ number row is. absurd (all_go empty (kept_apart new (entries old)).gone
      (λ q row is. cc (get-empty {X = Option Row} nat_cmp q, is)) number row is);
  added = all_map (FitsTypes (types_of columns)) (λ row. IsTrue (row_fits columns row))
      (λ row h. fits_row columns row h)
      (listed [] (kept_apart new (entries old)).left)
      (all_listed (FitsTypes (types_of columns)) [] (kept_apart new (entries old)).left
      (left_all (FitsTypes (types_of columns)) new (entries old) fit));
}
