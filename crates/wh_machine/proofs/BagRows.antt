-- What holds of each row of a bag.
--     AllRows                            of each row
--     all_one, all_plus, all_gathered    of bags that are put together
--     all_bag_of, all_listed, all_keys   of listed rows
use Rattle.std.proofs.Common.{◌≡◌, ℕ, zero, suc, Bool, true, false, cond, List, [], ◌∷◌, map, Option, Some, None}
use Rattle.std.proofs.Common.{refl, sym, subst, ◌∙◌}
use Rattle.std.specs.List.{AllByRecursion}
use Rattle.std.specs.declared.cmp.Ordering.{Ordering}
use Rattle.std.specs.declared.cmp.Ordering.TheVariants.{Less, Equal, Greater}
use Rattle.std.specs.Ordering.{is_gt}
use Rattle.std.specs.FinMap.{entries, put, entries-insert, len-entries, len-empty, keys}
use Rattle.std.specs.FinMap.Entries.{by_order}
use Rattle.std.proofs.lemmas.List.{nil_from_length}
use Rattle.wh_value.specs.Value.{Row, row_cmp, placed_by}
use Rattle.wh_value.specs.Order.{row_total}
use Rattle.wh_meaning.specs.Bag.{Bag, no_rows, count, with_row, one_row, bag_of, again, over_entries, fold_bag, plus}
use Rattle.wh_meaning.specs.Bag.{beside}
use Rattle.wh_meaning.specs.Bag.{gathered}
use Rattle.wh_meaning.specs.Listing.{SortKey, order_by, listed}

abbrev pub AllEntries : (Row → Type 0) → List (Row × ℕ) → Type 0
AllEntries P es = AllByRecursion (λ e. P e.0) es

abbrev pub AllRows : (Row → Type 0) → Bag → Type 0
AllRows P b = AllEntries P (entries b)

pub all_none : (P : Row → Type 0) → AllRows P no_rows
all_none P = subst (AllEntries P) (sym (nil_from_length (entries no_rows)
    (sym (len-entries no_rows) ∙ len-empty row_cmp ℕ))) tt

pub all_put : (P : Row → Type 0) (row : Row) (n : ℕ) (es : List (Row × ℕ)) → P row → AllEntries P es
    → AllEntries P (put row_cmp row n es)
all_put P row n [] here h = (here, tt)
all_put P row n (e ∷ es) here h = by_cmp (row_cmp row e.0) (all_put P row n es here h.1)
  where
    by_cmp : (o : Ordering) → AllEntries P (put row_cmp row n es)
        → AllEntries P (by_order o ((row, n) ∷ e ∷ es) ((e.0, n) ∷ es) (e ∷ put row_cmp row n es))
    by_cmp Less rest = (here, h)
    by_cmp Equal rest = h
    by_cmp Greater rest = (h.0, rest)

pub all_with_row : (P : Row → Type 0) (row : Row) (b : Bag) → P row → AllRows P b → AllRows P (with_row row b)
all_with_row P row b here h =
    subst (AllEntries P) (sym (entries-insert row_total b row (count b row)))
    (all_put P row (count b row) (entries b) here h)

pub all_one : (P : Row → Type 0) (row : Row) → P row → AllRows P (one_row row)
all_one P row here = all_with_row P row no_rows here (all_none P)

pub all_bag_of : (P : Row → Type 0) (rows : List Row) → AllByRecursion P rows → AllRows P (bag_of rows)
all_bag_of P [] h = all_none P
all_bag_of P (row ∷ rows) h = all_with_row P row (bag_of rows) h.0 (all_bag_of P rows h.1)

again_all : (P : Row → Type 0) (row : Row) (n : ℕ) (b : Bag) → P row → AllRows P b →
    AllRows P (again n (with_row row) b)
again_all P row zero b here h = h
again_all P row (suc n) b here h = all_with_row P row (again n (with_row row) b) here (again_all P row n b here h)

over_all : (P : Row → Type 0) (b : Bag) (es : List (Row × ℕ)) → AllEntries P es → AllRows P b
    → AllRows P (over_entries with_row b es)
over_all P b [] h k = k
over_all P b (e ∷ es) h k = again_all P e.0 (suc e.1) (over_entries with_row b es) h.0 (over_all P b es h.1 k)

pub all_plus : (P : Row → Type 0) (a b : Bag) → AllRows P a → AllRows P b → AllRows P (plus a b)
unfolding fold_bag
all_plus P a b h k = over_all P b (entries a) h k

-- ---- bags that rows give

abbrev pub GivesAll : (Row → Type 0) → Option Bag → Type 0
GivesAll Q found = (b : Bag) → found ≡ Some b → AllRows Q b

pub beside_all : (Q : Row → Type 0) (a b : Option Bag) → GivesAll Q a → GivesAll Q b → GivesAll Q (beside a b)
beside_all Q None b h k c is = absurd cc
beside_all Q (Some a) None h k c is = absurd cc
beside_all Q (Some a) (Some b) h k c is =
    let same : plus a b ≡ c = cc in
    subst (AllRows Q) same (all_plus Q a b (h a refl) (k b refl))

again_gives : (Q : Row → Type 0) (found : Option Bag) (n : ℕ) (rest : Option Bag) → GivesAll Q found → GivesAll Q rest
    → GivesAll Q (again n (λ others. beside found others) rest)
again_gives Q found zero rest h k = k
again_gives Q found (suc n) rest h k =
    beside_all Q found (again n (λ others. beside found others) rest) h (again_gives Q found n rest h k)

over_gives : (P Q : Row → Type 0) (f : Row → Option Bag) → ((row : Row) → P row → GivesAll Q (f row))
    → (es : List (Row × ℕ)) → AllEntries P es
    → GivesAll Q (over_entries (λ row found. beside (f row) found) (Some no_rows) es)
over_gives P Q f gives [] h b is = let same : no_rows ≡ b = cc in subst (AllRows Q) same (all_none Q)
over_gives P Q f gives (e ∷ es) h b is =
    again_gives Q (f e.0) (suc e.1) (over_entries (λ row found. beside (f row) found) (Some no_rows) es)
    (gives e.0 h.0) (over_gives P Q f gives es h.1) b is

pub all_gathered : (P Q : Row → Type 0) (f : Row → Option Bag) → ((row : Row) → P row → GivesAll Q (f row)) → (b : Bag)
    → AllRows P b → GivesAll Q (gathered f b)
unfolding fold_bag
all_gathered P Q f gives b h = over_gives P Q f gives (entries b) h

-- ---- lists of rows

placed_all : (P : Row → Type 0) (cmp : Row → Row → Ordering) (row : Row) (rows : List Row) → P row →
    AllByRecursion P rows
    → AllByRecursion P (placed_by cmp row rows)
placed_all P cmp row [] here h = (here, tt)
placed_all P cmp row (r ∷ rows) here h = by_test (is_gt (cmp row r)) (placed_all P cmp row rows here h.1)
  where
    by_test : (b : Bool) → AllByRecursion P (placed_by cmp row rows)
        → AllByRecursion P (cond b (r ∷ placed_by cmp row rows) (row ∷ r ∷ rows))
    by_test true rest = (h.0, rest)
    by_test false rest = (here, h)

again_placed : (P : Row → Type 0) (cmp : Row → Row → Ordering) (row : Row) (n : ℕ) (rows : List Row) → P row
    → AllByRecursion P rows → AllByRecursion P (again n (placed_by cmp row) rows)
again_placed P cmp row zero rows here h = h
again_placed P cmp row (suc n) rows here h =
    placed_all P cmp row (again n (placed_by cmp row) rows) here (again_placed P cmp row n rows here h)

over_placed : (P : Row → Type 0) (cmp : Row → Row → Ordering) (es : List (Row × ℕ)) → AllEntries P es
    → AllByRecursion P (over_entries (placed_by cmp) [] es)
over_placed P cmp [] h = tt
over_placed P cmp (e ∷ es) h =
    again_placed P cmp e.0 (suc e.1) (over_entries (placed_by cmp) [] es) h.0 (over_placed P cmp es h.1)

pub all_listed : (P : Row → Type 0) (sorts : List SortKey) (b : Bag) → AllRows P b → AllByRecursion P (listed sorts b)
unfolding listed fold_bag
all_listed P sorts b h = over_placed P (order_by sorts) (entries b) h

firsts_all : (P : Row → Type 0) (es : List (Row × ℕ)) → AllEntries P es → AllByRecursion P (map (λ e. e.0) es)
firsts_all P [] h = tt
firsts_all P (e ∷ es) h = (h.0, firsts_all P es h.1)

pub all_keys : (P : Row → Type 0) (b : Bag) → AllRows P b → AllByRecursion P (keys b)
all_keys P b h = firsts_all P (entries b) h
