-- Rows that are brought to another bag have exactly its rows.
--     bag_of-listed      the rows of a bag as they are listed
--     rows_left          the entries that stay
--     rebased            what the rows are afterwards
use Rattle.std.proofs.Common.{◌≡◌, ℕ, zero, suc, ◌+◌, ◌<◌, ◌≤◌, Bool, true, false, cond, List, [], ◌∷◌, ◌++◌, map}
use Rattle.std.proofs.Common.{Option, Some, None, is_some, refl, sym, ap, ◌∙◌, arith}
use Rattle.std.specs.Prelude.{not}
use Rattle.std.specs.List.{AllByRecursion}
use Rattle.std.specs.declared.cmp.Ordering.{Ordering}
use Rattle.std.specs.Ordering.{nat_cmp, eq_by_cmp, is_gt}
use Rattle.std.specs.Cmp.{nat_cmp_total}
use Rattle.std.specs.FinMap.{empty, get, insert, remove, entries, values, get-insert, get-remove, get-empty}
use Rattle.std.proofs.lemmas.Bool.Decides.{nat_tests}
use Rattle.wh_value.specs.Value.{Row, row_cmp, placed_by}
use Rattle.wh_value.specs.Order.{row_total}
use Rattle.wh_meaning.specs.Bag.{Bag, no_rows, count, times, with_row, bag_of, again, over_entries, fold_bag, plus}
use Rattle.wh_meaning.specs.Listing.{SortKey, order_by, listed}
use Rattle.wh_meaning.proofs.BagLaws.{bag_of_same, with_row-with_row, with_row-plus, plus-no_rows, no_rows-plus}
use Rattle.wh_meaning.proofs.BagLaws.{bag_of-append, count-with_row, count-insert, tied_rows}
use Rattle.wh_state.specs.State.{Rows}
use Rattle.wh_state.specs.Edits.{RowEdits, row_as, edited, with_removed, edits_from, rows_after}
use Rattle.wh_state.proofs.AfterLaws.{RisesFrom, after_values, entries_rise}
use Rattle.wh_state.proofs.AllLaws.{all_map}
use Rattle.wh_moment.specs.Rebase.{less_by_count, without_row, KeptApart, gone_if, kept_apart, rebase}

-- ---- the rows of a bag as a list

bag_of-placed : (cmp : Row → Row → Ordering) (row : Row) (rows : List Row)
    → bag_of (placed_by cmp row rows) ≡ with_row row (bag_of rows)
bag_of-placed cmp row [] = refl
bag_of-placed cmp row (r ∷ rows) = by_test (is_gt (cmp row r)) (bag_of-placed cmp row rows)
  where
    by_test : (b : Bool) → bag_of (placed_by cmp row rows) ≡ with_row row (bag_of rows)
        → bag_of (cond b (r ∷ placed_by cmp row rows) (row ∷ r ∷ rows)) ≡ with_row row (with_row r (bag_of rows))
    by_test true rest = ap (with_row r) rest ∙ with_row-with_row r row (bag_of rows)
    by_test false rest = refl

bag_of-again : (cmp : Row → Row → Ordering) (row : Row) (n : ℕ) (rows : List Row)
    → bag_of (again n (placed_by cmp row) rows) ≡ again n (with_row row) (bag_of rows)
bag_of-again cmp row zero rows = refl
bag_of-again cmp row (suc n) rows =
    bag_of-placed cmp row (again n (placed_by cmp row) rows) ∙ ap (with_row row) (bag_of-again cmp row n rows)

bag_of-over : (cmp : Row → Row → Ordering) (es : List (Row × ℕ))
    → bag_of (over_entries (placed_by cmp) [] es) ≡ over_entries with_row no_rows es
bag_of-over cmp [] = refl
bag_of-over cmp (e ∷ es) =
    bag_of-again cmp e.0 (suc e.1) (over_entries (placed_by cmp) [] es)
    ∙ ap (again (suc e.1) (with_row e.0)) (bag_of-over cmp es)

pub bag_of-listed : (keys : List SortKey) (b : Bag) → bag_of (listed keys b) ≡ b
unfolding listed fold_bag
bag_of-listed keys b = bag_of-over (order_by keys) (entries b) ∙ plus-no_rows b

-- ---- the rows that stay

times-cond : (t : Bool) (found : Option ℕ) → times (cond t None found) ≡ cond t 0 (times found)
times-cond true found = refl
times-cond false found = refl

count-remove : (row : Row) (b : Bag) (q : Row) → count (remove b row) q ≡ cond (eq_by_cmp row_cmp q row) 0 (count b q)
count-remove row b q =
    ap times (get-remove row_total b row q) ∙ times-cond (eq_by_cmp row_cmp q row) (get b q)

-- a row once less and then once more
with_without : (row : Row) (b : Bag) (n : ℕ) → get b row ≡ Some n → with_row row (without_row row b) ≡ b
with_without row b n is = bag_of_same (with_row row (without_row row b)) b (λ q. at q n is)
  where
    less : (q : Row) (n : ℕ) → get b row ≡ Some n
        → count (without_row row b) q ≡ cond (eq_by_cmp row_cmp q row) n (count b q)
    less q zero is =
        ap (λ (found : Option ℕ). count (less_by_count row b found) q) is ∙ count-remove row b q
    less q (suc n) is =
        ap (λ (found : Option ℕ). count (less_by_count row b found) q) is ∙ count-insert row n b q

    by_tie : (q : Row) (n : ℕ) → get b row ≡ Some n → (tie : Bool) → eq_by_cmp row_cmp q row ≡ tie
        → cond tie (suc (cond tie n (count b q))) (cond tie n (count b q)) ≡ count b q
    by_tie q n is true tied = ap times (sym is) ∙ ap (λ (r : Row). count b r) (sym (tied_rows q row tied))
    by_tie q n is false tied = refl

    at : (q : Row) (n : ℕ) → get b row ≡ Some n → count (with_row row (without_row row b)) q ≡ count b q
    at q n is =
        count-with_row row (without_row row b) q
        ∙ ap (λ (c : ℕ). cond (eq_by_cmp row_cmp q row) (suc c) c) (less q n is)
        ∙ by_tie q n is (eq_by_cmp row_cmp q row) refl

-- the entries that stay, as kept_apart goes over them
abbrev kept_if : Bool → ℕ × Row → List (ℕ × Row) → List (ℕ × Row)
kept_if true e es = e ∷ es
kept_if false e es = es

abbrev rows_left : Bag → List (ℕ × Row) → List (ℕ × Row)
rows_left new [] = []
rows_left new (e ∷ es) = kept_if (is_some (get new e.1)) e (rows_left (without_row e.1 new) es)

left_if : (gone : Bool) (number : ℕ) (k : KeptApart) → (gone_if gone number k).left ≡ k.left
left_if true number k = refl
left_if false number k = refl

abbrev rows_in : List (ℕ × Row) → Bag
rows_in es = bag_of (map (λ e. e.1) es)

-- with those that come they are the bag
all_there : (new : Bag) (es : List (ℕ × Row)) → plus (rows_in (rows_left new es)) (kept_apart new es).left ≡ new
all_there new [] = no_rows-plus new
all_there new (e ∷ es) =
    ap (plus (rows_in (rows_left new (e ∷ es))))
    (left_if (not (is_some (get new e.1))) e.0 (kept_apart (without_row e.1 new) es))
    ∙ by_found (get new e.1) refl (all_there (without_row e.1 new) es)
  where
    by_found : (found : Option ℕ) → get new e.1 ≡ found
        → plus (rows_in (rows_left (without_row e.1 new) es)) (kept_apart (without_row e.1 new) es).left
        ≡ without_row e.1 new
        → plus (rows_in (kept_if (is_some found) e (rows_left (without_row e.1 new) es)))
        (kept_apart (without_row e.1 new) es).left ≡ new
    by_found None is rest = rest ∙ ap (less_by_count e.1 new) is
    by_found (Some n) is rest =
        with_row-plus e.1 (rows_in (rows_left (without_row e.1 new) es)) (kept_apart (without_row e.1 new) es).left
        ∙ ap (with_row e.1) rest ∙ with_without e.1 new n is

-- ---- edits that take rows away

removed_alike : (edits other : RowEdits) (numbers : List ℕ) (q : ℕ) → get edits q ≡ get other q
    → get (with_removed edits numbers) q ≡ get (with_removed other numbers) q
removed_alike edits other [] q same = same
removed_alike edits other (n ∷ numbers) q same =
    removed_alike (insert edits n None) (insert other n None) numbers q
    (get-insert nat_cmp_total edits n None q
    ∙ ap (cond (eq_by_cmp nat_cmp q n) (Some None)) same ∙ sym (get-insert nat_cmp_total other n None q))

removed_other : (edits : RowEdits) (numbers : List ℕ) (q : ℕ) → AllByRecursion (λ n. q < n) numbers
    → get (with_removed edits numbers) q ≡ get edits q
removed_other edits [] q apart = refl
removed_other edits (n ∷ numbers) q apart =
    let differs : eq_by_cmp nat_cmp q n ≡ false = differ q n apart.0 in
    removed_other (insert edits n None) numbers q apart.1
    ∙ get-insert nat_cmp_total edits n None q
    ∙ ap (λ (tie : Bool). cond tie (Some None) (get edits q)) differs
  where
    differ : (q n : ℕ) → q < n → eq_by_cmp nat_cmp q n ≡ false
    differ q n less = grind (arith, nat_tests)

put_removed : (edits : RowEdits) (q : ℕ) → get (insert edits q None) q ≡ Some None
put_removed edits q =
    let self : eq_by_cmp nat_cmp q q ≡ true = grind (arith, nat_tests) in
    get-insert nat_cmp_total edits q None q ∙ ap (λ (tie : Bool). cond tie (Some None) (get edits q)) self

put_apart : (edits : RowEdits) (n q : ℕ) → n < q → get (insert edits n None) q ≡ get edits q
put_apart edits n q less =
    let differs : eq_by_cmp nat_cmp q n ≡ false = differ n q less in
    get-insert nat_cmp_total edits n None q ∙ ap (λ (tie : Bool). cond tie (Some None) (get edits q)) differs
  where
    differ : (n q : ℕ) → n < q → eq_by_cmp nat_cmp q n ≡ false
    differ n q less = grind (arith, nat_tests)

edited_alike : (edits other : RowEdits) (es : List (ℕ × Row)) → AllByRecursion (λ e. get edits e.0 ≡ get other e.0) es
    → edited edits es ≡ edited other es
edited_alike edits other [] same = refl
edited_alike edits other (e ∷ es) same =
    ap (λ (edit : Option (Option Row)). row_as e edit ++ edited edits es) same.0
    ∙ ap (λ (l : List (ℕ × Row)). row_as e (get other e.0) ++ l) (edited_alike edits other es same.1)

-- numbers from a least one on
rising_from : (least : ℕ) (es : List (ℕ × Row)) → RisesFrom least es → AllByRecursion (λ e. least ≤ e.0) es
rising_from least [] rises = tt
rising_from least (e ∷ es) rises = (
  rises.0,
  all_map (λ f. e.0 + 1 ≤ f.0) (λ f. least ≤ f.0) (λ f h. omega (arith, h, rises.0)) es
      (rising_from (e.0 + 1) es rises.1),
)

gone_from : (least : ℕ) (new : Bag) (es : List (ℕ × Row)) → RisesFrom least es
    → AllByRecursion (λ n. least ≤ n) (kept_apart new es).gone
gone_from least new [] rises = tt
gone_from least new (e ∷ es) rises =
    by_gone (not (is_some (get new e.1))) (gone_from (e.0 + 1) (without_row e.1 new) es rises.1)
  where
    by_gone : (gone : Bool) → AllByRecursion (λ n. e.0 + 1 ≤ n) (kept_apart (without_row e.1 new) es).gone
        → AllByRecursion (λ n. least ≤ n) (gone_if gone e.0 (kept_apart (without_row e.1 new) es)).gone
    by_gone true rest = (
      rises.0,
      all_map (λ n. e.0 + 1 ≤ n) (λ n. least ≤ n) (λ n h. omega (arith, h, rises.0))
          (kept_apart (without_row e.1 new) es).gone rest,
    )
    by_gone false rest = all_map (λ n. e.0 + 1 ≤ n) (λ n. least ≤ n) (λ n h. omega (arith, h, rises.0))
        (kept_apart (without_row e.1 new) es).gone rest

-- what the numbers that go leave is what stays
gone_leave : (least : ℕ) (new : Bag) (es : List (ℕ × Row)) → RisesFrom least es
    → edited (with_removed empty (kept_apart new es).gone) es ≡ rows_left new es
gone_leave least new [] rises = refl
gone_leave least new (e ∷ es) rises =
    by_found (get new e.1) (gone_from (e.0 + 1) after es rises.1) (gone_leave (e.0 + 1) after es rises.1)
  where
    after : Bag
    after = without_row e.1 new

    gone : List ℕ
    gone = (kept_apart after es).gone

    by_found : (found : Option ℕ) → AllByRecursion (λ n. e.0 + 1 ≤ n) gone
        → edited (with_removed empty gone) es ≡ rows_left after es
        → edited (with_removed empty (gone_if (not (is_some found)) e.0 (kept_apart after es)).gone) (e ∷ es)
        ≡ kept_if (is_some found) e (rows_left after es)
    by_found None later rest =
        let goes : get (with_removed (insert empty e.0 None) gone) e.0 ≡ Some None =
        removed_other (insert empty e.0 None) gone e.0 (all_map (λ n. e.0 + 1 ≤ n) (λ n. e.0 < n)
        (λ n h. omega (arith, h)) gone later) ∙ put_removed empty e.0 in
        ap (λ (edit : Option (Option Row)). row_as e edit ++ edited (with_removed (insert empty e.0 None) gone) es) goes
        ∙ edited_alike (with_removed (insert empty e.0 None) gone) (with_removed empty gone) es
        (all_map (λ f. e.0 + 1 ≤ f.0)
        (λ f. get (with_removed (insert empty e.0 None) gone) f.0 ≡ get (with_removed empty gone) f.0)
        (λ f h. removed_alike (insert empty e.0 None) empty gone f.0 (put_apart empty e.0 f.0 (omega (arith, h))))
        es (rising_from (e.0 + 1) es rises.1)) ∙ rest
    by_found (Some n) later rest =
        let stays : get (with_removed empty gone) e.0 ≡ None =
        removed_other empty gone e.0 (all_map (λ n. e.0 + 1 ≤ n) (λ n. e.0 < n) (λ n h. omega (arith, h)) gone later)
        ∙ get-empty nat_cmp e.0 in
        ap (λ (edit : Option (Option Row)). row_as e edit ++ edited (with_removed empty gone) es) stays
        ∙ ap (λ (l : List (ℕ × Row)). e ∷ l) rest

-- ---- rows brought to a bag

-- where the numbers that stand are below the next one
pub rebased : (next : ℕ) (old : Rows) (new : Bag) → AllByRecursion (λ e. e.0 < next) (entries old)
    → bag_of (values (rows_after next (rebase old new) old)) ≡ new
unfolding rebase edits_from
rebased next old new below =
    let k : KeptApart = kept_apart new (entries old) in
    let rising : RisesFrom 0 (entries old) = entries_rise old in
    ap bag_of (after_values next (edits_from k.gone [] (listed [] k.left)) old below)
    ∙ bag_of-append (map (λ f. f.1) (edited (with_removed empty k.gone) (entries old))) (listed [] k.left)
    ∙ ap (λ (es : List (ℕ × Row)). plus (rows_in es) (bag_of (listed [] k.left)))
    (gone_leave 0 new (entries old) rising)
    ∙ ap (plus (rows_in (rows_left new (entries old)))) (bag_of-listed [] k.left)
    ∙ all_there new (entries old)
