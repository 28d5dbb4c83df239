-- Rows that are passed one by one come to what a rebase keeps apart.
--     count-without      a row once less
--     walked_append      rows passed in two parts
--     walked_apart       the rows that go, and those that are left to come
--     bag_expanded, same_excess     the rows that come
--     gone_rises, gone_count        the numbers of rows that go rise, and edits name so many
use Rattle.std.proofs.Common.{◌≡◌, ℕ, zero, suc, ◌+◌, ◌-◌, ◌≤◌, Bool, true, false, cond, List, [], ◌∷◌, ◌++◌}
use Rattle.std.proofs.Common.{length}
use Rattle.std.proofs.Common.{Option, Some, None, refl, sym, ap, subst, ◌∙◌, arith, ◌==◌, Less, Equal, Greater}
use Rattle.std.specs.Prelude.{nat_lt, is_some, not, replicate}
use Rattle.std.specs.Ordering.{eq_by_cmp, nat_cmp, is_eq}
use Rattle.std.specs.Cmp.{nat_cmp_total}
use Rattle.std.specs.FinMap.{empty, get, insert, entries, get-empty, get-remove, get-insert, len}
use Rattle.std.specs.FinMap.{len-empty, len-entries, len-insert}
use Rattle.std.proofs.lemmas.Bool.Decides.{nat_tests}
use Rattle.wh_value.specs.Value.{Row, row_cmp}
use Rattle.wh_value.specs.Order.{row_total}
use Rattle.wh_meaning.specs.Bag.{Bag, no_rows, times, count, with_row, bag_of, again, over_entries, fold_bag}
use Rattle.wh_meaning.specs.BagChange.{IsExcess}
use Rattle.wh_meaning.proofs.BagLaws.{count-no_rows, count-insert, count-with_row, cond-same, tied_rows, rows_of}
use Rattle.wh_meaning.proofs.BagLaws.{bag_of-rows_of, bag_of_same}
use Rattle.wh_state.specs.State.{Rows}
use Rattle.wh_state.specs.Edits.{RowEdits, with_removed}
use Rattle.wh_state.proofs.RisingEntries.{map_rises}
use Rattle.wh_moment.specs.Rebase.{KeptApart, less_by_count, without_row, gone_if, kept_apart}
use Rattle.wh_refresh.specs.Walk.{Walked, passed, walked, expanded}

pub walked_append : (new : Bag) (es more : List (ℕ × Row)) (w : Walked)
    → walked new (es ++ more) w ≡ walked new more (walked new es w)
walked_append new [] more w = refl
walked_append new (e ∷ es) more w = walked_append new es more (passed new e w)

-- ---- a row once less

times-less : (t : Bool) (found : Option ℕ) → times (cond t None found) ≡ cond t 0 (times found)
times-less true found = refl
times-less false found = refl

-- how often a row is there, where one of them is taken
pub count-without : (row : Row) (b : Bag) (q : Row)
    → count (without_row row b) q ≡ cond (eq_by_cmp row_cmp q row) (count b q - 1) (count b q)
count-without row b q = by_count (get b row) refl
  where
    here : eq_by_cmp row_cmp q row ≡ true → (found : Option ℕ) → get b row ≡ found → count b q ≡ times found
    here t found is = ap (count b) (tied_rows q row t) ∙ ap times is

    by_count : (found : Option ℕ) → get b row ≡ found
        → count (less_by_count row b found) q ≡ cond (eq_by_cmp row_cmp q row) (count b q - 1) (count b q)
    by_count None is = by_test (eq_by_cmp row_cmp q row) refl
      where
        by_test : (t : Bool) → eq_by_cmp row_cmp q row ≡ t → count b q ≡ cond t (count b q - 1) (count b q)
        by_test true t = let none = here t None is in omega arith
        by_test false t = refl
    by_count (Some zero) is =
        ap times (get-remove row_total b row q) ∙ times-less (eq_by_cmp row_cmp q row) (get b q)
        ∙ cond-same _ _ _ _ (λ t. let one = here t (Some zero) is in omega arith)
    by_count (Some (suc n)) is =
        count-insert row n b q ∙ cond-same _ _ _ _ (λ t. let some = here t (Some (suc n)) is in omega arith)

-- ---- what is kept apart

excess_less : (new kept left : Bag) (row : Row) → IsExcess new kept left
    → IsExcess new (with_row row kept) (without_row row left)
excess_less new kept left row is q =
    count-without row left q
    ∙ by_test (eq_by_cmp row_cmp q row) (is q)
    ∙ ap (λ (n : ℕ). count new q - n) (sym (count-with_row row kept q))
  where
    by_test : (t : Bool) → count left q ≡ count new q - count kept q
        → cond t (count left q - 1) (count left q) ≡ count new q - cond t (suc (count kept q)) (count kept q)
    by_test true same = omega arith
    by_test false same = same

pub walked_apart : (new kept left : Bag) (gone : List ℕ) (es : List (ℕ × Row)) → IsExcess new kept left
    → ((walked new es (record { gone = gone; kept = kept })).gone ≡ gone ++ (kept_apart left es).gone)
    × IsExcess new (walked new es (record { gone = gone; kept = kept })).kept (kept_apart left es).left
walked_apart new kept left gone [] is = (sym (append_nil gone), is)
  where
    append_nil : (xs : List ℕ) → xs ++ [] ≡ xs
    append_nil [] = refl
    append_nil (x ∷ xs) = ap (λ (l : List ℕ). x ∷ l) (append_nil xs)
walked_apart new kept left gone (e ∷ es) is =
    by_count (get left e.1) refl (λ k g l h. walked_apart new k l g es h)
  where
    append_assoc : (xs ys zs : List ℕ) → (xs ++ ys) ++ zs ≡ xs ++ (ys ++ zs)
    append_assoc [] ys zs = refl
    append_assoc (x ∷ xs) ys zs = ap (λ (l : List ℕ). x ∷ l) (append_assoc xs ys zs)

    Apart : Walked → KeptApart → Type 0
    Apart w k = (w.gone ≡ gone ++ k.gone) × IsExcess new w.kept k.left

    by_count : (found : Option ℕ) → get left e.1 ≡ found
        → ((k : Bag) (g : List ℕ) (l : Bag) → IsExcess new k l
        → ((walked new es (record { gone = g; kept = k })).gone ≡ g ++ (kept_apart l es).gone)
        × IsExcess new (walked new es (record { gone = g; kept = k })).kept (kept_apart l es).left)
        → Apart (walked new (e ∷ es) (record { gone = gone; kept = kept })) (kept_apart left (e ∷ es))
    by_count None none further =
        let here : count left e.1 ≡ 0 = ap times none in
        let same = is e.1 in
        let test : nat_lt (count kept e.1) (count new e.1) ≡ false = grind (arith, nat_tests) in
        let rest = further kept (gone ++ e.0 ∷ []) left is in
        subst (λ (t : Bool). Apart
        (walked new es (cond t (record { gone = gone; kept = with_row e.1 kept })
        (record { gone = gone ++ e.0 ∷ []; kept = kept }))) (kept_apart left (e ∷ es))) (sym test)
        (subst (λ (f : Option ℕ). Apart (walked new es (record { gone = gone ++ e.0 ∷ []; kept = kept }))
        (gone_if (not (is_some f)) e.0 (kept_apart (less_by_count e.1 left f) es))) (sym none)
        (rest.0 ∙ append_assoc gone (e.0 ∷ []) (kept_apart left es).gone, rest.1))
    by_count (Some n) there further =
        let here : count left e.1 ≡ suc n = ap times there in
        let same = is e.1 in
        let test : nat_lt (count kept e.1) (count new e.1) ≡ true = grind (arith, nat_tests) in
        let rest = further (with_row e.1 kept) gone (without_row e.1 left) (excess_less new kept left e.1 is) in
        subst (λ (t : Bool). Apart
        (walked new es (cond t (record { gone = gone; kept = with_row e.1 kept })
        (record { gone = gone ++ e.0 ∷ []; kept = kept }))) (kept_apart left (e ∷ es))) (sym test)
        (subst (λ (f : Option ℕ). Apart (walked new es (record { gone = gone; kept = with_row e.1 kept }))
        (gone_if (not (is_some f)) e.0 (kept_apart (without_row e.1 left) es))) (sym there) rest)

pub none_kept : (new : Bag) → IsExcess new no_rows new
none_kept new q = let none = count-no_rows q in omega arith

-- ---- the rows that come

again_replicate : (row : Row) (n : ℕ) (rows : List Row)
    → again n (λ rest. row ∷ rest) rows ≡ replicate n row ++ rows
again_replicate row zero rows = refl
again_replicate row (suc n) rows = ap (λ (l : List Row). row ∷ l) (again_replicate row n rows)

over_expanded : (es : List (Row × ℕ)) → over_entries (λ row rows. row ∷ rows) [] es ≡ expanded es
over_expanded [] = refl
over_expanded (e ∷ es) =
    again_replicate e.0 (suc e.1) (over_entries (λ row rows. row ∷ rows) [] es)
    ∙ ap (λ (l : List Row). replicate (suc e.1) e.0 ++ l) (over_expanded es)

pub bag_expanded : (b : Bag) → bag_of (expanded (entries b)) ≡ b
unfolding rows_of fold_bag
bag_expanded b = ap bag_of (sym (over_expanded (entries b))) ∙ bag_of-rows_of b

pub same_excess : (a b more left : Bag) → IsExcess a b more → IsExcess a b left → more ≡ left
same_excess a b more left here there = bag_of_same more left (λ row. here row ∙ sym (there row))

-- ---- how many rows go

-- numbers that rise, from one on
abbrev RiseFrom : ℕ → List ℕ → Type 0
RiseFrom least [] = Unit {0}
RiseFrom least (n ∷ ns) = (least ≤ n) × RiseFrom (n + 1) ns

rise_later : (least more : ℕ) (ns : List ℕ) → least ≤ more → RiseFrom more ns → RiseFrom least ns
rise_later least more [] h rise = tt
rise_later least more (n ∷ ns) h rise = (omega (arith, rise.0), rise.1)

abbrev RiseIn : ℕ → List (ℕ × Row) → Type 0
RiseIn least es = (left : Bag) → RiseFrom least (kept_apart left es).gone

gone_more : (least : ℕ) (e : ℕ × Row) (es : List (ℕ × Row)) → least ≤ e.0 → RiseIn (e.0 + 1) es
    → RiseIn least (e ∷ es)
gone_more least e es from rest left =
    by_test (not (is_some (get left e.1))) (rest (without_row e.1 left))
  where
    by_test : (t : Bool) → RiseFrom (e.0 + 1) (kept_apart (without_row e.1 left) es).gone
        → RiseFrom least (gone_if t e.0 (kept_apart (without_row e.1 left) es)).gone
    by_test true rise = (from, rise)
    by_test false rise = rise_later least (e.0 + 1) _ (omega (arith, from)) rise

pub gone_rises : (rows : Rows) (left : Bag) → RiseFrom 0 (kept_apart left (entries rows)).gone
gone_rises rows = map_rises RiseIn (λ least left. tt) gone_more rows

-- nothing is edited from a number on
abbrev IsFree : ℕ → RowEdits → Type 0
IsFree least edits = (q : ℕ) → least ≤ q → get edits q ≡ None

removed_count : (edits : RowEdits) (least : ℕ) (ns : List ℕ) → RiseFrom least ns → IsFree least edits
    → length (entries (with_removed edits ns)) ≡ length (entries edits) + length ns
removed_count edits least [] rise free = omega arith
removed_count edits least (n ∷ ns) rise free =
    let none : get edits n ≡ None = free n rise.0 in
    let new : len (insert edits n None) ≡ len edits + 1 =
    len-insert nat_cmp_total edits n None
    ∙ ap (λ (found : Option (Option Row)). cond (is_some found) (len edits) (len edits + 1)) none in
    let more : length (entries (insert edits n None)) ≡ length (entries edits) + 1 =
    sym (len-entries (insert edits n None)) ∙ new ∙ ap (λ (k : ℕ). k + 1) (len-entries edits) in
    let rest = removed_count (insert edits n None) (n + 1) ns rise.1 (λ q h.
    get-insert nat_cmp_total edits n None q
    ∙ ap (λ (t : Bool). cond t (Some None) (get edits q)) (apart q h)
    ∙ free q (omega (arith, rise.0))) in
    omega (arith, more, rest)
  where
    apart : (q : ℕ) → n + 1 ≤ q → eq_by_cmp nat_cmp q n ≡ false
    apart q h =
        let above : nat_lt q n ≡ false = grind (arith, nat_tests) in
        let other : (q == n) ≡ false = grind (arith, nat_tests) in
        ap (λ (t : Bool). is_eq (cond t Less (cond (q == n) Equal Greater))) above
        ∙ ap (λ (t : Bool). is_eq (cond t Equal Greater)) other

pub gone_count : (ns : List ℕ) → RiseFrom 0 ns → length (entries (with_removed empty ns)) ≡ length ns
gone_count ns rise =
    let none : length (entries {X = Option Row} {R = nat_cmp} empty) ≡ 0 =
    sym (len-entries empty) ∙ len-empty nat_cmp (Option Row) in
    let count = removed_count empty 0 ns rise (λ q h. get-empty nat_cmp q) in
    omega (arith, none, count)
