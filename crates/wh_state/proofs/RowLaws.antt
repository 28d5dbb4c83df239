-- Rows by their numbers, put in one after the other.
--     number_tied, put_get                  what a test of two numbers says, and what stands
--                                           behind a row that is put in
--     insert_past, entries_swapped          rows of different numbers, whichever come first
--     entries_rebuilt                       rows are those of their entries
--     row_left, edited_at, edited_same      what stands at a number after edits
use Rattle.std.proofs.Common.{◌≡◌, ℕ, Bool, true, false, cond, List, [], ◌∷◌, ◌++◌, Option, Some, None, refl, sym, ap}
use Rattle.std.proofs.Common.{◌∙◌, arith, T}
use Rattle.std.specs.List.{AllByRecursion}
use Rattle.std.specs.FinMap.{empty, get, insert, entries, from_entries, entries_sorted, get-entries, get-empty}
use Rattle.std.specs.FinMap.{get-insert, get-from_entries, same_map, nat_cmp-IsAntisymmetric}
use Rattle.std.specs.FinMap.Entries.{is_sorted, below_all}
use Rattle.std.specs.Ordering.{nat_cmp, eq_by_cmp, is_lt}
use Rattle.std.specs.Cmp.{nat_cmp_total}
use Rattle.std.proofs.lemmas.Bool.Decides.{nat_tests}
use Rattle.wh_value.specs.Value.{Row}
use Rattle.wh_state.specs.State.{Rows, with_entries}
use Rattle.wh_state.specs.Edits.{RowEdits, row_as, edited}
use Rattle.wh_state.proofs.RisingEntries.{both_hold, less_is}

-- ---- tests of numbers

pub number_tied : (x y : ℕ) → eq_by_cmp nat_cmp x y ≡ true → x ≡ y
number_tied x y e = grind (arith, nat_tests)

-- what stands at a number behind a row that was put in
pub put_get : (rows : Rows) (k : ℕ) (row : Row) (q : ℕ)
    → get (insert rows k row) q ≡ cond (eq_by_cmp nat_cmp q k) (Some row) (get rows q)
put_get rows k row q = get-insert nat_cmp_total rows k row q

-- ---- rows of different numbers

abbrev pub LacksNumber : ℕ → List (ℕ × Row) → Type 0
LacksNumber number es = AllByRecursion (λ e. number ≡ e.0 → ⊥) es

either_first : {X : Type 0} (a b : Bool) (x y z : X) → (a ≡ true → b ≡ true → ⊥)
    → cond b y (cond a x z) ≡ cond a x (cond b y z)
either_first true true x y z apart = absurd (apart refl refl)
either_first true false x y z apart = refl
either_first false b x y z apart = refl

insert_either : (rows : Rows) (j k : ℕ) (row other : Row) → (j ≡ k → ⊥)
    → insert (insert rows j row) k other ≡ insert (insert rows k other) j row
insert_either rows j k row other apart = same_map nat_cmp_total nat_cmp-IsAntisymmetric _ _ at_number
  where
    at_number : (q : ℕ) → get (insert (insert rows j row) k other) q ≡ get (insert (insert rows k other) j row) q
    at_number q =
        let first : (eq_by_cmp nat_cmp q j ≡ true) → (eq_by_cmp nat_cmp q k ≡ true) → ⊥ =
        λ a b. apart (sym (number_tied q j a) ∙ number_tied q k b) in
        put_get (insert rows j row) k other q ∙ ap (cond (eq_by_cmp nat_cmp q k) (Some other)) (put_get rows j row q)
        ∙ either_first (eq_by_cmp nat_cmp q j) (eq_by_cmp nat_cmp q k) (Some row) (Some other) (get rows q) first
        ∙ sym (put_get (insert rows k other) j row q
        ∙ ap (cond (eq_by_cmp nat_cmp q j) (Some row)) (put_get rows k other q))

-- a row whose number comes no more may be put in last
pub insert_past : (rows : Rows) (k : ℕ) (row : Row) (es : List (ℕ × Row)) → LacksNumber k es
    → with_entries (insert rows k row) es ≡ insert (with_entries rows es) k row
insert_past rows k row [] lacks = refl
insert_past rows k row (e ∷ es) lacks =
    ap (λ (new : Rows). with_entries new es) (insert_either rows k e.0 row e.1 lacks.0)
    ∙ insert_past (insert rows e.0 e.1) k row es lacks.1

pub entries_swapped : (rows : Rows) (xs ys : List (ℕ × Row)) → AllByRecursion (λ e. LacksNumber e.0 ys) xs
    → with_entries (with_entries rows xs) ys ≡ with_entries (with_entries rows ys) xs
entries_swapped rows [] ys lack = refl
entries_swapped rows (e ∷ xs) ys lack =
    entries_swapped (insert rows e.0 e.1) xs ys lack.1
    ∙ ap (λ (new : Rows). with_entries new xs) (insert_past rows e.0 e.1 ys lack.0)

-- ---- entries of rows

below_lacks : (k : ℕ) (es : List (ℕ × Row)) → T (below_all nat_cmp k es) → LacksNumber k es
below_lacks k [] h = tt
below_lacks k (e ∷ es) h =
    let parts = both_hold (is_lt (nat_cmp k e.0)) (below_all nat_cmp k es) h in
    let less = less_is k e.0 parts.0 in
    (λ same. omega (arith, less, same), below_lacks k es parts.1)

sorted_entries : (es : List (ℕ × Row)) → T (is_sorted nat_cmp es) → with_entries empty es ≡ from_entries es
sorted_entries [] h = refl
sorted_entries (e ∷ es) h =
    let parts = both_hold (below_all nat_cmp e.0 es) (is_sorted nat_cmp es) h in
    insert_past empty e.0 e.1 es (below_lacks e.0 es parts.0)
    ∙ ap (λ (rows : Rows). insert rows e.0 e.1) (sorted_entries es parts.1)

pub entries_rebuilt : (rows : Rows) → with_entries empty (entries rows) ≡ rows
entries_rebuilt rows =
    sorted_entries (entries rows) (entries_sorted rows)
    ∙ same_map nat_cmp_total nat_cmp-IsAntisymmetric _ _
    (λ q. get-from_entries nat_cmp_total (entries rows) q ∙ sym (get-entries rows q))

-- ---- edits

-- what is left of a row
abbrev pub row_left : Option Row → Option (Option Row) → Option Row
row_left None edit = None
row_left (Some row) None = Some row
row_left (Some row) (Some new) = new

-- what is put in at that number, on both sides
put_kept : (edits : RowEdits) (m n : Rows) (k : ℕ) (row : Row) (q : ℕ) → get edits k ≡ None
    → get n q ≡ row_left (get m q) (get edits q)
    → get (insert n k row) q ≡ row_left (get (insert m k row) q) (get edits q)
put_kept edits m n k row q none same = by_tie (eq_by_cmp nat_cmp q k) refl
  where
    by_tie : (tie : Bool) → eq_by_cmp nat_cmp q k ≡ tie
        → get (insert n k row) q ≡ row_left (get (insert m k row) q) (get edits q)
    by_tie true is =
        let at : get edits q ≡ None = ap (get edits) (number_tied q k is) ∙ none in
        rw (put_get n k row q, put_get m k row q, is, at) refl
    by_tie false is = rw (put_get n k row q, put_get m k row q, is) same

put_gone : (edits : RowEdits) (m n : Rows) (k : ℕ) (row : Row) (q : ℕ) → get edits k ≡ Some None
    → get n q ≡ row_left (get m q) (get edits q)
    → get n q ≡ row_left (get (insert m k row) q) (get edits q)
put_gone edits m n k row q gone same = by_tie (eq_by_cmp nat_cmp q k) refl
  where
    no_row : (found : Option Row) → row_left found (Some None) ≡ None
    no_row None = refl
    no_row (Some row) = refl

    by_tie : (tie : Bool) → eq_by_cmp nat_cmp q k ≡ tie → get n q ≡ row_left (get (insert m k row) q) (get edits q)
    by_tie true is =
        let at : get edits q ≡ Some None = ap (get edits) (number_tied q k is) ∙ gone in
        same ∙ ap (row_left (get m q)) at ∙ no_row (get m q)
        ∙ sym (ap (row_left (get (insert m k row) q)) at ∙ no_row (get (insert m k row) q))
    by_tie false is = rw (put_get m k row q, is) same

put_new : (edits : RowEdits) (m n : Rows) (k : ℕ) (row new : Row) (q : ℕ) → get edits k ≡ Some (Some new)
    → get n q ≡ row_left (get m q) (get edits q)
    → get (insert n k new) q ≡ row_left (get (insert m k row) q) (get edits q)
put_new edits m n k row new q named same = by_tie (eq_by_cmp nat_cmp q k) refl
  where
    by_tie : (tie : Bool) → eq_by_cmp nat_cmp q k ≡ tie
        → get (insert n k new) q ≡ row_left (get (insert m k row) q) (get edits q)
    by_tie true is =
        let at : get edits q ≡ Some (Some new) = ap (get edits) (number_tied q k is) ∙ named in
        rw (put_get n k new q, put_get m k row q, is, at) refl
    by_tie false is = rw (put_get n k new q, put_get m k row q, is) same

-- edited entries behind rows that are what edits leave of others
edited_get : (edits : RowEdits) (es : List (ℕ × Row)) (m n : Rows) (q : ℕ) → get n q ≡ row_left (get m q) (get edits q)
    → get (with_entries n (edited edits es)) q ≡ row_left (get (with_entries m es) q) (get edits q)
edited_get edits [] m n q same = same
edited_get edits (e ∷ es) m n q same = by_edit (get edits e.0) refl (λ m n h. edited_get edits es m n q h)
  where
    by_edit : (edit : Option (Option Row)) → get edits e.0 ≡ edit
        → ((m n : Rows) → get n q ≡ row_left (get m q) (get edits q)
        → get (with_entries n (edited edits es)) q ≡ row_left (get (with_entries m es) q) (get edits q))
        → get (with_entries n (row_as e edit ++ edited edits es)) q
        ≡ row_left (get (with_entries (insert m e.0 e.1) es) q) (get edits q)
    by_edit None is rest = rest (insert m e.0 e.1) (insert n e.0 e.1) (put_kept edits m n e.0 e.1 q is same)
    by_edit (Some None) is rest = rest (insert m e.0 e.1) n (put_gone edits m n e.0 e.1 q is same)
    by_edit (Some (Some row)) is rest =
        rest (insert m e.0 e.1) (insert n e.0 row) (put_new edits m n e.0 e.1 row q is same)

-- of entries alone
pub edited_at : (edits : RowEdits) (es : List (ℕ × Row)) (q : ℕ)
    → get (with_entries empty (edited edits es)) q ≡ row_left (get (with_entries empty es) q) (get edits q)
edited_at edits es q = edited_get edits es empty empty q (rw (get-empty nat_cmp q) refl)

-- entries of the same rows have the same rows after edits
pub edited_same : (edits : RowEdits) (es fs : List (ℕ × Row)) → with_entries empty es ≡ with_entries empty fs
    → with_entries empty (edited edits es) ≡ with_entries empty (edited edits fs)
edited_same edits es fs same = same_map nat_cmp_total nat_cmp-IsAntisymmetric _ _
    (λ q. edited_at edits es q ∙ ap (λ (rows : Rows). row_left (get rows q) (get edits q)) same
    ∙ sym (edited_at edits fs q))
