-- Maps with entries put in one after the other.
--     no_entries         a map of no entries
--     entries_put_all    its entries are those that lists put
--     listed, none_listed    the entries of a list that rises; the list of none
--     listed_in_turn     the entries of a list that rises, put in one after the other
--     none_when          whether a list is of none
--     gotten             a map has at each number what its list has
--     as_map             what lists put, as a map
--     put_listed         entries that are put into a map of their own first
--     put_halves         both halves of a list, each in a map of its own
--     put_below          later edits, of rows whose numbers are below the next one
--     put_in_turn        rows that go and then rows that change
use Rattle.std.proofs.Common.{◌≡◌, ℕ, ◌<◌, ◌≤◌, cond, Bool, true, false, T, List, [], ◌∷◌, ◌++◌, map, length}
use Rattle.std.proofs.Common.{nat_eq, nat_lt, Option, Some, None, refl, sym, ap, ◌∙◌, arith}
use Rattle.std.proofs.lemmas.Bool.{ltb-false}
use Rattle.std.proofs.lemmas.Bool.Decides.{nat_tests}
use Rattle.std.proofs.lemmas.List.{nil_from_length}
use Rattle.std.specs.Ordering.{nat_cmp, eq_by_cmp, is_lt}
use Rattle.std.specs.Cmp.{nat_cmp_total}
use Rattle.std.specs.FinMap.{FinMap, empty, get, insert, entries, same_map, same_entries_map, is_sorted}
use Rattle.std.specs.FinMap.{nat_cmp-IsAntisymmetric, get-insert, get-empty, entries-insert, entries_sorted}
use Rattle.std.specs.FinMap.{len-entries, len-empty, from_sorted, entries-from_sorted, get-from_sorted, find}
use Rattle.std.specs.FinMap.Entries.{below_all}
use Rattle.wh_value.specs.Value.{Row}
use Rattle.wh_part.specs.View.{numbered_of}
use Rattle.wh_part.specs.declared.partition.NumberedRow.{NumberedRow}
use Rattle.wh_state.specs.Edits.{RowEdits, with_removed, with_changed, with_later}
use Rattle.std.specs.Bool.{OnTrue}
use Rattle.wh_version.specs.declared.row_edit.RowEdit.{RowEdit}
use Rattle.wh_version.specs.RowEdits.{entries_in, put_all, puts, below, removal_of, change_of}
use Rattle.wh_version.proofs.Puts.{puts_alone}
use Rattle.wh_value.proofs.TestLaws.{both_hold}
use Rattle.wh_version.proofs.RisingEdits.{holds, is_true, is_below, head_below, rest_rises}

module _ {X : Type 0} where
  pub no_entries : entries (empty {K = ℕ} {X = X} {R = nat_cmp}) ≡ []
  no_entries = nil_from_length (entries empty) (sym (len-entries empty) ∙ len-empty nat_cmp X)

  pub listed : (es : List (ℕ × X)) → is_sorted nat_cmp es ≡ true → entries (from_sorted {R = nat_cmp} es) ≡ es
  listed es rises = entries-from_sorted nat_cmp es (holds rises)

  pub none_listed : from_sorted {R = nat_cmp} [] ≡ empty {X = X}
  none_listed = same_entries_map _ _ (listed [] refl ∙ sym no_entries)

  pub gotten : (es : List (ℕ × X)) (m : FinMap nat_cmp X) (q : ℕ) → is_sorted nat_cmp es ≡ true
      → from_sorted {R = nat_cmp} es ≡ m → get m q ≡ find nat_cmp q es
  gotten es m q rises is = ap (λ m. get m q) (sym is) ∙ get-from_sorted nat_cmp es q (holds rises)

  pub entries_put_all : (m : FinMap nat_cmp X) (es : List (ℕ × X)) → entries (put_all m es) ≡ puts (entries m) es
  entries_put_all m [] = refl
  entries_put_all m (e ∷ es) =
      entries_put_all (insert m e.0 e.1) es ∙ ap (λ l. puts l es) (entries-insert nat_cmp_total m e.0 e.1)

  -- what lists put, as a map
  pub as_map : (es ls all : List (ℕ × X)) → is_sorted nat_cmp es ≡ true → all ≡ puts es ls
      → (is_sorted nat_cmp all ≡ true) × (from_sorted {R = nat_cmp} all ≡ put_all (from_sorted es) ls)
  as_map es ls all rises is =
      let m : FinMap nat_cmp X = put_all (from_sorted es) ls in
      let same : all ≡ entries m = is ∙ ap (λ l. puts l ls) (sym (listed es rises)) ∙ sym (entries_put_all _ ls) in
      let up : is_sorted nat_cmp all ≡ true = ap (is_sorted nat_cmp) same ∙ is_true _ (entries_sorted m) in
      (up, same_entries_map _ _ (listed all up ∙ same))

  -- ---- entries put into a map of their own first

  over : Option X → Option X → Option X
  over None old = old
  over (Some new) old = Some new

  over_insert : (b : Bool) (v : X) (new old : Option X)
      → cond b (Some v) (over new old) ≡ over (cond b (Some v) new) old
  unfolding over
  over_insert true v new old = refl
  over_insert false v new old = refl

  get_put_all : (base m n : FinMap nat_cmp X) (es : List (ℕ × X))
      → ((q : ℕ) → get m q ≡ over (get n q) (get base q))
      → (q : ℕ) → get (put_all m es) q ≡ over (get (put_all n es) q) (get base q)
  get_put_all base m n [] on q = on q
  get_put_all base m n (e ∷ es) on q = get_put_all base (insert m e.0 e.1) (insert n e.0 e.1) es (λ q.
      get-insert nat_cmp_total m e.0 e.1 q
      ∙ ap (cond (eq_by_cmp nat_cmp q e.0) (Some e.1)) (on q)
      ∙ over_insert (eq_by_cmp nat_cmp q e.0) e.1 (get n q) (get base q)
      ∙ ap (λ o. over o (get base q)) (sym (get-insert nat_cmp_total n e.0 e.1 q))) q

  listed_anew : (m : FinMap nat_cmp X) → put_all empty (entries m) ≡ m
  listed_anew m = same_entries_map _ _ (entries_put_all empty (entries m)
      ∙ ap (λ l. puts l (entries m)) no_entries
      ∙ puts_alone (entries m) (is_true _ (entries_sorted m)))

  pub listed_in_turn : (es : List (ℕ × X)) → is_sorted nat_cmp es ≡ true
      → from_sorted {R = nat_cmp} es ≡ put_all empty es
  listed_in_turn es rises = sym (listed_anew (from_sorted es)) ∙ ap (put_all empty) (listed es rises)

  over_none : (base : FinMap nat_cmp X) (q : ℕ)
      → get base q ≡ over (get (empty {X = X} {R = nat_cmp}) q) (get base q)
  unfolding over
  over_none base q = ap (λ o. over o (get base q)) (sym (get-empty nat_cmp q))

  pub put_listed : (m : FinMap nat_cmp X) (es : List (ℕ × X)) → put_all m (entries (put_all empty es)) ≡ put_all m es
  put_listed m es =
      let n : FinMap nat_cmp X = put_all empty es in
      same_map nat_cmp_total nat_cmp-IsAntisymmetric _ _ (λ q.
      get_put_all m m empty (entries n) (over_none m) q
      ∙ ap (λ x. over (get x q) (get m q)) (listed_anew n)
      ∙ sym (get_put_all m m empty es (over_none m) q))

  pub put_append : (m : FinMap nat_cmp X) (es fs : List (ℕ × X)) → put_all m (es ++ fs) ≡ put_all (put_all m es) fs
  put_append m [] fs = refl
  put_append m (e ∷ es) fs = put_append (insert m e.0 e.1) es fs

  -- both halves of a list, each in a map of its own
  pub put_halves : (es fs all : List (ℕ × X)) → es ++ fs ≡ all
      → put_all (put_all empty es) (entries (put_all empty fs)) ≡ put_all empty all
  put_halves es fs all is =
      put_listed (put_all empty es) fs ∙ sym (put_append empty es fs) ∙ ap (put_all empty) is

-- ---- edits of rows

pub none_when : (list : List RowEdit) (count : ℕ) (b : Bool) (edits : RowEdits) → count ≡ length list
    → b ≡ nat_eq count 0 → from_sorted {R = nat_cmp} (entries_in list) ≡ edits → OnTrue b (edits ≡ empty)
none_when list count true edits size is view =
    let none : length list ≡ 0 = grind (arith, nat_tests) in
    sym view ∙ ap (λ l. from_sorted (entries_in l)) (nil_from_length list none) ∙ none_listed
none_when list count false edits size is view = tt

later_above : (next : ℕ) (edits : RowEdits) (least : ℕ) (es : List (ℕ × Option Row)) → next ≤ least
    → T (below_all nat_cmp least es) → with_later next edits es ≡ edits
later_above next edits least [] low above = refl
later_above next edits least (e ∷ es) low above =
    let two = both_hold (is_lt (nat_cmp least e.0)) (below_all nat_cmp least es) above in
    let here : least < e.0 = is_below least e.0 two.0 in
    let test : nat_lt e.0 next ≡ false = grind (arith, nat_tests) in
    ap (λ (b : Bool). with_later next (cond b (insert edits e.0 e.1) edits) es) test
    ∙ later_above next edits least es low two.1

pub put_below : (next : ℕ) (edits : RowEdits) (es : List (ℕ × Option Row)) → is_sorted nat_cmp es ≡ true
    → put_all edits (below next es) ≡ with_later next edits es
put_below next edits [] rises = refl
put_below next edits (e ∷ es) rises =
    by_test (put_below next (insert edits e.0 e.1) es (rest_rises e es rises)) (nat_lt e.0 next) refl
  where
    by_test : put_all (insert edits e.0 e.1) (below next es) ≡ with_later next (insert edits e.0 e.1) es
        → (b : Bool) → nat_lt e.0 next ≡ b
        → put_all edits (cond b (e ∷ below next es) []) ≡ with_later next (cond b (insert edits e.0 e.1) edits) es
    by_test rest true is = rest
    by_test rest false is = sym (later_above next edits e.0 es (ltb-false e.0 next is) (head_below e es rises))

changed_in_turn : (edits : RowEdits) (changed : List NumberedRow)
    → put_all edits (map change_of changed) ≡ with_changed edits (map numbered_of changed)
changed_in_turn edits [] = refl
changed_in_turn edits (e ∷ es) = changed_in_turn (insert edits e.number (Some e.row)) es

pub put_in_turn : (edits : RowEdits) (removed : List ℕ) (changed : List NumberedRow)
    → put_all edits (map removal_of removed ++ map change_of changed)
    ≡ with_changed (with_removed edits removed) (map numbered_of changed)
put_in_turn edits [] changed = changed_in_turn edits changed
put_in_turn edits (number ∷ numbers) changed = put_in_turn (insert edits number None) numbers changed
