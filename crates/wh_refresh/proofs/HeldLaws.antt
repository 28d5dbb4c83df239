-- The rows of the partitions in which rows that go may stand.
--     first_between, rest_within   a row whose values lie between the sides: the first one does, and the others do
--     at_first, one_past           the entries of a bag, past those that don't lie there
--     all_stay                     no row of a partition goes
--     kept_more, stayed_more       one more partition, among them or not
--     pushed, taken_more, held_at  one more partition in the file, and what holds of it
--     going_held                   their rows are those of the table that pass a test
use Rattle.std.proofs.Common.{◌≡◌, ℕ, zero, suc, ◌+◌, ◌-◌, ◌<◌, ◌⊎◌, inl, inr, Bool, true, false, cond, T}
use Rattle.std.proofs.Common.{List, [], ◌∷◌, ◌++◌, length, map, get_or, take, drop, Option, Some, None, is_some}
use Rattle.std.proofs.Common.{refl, sym, ap, subst, ◌∙◌, arith}
use Rattle.std.specs.Prelude.{◌||◌, nat_lt, filter}
use Rattle.std.specs.List.{All, AllByRecursion}
use Rattle.std.specs.Ordering.{nat_cmp, eq_by_cmp, is_eq, is_lt}
use Rattle.std.specs.Cmp.{nat_cmp_total, tied_itself}
use Rattle.std.specs.FinMap.{empty, get, insert, entries, entries_sorted, get-entries, get-empty, from_sorted}
use Rattle.std.specs.FinMap.{get-from_sorted, entries-from_sorted, same_map, nat_cmp-IsAntisymmetric}
use Rattle.std.specs.FinMap.Entries.{find, is_sorted, below_all, where_key, find-where_key, is_sorted-where_key}
use Rattle.std.proofs.lemmas.Bool.Decides.{nat_tests}
use Rattle.std.proofs.lemmas.List.{take_more, take_all, length-drop}
use denote.Ref.{Bor}
use Rattle.wh_value.specs.Value.{Row, row_cmp}
use Rattle.wh_value.specs.View.{value_of}
use Rattle.wh_value.specs.declared.value.Value.{Value}
use Rattle.wh_frame.specs.Partition.{Partition}
use Rattle.wh_meaning.specs.Bag.{Bag, times, count}
use Rattle.wh_meaning.proofs.BagLaws.{tied_rows}
use Rattle.wh_part.specs.Holding.{Sides, sides_of, IsWithin}
use Rattle.wh_part.specs.declared.meta.Bounds.{Bounds}
use Rattle.wh_filed.specs.Filed.{Filed, filed_at, partitions_at}
use Rattle.wh_state.specs.State.{Rows, with_entries}
use Rattle.wh_state.specs.Commit.{AllApart}
use Rattle.wh_state.specs.Stored.{rows_of}
use Rattle.wh_state.proofs.AllLaws.{all_map, all_both, filter_same}
use Rattle.wh_state.proofs.CutLaws.{entries_append}
use Rattle.wh_state.proofs.EditLaws.{all_rows, HoldApart, EachApart, each_apart}
use Rattle.wh_state.proofs.OrderlyLaws.{ApartFrom}
use Rattle.wh_state.proofs.RisingEntries.{both_hold, less_is}
use Rattle.wh_state.proofs.RowLaws.{LacksNumber, number_tied, put_get}
use Rattle.wh_table.specs.Shown.{HoldsRising}
use Rattle.wh_refresh.specs.Going.{is_between, StaysWithin, AllStay, AreGoing}
use Rattle.wh_refresh.specs.Rebased.{HoldsGoing}

-- ---- rows within the sides of columns

pub first_between : (bs : List Bounds) (vs : List Value) (b : Bounds) (v : Value) → 0 < length bs → 0 < length vs
    → b ≡ get_or bs 0 b → v ≡ get_or vs 0 v → IsWithin (map sides_of bs) (map value_of vs)
    → is_between (sides_of b) (value_of v) ≡ true
first_between [] vs b v some more at here within = absurd (omega arith)
first_between (c ∷ bs) [] b v some more at here within = absurd (omega arith)
first_between (c ∷ bs) (w ∷ vs) b v some more at here within =
    rw (at, here, within.least 0 (sides_of c) refl, within.greatest 0 (sides_of c) refl) refl

rest_is : {X : Type 0} (xs : List X) → take (length xs - 1) (drop 1 xs) ≡ drop 1 xs
rest_is xs = take_all _ _ (omega (arith, length-drop 1 xs))

pub rest_within : (bs : List Bounds) (vs : List Value) → 0 < length bs → 0 < length vs
    → IsWithin (map sides_of bs) (map value_of vs)
    → IsWithin (map sides_of (take (length bs - 1) (drop 1 bs))) (map value_of (take (length vs - 1) (drop 1 vs)))
rest_within bs vs some more within = rw (rest_is bs, rest_is vs) (by_lists bs vs some more within)
  where
    by_lists : (bs : List Bounds) (vs : List Value) → 0 < length bs → 0 < length vs
        → IsWithin (map sides_of bs) (map value_of vs) → IsWithin (map sides_of (drop 1 bs)) (map value_of (drop 1 vs))
    by_lists [] vs some more within = absurd (omega arith)
    by_lists (c ∷ bs) [] some more within = absurd (omega arith)
    by_lists (c ∷ bs) (w ∷ vs) some more within = record {
      least = λ place b at. within.least (suc place) b at;
      greatest = λ place b at. within.greatest (suc place) b at;
    }

-- ---- the rows of a bag

pub at_first : (b : Bag) (es : List (Row × ℕ)) → es ≡ entries b → (row : Row)
    → count b row ≡ times (find row_cmp row es)
at_first b es is row = ap times (get-entries b row ∙ ap (find row_cmp row) (sym is))

pub one_past : (b : Bag) (columns : List Sides) (left rest : List (Row × ℕ)) (e : Row × ℕ)
    → (IsWithin columns e.0 → ⊥) → left ≡ e ∷ rest
    → ((row : Row) → IsWithin columns row → count b row ≡ times (find row_cmp row left))
    → (row : Row) → IsWithin columns row → count b row ≡ times (find row_cmp row rest)
one_past b columns left rest e outside is so_far row within =
    so_far row within
    ∙ ap (λ (es : List (Row × ℕ)). times (find row_cmp row es)) is
    ∙ by_tie (eq_by_cmp row_cmp row e.0) refl
  where
    by_tie : (t : Bool) → eq_by_cmp row_cmp row e.0 ≡ t
        → times (cond t (Some e.1) (find row_cmp row rest)) ≡ times (find row_cmp row rest)
    by_tie true is = absurd (outside (subst (IsWithin columns) (tied_rows row e.0 is) within))
    by_tie false is = refl

-- ---- one more partition

pub all_stay : (columns : List Sides) (minus : Bag) → StaysWithin columns minus → (es : List (ℕ × Row))
    → All (λ e. IsWithin columns e.1) es → AllStay minus es
all_stay columns minus stays [] within = tt
all_stay columns minus stays (e ∷ es) within = (
  stays e.1 (within 0 e (omega arith)),
  all_stay columns minus stays es (λ i d inside. within (suc i) d (omega (arith, inside))),
)

module _ (minus : Bag) (p : Partition) where
  pub kept_more : (seen going : List Partition) → AreGoing minus seen going
      → AreGoing minus (seen ++ p ∷ []) (going ++ p ∷ [])
  kept_more [] going is = inl ([], ap (λ (ps : List Partition). ps ++ p ∷ []) is, refl)
  kept_more (q ∷ seen) going (inl (rest, is, more)) =
      inl (rest ++ p ∷ [], ap (λ (ps : List Partition). ps ++ p ∷ []) is, kept_more seen rest more)
  kept_more (q ∷ seen) going (inr (stay, more)) = inr (stay, kept_more seen going more)

  pub stayed_more : AllStay minus p.rows → (seen going : List Partition) → AreGoing minus seen going
      → AreGoing minus (seen ++ p ∷ []) going
  stayed_more stay [] going is = inr (stay, is)
  stayed_more stay (q ∷ seen) going (inl (rest, is, more)) = inl (rest, is, stayed_more stay seen rest more)
  stayed_more stay (q ∷ seen) going (inr (here, more)) = inr (here, stayed_more stay seen going more)

pub pushed : (filed : List (Bor Filed)) (f : Bor Filed)
    → partitions_at (filed ++ f ∷ []) ≡ partitions_at filed ++ f.now.partition ∷ []
pushed [] f = refl
pushed (g ∷ filed) f = ap (λ (ps : List Partition). g.now.partition ∷ ps) (pushed filed f)

pub taken_more : (filed : List (Bor Filed)) (i : ℕ) (f : Bor Filed) → i < length filed → f ≡ get_or filed i f
    → partitions_at (take (i + 1) filed) ≡ partitions_at (take i filed) ++ f.now.partition ∷ []
taken_more filed i f inside is =
    ap partitions_at (take_more filed i f inside ∙ ap (λ g. take i filed ++ g ∷ []) (sym is))
    ∙ pushed (take i filed) f

pub held_at : (P : Filed → Type 0) (filed : List (Bor Filed)) (i : ℕ) (f : Bor Filed) → i < length filed
    → f ≡ get_or filed i f → AllByRecursion P (filed_at filed) → P f.now
held_at P [] i f inside is all = absurd (omega arith)
held_at P (g ∷ filed) zero f inside is all = subst (λ (h : Bor Filed). P h.now) (sym is) all.0
held_at P (g ∷ filed) (suc i) f inside is all = held_at P filed i f (omega arith) is all.1

-- ---- what stands at a number

-- the same row, or none where a row stays
abbrev IsLeft : Bag → Option Row → Option Row → Type 0
IsLeft minus all some = (some ≡ all) ⊎ ((row : Row) × (all ≡ Some row) × (some ≡ None) × (count minus row ≡ 0))

abbrev Lacks : Rows → List (ℕ × Row) → Type 0
Lacks rows es = AllByRecursion (λ e. get rows e.0 ≡ None) es

lacks_put : (rows : Rows) (e : ℕ × Row) (es : List (ℕ × Row)) → LacksNumber e.0 es → Lacks rows es
    → Lacks (insert rows e.0 e.1) es
lacks_put rows e es apart lacks =
    all_both (λ f. e.0 ≡ f.0 → ⊥) (λ f. get rows f.0 ≡ None) (λ f. get (insert rows e.0 e.1) f.0 ≡ None)
    (λ f other none. by_tie f.0 other none (eq_by_cmp nat_cmp f.0 e.0) refl) es apart lacks
  where
    by_tie : (k : ℕ) → (e.0 ≡ k → ⊥) → get rows k ≡ None → (t : Bool) → eq_by_cmp nat_cmp k e.0 ≡ t
        → get (insert rows e.0 e.1) k ≡ None
    by_tie k other none true is = absurd (other (sym (number_tied k e.0 is)))
    by_tie k other none false is = rw (put_get rows e.0 e.1 k, is) none

lacks_more : (rows : Rows) (es fs : List (ℕ × Row)) → AllByRecursion (λ e. LacksNumber e.0 fs) es → Lacks rows fs
    → Lacks (with_entries rows es) fs
lacks_more rows [] fs apart lacks = lacks
lacks_more rows (e ∷ es) fs apart lacks =
    lacks_more (insert rows e.0 e.1) es fs apart.1 (lacks_put rows e fs apart.0 lacks)

lacks_empty : (es : List (ℕ × Row)) → Lacks empty es
lacks_empty [] = tt
lacks_empty (e ∷ es) = (get-empty nat_cmp e.0, lacks_empty es)

all_empty : (ps : List Partition) → AllByRecursion (λ p. Lacks empty p.rows) ps
all_empty [] = tt
all_empty (p ∷ ps) = (lacks_empty p.rows, all_empty ps)

module _ (minus : Bag) (q : ℕ) where
  put_both : (m n : Rows) (k : ℕ) (row : Row) → IsLeft minus (get m q) (get n q)
      → IsLeft minus (get (insert m k row) q) (get (insert n k row) q)
  put_both m n k row left = rw (put_get m k row q, put_get n k row q) (by_tie (eq_by_cmp nat_cmp q k))
    where
      by_tie : (t : Bool) → IsLeft minus (cond t (Some row) (get m q)) (cond t (Some row) (get n q))
      by_tie true = inl refl
      by_tie false = left

  both_more : (m n : Rows) (es : List (ℕ × Row)) → IsLeft minus (get m q) (get n q)
      → IsLeft minus (get (with_entries m es) q) (get (with_entries n es) q)
  both_more m n [] left = left
  both_more m n (e ∷ es) left = both_more (insert m e.0 e.1) (insert n e.0 e.1) es (put_both m n e.0 e.1 left)

  put_one : (m n : Rows) (k : ℕ) (row : Row) → count minus row ≡ 0 → get n k ≡ None
      → IsLeft minus (get m q) (get n q) → IsLeft minus (get (insert m k row) q) (get n q)
  put_one m n k row stays none left = rw (put_get m k row q) (by_tie (eq_by_cmp nat_cmp q k) refl)
    where
      by_tie : (t : Bool) → eq_by_cmp nat_cmp q k ≡ t → IsLeft minus (cond t (Some row) (get m q)) (get n q)
      by_tie true is = inr (row, refl, ap (get n) (number_tied q k is) ∙ none, stays)
      by_tie false is = left

  one_more : (m n : Rows) (es : List (ℕ × Row)) → AllStay minus es → Lacks n es → IsLeft minus (get m q) (get n q)
      → IsLeft minus (get (with_entries m es) q) (get n q)
  one_more m n [] stay lacks left = left
  one_more m n (e ∷ es) stay lacks left =
      one_more (insert m e.0 e.1) n es stay.1 lacks.1 (put_one m n e.0 e.1 stay.0 lacks.0 left)

  all_left : (ps going : List Partition) (m n : Rows) → AreGoing minus ps going → EachApart ps
      → AllByRecursion (λ p. Lacks n p.rows) ps → IsLeft minus (get m q) (get n q)
      → IsLeft minus (get (with_entries m (all_rows ps)) q) (get (with_entries n (all_rows going)) q)
  all_left [] going m n is apart lack left =
      subst (λ (g : List Partition). IsLeft minus (get m q) (get (with_entries n (all_rows g)) q)) (sym is) left
  all_left (p ∷ ps) going m n (inl (rest, is, more)) apart lack left =
      subst (λ (g : List Partition). IsLeft minus (get (with_entries m (all_rows (p ∷ ps))) q)
      (get (with_entries n (all_rows g)) q)) (sym is)
      (rw (entries_append m p.rows (all_rows ps), entries_append n p.rows (all_rows rest))
      (all_left ps rest (with_entries m p.rows) (with_entries n p.rows) more apart.1
      (all_both (HoldApart p) (λ r. Lacks n r.rows) (λ r. Lacks (with_entries n p.rows) r.rows)
      (λ r other lacks. lacks_more n p.rows r.rows other lacks) ps apart.0 lack.1)
      (both_more m n p.rows left)))
  all_left (p ∷ ps) going m n (inr (stay, more)) apart lack left =
      rw (entries_append m p.rows (all_rows ps))
      (all_left ps going (with_entries m p.rows) n more apart.1 lack.1 (one_more m n p.rows stay lack.0 left))

-- ---- they are apart

going_apart : (minus : Bag) (ps going before fewer : List Partition)
    → ((p : Partition) → ApartFrom before p → ApartFrom fewer p) → AllApart before ps → AreGoing minus ps going
    → AllApart fewer going
going_apart minus [] going before fewer so apart is = subst (AllApart fewer) (sym is) tt
going_apart minus (p ∷ ps) going before fewer so apart (inl (rest, is, more)) =
    subst (AllApart fewer) (sym is)
    (so p apart.0, going_apart minus ps rest (p ∷ before) (p ∷ fewer) (λ q h. (h.0, so q h.1)) apart.1 more)
going_apart minus (p ∷ ps) going before fewer so apart (inr (stay, more)) =
    going_apart minus ps going (p ∷ before) fewer (λ q h. so q h.1) apart.1 more

-- ---- entries

below_differ : (k : ℕ) (es : List (ℕ × Row)) → T (below_all nat_cmp k es)
    → AllByRecursion (λ e. eq_by_cmp nat_cmp e.0 k ≡ false) es
below_differ k [] below = tt
below_differ k (e ∷ es) below =
    let parts = both_hold (is_lt (nat_cmp k e.0)) (below_all nat_cmp k es) below in
    (by_tie (less_is k e.0 parts.0) (eq_by_cmp nat_cmp e.0 k) refl, below_differ k es parts.1)
  where
    by_tie : k < e.0 → (t : Bool) → eq_by_cmp nat_cmp e.0 k ≡ t → eq_by_cmp nat_cmp e.0 k ≡ false
    by_tie less true is = let same = number_tied e.0 k is in absurd (omega (arith, less, same))
    by_tie less false is = is

entries_found : (es : List (ℕ × Row)) → T (is_sorted nat_cmp es)
    → AllByRecursion (λ e. find nat_cmp e.0 es ≡ Some e.1) es
entries_found [] sorted = tt
entries_found (e ∷ es) sorted =
    let parts = both_hold (below_all nat_cmp e.0 es) (is_sorted nat_cmp es) sorted in (
      ap (λ r. cond (is_eq r) (Some e.1) (find nat_cmp e.0 es)) (tied_itself nat_cmp_total e.0),
      all_both (λ f. eq_by_cmp nat_cmp f.0 e.0 ≡ false) (λ f. find nat_cmp f.0 es ≡ Some f.1)
          (λ f. find nat_cmp f.0 (e ∷ es) ≡ Some f.1) (λ f other found. rw other found) es
          (below_differ e.0 es parts.0) (entries_found es parts.1),
    )

module _ (minus : Bag) (old rows : Rows) (left : (q : ℕ) → IsLeft minus (get old q) (get rows q)) where
  abbrev stands : ℕ → Bool
  stands q = is_some (get rows q)

  abbrev passes : ℕ × Row → Bool
  passes e = nat_lt 0 (count minus e.1) || stands e.0

  abbrev standing : List (ℕ × Row)
  standing = where_key nat_cmp stands (entries old)

  same_at : (all some : Option Row) → IsLeft minus all some → some ≡ cond (is_some some) all None
  same_at all None left = refl
  same_at all (Some row) (inl is) = is
  same_at all (Some row) (inr (other, at, none, stays)) = absurd cc

  sorted : T (is_sorted nat_cmp standing)
  sorted = is_sorted-where_key nat_cmp stands (entries old) (entries_sorted old)

  rows_are : rows ≡ from_sorted standing
  rows_are = same_map nat_cmp_total nat_cmp-IsAntisymmetric _ _
      (λ q.
      same_at (get old q) (get rows q) (left q)
      ∙ ap (λ (found : Option Row). cond (stands q) found None) (get-entries old q)
      ∙ sym (get-from_sorted nat_cmp standing q sorted
      ∙ find-where_key nat_cmp stands q (λ x t. ap stands (sym (nat_cmp-IsAntisymmetric q x t))) (entries old)))

  -- a row that goes stands there
  passes_at : (e : ℕ × Row) → get old e.0 ≡ Some e.1 → IsLeft minus (get old e.0) (get rows e.0)
      → passes e ≡ stands e.0
  passes_at e at (inl is) =
      let here : stands e.0 ≡ true = ap is_some (is ∙ at) in
      by_test (nat_lt 0 (count minus e.1)) (stands e.0) here
    where
      by_test : (a b : Bool) → b ≡ true → (a || b) ≡ b
      by_test true b is = sym is
      by_test false b is = refl
  passes_at e at (inr (row, was, none, stays)) =
      let same : row ≡ e.1 = cc in
      let none_goes : count minus e.1 ≡ 0 = ap (count minus) (sym same) ∙ stays in
      let not_less : nat_lt 0 (count minus e.1) ≡ false = grind (arith, nat_tests) in
      rw not_less refl

  are : entries rows ≡ filter passes (entries old)
  are =
      ap entries rows_are
      ∙ entries-from_sorted nat_cmp standing sorted
      ∙ sym (filter_same passes (λ e. stands e.0) (entries old)
      (all_map (λ e. find nat_cmp e.0 (entries old) ≡ Some e.1) (λ e. passes e ≡ stands e.0)
      (λ e found. passes_at e (get-entries old e.0 ∙ found) (left e.0)) (entries old)
      (entries_found (entries old) (entries_sorted old))))

  stay : (e : ℕ × Row) → passes e ≡ false → count minus e.1 ≡ 0
  stay e is = by_test (nat_lt 0 (count minus e.1)) refl is
    where
      by_test : (b : Bool) → nat_lt 0 (count minus e.1) ≡ b → (b || stands e.0) ≡ false → count minus e.1 ≡ 0
      by_test true at is = absurd cc
      by_test false at is = grind (arith, nat_tests)

pub going_held : (minus : Bag) (ps going : List Partition) (old : Rows) → HoldsRising ps old → AreGoing minus ps going
    → HoldsGoing going old minus
going_held minus ps going old held is =
    let apart = each_apart [] ps held.rising held.holds.apart in
    let left : (q : ℕ) → IsLeft minus (get old q) (get (rows_of going) q) =
    λ q. subst (λ (rows : Rows). IsLeft minus (get rows q) (get (rows_of going) q)) held.holds.rows
    (all_left minus q ps going empty empty is apart (all_empty ps) (inl refl)) in
    record {
      rows = rows_of going;
      holds = record { apart = going_apart minus ps going [] [] (λ p h. h) held.holds.apart is; rows = refl };
      passes = passes minus old (rows_of going) left;
      are = are minus old (rows_of going) left;
      stays = stay minus old (rows_of going) left;
    }
