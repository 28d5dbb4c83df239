-- The bag of the rows of partitions that are apart.
use Rattle.std.proofs.Common.{◌≡◌, ℕ, ◌+◌, ◌<◌, ◌≤◌, ◌⊎◌, inl, inr, false, List, [], ◌∷◌, ◌++◌, length, Some, None}
use Rattle.std.proofs.Common.{refl, sym, ap, ◌∙◌, arith, cond}
use Rattle.std.specs.List.{AllByRecursion}
use Rattle.std.specs.declared.cmp.Ordering.{Ordering}
use Rattle.std.specs.declared.cmp.Ordering.TheVariants.{Less, Equal, Greater}
use Rattle.std.specs.Ordering.{nat_cmp, is_eq}
use Rattle.std.specs.FinMap.{empty, get, insert, entries, values, entries-insert, get-entries, get-insert, get-empty}
use Rattle.std.specs.FinMap.{len-empty, len-entries, nat_cmp-IsAntisymmetric}
use Rattle.std.specs.FinMap.Entries.{find, put, by_order}
use Rattle.std.proofs.lemmas.Cmp.{nat_cmp_total}
use Rattle.wh_value.specs.Value.{Row}
use Rattle.wh_meaning.specs.Bag.{with_row, bag_of}
use Rattle.wh_frame.specs.Partition.{Partition, first_number, last_number}
use Rattle.wh_frame.specs.Spelling.{RisesFrom}
use Rattle.wh_state.specs.State.{Rows, with_entries}
use Rattle.wh_state.specs.Stored.{rows_of}
use Rattle.wh_state.specs.Commit.{AreApart, AllApart}
use Rattle.wh_table.specs.Rows.{rows_only, all_rows}
use Rattle.wh_meaning.proofs.BagLaws.{with_row-with_row}

-- ---- bags of lists of rows

to_front : (xs : List Row) (v : Row) (ys : List Row) → bag_of (xs ++ v ∷ ys) ≡ with_row v (bag_of (xs ++ ys))
to_front [] v ys = refl
to_front (x ∷ xs) v ys = ap (with_row x) (to_front xs v ys) ∙ with_row-with_row x v (bag_of (xs ++ ys))

behind : (xs ys zs : List Row) → bag_of ys ≡ bag_of zs → bag_of (xs ++ ys) ≡ bag_of (xs ++ zs)
behind [] ys zs e = e
behind (x ∷ xs) ys zs e = ap (with_row x) (behind xs ys zs e)

blocks : (xs ys zs : List Row) → bag_of (xs ++ (ys ++ zs)) ≡ bag_of ((ys ++ xs) ++ zs)
blocks xs [] zs = refl
blocks xs (y ∷ ys) zs = to_front xs y (ys ++ zs) ∙ ap (with_row y) (blocks xs ys zs)

-- ---- one more entry of a map

put_at : (r : Ordering) (k : ℕ) (v : Row) (e : ℕ × Row) (es : List (ℕ × Row))
    → cond (is_eq r) (Some e.1) (find nat_cmp k es) ≡ None
    → (find nat_cmp k es ≡ None → bag_of (rows_only (put nat_cmp k v es)) ≡ with_row v (bag_of (rows_only es)))
    → bag_of (rows_only (by_order r ((k, v) ∷ e ∷ es) ((e.0, v) ∷ es) (e ∷ put nat_cmp k v es)))
    ≡ with_row v (with_row e.1 (bag_of (rows_only es)))
put_at Less k v e es none rest = refl
put_at Equal k v e es none rest = cc
put_at Greater k v e es none rest = ap (with_row e.1) (rest none) ∙ with_row-with_row e.1 v (bag_of (rows_only es))

put_new : (k : ℕ) (v : Row) (es : List (ℕ × Row)) → find nat_cmp k es ≡ None
    → bag_of (rows_only (put nat_cmp k v es)) ≡ with_row v (bag_of (rows_only es))
put_new k v [] none = refl
put_new k v (e ∷ es) none = put_at (nat_cmp k e.0) k v e es none (put_new k v es)

insert_new : (m : Rows) (k : ℕ) (v : Row) → get m k ≡ None
    → bag_of (values (insert m k v)) ≡ with_row v (bag_of (values m))
insert_new m k v none = ap (λ es. bag_of (rows_only es)) (entries-insert nat_cmp_total m k v)
    ∙ put_new k v (entries m) (sym (get-entries m k) ∙ none)

differ : (q k : ℕ) (r : Ordering) → nat_cmp q k ≡ r → (q ≡ k → ⊥) → is_eq r ≡ false
differ q k Less e apart = refl
differ q k Equal e apart = absurd (apart (nat_cmp-IsAntisymmetric q k e))
differ q k Greater e apart = refl

get_other : (m : Rows) (k : ℕ) (v : Row) (q : ℕ) → (q ≡ k → ⊥) → get (insert m k v) q ≡ get m q
get_other m k v q apart = get-insert nat_cmp_total m k v q
    ∙ ap (λ b. cond b (Some v) (get m q)) (differ q k (nat_cmp q k) refl apart)

-- ---- the rows of one partition

pub tail_last : (e : ℕ × Row) (es : List (ℕ × Row)) → last_number es ≤ last_number (e ∷ es)
tail_last e [] = omega arith
tail_last e (f ∷ es) = omega arith

pub head_last : (e : ℕ × Row) (es : List (ℕ × Row)) → RisesFrom (e.0 + 1) es → e.0 ≤ last_number (e ∷ es)
head_last e [] up = omega arith
head_last e (f ∷ es) up = let rest = head_last f es up.1 in omega (arith, up.0)

above_rows : (m : Rows) (low : ℕ) (es : List (ℕ × Row)) (q : ℕ) → RisesFrom low es → last_number es < q
    → get (with_entries m es) q ≡ get m q
above_rows m low [] q up above = refl
above_rows m low (e ∷ es) q up above =
    let tail = tail_last e es in
    let head = head_last e es up.1 in
    above_rows (insert m e.0 e.1) (e.0 + 1) es q up.1 (omega arith) ∙ get_other m e.0 e.1 q (λ same. omega arith)

below_rows : (m : Rows) (low : ℕ) (es : List (ℕ × Row)) (q : ℕ) → RisesFrom low es → q < low
    → get (with_entries m es) q ≡ get m q
below_rows m low [] q up below = refl
below_rows m low (e ∷ es) q up below =
    let first : low ≤ e.0 = up.0 in
    below_rows (insert m e.0 e.1) (e.0 + 1) es q up.1 (omega arith) ∙ get_other m e.0 e.1 q (λ same. omega arith)

rising_bag : (m : Rows) (low last : ℕ) (es : List (ℕ × Row)) → RisesFrom low es → last_number es ≤ last
    → ((q : ℕ) → low ≤ q → q ≤ last → get m q ≡ None)
    → bag_of (values (with_entries m es)) ≡ bag_of (rows_only es ++ values m)
rising_bag m low last [] up within free = refl
rising_bag m low last (e ∷ es) up within free =
    let tail = tail_last e es in
    let head = head_last e es up.1 in
    let first : low ≤ e.0 = up.0 in
    let more : Rows = insert m e.0 e.1 in
    let new : get m e.0 ≡ None = free e.0 first (omega arith) in
    rising_bag more (e.0 + 1) last es up.1 (omega arith)
    (λ q p r. get_other m e.0 e.1 q (λ same. omega arith) ∙ free q (omega arith) r)
    ∙ behind (rows_only es) (values more) (e.1 ∷ values m) (insert_new m e.0 e.1 new)
    ∙ to_front (rows_only es) e.1 (values m)

-- ---- the rows of all partitions

abbrev Outside : ℕ → Partition → Type 0
Outside q p = (last_number p.rows < q) ⊎ (q < first_number p.rows)

abbrev IsFreeOf : Rows → List Partition → Type 0
IsFreeOf m before = (q : ℕ) → AllByRecursion (Outside q) before → get m q ≡ None

outside_all : (p : Partition) (before : List Partition) (q : ℕ) → AllByRecursion (AreApart p) before
    → first_number p.rows ≤ q → q ≤ last_number p.rows
    → AllByRecursion (Outside q) before
outside_all p [] q apart low high = tt
outside_all p (b ∷ bs) q (inl under, rest) low high = (inr (omega arith), outside_all p bs q rest low high)
outside_all p (b ∷ bs) q (inr over, rest) low high = (inl (omega arith), outside_all p bs q rest low high)

rises_first : (es : List (ℕ × Row)) → RisesFrom 0 es → RisesFrom (first_number es) es
rises_first [] up = tt
rises_first (e ∷ es) up = (omega arith, up.1)

pub with_more : (m : Rows) (es fs : List (ℕ × Row)) → with_entries m (es ++ fs) ≡ with_entries (with_entries m es) fs
with_more m [] fs = refl
with_more m (e ∷ es) fs = with_more (insert m e.0 e.1) es fs

pub rows_more : (es fs : List (ℕ × Row)) → rows_only (es ++ fs) ≡ rows_only es ++ rows_only fs
rows_more [] fs = refl
rows_more (e ∷ es) fs = ap (λ l. e.1 ∷ l) (rows_more es fs)

free_after : (m : Rows) (p : Partition) (before : List Partition) → RisesFrom 0 p.rows → IsFreeOf m before
    → IsFreeOf (with_entries m p.rows) (p ∷ before)
free_after m p before up free q (inl above, rest) = above_rows m 0 p.rows q up above ∙ free q rest
free_after m p before up free q (inr below, rest) =
    below_rows m (first_number p.rows) p.rows q (rises_first p.rows up) below ∙ free q rest

parts_bag : (m : Rows) (before ps : List Partition) → AllApart before ps → AllByRecursion (λ p. RisesFrom 0 p.rows) ps
    → IsFreeOf m before
    → bag_of (values (with_entries m (all_rows ps))) ≡ bag_of (rows_only (all_rows ps) ++ values m)
parts_bag m before [] apart up free = refl
parts_bag m before (p ∷ ps) apart up free =
    let more : Rows = with_entries m p.rows in
    let rest = parts_bag more (p ∷ before) ps apart.1 up.1 (free_after m p before up.0 free) in
    let here = rising_bag m (first_number p.rows) (last_number p.rows) p.rows (rises_first p.rows up.0) (omega arith)
    (λ q low high. free q (outside_all p before q apart.0 low high)) in
    ap (λ l. bag_of (values l)) (with_more m p.rows (all_rows ps))
    ∙ rest
    ∙ behind (rows_only (all_rows ps)) (values more) (rows_only p.rows ++ values m) here
    ∙ blocks (rows_only (all_rows ps)) (rows_only p.rows) (values m)
    ∙ ap (λ l. bag_of (l ++ values m)) (sym (rows_more p.rows (all_rows ps)))

pub no_entries : (es : List (ℕ × Row)) → length es ≡ 0 → es ≡ []
no_entries [] e = refl
no_entries (x ∷ es) e = absurd (omega arith)

append_none : (xs : List Row) → xs ++ [] ≡ xs
append_none [] = refl
append_none (x ∷ xs) = ap (λ l. x ∷ l) (append_none xs)

-- of partitions whose numbers are apart
pub parts_are : (ps : List Partition) → AllApart [] ps → AllByRecursion (λ p. RisesFrom 0 p.rows) ps
    → bag_of (values (rows_of ps)) ≡ bag_of (rows_only (all_rows ps))
parts_are ps apart up =
    let none : entries empty ≡ [] = no_entries (entries empty) (sym (len-entries empty) ∙ len-empty nat_cmp Row) in
    parts_bag empty [] ps apart up (λ q _. get-empty nat_cmp q)
    ∙ ap (λ es. bag_of (rows_only (all_rows ps) ++ rows_only es)) none
    ∙ ap bag_of (append_none (rows_only (all_rows ps)))
