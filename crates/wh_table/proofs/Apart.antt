-- Tests of apartness, and what they say.
use Rattle.std.proofs.Common.{◌≡◌, ℕ, ◌+◌, ◌<◌, ◌≤◌, inr, cond, filter, Bool, true, false, List, [], ◌∷◌, ◌++◌, IsTrue}
use Rattle.std.proofs.Common.{refl, sym, ap, ◌∙◌, arith, map, length, take, drop, get_or, max}
use Rattle.std.proofs.lemmas.List.{take_more, drop_more, length-map, get_or-map, take-map}
use Rattle.std.proofs.lemmas.Bool.{and_from, and_parts, ltb-true}
use Rattle.std.specs.Bool.{Decides}
use Rattle.std.specs.Prelude.{◌&&◌, ◌||◌, not}
use Rattle.std.specs.List.{AllByRecursion, list_all}
use Rattle.std.proofs.lemmas.Bool.Decides.{Decides-and, Decides-or, Decides-ltb}
use Rattle.wh_frame.specs.Partition.{Partition, first_number, last_number}
use Rattle.wh_state.specs.Commit.{AreApart, AllApart}
use Rattle.wh_state.specs.Edits.{without, is_among}
use Rattle.wh_version.specs.declared.lasting.Lasting.{Lasting}
use Rattle.wh_version.specs.Lasting.{is_standing, partitions_in}
use Rattle.wh_table.specs.Apart.{are_apart, all_apart, highest_number}
use Rattle.wh_table.specs.Conditions.{rises_above}

-- a test of each element says what it says of each
pub Decides-list_all : {X : Type 0} (p : X → Bool) (P : X → Type 0) → ((x : X) → Decides (p x) (P x)) → (xs : List X)
    → Decides (list_all p xs) (AllByRecursion P xs)
Decides-list_all p P each [] = (λ _. tt, λ _. refl)
Decides-list_all p P each (x ∷ xs) = Decides-and (p x) (list_all p xs) (each x) (Decides-list_all p P each xs)

pub Decides-are_apart : (p q : Partition) → Decides (are_apart p q) (AreApart p q)
Decides-are_apart p q = Decides-or _ _ (Decides-ltb (last_number p.rows) (first_number q.rows))
    (Decides-ltb (last_number q.rows) (first_number p.rows))

pub Decides-all_apart : (before ps : List Partition) → Decides (all_apart before ps) (AllApart before ps)
Decides-all_apart before [] = (λ _. tt, λ _. refl)
Decides-all_apart before (p ∷ ps) = Decides-and _ _
    (Decides-list_all (are_apart p) (AreApart p) (Decides-are_apart p) before) (Decides-all_apart (p ∷ before) ps)

abbrev pub turned : List Partition → List Partition → List Partition
turned before [] = before
turned before (p ∷ ps) = turned (p ∷ before) ps

turned_all : (P : Partition → Type 0) (before ps : List Partition) → AllByRecursion P ps → AllByRecursion P before
    → AllByRecursion P (turned before ps)
turned_all P before [] each held = held
turned_all P before (p ∷ ps) each held = turned_all P (p ∷ before) ps each.1 (each.0, held)

-- apart from the same ones in another order
apart_like : (before other ps : List Partition)
    → ((P : Partition → Type 0) → AllByRecursion P before → AllByRecursion P other) → AllApart before ps
    → AllApart other ps
apart_like before other [] same apart = tt
apart_like before other (p ∷ ps) same apart =
    (same (AreApart p) apart.0, apart_like (p ∷ before) (p ∷ other) ps (λ P each. (each.0, same P each.1)) apart.1)

apart_append : (before ps qs : List Partition) → AllApart before ps → AllApart (turned before ps) qs
    → AllApart before (ps ++ qs)
apart_append before [] qs apart rest = rest
apart_append before (p ∷ ps) qs apart rest = (apart.0, apart_append (p ∷ before) ps qs apart.1 rest)

-- partitions that are apart, and more of them
pub still_apart : (ps added : List Partition) → IsTrue (all_apart [] ps) → AllApart ps added
    → IsTrue (all_apart [] (ps ++ added))
still_apart ps added apart more =
    (Decides-all_apart [] (ps ++ added)).1
    (apart_append [] ps added ((Decides-all_apart [] ps).0 apart)
    (apart_like ps (turned [] ps) added (λ P each. turned_all P [] ps each tt) more))

-- ---- one partition after the other

pub list_all-map : {X Y : Type 0} (test : Y → Bool) (f : X → Y) (xs : List X)
    → list_all test (map f xs) ≡ list_all (λ x. test (f x)) xs
list_all-map test f [] = refl
list_all-map test f (x ∷ xs) = ap (λ b. test (f x) && b) (list_all-map test f xs)

and_turn : (a b c : Bool) → ((a && b) && c) ≡ (b && (a && c))
and_turn true true c = refl
and_turn true false c = refl
and_turn false true c = refl
and_turn false false c = refl

and_true : (b : Bool) → b ≡ (b && true)
and_true true = refl
and_true false = refl

list_all-turned : (test : Partition → Bool) (before ps : List Partition)
    → list_all test (turned before ps) ≡ (list_all test before && list_all test ps)
list_all-turned test before [] = and_true (list_all test before)
list_all-turned test before (p ∷ ps) = list_all-turned test (p ∷ before) ps
    ∙ and_turn (test p) (list_all test before) (list_all test ps)

pub turned_push : (before ps : List Partition) (q : Partition) → turned before (ps ++ q ∷ []) ≡ q ∷ turned before ps
turned_push before [] q = refl
turned_push before (p ∷ ps) q = turned_push (p ∷ before) ps q

-- the next partition is compared with those that stand and with those before it
compared : (standing added : List Partition) (i : ℕ) (p : Partition) → i < length added → p ≡ get_or added i p
    → all_apart (turned standing (take i added)) (drop i added)
    ≡ ((list_all (are_apart p) standing && list_all (are_apart p) (take i added))
    && all_apart (turned standing (take (i + 1) added)) (drop (i + 1) added))
compared standing added i p within is =
    let rest : drop i added ≡ p ∷ drop (i + 1) added =
    drop_more added i p within ∙ ap (λ q. q ∷ drop (i + 1) added) (sym is) in
    let front : turned standing (take (i + 1) added) ≡ p ∷ turned standing (take i added) =
    ap (turned standing) (take_more added i p within ∙ ap (λ q. take i added ++ q ∷ []) (sym is))
    ∙ turned_push standing (take i added) p in
    ap (all_apart (turned standing (take i added))) rest
    ∙ (λ j. list_all-turned (are_apart p) standing (take i added) j && all_apart (sym front j) (drop (i + 1) added))

-- so it is with what tells of partitions
pub compared_by : {X : Type 0} (rows : X → Partition) (standing : List Partition) (added : List X) (i : ℕ) (x : X)
    → i < length added → x ≡ get_or added i x
    → all_apart (turned standing (take i (map rows added))) (drop i (map rows added))
    ≡ ((list_all (are_apart (rows x)) standing && list_all (λ y. are_apart (rows x) (rows y)) (take i added))
    && all_apart (turned standing (take (i + 1) (map rows added))) (drop (i + 1) (map rows added)))
compared_by rows standing added i x within is =
    let there = ap rows is ∙ sym (get_or-map rows added i x (rows x) within) in
    let before = ap (list_all (are_apart (rows x))) (take-map rows i added)
    ∙ list_all-map (are_apart (rows x)) rows (take i added) in
    compared standing (map rows added) i (rows x) (omega (arith, length-map added rows)) there
    ∙ ap (λ b. (list_all (are_apart (rows x)) standing && b)
    && all_apart (turned standing (take (i + 1) (map rows added))) (drop (i + 1) (map rows added))) before

all_below : (p : Partition) (before : List Partition) (bound : ℕ) → highest_number before ≤ bound
    → bound < first_number p.rows
    → list_all (are_apart p) before ≡ true
all_below p [] bound high above = refl
all_below p (q ∷ before) bound high above =
    and_from _ _ ((Decides-are_apart p q).1 (inr (omega arith))) (all_below p before bound (omega arith) above)

-- partitions in rising order above the highest number are apart from those that stand
pub rising_apart : (before ps : List Partition) (bound : ℕ) → highest_number before ≤ bound
    → rises_above bound ps ≡ true → all_apart before ps ≡ true
rising_apart before [] bound high rises = refl
rising_apart before (p ∷ ps) bound high rises =
    let parts = and_parts _ _ rises in
    let above : bound < first_number p.rows = ltb-true bound (first_number p.rows) parts.0 in
    and_from _ _ (all_below p before bound high above)
    (rising_apart (p ∷ before) ps (max bound (last_number p.rows)) (omega arith) parts.1)

-- ---- some of the partitions

-- those that pass a test are apart
pub apart_filter : (test : Partition → Bool) (before other ps : List Partition)
    → ((P : Partition → Type 0) → AllByRecursion P before → AllByRecursion P other) → AllApart before ps
    → AllApart other (filter test ps)
apart_filter test before other [] same apart = tt
apart_filter test before other (p ∷ ps) same apart =
    pick (test p)
    (λ _. (
      same (AreApart p) apart.0,
      apart_filter test (p ∷ before) (p ∷ other) ps (λ P each. (each.0, same P each.1)) apart.1,
    ))
    (λ _. apart_filter test (p ∷ before) other ps (λ P each. same P each.1) apart.1)
  where
    pick : (b : Bool) → (Unit {0} → AllApart other (p ∷ filter test ps)) → (Unit {0} → AllApart other (filter test ps))
        → AllApart other (cond b (p ∷ filter test ps) (filter test ps))
    pick true here rest = here tt
    pick false here rest = rest tt

pub highest_number-append : (ps qs : List Partition)
    → highest_number (ps ++ qs) ≡ max (highest_number ps) (highest_number qs)
highest_number-append [] qs = omega arith
highest_number-append (p ∷ ps) qs = let rest = highest_number-append ps qs in omega arith

pub highest_filter : (test : Partition → Bool) (ps : List Partition)
    → highest_number (filter test ps) ≤ highest_number ps
highest_filter test [] = omega arith
highest_filter test (p ∷ ps) = pick (test p) (highest_filter test ps)
  where
    pick : (b : Bool) → highest_number (filter test ps) ≤ highest_number ps
        → highest_number (cond b (p ∷ filter test ps) (filter test ps)) ≤ max (last_number p.rows) (highest_number ps)
    pick true rest = omega arith
    pick false rest = omega arith

-- some of those that are kept
pub highest_kept : (test : Lasting → Bool) (kept : List Lasting)
    → highest_number (partitions_in (filter test kept)) ≤ highest_number (partitions_in kept)
highest_kept test [] = omega arith
highest_kept test (k ∷ kept) = pick (test k) (highest_kept test kept)
  where
    pick : (b : Bool) → highest_number (partitions_in (filter test kept)) ≤ highest_number (partitions_in kept)
        → highest_number (partitions_in (cond b (k ∷ filter test kept) (filter test kept)))
        ≤ max (last_number k.filed.partition.rows) (highest_number (partitions_in kept))
    pick true rest = omega arith
    pick false rest = omega arith

-- partitions without some, and others that are apart from what is left, are apart
pub changed_apart : (removed : List ℕ) (ps added : List Partition) → IsTrue (all_apart [] ps)
    → AllApart (without removed ps) added
    → IsTrue (all_apart [] (without removed ps ++ added))
changed_apart removed ps added apart more =
    still_apart (without removed ps) added
    ((Decides-all_apart [] (without removed ps)).1 (apart_filter (λ p. not (is_among p.number removed)) [] [] ps
    (λ P each. each) ((Decides-all_apart [] ps).0 apart))) more

-- ---- those that stand and stay

-- gone, or among the removed, or it passes the test
abbrev passes : (Partition → Bool) → List ℕ → Lasting → Bool
passes test removed k =
    not (is_standing k) || (is_among k.filed.partition.number removed || test k.filed.partition)

list_all_stay : (test : Partition → Bool) (removed : List ℕ) (kept : List Lasting)
    → list_all test (without removed (partitions_in (filter is_standing kept)))
    ≡ list_all (passes test removed) kept
list_all_stay test removed [] = refl
list_all_stay test removed (k ∷ kept) = pick (is_standing k) (list_all_stay test removed kept)
  where
    inner : (g : Bool) → list_all test (without removed (partitions_in (filter is_standing kept)))
        ≡ list_all (passes test removed) kept
        → list_all test (cond (not g) (k.filed.partition ∷ without removed (partitions_in (filter is_standing kept)))
        (without removed (partitions_in (filter is_standing kept))))
        ≡ ((g || test k.filed.partition) && list_all (passes test removed) kept)
    inner true rest = rest
    inner false rest = ap (λ b. test k.filed.partition && b) rest

    pick : (s : Bool) → list_all test (without removed (partitions_in (filter is_standing kept)))
        ≡ list_all (passes test removed) kept
        → list_all test (filter (λ p. not (is_among p.number removed))
        (partitions_in (cond s (k ∷ filter is_standing kept) (filter is_standing kept))))
        ≡ ((not s || (is_among k.filed.partition.number removed || test k.filed.partition))
        && list_all (passes test removed) kept)
    pick false rest = rest
    pick true rest = inner (is_among k.filed.partition.number removed) rest

pub stay : (test : Partition → Bool) (removed : List ℕ) (kept : List Lasting)
    → list_all (passes test removed) kept ≡ list_all test (without removed (partitions_in (filter is_standing kept)))
stay test removed kept = sym (list_all_stay test removed kept)
