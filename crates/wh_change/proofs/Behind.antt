-- The versions in front of a range, passed by at once.
--     front_walked       what is known behind them
--     version_seen       whether a number stands in a version, by its partitions
use Rattle.std.proofs.Common.{◌≡◌, ℕ, zero, suc, ◌≤◌, inl, inr, Bool, true, false, List, [], ◌∷◌, ◌++◌}
use Rattle.std.proofs.Common.{cond, map, drop, take, Option, Some, None, refl, sym, ap, subst, ◌∙◌, arith}
use Rattle.std.proofs.lemmas.Bool.{leb-true}
use Rattle.std.proofs.lemmas.Bool.Decides.{nat_tests}
use Rattle.std.specs.Prelude.{◌||◌, is_some, nat_le, if◌then◌else◌}
use Rattle.std.specs.Ordering.{nat_cmp, eq_by_cmp}
use Rattle.std.specs.FinMap.{get}
use Rattle.std.specs.FinMap.Entries.{find}
use Rattle.wh_value.specs.Value.{Row}
use Rattle.wh_frame.specs.Partition.{Partition}
use Rattle.wh_state.specs.Stored.{StoredVersion, rows_of}
use Rattle.wh_net.specs.Net.{is_between, first_here, inserted}
use Rattle.wh_version.specs.Arrivals.{IsArrival, HaveArrived, count_by}
use Rattle.wh_version.specs.History.{standing_in}
use Rattle.wh_version.specs.Turnover.{IsMixed, IsTurnover}
use Rattle.wh_table.specs.Rows.{all_rows}
use Rattle.wh_table.proofs.ChangedRows.{held, get_rows}
use Rattle.wh_change.specs.Seen.{has_number, is_seen}
use Rattle.wh_change.proofs.SeenRows.{found_rows, seen_more}
use Rattle.wh_change.proofs.Walking.{Walked, HasAll, walk_begins, walked_past}

-- ---- a number that a version has

held_or : (n : ℕ) (es : List (ℕ × Row)) (found : Option Row)
    → is_some (held n es found) ≡ (is_some found || is_some (find nat_cmp n es))
held_or n [] found = either (is_some found)
  where
    either : (b : Bool) → b ≡ (b || false)
    either true = refl
    either false = refl
held_or n (e ∷ es) found =
    by_test (eq_by_cmp nat_cmp n e.0) found (held_or n es (Some e.1)) (held_or n es found)
  where
    by_test : (same : Bool) (found : Option Row)
        → is_some (held n es (Some e.1)) ≡ true
        → is_some (held n es found) ≡ (is_some found || is_some (find nat_cmp n es))
        → is_some (held n es (cond same (Some e.1) found))
        ≡ (is_some found || is_some (cond same (Some e.1) (find nat_cmp n es)))
    by_test true None here rest = here
    by_test true (Some row) here rest = here
    by_test false found here rest = rest

pub version_seen : (n : ℕ) (ps : List Partition) → is_some (get (rows_of ps) n) ≡ is_seen n ps
version_seen n ps = ap is_some (get_rows ps n) ∙ held_or n (all_rows ps) None ∙ found_rows n ps

-- what stays stood
stayed_seen : (n : ℕ) (stay went ps : List Partition) → IsMixed stay went ps → is_seen n stay ≡ true
    → is_seen n ps ≡ true
stayed_seen n stay went [] mixed there = sym (ap (is_seen n) mixed.0) ∙ there
stayed_seen n stay went (p ∷ ps) (inl mixed) there =
    by_here (has_number n p) (λ later. stayed_seen n mixed.0 went ps mixed.2 later)
    (sym (ap (is_seen n) mixed.1) ∙ there)
  where
    by_here : (here : Bool) → (is_seen n mixed.0 ≡ true → is_seen n ps ≡ true) → (here || is_seen n mixed.0) ≡ true
        → (here || is_seen n ps) ≡ true
    by_here true later there = refl
    by_here false later there = later there
stayed_seen n stay went (p ∷ ps) (inr mixed) there =
    by_here (has_number n p) (stayed_seen n stay mixed.0 ps mixed.2 there)
  where
    by_here : (here : Bool) → is_seen n ps ≡ true → (here || is_seen n ps) ≡ true
    by_here true there = refl
    by_here false there = there

-- ---- one version more in front

absorbed : (stays comes known : Bool) → (stays ≡ true → known ≡ true) → ((stays || comes) || known) ≡ (known || comes)
absorbed true comes true sure = refl
absorbed true comes false sure = let never : false ≡ true = sure refl in absurd cc
absorbed false true true sure = refl
absorbed false true false sure = refl
absorbed false false true sure = refl
absorbed false false false sure = refl

passed : (from to time n : ℕ) (vs : List StoredVersion) (asked seen next : List Partition)
    → Walked from to vs asked n [] seen
    → (arrival : IsArrival time next (take n vs) (drop n vs)) → arrival.version.stamp ≤ from
    → Walked from to vs asked (suc n) [] (seen ++ next)
passed from to time n vs asked seen next walked arrival early =
    walked_past from to vs asked n [] [] seen (seen ++ next) walked arrival.version arrival.rest arrival.first same none
  where
    old : List Partition
    old = standing_in (take n vs)

    turnover : IsTurnover arrival.went next old arrival.version.content
    turnover = arrival.turnover

    known : (q : ℕ) → is_seen q asked ≡ true → is_seen q turnover.stay ≡ true → is_seen q seen ≡ true
    known q wanted there = sym (walked.same q wanted)
        ∙ walked.last q (version_seen q old ∙ stayed_seen q turnover.stay arrival.went old turnover.before there)

    same : HasAll asked (rows_of arrival.version.content ∷ walked.earlier) (seen ++ next)
    same q wanted =
        (λ i. version_seen q arrival.version.content i || walked.same q wanted i)
        ∙ ap (λ ps. is_seen q ps || is_seen q seen) turnover.after
        ∙ ap (λ b. b || is_seen q seen) (seen_more q turnover.stay next)
        ∙ absorbed (is_seen q turnover.stay) (is_seen q next) (is_seen q seen) (known q wanted)
        ∙ sym (seen_more q seen next)

    outside : is_between from to arrival.version.stamp ≡ false
    outside = grind (arith, nat_tests)

    none : [] ≡ [] ++ (if is_between from to arrival.version.stamp
        then map (λ (e : ℕ × Row). inserted e.0 false e.1)
        (first_here walked.earlier (rows_of arrival.version.content)) else [])
    none = rw (outside) refl

-- ---- all of them

early_by : (stamp n : ℕ) (vs : List StoredVersion) (v : StoredVersion) (rest : List StoredVersion)
    → suc n ≤ count_by stamp vs → drop n vs ≡ v ∷ rest → v.stamp ≤ stamp
early_by stamp n [] v rest few is = absurd (omega (arith, few))
early_by stamp n (x ∷ vs) v rest few is =
    by_test (nat_le x.stamp stamp) refl n (λ k less next. early_by stamp k vs v rest less next) few is
  where
    by_test : (b : Bool) → nat_le x.stamp stamp ≡ b → (n : ℕ)
        → ((k : ℕ) → suc k ≤ count_by stamp vs → drop k vs ≡ v ∷ rest → v.stamp ≤ stamp)
        → suc n ≤ cond b (suc (count_by stamp vs)) 0 → drop n (x ∷ vs) ≡ v ∷ rest → v.stamp ≤ stamp
    by_test false not n later few is = absurd (omega (arith, few))
    by_test true low zero later few is =
        let same : x ≡ v = cc in
        subst (λ (w : StoredVersion). w.stamp ≤ stamp) same (leb-true x.stamp stamp low)
    by_test true low (suc n) later few is = later n (omega (arith, few)) is

pub front_walked : (from to n : ℕ) (vs : List StoredVersion) (asked came : List Partition) → HaveArrived n came vs
    → n ≤ count_by from vs → Walked from to vs asked n [] came
front_walked from to zero vs asked came none few = walk_begins from to vs asked came none
front_walked from to (suc n) vs asked came (before, next, time, is, arrived, arrival) few =
    subst (Walked from to vs asked (suc n) []) (sym is)
    (passed from to time n vs asked before next
    (front_walked from to n vs asked before arrived (omega (arith, few))) arrival
    (early_by from n vs arrival.version arrival.rest few arrival.first))
