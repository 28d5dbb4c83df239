-- What went and came between two versions, by their marks.
--     content_there    what stands by a version's reach, whether the history starts empty or not
--     reach_within     its place is one of the marks'
--     reach_grows      a later version's reach is no shorter
--     standing_on      what stands by a reach of one partition more
--     turned_over      what went and came between two reaches
use Rattle.std.proofs.Common.{◌≡◌, ℕ, zero, suc, ◌+◌, ◌<◌, ◌≤◌, inl, inr, Bool, true, false, List, [], ◌∷◌}
use Rattle.std.proofs.Common.{◌++◌, length, take, get_or, option_map, Option, Some, None, IsTrue}
use Rattle.std.proofs.Common.{refl, sym, ap, subst, ◌∙◌, append_assoc, arith}
use Rattle.std.proofs.lemmas.Bool.{and_parts, leb-true, le-leb}
use Rattle.std.proofs.lemmas.Bool.Decides.{nat_tests}
use Rattle.std.proofs.lemmas.List.{take_more}
use Rattle.std.specs.Prelude.{nat_lt, nat_le}
use Rattle.wh_frame.specs.Partition.{Partition}
use Rattle.wh_state.specs.State.{content_in}
use Rattle.wh_version.specs.declared.history.History.{History}
use Rattle.wh_version.specs.declared.lasting.Lasting.{Lasting}
use Rattle.wh_version.specs.declared.mark.VersionMark.{VersionMark}
use Rattle.wh_version.specs.declared.turnover.Reach.{Reach}
use Rattle.wh_version.specs.declared.times.Time.TheVariants.{Data}
use Rattle.wh_version.specs.History.{versions_of, marks_of}
use Rattle.wh_version.specs.Lasting.{standing_at, gone_between, version_by, versions_by, count_to}
use Rattle.wh_version.specs.Times.{data_at, is_up_to, last_place, one_further}
use Rattle.wh_version.specs.Turnover.{IsMixed, IsTurnover, reach_at}
use Rattle.wh_version.proofs.Kept.{standing_append}
use Rattle.wh_version.proofs.LastUpTo.{last_by_marks, mark_within, place_within}
use Rattle.wh_version.proofs.Starts.{first_empty, found_behind}

reach_stands : (kept : List Lasting) (m : VersionMark) (marks : List VersionMark) (timestamp : ℕ) (r : Reach)
    → r ≡ reach_at (m ∷ marks) m (last_place (is_up_to Data timestamp) (m ∷ marks))
    → content_in [] (data_at timestamp (versions_by kept 0 (m ∷ marks))) ≡ standing_at r.place (take r.partitions kept)
reach_stands kept m marks timestamp r is =
    ap (content_in []) (last_by_marks (λ v. nat_le v.data_timestamp timestamp) (is_up_to Data timestamp) kept
    (m ∷ marks) m (λ place n. refl))
    ∙ by_place (last_place (is_up_to Data timestamp) (m ∷ marks))
    ∙ ap (λ (s : Reach). standing_at s.place (take s.partitions kept)) (sym is)
  where
    by_place : (found : Option ℕ)
        → content_in [] (option_map (λ place. record {
          stamp = (get_or (m ∷ marks) place m).stamp;
          data_timestamp = (get_or (m ∷ marks) place m).data_timestamp;
          content = standing_at place (take (get_or (m ∷ marks) place m).partitions kept);
        }) found)
        ≡ standing_at (reach_at (m ∷ marks) m found).place (take (reach_at (m ∷ marks) m found).partitions kept)
    by_place None = refl
    by_place (Some place) = refl

pub content_there : (h : History) (timestamp : ℕ) (r : Reach)
    → r ≡ reach_at (marks_of h) h.first (last_place (is_up_to Data timestamp) (marks_of h))
    → content_in [] (data_at timestamp (versions_of h)) ≡ standing_at r.place (take r.partitions h.kept.items)
unfolding versions_of
content_there h timestamp r is =
    found_behind (version_by h.kept.items 0 h.first) (first_empty h) h.starts_empty
    (λ v. nat_le v.data_timestamp timestamp) (versions_by h.kept.items 1 h.later.items)
    ∙ reach_stands h.kept.items h.first h.later.items timestamp r is

pub reach_within : (m : VersionMark) (marks : List VersionMark) (timestamp : ℕ) (r : Reach)
    → r ≡ reach_at (m ∷ marks) m (last_place (is_up_to Data timestamp) (m ∷ marks))
    → r.place ≤ length marks
reach_within m marks timestamp r is =
    subst (λ (s : Reach). s.place ≤ length marks) (sym is)
    (by_place (last_place (is_up_to Data timestamp) (m ∷ marks)) refl)
  where
    by_place : (found : Option ℕ) → last_place (is_up_to Data timestamp) (m ∷ marks) ≡ found
        → (reach_at (m ∷ marks) m found).place ≤ length marks
    by_place None found = omega arith
    by_place (Some place) found =
        let within = place_within (is_up_to Data timestamp) (m ∷ marks) place found in
        omega arith

-- ---- later places

abbrev IsNoLater : Option ℕ → Option ℕ → Type 0
IsNoLater None found = Unit {0}
IsNoLater (Some place) None = ⊥
IsNoLater (Some place) (Some other) = place ≤ other

no_later : {X : Type 0} (test other : X → Bool) (xs : List X) → ((x : X) → test x ≡ true → other x ≡ true)
    → IsNoLater (last_place test xs) (last_place other xs)
no_later test other [] so = tt
no_later test other (x ∷ xs) so =
    one_on (test x) (other x) (so x) (last_place test xs) (last_place other xs) (no_later test other xs so)
  where
    one_on : (b c : Bool) → (b ≡ true → c ≡ true) → (p q : Option ℕ) → IsNoLater p q
        → IsNoLater (one_further b p) (one_further c q)
    one_on b c so (Some p) None rest = absurd rest
    one_on b c so (Some p) (Some q) rest = omega (arith, rest)
    one_on true c so None (Some q) rest = omega arith
    one_on true true so None None rest = omega arith
    one_on true false so None None rest = let never : false ≡ true = so refl in absurd cc
    one_on false c so None q rest = tt

-- ---- reaches

pub counts_rise : (least : ℕ) (marks : List VersionMark) (total place other : ℕ) (d : VersionMark)
    → IsTrue (count_to least marks total) → place ≤ other → other < length marks
    → (get_or marks place d).partitions ≤ (get_or marks other d).partitions
counts_rise least [] total place other d counts order within = absurd (omega arith)
counts_rise least (m ∷ marks) total zero zero d counts order within = omega arith
counts_rise least (m ∷ marks) total zero (suc other) d counts order within =
    from_least m.partitions marks total other d (and_parts _ _ counts).1 (omega arith)
  where
    from_least : (least : ℕ) (marks : List VersionMark) (total place : ℕ) (d : VersionMark)
        → IsTrue (count_to least marks total) → place < length marks → least ≤ (get_or marks place d).partitions
    from_least least [] total place d counts within = absurd (omega arith)
    from_least least (n ∷ marks) total zero d counts within = leb-true least n.partitions (and_parts _ _ counts).0
    from_least least (n ∷ marks) total (suc place) d counts within =
        let here : least ≤ n.partitions = leb-true least n.partitions (and_parts _ _ counts).0 in
        let rest = from_least n.partitions marks total place d (and_parts _ _ counts).1 (omega arith) in
        omega arith
counts_rise least (m ∷ marks) total (suc place) zero d counts order within = absurd (omega arith)
counts_rise least (m ∷ marks) total (suc place) (suc other) d counts order within =
    counts_rise m.partitions marks total place other d (and_parts _ _ counts).1 (omega arith) (omega arith)

pub record Grows (old new : Reach) (total : ℕ) : Type 0 where
  pub place : old.place ≤ new.place
  pub count : old.partitions ≤ new.partitions
  pub within : new.partitions ≤ total

pub reach_grows : (m : VersionMark) (marks : List VersionMark) (total from to : ℕ) (old new : Reach) → from ≤ to
    → IsTrue (count_to 0 (m ∷ marks) total)
    → old ≡ reach_at (m ∷ marks) m (last_place (is_up_to Data from) (m ∷ marks))
    → new ≡ reach_at (m ∷ marks) m (last_place (is_up_to Data to) (m ∷ marks))
    → Grows old new total
reach_grows m marks total from to old new order counts is_old is_new =
    subst (λ r. Grows r new total) (sym is_old) (subst (λ r. Grows (reach_at all m first) r total) (sym is_new)
    (by_place first second refl refl (no_later (is_up_to Data from) (is_up_to Data to) all follows)))
  where
    all : List VersionMark
    all = m ∷ marks

    first : Option ℕ
    first = last_place (is_up_to Data from) all

    second : Option ℕ
    second = last_place (is_up_to Data to) all

    follows : (n : VersionMark) → is_up_to Data from n ≡ true → is_up_to Data to n ≡ true
    follows n is = let low : n.data_timestamp ≤ from = leb-true n.data_timestamp from is in
        le-leb n.data_timestamp to (omega arith)

    by_place : (p q : Option ℕ) → first ≡ p → second ≡ q → IsNoLater p q
        → Grows (reach_at all m p) (reach_at all m q) total
    by_place None None is_p is_q later = record { place = omega arith; count = omega arith; within = omega arith }
    by_place None (Some q) is_p is_q later = record {
      place = omega arith;
      count = omega arith;
      within = mark_within 0 all total q m counts (place_within (is_up_to Data to) all q is_q);
    }
    by_place (Some p) None is_p is_q later = absurd later
    by_place (Some p) (Some q) is_p is_q later =
        let within = place_within (is_up_to Data to) all q is_q in
        record {
          place = later;
          count = counts_rise 0 all total p q m counts later within;
          within = mark_within 0 all total q m counts within;
        }

-- ---- what went and came

mixed : (old new : ℕ) (kept : List Lasting) → old ≤ new
    → IsMixed (standing_at new kept) (gone_between old new kept) (standing_at old kept)
mixed old new [] order = (refl, refl)
mixed old new (k ∷ kept) order = by_test (nat_lt old k.until) (nat_lt new k.until) refl refl (mixed old new kept order)
  where
    by_test : (b c : Bool) → nat_lt old k.until ≡ b → nat_lt new k.until ≡ c
        → IsMixed (standing_at new kept) (gone_between old new kept) (standing_at old kept)
        → IsMixed (standing_at new (k ∷ kept)) (gone_between old new (k ∷ kept)) (standing_at old (k ∷ kept))
    by_test true true is_b is_c rest =
        let stays : nat_le k.until new ≡ false = grind (arith, nat_tests) in
        rw (is_b, is_c, stays) (inl (standing_at new kept, refl, rest))
    by_test true false is_b is_c rest =
        let goes : nat_le k.until new ≡ true = grind (arith, nat_tests) in
        rw (is_b, is_c, goes) (inr (gone_between old new kept, refl, rest))
    by_test false true is_b is_c rest = absurd (grind (arith, nat_tests))
    by_test false false is_b is_c rest = rw (is_b, is_c) rest

-- one partition more
pub standing_on : (kept : List Lasting) (place i : ℕ) (k : Lasting) (before after : List Partition)
    (front : List Partition)
    → i < length kept → k ≡ get_or kept i k → after ≡ before ++ standing_at place (k ∷ [])
    → front ++ before ≡ standing_at place (take i kept)
    → front ++ after ≡ standing_at place (take (i + 1) kept)
standing_on kept place i k before after front within is more so_far =
    let rest : List Partition = standing_at place (k ∷ []) in
    ap (λ l. front ++ l) more ∙ sym (append_assoc front before rest) ∙ ap (λ l. l ++ rest) so_far
    ∙ sym (ap (standing_at place) (take_more kept i k within ∙ ap (λ x. take i kept ++ x ∷ []) (sym is))
    ∙ standing_append place (take i kept) (k ∷ []))

pub turned_over : (kept : List Lasting) (old new : Reach) (went came before behind : List Partition)
    → old.place ≤ new.place
    → went ≡ gone_between old.place new.place (take old.partitions kept)
    → standing_at new.place (take old.partitions kept) ++ came ≡ standing_at new.place (take new.partitions kept)
    → before ≡ standing_at old.place (take old.partitions kept)
    → behind ≡ standing_at new.place (take new.partitions kept)
    → IsTurnover went came before behind
turned_over kept old new went came before behind order is_went is_came is_before is_behind =
    let stay : List Partition = standing_at new.place (take old.partitions kept) in
    let first = mixed old.place new.place (take old.partitions kept) order in
    let second = subst (λ l. IsMixed stay l (standing_at old.place (take old.partitions kept))) (sym is_went) first in
    record {
      stay = stay;
      before = subst (IsMixed stay went) (sym is_before) second;
      after = is_behind ∙ sym is_came;
    }
