-- The rows of partitions that went and came are what changed between two versions' rows.
--     held, get_rows              the row that stands at a number
--     mixed_each, mixed_apart     what holds of mixed partitions holds of each of the two lists
--     found_rising, found_apart   what always holds of a table's versions holds of the one that is found
--     turns_over                  those that went and came are apart, and have what changed
use Rattle.std.proofs.Common.{◌≡◌, ℕ, ◌+◌, ◌<◌, ◌≤◌, ◌⊎◌, inl, inr, Bool, true, false, cond, List, [], ◌∷◌, ◌++◌}
use Rattle.std.proofs.Common.{Option, Some, None, IsTrue, refl, sym, ap, subst, ◌∙◌, arith, nat_le}
use Rattle.std.proofs.lemmas.Bool.Decides.{nat_tests}
use Rattle.std.specs.List.{AllByRecursion, list_all, filter}
use Rattle.std.specs.Ordering.{nat_cmp, eq_by_cmp}
use Rattle.std.specs.FinMap.{get, insert, empty, get-empty}
use Rattle.wh_value.specs.Value.{Row}
use Rattle.wh_frame.specs.Partition.{Partition, first_number, last_number}
use Rattle.wh_frame.specs.Spelling.{RisesFrom}
use Rattle.wh_state.specs.State.{Rows, with_entries, content_in}
use Rattle.wh_state.specs.Stored.{StoredVersion, rows_of}
use Rattle.wh_state.specs.Commit.{AreApart, AllApart}
use Rattle.wh_state.specs.Orderly.{HasRisingRows}
use Rattle.wh_state.proofs.AllLaws.{all_map, all_both}
use Rattle.wh_state.proofs.RowLaws.{number_tied, put_get}
use Rattle.wh_version.specs.History.{standing_in}
use Rattle.wh_version.specs.Times.{data_at}
use Rattle.wh_version.specs.Turnover.{IsMixed, IsTurnover}
use Rattle.wh_table.specs.Apart.{is_apart, is_rising}
use Rattle.wh_table.specs.Rows.{all_rows}
use Rattle.wh_table.specs.Changes.{IsShown}
use Rattle.wh_table.specs.Shown.{TurnsOver}
use Rattle.wh_table.proofs.TableBag.{head_last, tail_last}
use Rattle.wh_table.proofs.StandingLaws.{all_more}
use Rattle.wh_table.proofs.Apart.{Decides-all_apart}
use Rattle.wh_table.proofs.Pushed.{last_apart}
use Rattle.wh_table.proofs.Rising.{all_rising, last_rising, each_filter}

-- ---- the row that stands at a number

abbrev pub held : ℕ → List (ℕ × Row) → Option Row → Option Row
held n [] found = found
held n (e ∷ es) found = held n es (cond (eq_by_cmp nat_cmp n e.0) (Some e.1) found)

get_held : (m : Rows) (es : List (ℕ × Row)) (n : ℕ) → get (with_entries m es) n ≡ held n es (get m n)
get_held m [] n = refl
get_held m (e ∷ es) n = get_held (insert m e.0 e.1) es n ∙ ap (held n es) (put_get m e.0 e.1 n)

pub get_rows : (ps : List Partition) (n : ℕ) → get (rows_of ps) n ≡ held n (all_rows ps) None
get_rows ps n = get_held empty (all_rows ps) n ∙ ap (held n (all_rows ps)) (get-empty nat_cmp n)

held_append : (n : ℕ) (es fs : List (ℕ × Row)) (found : Option Row)
    → held n (es ++ fs) found ≡ held n fs (held n es found)
held_append n [] fs found = refl
held_append n (e ∷ es) fs found = held_append n es fs (cond (eq_by_cmp nat_cmp n e.0) (Some e.1) found)

held_more : (n : ℕ) (p : Partition) (ps : List Partition) (found : Option Row)
    → held n (all_rows (p ∷ ps)) found ≡ held n (all_rows ps) (held n p.rows found)
held_more n p ps found = held_append n p.rows (all_rows ps) found

-- ---- numbers within partitions, and outside

abbrev Within : ℕ → Partition → Type 0
Within n p = (first_number p.rows ≤ n) × (n ≤ last_number p.rows)

abbrev Outside : ℕ → Partition → Type 0
Outside n p = (n < first_number p.rows) ⊎ (last_number p.rows < n)

within_or : (n : ℕ) (p : Partition) → Within n p ⊎ Outside n p
within_or n p = by_tests (nat_le (first_number p.rows) n) (nat_le n (last_number p.rows)) refl refl
  where
    by_tests : (b c : Bool) → nat_le (first_number p.rows) n ≡ b → nat_le n (last_number p.rows) ≡ c
        → Within n p ⊎ Outside n p
    by_tests true true is_b is_c = inl (grind (arith, nat_tests), grind (arith, nat_tests))
    by_tests false c is_b is_c = inr (inl (grind (arith, nat_tests)))
    by_tests true false is_b is_c = inr (inr (grind (arith, nat_tests)))

untied : (n k : ℕ) → (n ≡ k → ⊥) → eq_by_cmp nat_cmp n k ≡ false
untied n k apart = by_test (eq_by_cmp nat_cmp n k) refl
  where
    by_test : (b : Bool) → eq_by_cmp nat_cmp n k ≡ b → b ≡ false
    by_test true is = absurd (apart (number_tied n k is))
    by_test false is = refl

held_on : (n : ℕ) (e : ℕ × Row) (es : List (ℕ × Row)) (found : Option Row) → (n ≡ e.0 → ⊥)
    → held n es found ≡ found
    → held n (e ∷ es) found ≡ found
held_on n e es found apart rest =
    ap (λ (b : Bool). held n es (cond b (Some e.1) found)) (untied n e.0 apart) ∙ rest

held_below : (n low : ℕ) (es : List (ℕ × Row)) (found : Option Row) → RisesFrom low es → n < low
    → held n es found ≡ found
held_below n low [] found up below = refl
held_below n low (e ∷ es) found up below =
    let first : low ≤ e.0 = up.0 in
    held_on n e es found (λ same. omega arith) (held_below n (e.0 + 1) es found up.1 (omega arith))

held_above : (n low : ℕ) (es : List (ℕ × Row)) (found : Option Row) → RisesFrom low es → last_number es < n
    → held n es found ≡ found
held_above n low [] found up above = refl
held_above n low (e ∷ es) found up above =
    let head = head_last e es up.1 in
    let tail = tail_last e es in
    held_on n e es found (λ same. omega arith) (held_above n (e.0 + 1) es found up.1 (omega arith))

held_outside : (n : ℕ) (p : Partition) (found : Option Row) → HasRisingRows p → Outside n p
    → held n p.rows found ≡ found
held_outside n p found up (inr above) = held_above n 0 p.rows found up above
held_outside n p found up (inl below) = by_rows p.rows up below
  where
    by_rows : (es : List (ℕ × Row)) → RisesFrom 0 es → n < first_number es → held n es found ≡ found
    by_rows [] up below = refl
    by_rows (e ∷ es) up below =
        held_on n e es found (λ same. omega arith) (held_below n (e.0 + 1) es found up.1 (omega arith))

abbrev IsClear : ℕ → List Partition → Type 0
IsClear n ps = AllByRecursion (Outside n) ps

held_clear : (n : ℕ) (ps : List Partition) (found : Option Row) → AllByRecursion HasRisingRows ps → IsClear n ps
    → held n (all_rows ps) found ≡ found
held_clear n [] found up clear = refl
held_clear n (p ∷ ps) found up clear =
    held_more n p ps found ∙ ap (held n (all_rows ps)) (held_outside n p found up.0 clear.0)
    ∙ held_clear n ps found up.1 clear.1

abbrev IsIn : ℕ → List Partition → Type 0
IsIn n [] = ⊥
IsIn n (p ∷ ps) = Within n p ⊎ IsIn n ps

in_or_clear : (n : ℕ) (ps : List Partition) → IsIn n ps ⊎ IsClear n ps
in_or_clear n [] = inr tt
in_or_clear n (p ∷ ps) = by_first (within_or n p) (in_or_clear n ps)
  where
    by_first : Within n p ⊎ Outside n p → IsIn n ps ⊎ IsClear n ps → IsIn n (p ∷ ps) ⊎ IsClear n (p ∷ ps)
    by_first (inl within) rest = inl (inl within)
    by_first (inr outside) (inl rest) = inl (inr rest)
    by_first (inr outside) (inr rest) = inr (outside, rest)

-- ---- partitions that are apart

other_way : (p q : Partition) → AreApart p q → AreApart q p
other_way p q (inl before) = inr before
other_way p q (inr behind) = inl behind

apart_outside : (n : ℕ) (p q : Partition) → Within n p → AreApart p q → Outside n q
apart_outside n p q within (inl before) = inl (omega (arith, within.1))
apart_outside n p q within (inr behind) = inr (omega (arith, within.0))

abbrev EachApart : List Partition → Type 0
EachApart [] = Unit {0}
EachApart (p ∷ ps) = AllByRecursion (AreApart p) ps × EachApart ps

apart_with : (p : Partition) (before ps : List Partition)
    → ((P : Partition → Type 0) → AllByRecursion P before → P p) → AllApart before ps
    → AllByRecursion (AreApart p) ps
apart_with p before [] among apart = tt
apart_with p before (q ∷ qs) among apart = (
  other_way q p (among (AreApart q) apart.0),
  apart_with p (q ∷ before) qs (λ P each. among P each.1) apart.1,
)

each_apart : (before ps : List Partition) → AllApart before ps → EachApart ps
each_apart before [] apart = tt
each_apart before (p ∷ ps) apart =
    (apart_with p (p ∷ before) ps (λ P each. each.0) apart.1, each_apart (p ∷ before) ps apart.1)

abbrev IsApartFrom : List Partition → Partition → Type 0
IsApartFrom before p = AllByRecursion (AreApart p) before

all_apart_again : (before ps : List Partition) → EachApart ps → AllByRecursion (IsApartFrom before) ps
    → AllApart before ps
all_apart_again before [] each from = tt
all_apart_again before (p ∷ ps) each from = (
  from.0,
  all_apart_again (p ∷ before) ps each.1
      (all_both (AreApart p) (IsApartFrom before) (IsApartFrom (p ∷ before)) (λ q one more. (other_way p q one, more))
      ps each.0 from.1),
)

pub apart_again : (ps : List Partition) → EachApart ps → AllApart [] ps
apart_again ps each = all_apart_again [] ps each (from_none ps)
  where
    from_none : (qs : List Partition) → AllByRecursion (IsApartFrom []) qs
    from_none [] = tt
    from_none (q ∷ qs) = (tt, from_none qs)

pub apart_by_two : (ps : List Partition) → AllApart [] ps → EachApart ps
apart_by_two ps apart = each_apart [] ps apart

outside_all : (n : ℕ) (p : Partition) (ps : List Partition) → Within n p → AllByRecursion (AreApart p) ps → IsClear n ps
outside_all n p ps within apart = all_map (AreApart p) (Outside n) (λ q one. apart_outside n p q within one) ps apart

in_outside : (n : ℕ) (p : Partition) (ps : List Partition) → AllByRecursion (AreApart p) ps → IsIn n ps → Outside n p
in_outside n p [] apart held_in = absurd held_in
in_outside n p (q ∷ qs) apart (inl within) = apart_outside n q p within (other_way p q apart.0)
in_outside n p (q ∷ qs) apart (inr rest) = in_outside n p qs apart.1 rest

-- ---- mixed partitions

pub mixed_each : (P : Partition → Type 0) (left right all : List Partition) → IsMixed left right all
    → AllByRecursion P all
    → AllByRecursion P left × AllByRecursion P right
mixed_each P left right [] mixed each = (
  subst (AllByRecursion P) (sym mixed.0) tt,
  subst (AllByRecursion P) (sym mixed.1) tt,
)
mixed_each P left right (p ∷ ps) (inl (rest, is, mixed)) each =
    let more = mixed_each P rest right ps mixed each.1 in
    (subst (AllByRecursion P) (sym is) (each.0, more.0), more.1)
mixed_each P left right (p ∷ ps) (inr (rest, is, mixed)) each =
    let more = mixed_each P left rest ps mixed each.1 in
    (more.0, subst (AllByRecursion P) (sym is) (each.0, more.1))

pub mixed_apart : (left right all : List Partition) → IsMixed left right all → EachApart all → EachApart right
mixed_apart left right [] mixed apart = subst EachApart (sym mixed.1) tt
mixed_apart left right (p ∷ ps) (inl (rest, is, mixed)) apart = mixed_apart rest right ps mixed apart.1
mixed_apart left right (p ∷ ps) (inr (rest, is, mixed)) apart =
    subst EachApart (sym is)
    ((mixed_each (AreApart p) left rest ps mixed apart.0).1, mixed_apart left rest ps mixed apart.1)

-- a number of the ones on the right alone
mixed_clear : (n : ℕ) (left right all : List Partition) (found : Option Row) → IsMixed left right all
    → AllByRecursion HasRisingRows all → IsClear n left
    → held n (all_rows all) found ≡ held n (all_rows right) found
mixed_clear n left right [] found mixed up clear =
    ap (λ (ps : List Partition). held n (all_rows ps) found) (sym mixed.1)
mixed_clear n left right (p ∷ ps) found (inl (rest, is, mixed)) up clear =
    let here : IsClear n (p ∷ rest) = subst (IsClear n) is clear in
    held_more n p ps found ∙ ap (held n (all_rows ps)) (held_outside n p found up.0 here.0)
    ∙ mixed_clear n rest right ps found mixed up.1 here.1
mixed_clear n left right (p ∷ ps) found (inr (rest, is, mixed)) up clear =
    held_more n p ps found ∙ mixed_clear n left rest ps (held n p.rows found) mixed up.1 clear
    ∙ sym (held_more n p rest found) ∙ ap (λ (qs : List Partition). held n (all_rows qs) found) (sym is)

-- a number of the ones on the left
mixed_in : (n : ℕ) (left right all : List Partition) (found : Option Row) → IsMixed left right all
    → AllByRecursion HasRisingRows all → EachApart all → IsIn n left
    → IsClear n right × (held n (all_rows all) found ≡ held n (all_rows left) found)
mixed_in n left right [] found mixed up apart within = absurd (subst (IsIn n) mixed.0 within)
mixed_in n left right (p ∷ ps) found (inl (rest, is, mixed)) up apart within =
    by_first (subst (IsIn n) is within)
    (λ behind. mixed_in n rest right ps (held n p.rows found) mixed up.1 apart.1 behind)
  where
    there : held n (all_rows (p ∷ rest)) found ≡ held n (all_rows left) found
    there = ap (λ (qs : List Partition). held n (all_rows qs) found) (sym is)

    by_first : IsIn n (p ∷ rest)
        → (IsIn n rest → IsClear n right
        × (held n (all_rows ps) (held n p.rows found) ≡ held n (all_rows rest) (held n p.rows found)))
        → IsClear n right × (held n (all_rows (p ∷ ps)) found ≡ held n (all_rows left) found)
    by_first (inl here) more =
        let clear = outside_all n p ps here apart.0 in
        let parts = mixed_each (Outside n) rest right ps mixed clear in
        let rising = mixed_each HasRisingRows rest right ps mixed up.1 in (
          parts.1,
          held_more n p ps found ∙ held_clear n ps (held n p.rows found) up.1 clear
              ∙ sym (held_more n p rest found ∙ held_clear n rest (held n p.rows found) rising.0 parts.0) ∙ there,
        )
    by_first (inr behind) more =
        let both = more behind in
        (both.0, held_more n p ps found ∙ both.1 ∙ sym (held_more n p rest found) ∙ there)
mixed_in n left right (p ∷ ps) found (inr (rest, is, mixed)) up apart within =
    let more = mixed_in n left rest ps found mixed up.1 apart.1 within in
    let outside = in_outside n p left (mixed_each (AreApart p) left rest ps mixed apart.0).0 within in (
      subst (IsClear n) (sym is) (outside, more.0),
      held_more n p ps found ∙ ap (held n (all_rows ps)) (held_outside n p found up.0 outside) ∙ more.1,
    )

-- ---- partitions one behind the other

front_in : (n : ℕ) (ps qs : List Partition) → EachApart (ps ++ qs) → IsIn n ps → IsClear n qs
front_in n [] qs apart within = absurd within
front_in n (p ∷ ps) qs apart (inl here) = behind ps (outside_all n p (ps ++ qs) here apart.0)
  where
    behind : (xs : List Partition) → IsClear n (xs ++ qs) → IsClear n qs
    behind [] clear = clear
    behind (x ∷ xs) clear = behind xs clear.1
front_in n (p ∷ ps) qs apart (inr rest) = front_in n ps qs apart.1 rest

pub behind_each : (P : Partition → Type 0) (ps qs : List Partition) → AllByRecursion P (ps ++ qs)
    → AllByRecursion P ps × AllByRecursion P qs
behind_each P [] qs each = (tt, each)
behind_each P (p ∷ ps) qs each = let rest = behind_each P ps qs each.1 in ((each.0, rest.0), rest.1)

pub behind_apart : (ps qs : List Partition) → EachApart (ps ++ qs) → EachApart qs
behind_apart [] qs apart = apart
behind_apart (p ∷ ps) qs apart = behind_apart ps qs apart.1

-- ---- versions

pub found_rising : (time : ℕ) (vs : List StoredVersion) → IsTrue (list_all is_rising vs)
    → AllByRecursion HasRisingRows (content_in [] (data_at time vs))
found_rising time vs rising =
    let early : List StoredVersion = filter (λ v. nat_le v.data_timestamp time) vs in
    all_rising (standing_in early)
    (last_rising early (each_filter is_rising (λ v. nat_le v.data_timestamp time) vs rising))

pub found_apart : (time : ℕ) (vs : List StoredVersion) → IsTrue (list_all is_apart vs)
    → AllApart [] (content_in [] (data_at time vs))
found_apart time vs apart =
    let early : List StoredVersion = filter (λ v. nat_le v.data_timestamp time) vs in
    (Decides-all_apart [] (standing_in early)).0
    (last_apart early (each_filter is_apart (λ v. nat_le v.data_timestamp time) vs apart))

-- of two versions, each with rising rows and partitions that are apart
pub shown : (went came old new : List Partition) → IsTurnover went came old new
    → AllByRecursion HasRisingRows old → EachApart old → AllByRecursion HasRisingRows new → EachApart new → (n : ℕ)
    → IsShown (get (rows_of old) n) (get (rows_of new) n) (get (rows_of went) n) (get (rows_of came) n)
shown went came old new turnover old_up old_apart new_up new_apart n = by_stay (in_or_clear n stay)
  where
    stay : List Partition
    stay = turnover.stay

    whole : (found : Option Row)
        → held n (all_rows new) found ≡ held n (all_rows came) (held n (all_rows stay) found)
    whole found = ap (λ (ps : List Partition). held n (all_rows ps) found) turnover.after
        ∙ ap (λ (es : List (ℕ × Row)). held n es found) (all_more stay came)
        ∙ held_append n (all_rows stay) (all_rows came) found

    rising : AllByRecursion HasRisingRows stay × AllByRecursion HasRisingRows came
    rising = behind_each HasRisingRows stay came (subst (AllByRecursion HasRisingRows) turnover.after new_up)

    by_stay : IsIn n stay ⊎ IsClear n stay
        → IsShown (get (rows_of old) n) (get (rows_of new) n) (get (rows_of went) n) (get (rows_of came) n)
    by_stay (inr clear) = inl (
      get_rows went n ∙ sym (get_rows old n ∙ mixed_clear n stay went old None turnover.before old_up clear),
      get_rows came n ∙ sym (get_rows new n ∙ whole None
          ∙ ap (held n (all_rows came)) (held_clear n stay None rising.0 clear)),
    )
    by_stay (inl within) =
        let before = mixed_in n stay went old None turnover.before old_up old_apart within in
        let went_up = (mixed_each HasRisingRows stay went old turnover.before old_up).1 in
        let clear = front_in n stay came (subst EachApart turnover.after new_apart) within in
        inr (
          get_rows old n ∙ before.1
              ∙ sym (get_rows new n ∙ whole None ∙ held_clear n came (held n (all_rows stay) None) rising.1 clear),
          get_rows went n ∙ held_clear n went None went_up before.0,
          get_rows came n ∙ held_clear n came None rising.1 clear,
        )

pub turns_over : (went came old new : List Partition) → IsTurnover went came old new
    → AllByRecursion HasRisingRows old → AllApart [] old → AllByRecursion HasRisingRows new → AllApart [] new
    → TurnsOver went came (rows_of old) (rows_of new)
turns_over went came old new turnover old_up old_apart new_up new_apart =
    let old_two = apart_by_two old old_apart in
    let new_two = apart_by_two new new_apart in
    record {
      went_apart = apart_again went (mixed_apart turnover.stay went old turnover.before old_two);
      came_apart = apart_again came (behind_apart turnover.stay came (subst EachApart turnover.after new_two));
      changes = record {
        gone = rows_of went;
        arrived = rows_of came;
        by_went = refl;
        by_came = refl;
        each = shown went came old new turnover old_up old_two new_up new_two;
      };
    }
