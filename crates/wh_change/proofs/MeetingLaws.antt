-- Partitions without the numbers that are asked for.
--     none_between       of two partitions whose first and last numbers part them, one has no number of the other
--     none_above         nor where its last number lies below all of them
--     least_first, least_none, least_more    the least of the numbers
--     none_more          none of one more, or of several more
--     IsChosen           of so many partitions, those that may have a number that is asked for
--     chosen_more, chosen_past, chosen_so, chosen_all        with one more, or without it; an equal list; of all
--     alike_none         one without such a number changes nothing, and one more changes both
use Rattle.std.proofs.Common.{◌≡◌, ℕ, ◌<◌, ◌⊎◌, inl, inr, Bool, true, false, List, [], ◌∷◌, ◌++◌, nat_lt, refl, sym, ap, ◌∙◌}
use Rattle.std.proofs.Common.{arith, ◌+◌, ◌≤◌, min, length, take, get_or, subst}
use Rattle.std.specs.List.{AllByRecursion}
use Rattle.std.proofs.lemmas.List.{take_more, take_all, map-append}
use Rattle.std.proofs.lemmas.Bool.Decides.{nat_tests}
use Rattle.std.specs.Prelude.{◌||◌, is_some}
use denote.Ref.{Bor}
use Rattle.wh_frame.specs.Partition.{Partition, first_number, last_number}
use Rattle.wh_frame.specs.Spelling.{RisesFrom}
use Rattle.wh_filed.specs.Filed.{Filed, filed_at, partitions_filed, partitions_at, IsShown, AllShown, AreAmong}
use Rattle.wh_change.specs.Appended.{AreSeenAlike}
use Rattle.wh_change.specs.Seen.{has_number, is_seen, IsLeast, HasNoneOf}
use Rattle.wh_change.proofs.RisingRows.{before_none, behind_none}
use Rattle.wh_change.proofs.SeenRows.{seen_more}

abbrev HasRows : Partition → Type 0
HasRows p = RisesFrom 0 p.rows

none_before : (number : ℕ) (p : Partition) → HasRows p → number < first_number p.rows → has_number number p ≡ false
none_before number p up below = ap is_some (before_none number p.rows up below)

none_behind : (number : ℕ) (p : Partition) → HasRows p → last_number p.rows < number → has_number number p ≡ false
none_behind number p up above = ap is_some (behind_none number 0 p.rows up above)

-- neither, or in the one of the two that has it
or_none : (b : Bool) → (b || false) ≡ b
or_none true = refl
or_none false = refl

pub none_between : (p q : Partition) → HasRows p → HasRows q
    → (last_number q.rows < first_number p.rows) ⊎ (last_number p.rows < first_number q.rows)
    → HasNoneOf (q ∷ []) p
none_between p q p_up q_up apart number there =
    by_order apart (sym (or_none (has_number number q)) ∙ there)
  where
    not_both : {b c : Bool} → b ≡ false → b ≡ true → c ≡ false
    not_both is_not is = absurd cc

    by_order : (last_number q.rows < first_number p.rows) ⊎ (last_number p.rows < first_number q.rows)
        → has_number number q ≡ true → has_number number p ≡ false
    by_order (inl front) has = by_test (nat_lt number (first_number p.rows)) refl
      where
        by_test : (b : Bool) → nat_lt number (first_number p.rows) ≡ b → has_number number p ≡ false
        by_test true is = none_before number p p_up (grind (arith, nat_tests))
        by_test false is = not_both (none_behind number q q_up (grind (arith, nat_tests))) has
    by_order (inr behind) has = by_test (nat_lt (last_number p.rows) number) refl
      where
        by_test : (b : Bool) → nat_lt (last_number p.rows) number ≡ b → has_number number p ≡ false
        by_test true is = none_behind number p p_up (grind (arith, nat_tests))
        by_test false is = not_both (none_before number q q_up (grind (arith, nat_tests))) has

pub none_above : (least : ℕ) (p : Partition) (ps : List Partition) → HasRows p → IsLeast least ps
    → last_number p.rows < least
    → HasNoneOf ps p
none_above least p ps up is_least below number there =
    let low = is_least number there in
    none_behind number p up (omega (arith, low, below))

pub least_first : (p : Partition) → HasRows p → IsLeast (first_number p.rows) (p ∷ [])
least_first p up number there = by_test (nat_lt number (first_number p.rows)) refl
  where
    never : {b : Bool} → b ≡ false → b ≡ true → first_number p.rows ≤ number
    never is_not is = absurd cc

    by_test : (b : Bool) → nat_lt number (first_number p.rows) ≡ b → first_number p.rows ≤ number
    by_test true is =
        never (none_before number p up (grind (arith, nat_tests))) (sym (or_none (has_number number p)) ∙ there)
    by_test false is = grind (arith, nat_tests)

pub least_none : (least : ℕ) → IsLeast least []
least_none least number there = absurd cc

pub least_more : (a b : ℕ) (ps qs : List Partition) → IsLeast a ps → IsLeast b qs → IsLeast (min a b) (ps ++ qs)
least_more a b ps qs left right number there = by_first (is_seen number ps) refl (sym (seen_more number ps qs) ∙ there)
  where
    by_first : (t : Bool) → is_seen number ps ≡ t → (is_seen number ps || is_seen number qs) ≡ true
        → min a b ≤ number
    by_first true is either = let low = left number is in omega (arith, low)
    by_first false is either =
        let low = right number (sym (ap (λ (t : Bool). t || is_seen number qs) is) ∙ either) in
        omega (arith, low)

pub none_more : (p : Partition) (ps qs : List Partition) → HasNoneOf ps p → HasNoneOf qs p → HasNoneOf (ps ++ qs) p
none_more p ps qs none_of none_in number there =
    by_first (is_seen number ps) refl (sym (seen_more number ps qs) ∙ there)
  where
    by_first : (b : Bool) → is_seen number ps ≡ b → (is_seen number ps || is_seen number qs) ≡ true
        → has_number number p ≡ false
    by_first true is either = none_of number is
    by_first false is either =
        none_in number (sym (ap (λ (b : Bool). b || is_seen number qs) is) ∙ either)

-- ---- seen alike

pub alike_more : (asked some others : List Partition) (p : Partition) → AreSeenAlike asked some others
    → AreSeenAlike asked (some ++ p ∷ []) (others ++ p ∷ [])
alike_more asked some others p alike number there =
    seen_more number some (p ∷ []) ∙ ap (λ (b : Bool). b || is_seen number (p ∷ [])) (alike number there)
    ∙ sym (seen_more number others (p ∷ []))

pub alike_none : (asked some others : List Partition) (p : Partition) → AreSeenAlike asked some others
    → HasNoneOf asked p
    → AreSeenAlike asked some (others ++ p ∷ [])
alike_none asked some others p alike none number there =
    alike number there
    ∙ sym (seen_more number others (p ∷ [])
    ∙ ap (λ (b : Bool). is_seen number others || (b || false)) (none number there) ∙ or_none (is_seen number others))

-- ---- those that are chosen

each_split : {X : Type 0} (P : X → Type 0) (xs ys : List X) → AllByRecursion P (xs ++ ys)
    → AllByRecursion P xs × AllByRecursion P ys
each_split P [] ys each = (tt, each)
each_split P (x ∷ xs) ys each = let rest = each_split P xs ys each.1 in ((each.0, rest.0), rest.1)

each_joined : {X : Type 0} (P : X → Type 0) (xs ys : List X) → AllByRecursion P xs → AllByRecursion P ys
    → AllByRecursion P (xs ++ ys)
each_joined P [] ys front behind = behind
each_joined P (x ∷ xs) ys front behind = (front.0, each_joined P xs ys front.1 behind)

among_more : (some all : List Filed) (f : Filed) → AreAmong some all → AreAmong (some ++ f ∷ []) (all ++ f ∷ [])
among_more some all f among told shown =
    let parts = each_split (IsShown told) all (f ∷ []) shown in
    each_joined (IsShown told) some (f ∷ []) (among told parts.0) parts.1

among_past : (some all : List Filed) (f : Filed) → AreAmong some all → AreAmong some (all ++ f ∷ [])
among_past some all f among told shown = among told (each_split (IsShown told) all (f ∷ []) shown).0

pub record IsChosen (asked : List Partition) (front : List (Bor Filed)) (count : ℕ) (found : List (Bor Filed)) : Type 0
  where
    pub seen : AreSeenAlike asked (partitions_at found) (partitions_at (take count front))
    pub among : AreAmong (filed_at found) (filed_at (take count front))

module _ (asked : List Partition) (front : List (Bor Filed)) where
  filed_more : (xs : List (Bor Filed)) (one : Bor Filed) → filed_at (xs ++ one ∷ []) ≡ filed_at xs ++ one.now ∷ []
  filed_more xs one = map-append (λ (f : Bor Filed). f.now) xs (one ∷ [])

  partitions_more : (xs : List (Bor Filed)) (one : Bor Filed)
      → partitions_at (xs ++ one ∷ []) ≡ partitions_at xs ++ one.now.partition ∷ []
  partitions_more xs one =
      ap partitions_filed (filed_more xs one) ∙ map-append (λ (f : Filed). f.partition) (filed_at xs) (one.now ∷ [])

  next : (i : ℕ) (one : Bor Filed) → i < length front → one ≡ get_or front i one
      → take (i + 1) front ≡ take i front ++ one ∷ []
  next i one within at = take_more front i one within ∙ ap (λ y. take i front ++ y ∷ []) (sym at)

  pub chosen_so : (count : ℕ) (found new : List (Bor Filed)) → new ≡ found → IsChosen asked front count found
      → IsChosen asked front count new
  chosen_so count found new is chosen = subst (IsChosen asked front count) (sym is) chosen

  pub chosen_more : (i : ℕ) (one : Bor Filed) (found : List (Bor Filed)) → i < length front
      → one ≡ get_or front i one → IsChosen asked front i found → IsChosen asked front (i + 1) (found ++ one ∷ [])
  chosen_more i one found within at chosen =
      let f = one.now in
      let whole = next i one within at in
      record {
        seen = λ number there. ap (is_seen number) (partitions_more found one)
            ∙ alike_more asked (partitions_at found) (partitions_at (take i front)) f.partition chosen.seen number there
            ∙ sym (ap (λ (xs : List (Bor Filed)). is_seen number (partitions_at xs)) whole
            ∙ ap (is_seen number) (partitions_more (take i front) one));
        among = λ told shown. subst (AllShown told) (sym (filed_more found one))
            (among_more (filed_at found) (filed_at (take i front)) f chosen.among told
            (subst (AllShown told) (ap filed_at whole ∙ filed_more (take i front) one) shown));
      }

  pub chosen_past : (i : ℕ) (one : Bor Filed) (found : List (Bor Filed)) → i < length front
      → one ≡ get_or front i one → HasNoneOf asked one.now.partition → IsChosen asked front i found
      → IsChosen asked front (i + 1) found
  chosen_past i one found within at none chosen =
      let f = one.now in
      let whole = next i one within at in
      record {
        seen = λ number there.
            alike_none asked (partitions_at found) (partitions_at (take i front)) f.partition chosen.seen none
            number there
            ∙ sym (ap (λ (xs : List (Bor Filed)). is_seen number (partitions_at xs)) whole
            ∙ ap (is_seen number) (partitions_more (take i front) one));
        among = λ told shown. among_past (filed_at found) (filed_at (take i front)) f chosen.among told
            (subst (AllShown told) (ap filed_at whole ∙ filed_more (take i front) one) shown);
      }

  pub chosen_all : (count : ℕ) (found : List (Bor Filed)) → length front ≤ count → IsChosen asked front count found
      → AreSeenAlike asked (partitions_at found) (partitions_at front) × AreAmong (filed_at found) (filed_at front)
  chosen_all count found all chosen = (
    subst (λ (xs : List (Bor Filed)). AreSeenAlike asked (partitions_at found) (partitions_at xs)) whole chosen.seen,
    subst (λ (xs : List (Bor Filed)). AreAmong (filed_at found) (filed_at xs)) whole chosen.among,
  )
    where
      whole : take count front ≡ front
      whole = take_all count front all
