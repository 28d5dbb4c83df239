-- The partitions that edits make lie apart from one another and from those that stay.
--     Pairs, pairs_apart          each is apart from each later one
--     narrower                    so are those whose rows lie within
--     left_apart                  those in the places of others
--     cut_apart                   those of rows that come
--     made_apart                  all that edits make
use Rattle.std.proofs.Common.{◌≡◌, inl, inr, ℕ, ◌+◌, ◌≤◌, Bool, true, false, cond, List, []}
use Rattle.std.proofs.Common.{◌∷◌, map, refl, arith}
use Rattle.std.specs.Prelude.{not, nat_lt}
use Rattle.std.specs.List.{AllByRecursion, filter}
use Rattle.wh_value.specs.Value.{Row}
use Rattle.wh_frame.specs.Partition.{Partition, first_number, last_number}
use Rattle.wh_frame.specs.Spelling.{RisesFrom}
use Rattle.wh_state.specs.Edits.{RowEdits, edited, is_touched, touched, before_later, by_rows}
use Rattle.wh_state.specs.Edits.{made_of, partitions_left}
use Rattle.wh_state.specs.Commit.{AreApart, AllApart}
use Rattle.wh_state.specs.Orderly.{HasRisingRows, IsOrderly}
use Rattle.wh_state.proofs.AllLaws.{all_map, all_both, all_filter}
use Rattle.wh_state.proofs.EditLaws.{all_before_later, all_by_rows, apart_from, untouched}
use Rattle.wh_state.proofs.OrderlyLaws.{ApartFrom}
use Rattle.wh_state.proofs.PartLaws.{edited_all}

pub turned_about : (p q : Partition) → AreApart p q → AreApart q p
turned_about p q (inl before) = inr before
turned_about p q (inr behind) = inl behind

abbrev pub Pairs : List Partition → Type 0
Pairs [] = Unit {0}
Pairs (p ∷ ps) = AllByRecursion (λ q. AreApart q p) ps × Pairs ps

pub pairs_apart : (before ps : List Partition) → AllApart before ps → Pairs ps
pairs_apart before [] apart = tt
pairs_apart before (p ∷ ps) apart =
    (apart_from p (p ∷ before) (λ q h. h.0) ps apart.1, pairs_apart (p ∷ before) ps apart.1)

pub apart_pairs : (before ps : List Partition) → AllByRecursion (ApartFrom before) ps → Pairs ps → AllApart before ps
apart_pairs before [] from pairs = tt
apart_pairs before (p ∷ ps) from pairs = (
  from.0,
  apart_pairs (p ∷ before) ps
      (all_both (λ q. AreApart q p) (ApartFrom before) (ApartFrom (p ∷ before)) (λ q h more. (h, more)) ps
      pairs.0 from.1)
      pairs.1,
)

-- ---- by their rows

later_pairs : (p : Partition) (qs : List Partition) → AllByRecursion (λ q. AreApart q p) qs → Pairs qs
    → Pairs (before_later p qs)
later_pairs p [] apart pairs = (tt, tt)
later_pairs p (q ∷ qs) apart pairs =
    by_test (nat_lt (first_number q.rows) (first_number p.rows)) (later_pairs p qs apart.1 pairs.1)
  where
    by_test : (b : Bool) → Pairs (before_later p qs) → Pairs (cond b (q ∷ before_later p qs) (p ∷ q ∷ qs))
    by_test true rest =
        (all_before_later (λ r. AreApart r q) p qs (turned_about q p apart.0) pairs.0, rest)
    by_test false rest = (apart, pairs)

pub rows_pairs : (ps : List Partition) → Pairs ps → Pairs (by_rows ps)
rows_pairs [] pairs = tt
rows_pairs (p ∷ ps) pairs =
    later_pairs p (by_rows ps) (all_by_rows (λ q. AreApart q p) ps pairs.0) (rows_pairs ps pairs.1)

filter_pairs : (test : Partition → Bool) (ps : List Partition) → Pairs ps → Pairs (filter test ps)
filter_pairs test [] pairs = tt
filter_pairs test (p ∷ ps) pairs = by_test (test p) (filter_pairs test ps pairs.1)
  where
    by_test : (b : Bool) → Pairs (filter test ps) → Pairs (cond b (p ∷ filter test ps) (filter test ps))
    by_test true rest = (all_filter (λ q. AreApart q p) test ps pairs.0, rest)
    by_test false rest = rest

-- those that pass a test are apart from those that don't
across : (test : Partition → Bool) (ps : List Partition) → Pairs ps
    → AllByRecursion (ApartFrom (filter (λ p. not (test p)) ps)) (filter test ps)
across test [] pairs = tt
across test (p ∷ ps) pairs = by_test (test p) (across test ps pairs.1)
  where
    by_test : (b : Bool) → AllByRecursion (ApartFrom (filter (λ p. not (test p)) ps)) (filter test ps)
        → AllByRecursion (ApartFrom (cond (not b) (p ∷ filter (λ p. not (test p)) ps) (filter (λ p. not (test p)) ps)))
        (cond b (p ∷ filter test ps) (filter test ps))
    by_test true rest = (
      all_filter (AreApart p) (λ p. not (test p)) ps
          (all_map (λ q. AreApart q p) (AreApart p) (λ q h. turned_about q p h) ps pairs.0),
      rest,
    )
    by_test false rest =
        all_both (λ q. AreApart q p) (ApartFrom (filter (λ p. not (test p)) ps))
        (ApartFrom (p ∷ filter (λ p. not (test p)) ps)) (λ q h more. (h, more)) (filter test ps)
        (all_filter (λ q. AreApart q p) test ps pairs.0) rest

pub touched_apart : (edits : RowEdits) (ps : List Partition) → Pairs ps
    → AllApart (untouched edits ps) (by_rows (touched edits ps))
touched_apart edits ps pairs =
    apart_pairs (untouched edits ps) (by_rows (touched edits ps))
    (all_by_rows (ApartFrom (untouched edits ps)) (touched edits ps) (across (is_touched edits) ps pairs))
    (rows_pairs (touched edits ps) (filter_pairs (is_touched edits) ps pairs))

-- ---- those that lie within others

pub record LiesWithin (inner outer : List (ℕ × Row)) : Type 0 where
  pub first : first_number outer ≤ first_number inner
  pub last : last_number inner ≤ last_number outer

narrower : (p q b : Partition) → LiesWithin p.rows q.rows → AreApart q b → AreApart p b
narrower p q b within (inl before) = inl (omega (arith, within.last))
narrower p q b within (inr behind) = inr (omega (arith, within.first))

abbrev AreBetween : ℕ → ℕ → List (ℕ × Row) → Type 0
AreBetween least most es = AllByRecursion (λ e. (least ≤ e.0) × (e.0 ≤ most)) es

last_between : (least most : ℕ) (e : ℕ × Row) (es : List (ℕ × Row)) → AreBetween least most (e ∷ es)
    → last_number (e ∷ es) ≤ most
last_between least most e [] h = h.0.1
last_between least most e (f ∷ es) h = last_between least most f es h.1

rising_last : (e : ℕ × Row) (es : List (ℕ × Row)) → RisesFrom (e.0 + 1) es → e.0 ≤ last_number (e ∷ es)
rising_last e [] rising = omega arith
rising_last e (f ∷ es) rising = omega (arith, rising.0, rising_last f es rising.1)

spans_more : (least : ℕ) (e : ℕ × Row) (es : List (ℕ × Row)) → least ≤ e.0 → RisesFrom (e.0 + 1) es
    → AreBetween least (last_number (e ∷ es)) (e ∷ es)
spans_more least e [] h rising = ((h, omega arith), tt)
spans_more least e (f ∷ es) h rising =
    ((h, rising_last e (f ∷ es) rising), spans_more least f es (omega (arith, rising.0)) rising.1)

spans : (es : List (ℕ × Row)) → RisesFrom 0 es → AreBetween (first_number es) (last_number es) es
spans [] rising = tt
spans (e ∷ es) rising = spans_more e.0 e es (omega arith) rising.1

within_of : (least most : ℕ) (outer : List (ℕ × Row)) (e : ℕ × Row) (es : List (ℕ × Row)) → least ≡ first_number outer
    → most ≡ last_number outer → AreBetween least most (e ∷ es)
    → LiesWithin (e ∷ es) outer
within_of least most outer e es first last h = record {
  first = omega (arith, h.0.0);
  last = omega (arith, last_between least most e es h);
}

-- what is left of rows lies within them
left_within : (edits : RowEdits) (p : Partition) → HasRisingRows p
    → AreBetween (first_number p.rows) (last_number p.rows) (edited edits p.rows)
left_within edits p rising =
    edited_all (λ e. (first_number p.rows ≤ e.0) × (e.0 ≤ last_number p.rows)) edits (λ number row old is h. h) p.rows
    (spans p.rows rising)

-- in the places of some that are apart, beside others that are apart from as many
places_apart : (edits : RowEdits) (next : ℕ) (before others : List Partition)
    → ((p : Partition) → ApartFrom before p → ApartFrom others p) → (qs : List Partition)
    → AllByRecursion HasRisingRows qs → AllApart before qs
    → AllApart others (made_of next (map (λ p. edited edits p.rows) qs))
places_apart edits next before others so [] rising apart = tt
places_apart edits next before others so (q ∷ qs) rising apart =
    by_rows_left (edited edits q.rows) (left_within edits q rising.0)
    (λ next others so. places_apart edits next (q ∷ before) others so qs rising.1 apart.1)
  where
    by_rows_left : (es : List (ℕ × Row)) → AreBetween (first_number q.rows) (last_number q.rows) es
        → ((next : ℕ) (others : List Partition) → ((p : Partition) → ApartFrom (q ∷ before) p → ApartFrom others p)
        → AllApart others (made_of next (map (λ p. edited edits p.rows) qs)))
        → AllApart others (made_of next (es ∷ map (λ p. edited edits p.rows) qs))
    by_rows_left [] h rest = rest next others (λ p h. so p h.1)
    by_rows_left (e ∷ es) h rest =
        let made : Partition = record { number = next; rows = e ∷ es } in
        let within : LiesWithin (e ∷ es) q.rows =
        within_of (first_number q.rows) (last_number q.rows) q.rows e es refl refl h in (
          all_map (AreApart q) (AreApart made) (λ b h. narrower made q b within h) others (so q apart.0),
          rest (next + 1) (made ∷ others)
              (λ p h. (turned_about made p (narrower made q p within (turned_about p q h.0)), so p h.1)),
        )

pub left_apart : (next : ℕ) (edits : RowEdits) (ps : List Partition) → IsOrderly ps
    → AllApart (untouched edits ps) (partitions_left next edits ps)
left_apart next edits ps orderly =
    places_apart edits next (untouched edits ps) (untouched edits ps) (λ p h. h) (by_rows (touched edits ps))
    (all_by_rows HasRisingRows (touched edits ps) (all_filter HasRisingRows (is_touched edits) ps orderly.rows))
    (touched_apart edits ps (pairs_apart [] ps orderly.apart))
