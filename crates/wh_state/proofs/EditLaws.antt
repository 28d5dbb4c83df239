-- The partitions that stand after edits hold the rows after edits.
--     holding                        rows with those of partitions
--     EachApart, each_apart          no row number stands in two partitions
--     by_rows_same, split_same       partitions in another order hold the same rows
--     without_gone, gone_rise        the partitions that go are those that edits touch, by rising numbers
--     edits_written                  what edits write holds the rows after them
use Rattle.std.proofs.Common.{◌≡◌, ℕ, ◌+◌, ◌<◌, ◌≤◌, ◌⊎◌, inl, inr, Bool, true, false, cond, List, [], ◌∷◌, ◌++◌}
use Rattle.std.proofs.Common.{length, map, Option, Some, None, is_some, refl, sym, ap, ◌∙◌, append_assoc, arith}
use Rattle.std.specs.Prelude.{not, ◌||◌, nat_eq, nat_lt}
use Rattle.std.specs.List.{AllByRecursion, filter, flat_map, list_any}
use Rattle.std.specs.FinMap.{empty, get, entries}
use Rattle.std.proofs.lemmas.Bool.Decides.{nat_tests}
use Rattle.std.proofs.lemmas.List.Concat.{flat_map-append}
use Rattle.wh_value.specs.Value.{Row}
use Rattle.wh_frame.specs.Partition.{Partition, first_number, last_number, numbered, cut}
use Rattle.wh_frame.specs.Spelling.{RisesFrom}
use Rattle.wh_state.specs.State.{Rows, with_entries}
use Rattle.wh_state.specs.Edits.{RowEdits, Edits, row_as, edited_row, edited, rows_after, is_touched, touched}
use Rattle.wh_state.specs.Edits.{numbers_gone, before_later, by_rows, made_of, partitions_left, partitions_made}
use Rattle.wh_state.specs.Edits.{is_among, without}
use Rattle.wh_state.specs.Stored.{rows_of}
use Rattle.wh_state.specs.Commit.{AreApart, AllApart}
use Rattle.wh_state.specs.Orderly.{HasRisingRows, IsOrderly}
use Rattle.wh_state.specs.Spelling.{NumbersRiseFrom}
use Rattle.wh_state.proofs.AllLaws.{all_map, all_both, all_filter, filter_same}
use Rattle.wh_state.proofs.CutLaws.{entries_append, rows_append, cut_joined}
use Rattle.wh_state.proofs.RowLaws.{LacksNumber, entries_swapped, entries_rebuilt, edited_same}

-- ---- rows of partitions, in any order

abbrev pub all_rows : List Partition → List (ℕ × Row)
all_rows ps = flat_map (λ p. p.rows) ps

abbrev pub holding : Rows → List Partition → Rows
holding rows ps = with_entries rows (all_rows ps)

abbrev pub HoldApart : Partition → Partition → Type 0
HoldApart p q = AllByRecursion (λ e. LacksNumber e.0 q.rows) p.rows

abbrev pub EachApart : List Partition → Type 0
EachApart [] = Unit {0}
EachApart (p ∷ ps) = AllByRecursion (HoldApart p) ps × EachApart ps

-- the first of partitions may be put in last
partition_past : (rows : Rows) (p : Partition) (qs : List Partition) → AllByRecursion (HoldApart p) qs
    → holding (with_entries rows p.rows) qs ≡ with_entries (holding rows qs) p.rows
partition_past rows p [] apart = refl
partition_past rows p (q ∷ qs) apart =
    entries_append (with_entries rows p.rows) q.rows (all_rows qs)
    ∙ ap (λ (new : Rows). holding new qs) (entries_swapped rows p.rows q.rows apart.0)
    ∙ partition_past (with_entries rows q.rows) p qs apart.1
    ∙ ap (λ (new : Rows). with_entries new p.rows) (sym (entries_append rows q.rows (all_rows qs)))

second_first : (rows : Rows) (p q : Partition) (qs : List Partition) → HoldApart p q
    → holding (with_entries rows q.rows) (p ∷ qs) ≡ holding rows (p ∷ q ∷ qs)
second_first rows p q qs apart =
    entries_append (with_entries rows q.rows) p.rows (all_rows qs)
    ∙ ap (λ (new : Rows). holding new qs) (sym (entries_swapped rows p.rows q.rows apart))
    ∙ sym (entries_append (with_entries rows p.rows) q.rows (all_rows qs))
    ∙ sym (entries_append rows p.rows (q.rows ++ all_rows qs))

before_later_same : (rows : Rows) (p : Partition) (qs : List Partition) → AllByRecursion (HoldApart p) qs
    → holding rows (before_later p qs) ≡ holding rows (p ∷ qs)
before_later_same rows p [] apart = refl
before_later_same rows p (q ∷ qs) apart =
    by_test (nat_lt (first_number q.rows) (first_number p.rows))
    (before_later_same (with_entries rows q.rows) p qs apart.1)
  where
    by_test : (b : Bool)
        → holding (with_entries rows q.rows) (before_later p qs) ≡ holding (with_entries rows q.rows) (p ∷ qs)
        → holding rows (cond b (q ∷ before_later p qs) (p ∷ q ∷ qs)) ≡ holding rows (p ∷ q ∷ qs)
    by_test true rest = entries_append rows q.rows (all_rows (before_later p qs)) ∙ rest
        ∙ second_first rows p q qs apart.0
    by_test false rest = refl

pub all_before_later : (P : Partition → Type 0) (p : Partition) (qs : List Partition) → P p → AllByRecursion P qs
    → AllByRecursion P (before_later p qs)
all_before_later P p [] here h = (here, tt)
all_before_later P p (q ∷ qs) here h =
    by_test (nat_lt (first_number q.rows) (first_number p.rows)) (all_before_later P p qs here h.1)
  where
    by_test : (b : Bool) → AllByRecursion P (before_later p qs)
        → AllByRecursion P (cond b (q ∷ before_later p qs) (p ∷ q ∷ qs))
    by_test true rest = (h.0, rest)
    by_test false rest = (here, h)

pub all_by_rows : (P : Partition → Type 0) (ps : List Partition) → AllByRecursion P ps → AllByRecursion P (by_rows ps)
all_by_rows P [] h = tt
all_by_rows P (p ∷ ps) h = all_before_later P p (by_rows ps) h.0 (all_by_rows P ps h.1)

-- put in order by their rows
pub by_rows_same : (rows : Rows) (ps : List Partition) → EachApart ps → holding rows (by_rows ps) ≡ holding rows ps
by_rows_same rows [] apart = refl
by_rows_same rows (p ∷ ps) apart =
    before_later_same rows p (by_rows ps) (all_by_rows (HoldApart p) ps apart.0)
    ∙ entries_append rows p.rows (all_rows (by_rows ps))
    ∙ by_rows_same (with_entries rows p.rows) ps apart.1
    ∙ sym (entries_append rows p.rows (all_rows ps))

-- those that don't pass a test, and then those that do
pub split_same : (test : Partition → Bool) (rows : Rows) (ps : List Partition) → EachApart ps
    → holding (holding rows (filter (λ p. not (test p)) ps)) (filter test ps) ≡ holding rows ps
split_same test rows [] apart = refl
split_same test rows (p ∷ ps) apart = by_test (test p) (split_same test (with_entries rows p.rows) ps apart.1)
  where
    by_test : (b : Bool)
        → holding (holding (with_entries rows p.rows) (filter (λ p. not (test p)) ps)) (filter test ps)
        ≡ holding (with_entries rows p.rows) ps
        → holding (holding rows (cond (not b) (p ∷ filter (λ p. not (test p)) ps) (filter (λ p. not (test p)) ps)))
        (cond b (p ∷ filter test ps) (filter test ps)) ≡ holding rows (p ∷ ps)
    by_test true rest =
        let apart_others = all_filter (HoldApart p) (λ p. not (test p)) ps apart.0 in
        entries_append (holding rows (filter (λ p. not (test p)) ps)) p.rows (all_rows (filter test ps))
        ∙ ap (λ (new : Rows). holding new (filter test ps))
        (sym (partition_past rows p (filter (λ p. not (test p)) ps) apart_others))
        ∙ rest ∙ sym (entries_append rows p.rows (all_rows ps))
    by_test false rest =
        ap (λ (new : Rows). holding new (filter test ps))
        (entries_append rows p.rows (all_rows (filter (λ p. not (test p)) ps)))
        ∙ rest ∙ sym (entries_append rows p.rows (all_rows ps))

each_filter : (test : Partition → Bool) (ps : List Partition) → EachApart ps → EachApart (filter test ps)
each_filter test [] apart = tt
each_filter test (p ∷ ps) apart = by_test (test p) (each_filter test ps apart.1)
  where
    by_test : (b : Bool) → EachApart (filter test ps) → EachApart (cond b (p ∷ filter test ps) (filter test ps))
    by_test true rest = (all_filter (HoldApart p) test ps apart.0, rest)
    by_test false rest = rest

-- ---- orderly partitions are apart

rise_least : (least : ℕ) (es : List (ℕ × Row)) → RisesFrom least es → AllByRecursion (λ e. least ≤ e.0) es
rise_least least [] h = tt
rise_least least (e ∷ es) h = (
  h.0,
  all_map (λ f. e.0 + 1 ≤ f.0) (λ f. least ≤ f.0) (λ f later. omega (arith, h.0)) es
      (rise_least (e.0 + 1) es h.1),
)

from_first : (least : ℕ) (es : List (ℕ × Row)) → RisesFrom least es → AllByRecursion (λ e. first_number es ≤ e.0) es
from_first least [] h = tt
from_first least (e ∷ es) h = (
  omega arith,
  all_map (λ f. e.0 + 1 ≤ f.0) (λ f. e.0 ≤ f.0) (λ f later. omega arith) es
      (rise_least (e.0 + 1) es h.1),
)

head_to_last : (e : ℕ × Row) (es : List (ℕ × Row)) → RisesFrom (e.0 + 1) es → e.0 ≤ last_number (e ∷ es)
head_to_last e [] h = omega arith
head_to_last e (f ∷ es) h = omega (arith, h.0, head_to_last f es h.1)

to_last : (least : ℕ) (es : List (ℕ × Row)) → RisesFrom least es → AllByRecursion (λ e. e.0 ≤ last_number es) es
to_last least [] h = tt
to_last least (e ∷ []) h = (omega arith, tt)
to_last least (e ∷ f ∷ es) h = (head_to_last e (f ∷ es) h.1, to_last (e.0 + 1) (f ∷ es) h.1)

hold_apart : (p q : Partition) → HasRisingRows p → HasRisingRows q → AreApart q p → HoldApart p q
hold_apart p q rising other apart =
    all_both (λ e. first_number p.rows ≤ e.0) (λ e. e.0 ≤ last_number p.rows) (λ e. LacksNumber e.0 q.rows)
    (λ e low high.
    all_both (λ f. first_number q.rows ≤ f.0) (λ f. f.0 ≤ last_number q.rows) (λ f. e.0 ≡ f.0 → ⊥)
    (λ f least most same. differ e.0 f.0 low high least most apart same)
    q.rows (from_first 0 q.rows other) (to_last 0 q.rows other))
    p.rows (from_first 0 p.rows rising) (to_last 0 p.rows rising)
  where
    differ : (m n : ℕ) → first_number p.rows ≤ m → m ≤ last_number p.rows → first_number q.rows ≤ n
        → n ≤ last_number q.rows
        → (last_number q.rows < first_number p.rows) ⊎ (last_number p.rows < first_number q.rows) → m ≡ n
        → ⊥
    differ m n low high least most (inl before) same = absurd (omega arith)
    differ m n low high least most (inr behind) same = absurd (omega arith)

pub apart_from : (b : Partition) (before : List Partition)
    → ((q : Partition) → AllByRecursion (AreApart q) before → AreApart q b) → (ps : List Partition) → AllApart before ps
    → AllByRecursion (λ q. AreApart q b) ps
apart_from b before one [] apart = tt
apart_from b before one (p ∷ ps) apart = (one p apart.0, apart_from b (p ∷ before) (λ q h. one q h.1) ps apart.1)

pub each_apart : (before ps : List Partition) → AllByRecursion HasRisingRows ps → AllApart before ps → EachApart ps
each_apart before [] rows apart = tt
each_apart before (p ∷ ps) rows apart = (
  all_both HasRisingRows (λ q. AreApart q p) (HoldApart p)
      (λ q rising from. hold_apart p q rows.0 rising from) ps rows.1
      (apart_from p (p ∷ before) (λ q h. h.0) ps apart.1),
  each_apart (p ∷ before) ps rows.1 apart.1,
)

-- ---- the partitions that go

abbrev number_of : Partition → ℕ
number_of p = p.number

rise_from : (least most : ℕ) → least ≤ most → (ns : List ℕ) → NumbersRiseFrom most ns → NumbersRiseFrom least ns
rise_from least most h [] rise = tt
rise_from least most h (n ∷ ns) rise = (omega (arith, rise.0), rise.1, rise.2)

pub rise_filter : (test : Partition → Bool) (least : ℕ) (ps : List Partition)
    → NumbersRiseFrom least (map (λ p. p.number) ps)
    → NumbersRiseFrom least (map (λ p. p.number) (filter test ps))
rise_filter test least [] rise = tt
rise_filter test least (p ∷ ps) rise = by_test (test p) (rise_filter test (p.number + 1) ps rise.2)
  where
    by_test : (b : Bool) → NumbersRiseFrom (p.number + 1) (map (λ p. p.number) (filter test ps))
        → NumbersRiseFrom least (map (λ p. p.number) (cond b (p ∷ filter test ps) (filter test ps)))
    by_test true rest = (rise.0, rise.1, rest)
    by_test false rest = rise_from least (p.number + 1) (omega (arith, rise.0)) _ rest

-- numbers that rise still do where edits touch only some
pub gone_rise : (edits : RowEdits) (least : ℕ) (ps : List Partition) → NumbersRiseFrom least (map (λ p. p.number) ps)
    → NumbersRiseFrom least (numbers_gone edits ps)
gone_rise edits least ps rise = rise_filter (is_touched edits) least ps rise

below_none : (n least : ℕ) (ns : List ℕ) → NumbersRiseFrom least ns → n < least → is_among n ns ≡ false
below_none n least [] rise h = refl
below_none n least (m ∷ ns) rise h =
    let other : nat_eq n m ≡ false = grind (arith, nat_tests, rise.0) in
    rw other (below_none n (m + 1) ns rise.2 (omega (arith, rise.0)))

numbers_from : (least : ℕ) (ps : List Partition) → NumbersRiseFrom least (map (λ p. p.number) ps)
    → AllByRecursion (λ p. least ≤ p.number) ps
numbers_from least [] rise = tt
numbers_from least (p ∷ ps) rise = (
  rise.0,
  all_map (λ q. p.number + 1 ≤ q.number) (λ q. least ≤ q.number) (λ q later. omega (arith, rise.0)) ps
      (numbers_from (p.number + 1) ps rise.2),
)

other_number : (n m : ℕ) (ns : List ℕ) → m + 1 ≤ n → is_among n (m ∷ ns) ≡ is_among n ns
other_number n m ns later =
    let other : nat_eq n m ≡ false = grind (arith, nat_tests) in
    rw other refl

-- a number goes where its partition is touched
gone_touched : (edits : RowEdits) (least : ℕ) (ps : List Partition) → NumbersRiseFrom least (map (λ p. p.number) ps)
    → AllByRecursion (λ p. is_among p.number (numbers_gone edits ps) ≡ is_touched edits p) ps
gone_touched edits least [] rise = tt
gone_touched edits least (p ∷ ps) rise =
    by_test (is_touched edits p) refl (gone_touched edits (p.number + 1) ps rise.2)
  where
    rest_rise : NumbersRiseFrom (p.number + 1) (numbers_gone edits ps)
    rest_rise = gone_rise edits (p.number + 1) ps rise.2

    by_test : (b : Bool) → is_touched edits p ≡ b
        → AllByRecursion (λ q. is_among q.number (numbers_gone edits ps) ≡ is_touched edits q) ps
        → AllByRecursion (λ q. is_among q.number
        (map (λ p. p.number) (cond b (p ∷ touched edits ps) (touched edits ps))) ≡ is_touched edits q) (p ∷ ps)
    by_test true is rest =
        let self : nat_eq p.number p.number ≡ true = grind (arith, nat_tests) in (
          rw self (sym is),
          all_both (λ q. p.number + 1 ≤ q.number) (λ q. is_among q.number (numbers_gone edits ps) ≡ is_touched edits q)
              (λ q. is_among q.number (p.number ∷ numbers_gone edits ps) ≡ is_touched edits q)
              (λ q later same. other_number q.number p.number (numbers_gone edits ps) later ∙ same) ps
              (numbers_from (p.number + 1) ps rise.2) rest,
        )
    by_test false is rest =
        (below_none p.number (p.number + 1) (numbers_gone edits ps) rest_rise (omega arith) ∙ sym is, rest)

abbrev pub untouched : RowEdits → List Partition → List Partition
untouched edits ps = filter (λ p. not (is_touched edits p)) ps

pub without_gone : (edits : RowEdits) (ps : List Partition) → NumbersRiseFrom 0 (map (λ p. p.number) ps)
    → without (numbers_gone edits ps) ps ≡ untouched edits ps
without_gone edits ps rise =
    filter_same (λ p. not (is_among p.number (numbers_gone edits ps))) (λ p. not (is_touched edits p)) ps
    (all_map (λ p. is_among p.number (numbers_gone edits ps) ≡ is_touched edits p)
    (λ p. not (is_among p.number (numbers_gone edits ps)) ≡ not (is_touched edits p))
    (λ p same. ap not same) ps (gone_touched edits 0 ps rise))

-- ---- the rows of what edits write

-- a partition that isn't touched is as its edited rows
untouched_rows : (edits : RowEdits) (es : List (ℕ × Row)) → list_any (λ e. is_some (get edits e.0)) es ≡ false
    → edited edits es ≡ es
untouched_rows edits [] none = refl
untouched_rows edits (e ∷ es) none = by_edit (get edits e.0) none (untouched_rows edits es)
  where
    by_edit : (edit : Option (Option Row)) → (is_some edit || list_any (λ e. is_some (get edits e.0)) es) ≡ false
        → (list_any (λ e. is_some (get edits e.0)) es ≡ false → edited edits es ≡ es)
        → row_as e edit ++ edited edits es ≡ e ∷ es
    by_edit None h rest = ap (e ∷◌) (rest h)
    by_edit (Some edit) h rest = absurd cc

untouched_joined : (edits : RowEdits) (ps : List Partition)
    → edited edits (all_rows (untouched edits ps)) ≡ all_rows (untouched edits ps)
untouched_joined edits [] = refl
untouched_joined edits (p ∷ ps) = by_test (is_touched edits p) refl (untouched_joined edits ps)
  where
    by_test : (b : Bool) → is_touched edits p ≡ b
        → edited edits (all_rows (untouched edits ps)) ≡ all_rows (untouched edits ps)
        → edited edits (all_rows (cond (not b) (p ∷ untouched edits ps) (untouched edits ps)))
        ≡ all_rows (cond (not b) (p ∷ untouched edits ps) (untouched edits ps))
    by_test true is rest = rest
    by_test false is rest =
        let here = untouched_rows edits p.rows is in
        flat_map-append (edited_row edits) p.rows (all_rows (untouched edits ps))
        ∙ ap (λ (l : List (ℕ × Row)). l ++ edited edits (all_rows (untouched edits ps))) here
        ∙ ap (λ (l : List (ℕ × Row)). p.rows ++ l) rest

made_joined : (next : ℕ) (lists : List (List (ℕ × Row))) → all_rows (made_of next lists) ≡ flat_map (λ l. l) lists
made_joined next [] = refl
made_joined next ([] ∷ lists) = made_joined next lists
made_joined next ((e ∷ es) ∷ lists) = ap (λ (l : List (ℕ × Row)). (e ∷ es) ++ l) (made_joined (next + 1) lists)

edited_joined : (edits : RowEdits) (ps : List Partition)
    → flat_map (λ l. l) (map (λ p. edited edits p.rows) ps) ≡ edited edits (all_rows ps)
edited_joined edits [] = refl
edited_joined edits (p ∷ ps) =
    ap (λ (l : List (ℕ × Row)). edited edits p.rows ++ l) (edited_joined edits ps)
    ∙ sym (flat_map-append (edited_row edits) p.rows (all_rows ps))

left_joined : (next : ℕ) (edits : RowEdits) (ps : List Partition)
    → all_rows (partitions_left next edits ps) ≡ edited edits (all_rows (by_rows (touched edits ps)))
left_joined next edits ps = made_joined next (map (λ p. edited edits p.rows) (by_rows (touched edits ps)))
    ∙ edited_joined edits (by_rows (touched edits ps))

-- those that aren't touched, and those that take the places of the others
left_meant : (next : ℕ) (edits : RowEdits) (ps : List Partition) → EachApart ps
    → rows_of (untouched edits ps ++ partitions_left next edits ps) ≡ with_entries empty (edited edits (all_rows ps))
left_meant next edits ps apart =
    let same : with_entries empty (all_rows (untouched edits ps) ++ all_rows (by_rows (touched edits ps)))
    ≡ with_entries empty (all_rows ps) =
    entries_append empty (all_rows (untouched edits ps)) (all_rows (by_rows (touched edits ps)))
    ∙ by_rows_same (holding empty (untouched edits ps)) (touched edits ps) (each_filter (is_touched edits) ps apart)
    ∙ split_same (is_touched edits) empty ps apart in
    ap (with_entries empty)
    (flat_map-append (λ (p : Partition). p.rows) (untouched edits ps) (partitions_left next edits ps)
    ∙ ap (λ (l : List (ℕ × Row)). all_rows (untouched edits ps) ++ l) (left_joined next edits ps)
    ∙ ap (λ (l : List (ℕ × Row)). l ++ edited edits (all_rows (by_rows (touched edits ps))))
    (sym (untouched_joined edits ps))
    ∙ sym (flat_map-append (edited_row edits) (all_rows (untouched edits ps)) (all_rows (by_rows (touched edits ps)))))
    ∙ edited_same edits (all_rows (untouched edits ps) ++ all_rows (by_rows (touched edits ps))) (all_rows ps) same

pub edits_written : (next next_row : ℕ) (e : Edits) (ps : List Partition) → IsOrderly ps
    → rows_of (without (numbers_gone e.rows ps) ps ++ partitions_made next next_row e ps)
    ≡ rows_after next_row e (rows_of ps)
unfolding partitions_made rows_after
edits_written next next_row e ps orderly =
    let kept : List Partition = untouched e.rows ps in
    let left : List Partition = partitions_left next e.rows ps in
    let added : List Partition = cut (next + length left) (numbered next_row e.added) in
    let apart : EachApart ps = each_apart [] ps orderly.rows orderly.apart in
    ap (λ (qs : List Partition). rows_of (qs ++ (left ++ added))) (without_gone e.rows ps orderly.numbers)
    ∙ ap rows_of (sym (append_assoc kept left added))
    ∙ rows_append (kept ++ left) added
    ∙ ap (with_entries (rows_of (kept ++ left))) (cut_joined (next + length left) (numbered next_row e.added))
    ∙ ap (λ (old : Rows). with_entries old (numbered next_row e.added))
    (left_meant next e.rows ps apart
    ∙ edited_same e.rows (all_rows ps) (entries (rows_of ps)) (sym (entries_rebuilt (rows_of ps))))
