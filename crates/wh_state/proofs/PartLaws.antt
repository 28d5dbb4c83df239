-- The partitions that edits make.
--     few_parts, made_have     what holds of those that are left and of those that come
--     made_numbered      their numbers rise by one from the next on
--     gone_stand         the numbers that go are those of partitions that stand
--     left_rise, edited_from     edited rows rise as those before, and lie where these do
--     made_rise          the rows of each rise
--     made_all           what holds of edited rows and of added ones holds of each row of theirs
use Rattle.std.proofs.Common.{◌≡◌, ℕ, zero, suc, ◌+◌, ◌*◌, ◌<◌, ◌≤◌, Bool, true, false, cond, List, [], ◌∷◌, ◌++◌}
use Rattle.std.proofs.Common.{length, map, drop, take, Option, Some, None, refl, subst, arith, IsTrue}
use Rattle.std.specs.Prelude.{nat_eq, ◌||◌}
use Rattle.std.specs.List.{AllByRecursion, list_any}
use Rattle.std.specs.FinMap.{get}
use Rattle.std.proofs.lemmas.Bool.Decides.{nat_tests}
use Rattle.wh_value.specs.Value.{Row}
use Rattle.wh_frame.specs.Partition.{Partition, numbered, partitions_of, cut, cut_into}
use Rattle.wh_frame.specs.Spelling.{RisesFrom}
use Rattle.wh_state.specs.Edits.{RowEdits, Edits, row_as, edited, is_touched, touched, numbers_gone, by_rows}
use Rattle.wh_state.specs.Edits.{made_of, partitions_left, partitions_made}
use Rattle.wh_state.specs.Commit.{NumberedFrom, Stands}
use Rattle.wh_state.specs.Orderly.{HasRisingRows}
use Rattle.wh_state.proofs.AllLaws.{all_map, all_append, all_filter}
use Rattle.wh_state.proofs.EditLaws.{all_by_rows}

-- ---- those that are left, and behind them those of the rows that come

pub few_parts : (count : ℕ) → partitions_of count * 1000 < count + 1000
few_parts count = omega arith

pub made_have : (P : ℕ → List Partition → Type 0)
    → ((next : ℕ) (ps qs : List Partition) → P next ps → P (next + length ps) qs → P next (ps ++ qs))
    → ((next : ℕ) (lists : List (List (ℕ × Row))) → P next (made_of next lists))
    → ((next count : ℕ) (rows : List (ℕ × Row)) → count * 1000 < length rows + 1000 → P next (cut_into next count rows))
    → (next next_row : ℕ) (e : Edits) (standing : List Partition) → P next (partitions_made next next_row e standing)
unfolding partitions_made
made_have P both lefts pieces next next_row e standing =
    let left : List Partition = partitions_left next e.rows standing in
    let added : List (ℕ × Row) = numbered next_row e.added in
    both next left (cut (next + length left) added)
    (lefts next (map (λ p. edited e.rows p.rows) (by_rows (touched e.rows standing))))
    (pieces (next + length left) (partitions_of (length added)) added (few_parts (length added)))

-- ---- their numbers

numbered_left : (next : ℕ) (lists : List (List (ℕ × Row))) → NumberedFrom next (made_of next lists)
numbered_left next [] = tt
numbered_left next ([] ∷ lists) = numbered_left next lists
numbered_left next ((e ∷ es) ∷ lists) = (refl, numbered_left (next + 1) lists)

numbered_cut : (next count : ℕ) (rows : List (ℕ × Row)) → NumberedFrom next (cut_into next count rows)
numbered_cut next zero rows = tt
numbered_cut next (suc count) rows = (refl, numbered_cut (next + 1) count (drop 1000 rows))

numbered_both : (next : ℕ) (ps qs : List Partition) → NumberedFrom next ps → NumberedFrom (next + length ps) qs
    → NumberedFrom next (ps ++ qs)
numbered_both next [] qs left right = let P : ℕ → Type 0 = λ n. NumberedFrom n qs in subst P (omega arith) right
numbered_both next (p ∷ ps) qs left right =
    let P : ℕ → Type 0 = λ n. NumberedFrom n qs in
    (left.0, numbered_both (next + 1) ps qs left.1 (subst P (omega arith) right))

pub made_numbered : (next next_row : ℕ) (e : Edits) (standing : List Partition)
    → NumberedFrom next (partitions_made next next_row e standing)
made_numbered next next_row e standing =
    made_have NumberedFrom numbered_both numbered_left (λ first count rows few. numbered_cut first count rows)
    next next_row e standing

-- ---- the numbers that go

stands_more : (p : Partition) (ps : List Partition) (number : ℕ) → Stands ps number → Stands (p ∷ ps) number
stands_more p ps number h = by_test (nat_eq number p.number)
  where
    by_test : (b : Bool) → IsTrue (b || list_any (λ p. nat_eq number p.number) ps)
    by_test true = refl
    by_test false = h

self_stands : (p : Partition) (ps : List Partition) → Stands (p ∷ ps) p.number
self_stands p ps =
    let self : nat_eq p.number p.number ≡ true = grind (arith, nat_tests) in
    rw self refl

pub gone_stand : (edits : RowEdits) (ps : List Partition) → AllByRecursion (Stands ps) (numbers_gone edits ps)
gone_stand edits [] = tt
gone_stand edits (p ∷ ps) = by_test (is_touched edits p)
    (all_map (Stands ps) (Stands (p ∷ ps)) (stands_more p ps) (numbers_gone edits ps) (gone_stand edits ps))
  where
    by_test : (b : Bool) → AllByRecursion (Stands (p ∷ ps)) (numbers_gone edits ps)
        → AllByRecursion (Stands (p ∷ ps)) (map (λ p. p.number) (cond b (p ∷ touched edits ps) (touched edits ps)))
    by_test true rest = (self_stands p ps, rest)
    by_test false rest = rest

-- ---- edited rows

rises_weaker : (least most : ℕ) (es : List (ℕ × Row)) → least ≤ most → RisesFrom most es → RisesFrom least es
rises_weaker least most [] h rising = tt
rises_weaker least most (e ∷ es) h rising = (omega (arith, rising.0), rising.1)

pub left_rise : (edits : RowEdits) (least : ℕ) (es : List (ℕ × Row)) → RisesFrom least es →
    RisesFrom least (edited edits es)
left_rise edits least [] rising = tt
left_rise edits least (e ∷ es) rising = by_edit (get edits e.0) (left_rise edits (e.0 + 1) es rising.1)
  where
    by_edit : (edit : Option (Option Row)) → RisesFrom (e.0 + 1) (edited edits es)
        → RisesFrom least (row_as e edit ++ edited edits es)
    by_edit None rest = (rising.0, rest)
    by_edit (Some None) rest = rises_weaker least (e.0 + 1) (edited edits es) (omega (arith, rising.0)) rest
    by_edit (Some (Some row)) rest = (rising.0, rest)

-- what holds of each row that stays and of each new one
pub edited_all : (P : ℕ × Row → Type 0) (edits : RowEdits)
    → ((number : ℕ) (row old : Row) → get edits number ≡ Some (Some row) → P (number, old) → P (number, row))
    → (es : List (ℕ × Row)) → AllByRecursion P es → AllByRecursion P (edited edits es)
edited_all P edits new [] h = tt
edited_all P edits new (e ∷ es) h = by_edit (get edits e.0) refl (edited_all P edits new es h.1)
  where
    by_edit : (edit : Option (Option Row)) → get edits e.0 ≡ edit → AllByRecursion P (edited edits es)
        → AllByRecursion P (row_as e edit ++ edited edits es)
    by_edit None is rest = (h.0, rest)
    by_edit (Some None) is rest = rest
    by_edit (Some (Some row)) is rest = (new e.0 row e.1 is h.0, rest)

-- ---- the rows of partitions

made_each : (P : List (ℕ × Row) → Type 0) (next : ℕ) (lists : List (List (ℕ × Row))) → AllByRecursion P lists
    → AllByRecursion (λ p. P p.rows) (made_of next lists)
made_each P next [] h = tt
made_each P next ([] ∷ lists) h = made_each P next lists h.1
made_each P next ((e ∷ es) ∷ lists) h = (h.0, made_each P (next + 1) lists h.1)

map_each : (P : List (ℕ × Row) → Type 0) (f : List (ℕ × Row) → List (ℕ × Row)) (ps : List Partition)
    → AllByRecursion (λ p. P (f p.rows)) ps → AllByRecursion P (map (λ p. f p.rows) ps)
map_each P f [] h = tt
map_each P f (p ∷ ps) h = (h.0, map_each P f ps h.1)

-- what holds of the edited rows of each partition
pub left_each : (P : List (ℕ × Row) → Type 0) (next : ℕ) (edits : RowEdits) (ps : List Partition)
    → AllByRecursion (λ p. P (edited edits p.rows)) ps → AllByRecursion (λ p. P p.rows) (partitions_left next edits ps)
left_each P next edits ps h =
    made_each P next (map (λ p. edited edits p.rows) (by_rows (touched edits ps)))
    (map_each P (edited edits) (by_rows (touched edits ps))
    (all_by_rows (λ p. P (edited edits p.rows)) (touched edits ps)
    (all_filter (λ p. P (edited edits p.rows)) (is_touched edits) ps h)))

-- and of each front and rest of rows
pub cut_each : (P : List (ℕ × Row) → Type 0)
    → ((es : List (ℕ × Row)) → P es → P (take 1000 es) × P (drop 1000 es)) → (next count : ℕ) (es : List (ℕ × Row))
    → P es → AllByRecursion (λ p. P p.rows) (cut_into next count es)
cut_each P parts next zero es h = tt
cut_each P parts next (suc count) es h =
    ((parts es h).0, cut_each P parts (next + 1) count (drop 1000 es) (parts es h).1)

pub made_both : (P : List (ℕ × Row) → Type 0)
    → ((es : List (ℕ × Row)) → P es → P (take 1000 es) × P (drop 1000 es)) → (next next_row : ℕ) (e : Edits)
    → (ps : List Partition) → AllByRecursion (λ p. P (edited e.rows p.rows)) ps → P (numbered next_row e.added)
    → AllByRecursion (λ p. P p.rows) (partitions_made next next_row e ps)
unfolding partitions_made
made_both P parts next next_row e ps left added =
    all_append (λ p. P p.rows) (partitions_left next e.rows ps)
    (cut (next + length (partitions_left next e.rows ps)) (numbered next_row e.added))
    (left_each P next e.rows ps left)
    (cut_each P parts (next + length (partitions_left next e.rows ps))
    (partitions_of (length (numbered next_row e.added)))
    (numbered next_row e.added) added)

-- ---- they rise

take_rise : (n least : ℕ) (es : List (ℕ × Row)) → RisesFrom least es → RisesFrom least (take n es)
take_rise zero least es rising = tt
take_rise (suc n) least [] rising = tt
take_rise (suc n) least (e ∷ es) rising = (rising.0, take_rise n (e.0 + 1) es rising.1)

drop_rise : (n least : ℕ) (es : List (ℕ × Row)) → RisesFrom least es → RisesFrom least (drop n es)
drop_rise zero least es rising = rising
drop_rise (suc n) least [] rising = tt
drop_rise (suc n) least (e ∷ es) rising =
    rises_weaker least (e.0 + 1) (drop n es) (omega (arith, rising.0)) (drop_rise n (e.0 + 1) es rising.1)

pub numbered_rise_from : (next : ℕ) (rows : List Row) → RisesFrom next (numbered next rows)
numbered_rise_from next [] = tt
numbered_rise_from next (row ∷ rows) = (omega arith, numbered_rise_from (next + 1) rows)

pub made_rise : (next next_row : ℕ) (e : Edits) (ps : List Partition) → AllByRecursion HasRisingRows ps
    → AllByRecursion HasRisingRows (partitions_made next next_row e ps)
made_rise next next_row e ps rising =
    made_both (RisesFrom 0) (λ es h. (take_rise 1000 0 es h, drop_rise 1000 0 es h)) next next_row e ps
    (all_map HasRisingRows (λ p. RisesFrom 0 (edited e.rows p.rows)) (λ p h. left_rise e.rows 0 p.rows h) ps rising)
    (rises_weaker 0 next_row (numbered next_row e.added) (omega arith) (numbered_rise_from next_row e.added))

-- ---- what holds of each row

take_all : (P : ℕ × Row → Type 0) (n : ℕ) (es : List (ℕ × Row)) → AllByRecursion P es → AllByRecursion P (take n es)
take_all P zero es h = tt
take_all P (suc n) [] h = tt
take_all P (suc n) (e ∷ es) h = (h.0, take_all P n es h.1)

drop_all : (P : ℕ × Row → Type 0) (n : ℕ) (es : List (ℕ × Row)) → AllByRecursion P es → AllByRecursion P (drop n es)
drop_all P zero es h = h
drop_all P (suc n) [] h = tt
drop_all P (suc n) (e ∷ es) h = drop_all P n es h.1

pub made_all : (P : ℕ × Row → Type 0) (next next_row : ℕ) (e : Edits) (ps : List Partition)
    → AllByRecursion (λ p. AllByRecursion P (edited e.rows p.rows)) ps → AllByRecursion P (numbered next_row e.added)
    → AllByRecursion (λ p. AllByRecursion P p.rows) (partitions_made next next_row e ps)
made_all P next next_row e ps left added =
    made_both (AllByRecursion P) (λ es h. (take_all P 1000 es h, drop_all P 1000 es h)) next next_row e ps left added
