-- Partitions without those in which a change leaves each row as it is.
--     mixed_kept, mixed_left     one more of the ones, and of the others
--     none_left_out              of none
--     kept_on, left_on           one more that is read, and one more that is left out
--     put_on                     one that is pushed
--     touched_next, among_next   one more of those that are gone through
--     touched_behind             with others behind them
--     holds_some                 they hold the rows but for those that the change leaves
use Rattle.std.proofs.Common.{◌≡◌, inl, inr, ℕ, ◌+◌, ◌<◌, List, [], ◌∷◌, ◌++◌, length, take, get_or, Option, Some, None}
use Rattle.std.proofs.Common.{refl, sym, ap, subst, ◌∙◌}
use Rattle.std.proofs.lemmas.List.{map-append, take_more}
use denote.Ref.{Bor}
use Rattle.std.specs.List.{AllByRecursion}
use Rattle.std.specs.FinMap.{get, get-empty}
use Rattle.std.specs.Ordering.{nat_cmp}
use Rattle.wh_value.specs.Value.{Row}
use Rattle.wh_naming.specs.Changes.{Modification}
use Rattle.wh_frame.specs.Partition.{Partition}
use Rattle.wh_filed.specs.Filed.{Filed, filed_at, partitions_filed, partitions_at, AllShown, AreAmong}
use Rattle.wh_filed.proofs.ShownLaws.{shown_append, shown_front, shown_behind}
use Rattle.wh_state.specs.State.{Rows}
use Rattle.wh_state.specs.Stored.{rows_of}
use Rattle.wh_state.specs.Commit.{AllApart}
use Rattle.wh_state.specs.Orderly.{HasRisingRows}
use Rattle.wh_version.specs.Turnover.{IsMixed, IsTurnover}
use Rattle.wh_dml.specs.Leaving.{Leaves, LeavesEach}
use Rattle.wh_machine.proofs.GotLaws.{rows_hold}
use Rattle.wh_table.specs.Rows.{all_rows}
use Rattle.wh_table.specs.Changes.{IsShown as IsChange}
use Rattle.wh_table.specs.Shown.{Holds, HoldsRising}
use Rattle.wh_table.proofs.ChangedRows.{mixed_each, mixed_apart, apart_by_two, apart_again, shown}
use Rattle.wh_txn.specs.Touched.{LeavesOut, IsSpared, HoldsSome}

-- ---- two lists that are mixed

pub mixed_kept : (left right all : List Partition) (p : Partition) → IsMixed left right all
    → IsMixed (left ++ p ∷ []) right (all ++ p ∷ [])
mixed_kept left right [] p mixed = inl ([], ap (λ ps. ps ++ p ∷ []) mixed.0, (refl, mixed.1))
mixed_kept left right (q ∷ qs) p (inl (rest, is, mixed)) =
    inl (rest ++ p ∷ [], ap (λ ps. ps ++ p ∷ []) is, mixed_kept rest right qs p mixed)
mixed_kept left right (q ∷ qs) p (inr (rest, is, mixed)) = inr (rest, is, mixed_kept left rest qs p mixed)

mixed_turn : (left right all : List Partition) → IsMixed left right all → IsMixed right left all
mixed_turn left right [] mixed = (mixed.1, mixed.0)
mixed_turn left right (q ∷ qs) (inl (rest, is, mixed)) = inr (rest, is, mixed_turn rest right qs mixed)
mixed_turn left right (q ∷ qs) (inr (rest, is, mixed)) = inl (rest, is, mixed_turn left rest qs mixed)

pub mixed_left : (left right all : List Partition) (p : Partition) → IsMixed left right all
    → IsMixed left (right ++ p ∷ []) (all ++ p ∷ [])
mixed_left left right all p mixed =
    mixed_turn (right ++ p ∷ []) left (all ++ p ∷ []) (mixed_kept right left all p (mixed_turn left right all mixed))

all_kept : (ps : List Partition) → IsMixed ps [] ps
all_kept [] = (refl, refl)
all_kept (p ∷ ps) = inl (ps, refl, all_kept ps)

mixed_behind : (left right all more : List Partition) → IsMixed left right all
    → IsMixed (left ++ more) right (all ++ more)
mixed_behind left right [] more mixed =
    subst (λ (rs : List Partition). IsMixed (left ++ more) rs more) (sym mixed.1)
    (subst (λ (ls : List Partition). IsMixed (ls ++ more) [] more) (sym mixed.0) (all_kept more))
mixed_behind left right (q ∷ qs) more (inl (rest, is, mixed)) =
    inl (rest ++ more, ap (λ ps. ps ++ more) is, mixed_behind rest right qs more mixed)
mixed_behind left right (q ∷ qs) more (inr (rest, is, mixed)) =
    inr (rest, is, mixed_behind left rest qs more mixed)

-- ---- one more

filed_more : (fs : List (Bor Filed)) (f : Bor Filed) → filed_at (fs ++ f ∷ []) ≡ filed_at fs ++ f.now ∷ []
filed_more fs f = map-append (λ g. g.now) fs (f ∷ [])

partitions_more : (fs : List (Bor Filed)) (f : Bor Filed)
    → partitions_at (fs ++ f ∷ []) ≡ partitions_at fs ++ f.now.partition ∷ []
partitions_more fs f =
    ap partitions_filed (filed_more fs f) ∙ map-append (λ g. g.partition) (filed_at fs) (f.now ∷ [])

front : (fs : List (Bor Filed)) (i : ℕ) (f : Bor Filed) → i < length fs → f ≡ get_or fs i f
    → take (i + 1) fs ≡ take i fs ++ f ∷ []
front fs i f within is = take_more fs i f within ∙ ap (λ g. take i fs ++ g ∷ []) (sym is)

each_more : (P : Partition → Type 0) (ps : List Partition) (p : Partition) → AllByRecursion P ps → P p
    → AllByRecursion P (ps ++ p ∷ [])
each_more P [] p each one = (one, tt)
each_more P (q ∷ qs) p each one = (each.0, each_more P qs p each.1 one)

pub none_left_out : (change : Modification) → LeavesOut change [] []
none_left_out change = record { left = []; mixed = (refl, refl); each = tt }

pub kept_on : (change : Modification) (whole rest : List Partition) (p : Partition) → LeavesOut change whole rest
    → LeavesOut change (whole ++ p ∷ []) (rest ++ p ∷ [])
kept_on change whole rest p out =
    record { left = out.left; mixed = mixed_kept rest out.left whole p out.mixed; each = out.each }

pub left_on : (change : Modification) (whole rest : List Partition) (p : Partition) → LeavesOut change whole rest
    → LeavesEach change p
    → LeavesOut change (whole ++ p ∷ []) rest
left_on change whole rest p out leaves = record {
  left = out.left ++ p ∷ [];
  mixed = mixed_left rest out.left whole p out.mixed;
  each = each_more (LeavesEach change) out.left p out.each leaves;
}

among_on : (front before after : List Filed) (f : Filed) → AreAmong before front
    → AreAmong after (before ++ f ∷ [])
    → AreAmong after (front ++ f ∷ [])
among_on front before after f so_far more told all =
    more told (shown_append told before (f ∷ []) (so_far told (shown_front told front (f ∷ []) all))
    (shown_behind told front (f ∷ []) all))

-- the partition that is pushed, and the front of a list with the item behind it
pub put_on : (change : Modification) (whole : List Partition) (found new : List (Bor Filed)) (one : Bor Filed)
    → new ≡ found ++ one ∷ [] → LeavesOut change whole (partitions_at found)
    → LeavesOut change (whole ++ one.now.partition ∷ []) (partitions_at new)
put_on change whole found new one pushed out =
    subst (λ (ps : List Partition). LeavesOut change (whole ++ one.now.partition ∷ []) ps)
    (sym (ap partitions_at pushed ∙ partitions_more found one))
    (kept_on change whole (partitions_at found) one.now.partition out)

pub touched_next : (change : Modification) (filed : List (Bor Filed)) (i : ℕ) (one : Bor Filed)
    (new : List Partition)
    → i < length filed → one ≡ get_or filed i one
    → LeavesOut change (partitions_at (take i filed) ++ one.now.partition ∷ []) new
    → LeavesOut change (partitions_at (take (i + 1) filed)) new
touched_next change filed i one new within is out =
    subst (λ (ps : List Partition). LeavesOut change ps new)
    (sym (ap partitions_at (front filed i one within is) ∙ partitions_more (take i filed) one)) out

pub among_next : (filed : List (Bor Filed)) (i : ℕ) (one : Bor Filed) (before after : List Filed)
    → i < length filed
    → one ≡ get_or filed i one → AreAmong before (filed_at (take i filed)) → AreAmong after (before ++ one.now ∷ [])
    → AreAmong after (filed_at (take (i + 1) filed))
among_next filed i one before after within is so_far more told shown =
    among_on (filed_at (take i filed)) before after one.now so_far more told
    (subst (AllShown told) (ap filed_at (front filed i one within is) ∙ filed_more (take i filed) one) shown)

-- ---- all of them

pub touched_behind : (change : Modification) (whole rest more : List Partition) → LeavesOut change whole rest
    → LeavesOut change (whole ++ more) (rest ++ more)
touched_behind change whole rest more out =
    record { left = out.left; mixed = mixed_behind rest out.left whole more out.mixed; each = out.each }

append_each : (P : ℕ × Row → Type 0) (es fs : List (ℕ × Row)) → AllByRecursion P es → AllByRecursion P fs
    → AllByRecursion P (es ++ fs)
append_each P [] fs left right = right
append_each P (e ∷ es) fs left right = (left.0, append_each P es fs left.1 right)

rows_left : (change : Modification) (ps : List Partition) → AllByRecursion (LeavesEach change) ps
    → AllByRecursion (λ e. Leaves change e.1) (all_rows ps)
rows_left change [] each = tt
rows_left change (p ∷ ps) each =
    append_each (λ e. Leaves change e.1) p.rows (all_rows ps) each.0 (rows_left change ps each.1)

pub holds_some : (change : Modification) (whole rest : List Partition) (rows : Rows) → LeavesOut change whole rest
    → HoldsRising whole rows
    → HoldsSome change rest rows
holds_some change whole rest rows out holds =
    let whole_two = apart_by_two whole holds.holds.apart in
    let two = mixed_apart out.left rest whole (mixed_turn rest out.left whole out.mixed) whole_two in
    let rising = (mixed_each HasRisingRows rest out.left whole out.mixed holds.rising).0 in
    record {
      rest = rows_of rest;
      holds = record { apart = apart_again rest two; rows = refl };
      spares = λ number. subst (λ (all : Rows). IsSpared change (get all number) (get (rows_of rest) number))
          holds.holds.rows
          (spared number (shown out.left [] whole rest turnover holds.rising whole_two rising two number));
    }
  where
    no_more : (ps : List Partition) → ps ++ [] ≡ ps
    no_more [] = refl
    no_more (p ∷ ps) = ap (λ qs. p ∷ qs) (no_more ps)

    turnover : IsTurnover out.left [] whole rest
    turnover = record { stay = rest; before = out.mixed; after = sym (no_more rest) }

    leaves : (number : ℕ) (row : Row) → get (rows_of out.left) number ≡ Some row → Leaves change row
    leaves number row is =
        rows_hold (λ q x. Leaves change x) (all_rows out.left) (rows_left change out.left out.each) number row is

    none : (number : ℕ) → get (rows_of []) number ≡ None
    none number = get-empty nat_cmp number

    spared : (number : ℕ) → IsChange (get (rows_of whole) number) (get (rows_of rest) number)
        (get (rows_of out.left) number)
        (get (rows_of []) number)
        → IsSpared change (get (rows_of whole) number) (get (rows_of rest) number)
    spared number (inl went) = inr (sym went.1 ∙ none number, λ row is. leaves number row (went.0 ∙ is))
    spared number (inr same) = inl (sym same.0)
