-- Partitions that edits touch.
--     any-map            a test of what elements stand for
--     each_touched       one that is kept, and those behind it
--     apart_untouched    edits that lie apart from them touch none
--     untouched_unless   so it is where a test says so
use Rattle.std.proofs.Common.{◌≡◌, ℕ, ◌+◌, ◌≤◌, cond, Bool, true, false, List, [], ◌∷◌, ◌++◌, map, filter, None}
use Rattle.std.proofs.Common.{is_some, refl, ap, subst, ◌∙◌, arith}
use Rattle.std.specs.Prelude.{◌||◌}
use Rattle.std.specs.Bool.{OnFalse}
use Rattle.std.specs.List.{list_any}
use Rattle.std.specs.FinMap.{get}
use Rattle.wh_value.specs.Value.{Row}
use Rattle.wh_frame.specs.Partition.{Partition, first_number, last_number}
use Rattle.wh_frame.specs.Spelling.{RisesFrom}
use Rattle.wh_state.specs.Edits.{RowEdits, is_touched, touched}
use Rattle.wh_version.specs.declared.lasting.Lasting.{Lasting}
use Rattle.wh_version.specs.Lasting.{is_standing, partitions_in}

pub any-map : {X Y : Type 0} (f : X → Y) (test : Y → Bool) (xs : List X)
    → list_any (λ x. test (f x)) xs ≡ list_any test (map f xs)
any-map f test [] = refl
any-map f test (x ∷ xs) = ap (λ b. test (f x) || b) (any-map f test xs)

-- of those that are kept, the ones that stand and are touched
abbrev pub touched_of : RowEdits → List Lasting → List Partition
touched_of edits kept = touched edits (partitions_in (filter is_standing kept))

pub each_touched : (edits : RowEdits) (k : Lasting) (ks : List Lasting)
    → touched_of edits (k ∷ ks) ≡ touched_of edits (k ∷ []) ++ touched_of edits ks
each_touched edits k ks = pick (is_standing k)
  where
    by_touch : (t : Bool)
        → cond t (k.filed.partition ∷ touched_of edits ks) (touched_of edits ks)
        ≡ cond t (k.filed.partition ∷ []) [] ++ touched_of edits ks
    by_touch true = refl
    by_touch false = refl

    pick : (s : Bool) → touched edits (partitions_in (cond s (k ∷ filter is_standing ks) (filter is_standing ks)))
        ≡ touched edits (partitions_in (cond s (k ∷ []) [])) ++ touched_of edits ks
    pick true = by_touch (is_touched edits k.filed.partition)
    pick false = refl

-- ---- edits that lie apart from a partition

last_above : (least : ℕ) (e : ℕ × Row) (es : List (ℕ × Row)) → RisesFrom least (e ∷ es) → least ≤ last_number (e ∷ es)
last_above least e [] rises = rises.0
last_above least e (f ∷ es) rises =
    let here = rises.0 in
    let rest = last_above (e.0 + 1) f es rises.1 in
    omega arith

abbrev pub AreApart : RowEdits → ℕ → ℕ → Type 0
AreApart edits first last = (number : ℕ) → first ≤ number → number ≤ last → get edits number ≡ None

none_from : (edits : RowEdits) (first least : ℕ) (rows : List (ℕ × Row)) → first ≤ least → RisesFrom least rows
    → AreApart edits first (last_number rows)
    → list_any (λ e. is_some (get edits e.0)) rows ≡ false
none_from edits first least [] below rises apart = refl
none_from edits first least (e ∷ []) below rises apart =
    let here = rises.0 in
    ap (λ o. is_some o || false) (apart e.0 (omega arith) (omega arith))
none_from edits first least (e ∷ f ∷ es) below rises apart =
    let here = rises.0 in
    let last = last_above (e.0 + 1) f es rises.1 in
    ap (λ o. is_some o || list_any (λ e. is_some (get edits e.0)) (f ∷ es)) (apart e.0 (omega arith) (omega arith))
    ∙ none_from edits first (e.0 + 1) (f ∷ es) (omega arith) rises.1 apart

pub apart_untouched : (edits : RowEdits) (p : Partition) → RisesFrom 0 p.rows
    → AreApart edits (first_number p.rows) (last_number p.rows)
    → is_touched edits p ≡ false
apart_untouched edits p = of_rows p.rows
  where
    of_rows : (rows : List (ℕ × Row)) → RisesFrom 0 rows → AreApart edits (first_number rows) (last_number rows)
        → list_any (λ e. is_some (get edits e.0)) rows ≡ false
    of_rows [] rises apart = refl
    of_rows (e ∷ es) rises apart = none_from edits e.0 e.0 (e ∷ es) (omega arith) (omega arith, rises.1) apart

pub untouched_unless : (edits : RowEdits) (p : Partition) (first last : ℕ) (b : Bool) → first ≡ first_number p.rows
    → last ≡ last_number p.rows → RisesFrom 0 p.rows → OnFalse b (AreApart edits first last)
    → OnFalse b (is_touched edits p ≡ false)
untouched_unless edits p first last true is_first is_last rises apart = tt
untouched_unless edits p first last false is_first is_last rises apart =
    let here : AreApart edits (first_number p.rows) last = subst (λ n. AreApart edits n last) is_first apart in
    apart_untouched edits p rises (subst (AreApart edits (first_number p.rows)) is_last here)
