-- What is found of the touched groups is an update.
--     found_updated     where all have their rows
--     found_none        where one has none
--     goes_lack         rows that go lack nothing
use Rattle.std.specs.Prelude.{◌≡◌, ℕ, suc, ◌<◌, true, false, cond, List, [], ◌∷◌}
use Rattle.std.specs.Prelude.{Option, Some, None, option_map, unwrap_or}
use Rattle.std.proofs.Common.{arith, refl, sym, ap, ◌∙◌, inl, inr}
use Rattle.std.specs.List.{AllByRecursion}
use Rattle.std.specs.Ordering.{eq_by_cmp}
use Rattle.std.specs.FinMap.{get, keys, entries, get-entries, entries_sorted}
use Rattle.wh_value.specs.Value.{Row, row_cmp}
use Rattle.wh_meaning.specs.Scalar.{Scalar, of_one, of_two}
use Rattle.wh_meaning.specs.Bag.{Bag, no_rows, one_row, bag_of, with_row, count, plus, beside, gathered}
use Rattle.wh_meaning.specs.Query.{Call, Total, values_on, image_by, projected, rows_in, is_row, with_key}
use Rattle.wh_meaning.proofs.BagLaws.{bag_of_same, count-with_row, count-no_rows, count-plus, count-restricted}
use Rattle.wh_meaning.proofs.BagLaws.{tied_rows, plus-no_rows, restricted-with_row, restricted-no_rows}
use Rattle.wh_meaning.proofs.Gathered.{gathered-no_rows, gathered-with_row}
use Rattle.wh_aggregate.proofs.KeyLemmas.{entries_found}
use Rattle.wh_maintenance.specs.Turn.{less, IsTurn}
use Rattle.wh_maintenance.specs.Carried.{Change, sided}
use Rattle.wh_maintenance.specs.Standing.{Standing, standing, calls_total, Groups, IsGroupsOf, IsStandingOf}
use Rattle.wh_maintenance.specs.Standing.{standing_at, moved, if_left, IsMoved, IsMovedAt, IsMovedTo, shown, begun}
use Rattle.wh_maintenance.proofs.Less.{count-less}
use Rattle.wh_maintenance.proofs.Keys.{self_tied}
use Rattle.wh_maintenance.proofs.Standing.{standing-none, empty_bag}
use Rattle.wh_maintenance.proofs.Undefined.{gathered_none_at, goes_told}
use Rattle.wh_group.specs.Tally.{begun_standing, tallied, stepped}
use Rattle.wh_group.specs.Moves.{Move, Moves, begun_move, move_at}
use Rattle.wh_maintenance.specs.Entries.{set_all}
use Rattle.wh_group.specs.Settling.{now_at, befores, afters, pair, IsSettled}
use Rattle.wh_group.specs.Updates.{change_of, StandIn, IsUpdated}
use Rattle.wh_group.specs.declared.settling.Updated.{Updated}
use Rattle.wh_group.proofs.TallyLaws.{stepped-standing, told_any}
use Rattle.wh_group.proofs.MoveLaws.{AreMoves, LacksOn}
use Rattle.wh_group.proofs.ChangeLaws.{after_at, agree_with, set_all-get, moved_all, moved_all-get, rising, all_change}
use Rattle.wh_group.proofs.ChangeLaws.{befores_shown, afters_shown}

standing_rows : (b : Bag) (found : Option (List Total)) (s : Standing)
    → option_map (λ totals. record { rows = rows_in b; totals = totals }) found ≡ Some s → rows_in b ≡ s.rows
standing_rows b None s e = cc
standing_rows b (Some ts) s e = let is : record { rows = rows_in b; totals = ts } ≡ s = cc in
    ap (λ (x : Standing). x.rows) is

module _ (by : List Scalar) (calls : List Call) (c : Change) (m : Moves) (h : AreMoves by calls c m)
    (groups g : Groups) (gets : (k : Row) → get g k ≡ after_at calls groups k (get m k) (get groups k)) where
  untouched : (k : Row) → get m k ≡ None → (rows_in (with_key by k c.comes) ≡ 0) × (rows_in (with_key by k c.goes) ≡ 0)
  untouched k none =
      let begun_is : move_at calls m k ≡ begun_move calls = ap (λ o. unwrap_or o (begun_move calls)) none in (
        standing_rows (with_key by k c.comes) (calls_total (with_key by k c.comes) calls) (begun_standing calls)
            (h.came.stand k ∙ ap (λ (x : Move). Some x.0) begun_is),
        standing_rows (with_key by k c.goes) (calls_total (with_key by k c.goes) calls) (begun_standing calls)
            (h.went.stand k ∙ ap (λ (x : Move). Some x.1) begun_is),
      )

  moved_by : (was now a b : Option Standing) (x y : Standing) → a ≡ Some x → b ≡ Some y
      → now ≡ if_left (moved (standing_at calls was) x y) → IsMoved calls was a b now
  moved_by was now None b x y e f is = cc
  moved_by was now (Some x') None x y e f is = cc
  moved_by was now (Some x') (Some y') x y e f is =
      let xs : x ≡ x' = cc in let ys : y ≡ y' = cc in
      is ∙ ap (λ z. if_left (moved (standing_at calls was) z y)) xs
      ∙ ap (λ z. if_left (moved (standing_at calls was) x' z)) ys

  moves_at : (k : Row) → IsMovedAt by calls c k (get groups k) (get g k)
  moves_at k = elim (get m k) as (λ found. get m k ≡ found → get g k ≡ after_at calls groups k found (get groups k)
      → IsMovedAt by calls c k (get groups k) (get g k)) [
        | None ↦ λ is e. let none = untouched k is in inl (none.0, none.1, e)
        | Some mv ↦ λ is e.
            let mv_is : move_at calls m k ≡ mv = ap (λ o. unwrap_or o (begun_move calls)) is in
            inr (moved_by (get groups k) (get g k) (standing calls (with_key by k c.comes))
            (standing calls (with_key by k c.goes)) mv.0 mv.1
            (h.came.stand k ∙ ap (λ (x : Move). Some x.0) mv_is) (h.went.stand k ∙ ap (λ (x : Move). Some x.1) mv_is) e)
      ] refl (gets k)

  all_now : (es : List (Row × Move)) → AllByRecursion (λ e. get m e.0 ≡ Some e.1) es
      → AllByRecursion (λ e. get g e.0 ≡ now_at calls groups e) es
  all_now [] all = tt
  all_now (e ∷ es) all = (
    gets e.0 ∙ ap (λ o. after_at calls groups e.0 o (get groups e.0)) all.0,
    all_now es all.1,
  )

  rows_are : sided (option_map bag_of (afters calls groups (entries m)))
      (option_map bag_of (befores calls groups (entries m)))
      ≡ sided (gathered (λ k. shown calls k (get g k)) (bag_of (keys (plus h.came_keys h.went_keys))))
      (gathered (λ k. shown calls k (get groups k)) (bag_of (keys (plus h.came_keys h.went_keys))))
  rows_are =
      ap (λ x. sided x (option_map bag_of (befores calls groups (entries m))))
      (sym (afters_shown calls groups g (entries m) (all_now (entries m) (entries_found m))))
      ∙ ap (sided (gathered (λ k. shown calls k (get g k)) (bag_of (keys m))))
      (sym (befores_shown calls groups (entries m)))
      ∙ ap (λ ks. sided (gathered (λ k. shown calls k (get g k)) (bag_of ks))
      (gathered (λ k. shown calls k (get groups k)) (bag_of ks))) h.keys_are

  moved_to : (found : Option Change) → found ≡ sided (option_map bag_of (afters calls groups (entries m)))
      (option_map bag_of (befores calls groups (entries m))) → IsMovedTo by calls c groups g found
  moved_to found is = record {
    came = h.came_keys;
    went = h.went_keys;
    came_is = h.came.keyed_is;
    went_is = h.went.keyed_is;
    moves = moves_at;
    found_is = is ∙ rows_are;
  }

none_sided : (b a : Option (List Row)) → of_two pair b a ≡ None
    → ◌≡◌ {A = Option Change} None (sided (option_map bag_of a) (option_map bag_of b))
none_sided None None e = refl
none_sided None (Some a) e = refl
none_sided (Some b) None e = refl
none_sided (Some b) (Some a) e = cc

module _ (by : List Scalar) (calls : List Call) (c : Change) (m : Moves) (h : AreMoves by calls c m) (groups : Groups)
  where
    pub found_updated : (u : Updated) → IsSettled calls groups (entries m) u → IsUpdated by calls c groups u
    found_updated u s = record {
      moved = moved_to by calls c m h groups (set_all u.entries.items groups)
          (λ k. set_all-get calls groups (entries m) u.entries.items groups k (entries_sorted m) s.changes
          (agree_with calls groups (entries m))
          ∙ ap (λ o. after_at calls groups k o (get groups k)) (sym (get-entries m k)))
          (Some (change_of u.comes.items u.goes.items))
          (ap (λ x. sided (option_map bag_of x) (Some (bag_of u.goes.items))) (sym s.comes)
          ∙ ap (λ x. sided (option_map bag_of (afters calls groups (entries m))) (option_map bag_of x)) (sym s.goes));
      rising = rising calls groups (entries m) u.entries.items (entries_sorted m) s.changes;
      changes = all_change calls groups (entries m) u.entries.items s.changes;
    }

    pub found_none : of_two pair (befores calls groups (entries m)) (afters calls groups (entries m)) ≡ None
        → IsMovedTo by calls c groups (moved_all calls groups (entries m)) None
    found_none none = moved_to by calls c m h groups (moved_all calls groups (entries m))
        (λ k. moved_all-get calls groups (entries m) k
        ∙ ap (λ o. after_at calls groups k o (get groups k)) (sym (get-entries m k)))
        None (none_sided (befores calls groups (entries m)) (afters calls groups (entries m)) none)

-- ---- rows that go

one_less : (row : Row) (b : Bag) → 0 < count b row → IsTurn b (less b (one_row row)) no_rows (one_row row)
one_less row b some = record {
  stays = less b (one_row row);
  was = bag_of_same _ _ (λ q.
      let sum = count-plus (less b (one_row row)) (one_row row) q in
      let rest = count-less b (one_row row) q in
      let one = count-with_row row no_rows q in
      let none = count-no_rows q in
      elim (eq_by_cmp row_cmp q row) as (λ t. eq_by_cmp row_cmp q row ≡ t
      → count (one_row row) q ≡ cond t (suc (count no_rows q)) (count no_rows q)
      → count b q ≡ count (plus (less b (one_row row)) (one_row row)) q) [
        | true ↦ λ t e. let here = ap (count b) (tied_rows q row t) in omega arith
        | false ↦ λ t e. omega arith
      ] refl one);
  is = sym (plus-no_rows (less b (one_row row)));
}

neither : (x y : Option Bag) → beside x y ≡ None → (x ≡ None → ⊥) → (y ≡ None → ⊥) → ⊥
neither None y e f g = f refl
neither (Some x) None e f g = g refl
neither (Some x) (Some y) e f g = cc

stops : (calls : List Call) (row : Row) (found : Option Standing) → of_one (stepped calls row) found ≡ None
    → (found ≡ None → ⊥) → ((s : Standing) → stepped calls row s ≡ None → ⊥) → ⊥
stops calls row None e f g = f refl
stops calls row (Some s) e f g = g s e

no_totals : (n : ℕ) (found : Option (List Total))
    → option_map {U = Standing} (λ ts. record { rows = n; totals = ts }) found ≡ None → found ≡ None
no_totals n None e = refl
no_totals n (Some ts) e = cc

each_stands : (b : Bag) (goes : List Row) → StandIn (bag_of goes) b → AllByRecursion (λ row. 0 < count b row) goes
each_stands b [] h = tt
each_stands b (row ∷ goes) h =
    let here = count-with_row row (bag_of goes) row in
    let first : count (bag_of (row ∷ goes)) row ≡ suc (count (bag_of goes) row) =
    here ∙ ap (λ t. cond t (suc (count (bag_of goes) row)) (count (bag_of goes) row)) (self_tied row) in (
      h row (omega arith),
      each_stands b goes (λ q some. h q (
          let more = count-with_row row (bag_of goes) q in
          elim (eq_by_cmp row_cmp q row) as (λ t.
          count (bag_of (row ∷ goes)) q ≡ cond t (suc (count (bag_of goes) q)) (count (bag_of goes) q)
          → 0 < count (bag_of (row ∷ goes)) q) [
            | true ↦ λ e. omega arith
            | false ↦ λ e. omega arith
          ] more)),
    )

module _ (by : List Scalar) (calls : List Call) (b : Bag) (groups : Groups) (h : IsGroupsOf by calls b groups) where
  key_there : (row : Row) → 0 < count b row → image_by by row ≡ None → ⊥
  key_there row some none =
      let gone : projected by b ≡ None = gathered_none_at (image_by by) b row none (λ z. absurd (omega arith)) in
      let there = sym gone ∙ h.keys_are in cc

  keys_there : (goes : List Row) → AllByRecursion (λ row. 0 < count b row) goes → projected by (bag_of goes) ≡ None → ⊥
  keys_there [] all e = let there = sym (gathered-no_rows (image_by by)) ∙ e in cc
  keys_there (row ∷ goes) all e =
      neither (image_by by row) (projected by (bag_of goes))
      (sym (gathered-with_row (image_by by) row (bag_of goes)) ∙ e) (key_there row all.0) (keys_there goes all.1)

  standing_there : (k row : Row) (found : Option Standing) → IsStandingOf calls found (with_key by k b)
      → 0 < count (with_key by k b) row → standing calls (one_row row) ≡ None → ⊥
  standing_there k row None st some none =
      let gone = ap (λ x. count x row) (empty_bag (with_key by k b) st) ∙ count-no_rows row in omega arith
  standing_there k row (Some s) st some none =
      goes_told calls (with_key by k b) (less (with_key by k b) (one_row row))
      (record { comes = no_rows; goes = one_row row }) (one_less row (with_key by k b) some) s st.1 none

  argument_there : (k row : Row) → 0 < count b row → is_row k (values_on by row) ≡ true → (s : Standing)
      → stepped calls row s ≡ None → ⊥
  argument_there k row some has s none =
      let among = count-restricted (λ r. is_row k (values_on by r)) b row
      ∙ ap (λ t. cond t (count b row) 0) has in
      let untold : tallied calls row (begun calls) ≡ None =
      told_any calls row s.totals (no_totals (suc s.rows) (tallied calls row s.totals) none) in
      standing_there k row (get groups k) (h.stand k) (omega arith)
      (stepped-standing calls row no_rows ∙ ap (of_one (stepped calls row)) (standing-none calls)
      ∙ ap (option_map {U = Standing} (λ ts. record { rows = 1; totals = ts })) untold)

  arguments_there : (k : Row) (goes : List Row) → AllByRecursion (λ row. 0 < count b row) goes
      → standing calls (with_key by k (bag_of goes)) ≡ None → ⊥
  arguments_there k [] all e =
      let there = sym (ap (standing calls) (restricted-no_rows (λ r. is_row k (values_on by r))) ∙ standing-none calls)
      ∙ e in cc
  arguments_there k (row ∷ goes) all e =
      let rest = with_key by k (bag_of goes) in
      let made = sym (ap (standing calls) (restricted-with_row (λ r. is_row k (values_on by r)) row (bag_of goes)))
      ∙ e in
      elim (is_row k (values_on by row)) as (λ t. is_row k (values_on by row) ≡ t
      → standing calls (cond t (with_row row rest) rest) ≡ None → ⊥) [
        | true ↦ λ t e. stops calls row (standing calls rest) (sym (stepped-standing calls row rest) ∙ e)
            (arguments_there k goes all.1) (argument_there k row all.0 t)
        | false ↦ λ t e. arguments_there k goes all.1 e
      ] refl made

  pub goes_lack : (goes : List Row) → StandIn (bag_of goes) b → LacksOn by calls (bag_of goes) → ⊥
  goes_lack goes among (inl none) = keys_there goes (each_stands b goes among) none
  goes_lack goes among (inr w) = arguments_there w.0 goes (each_stands b goes among) w.1
