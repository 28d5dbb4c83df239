-- What the rows that come and go add up to, by key.
--     IsSide, AreMoves      a side, and both, are those of a bag and of a change
--     no_moves, rows_moved  of no rows, and with rows more on a side
--     rows_lack             where rows can't be added, one lacks its key or an argument
use Rattle.std.specs.Prelude.{◌≡◌, ◌⊎◌, ℕ, Bool, true, false, cond, List, [], ◌∷◌, Option, Some, None, option_map}
use Rattle.std.specs.Prelude.{unwrap_or}
use Rattle.std.proofs.Common.{refl, sym, ap, subst, ◌∙◌, inl, inr}
use Rattle.std.specs.Ordering.{eq_by_cmp}
use Rattle.std.specs.FinMap.{empty, get, insert, keys, get-empty, get-insert}
use Rattle.wh_value.specs.Value.{Row, row_cmp}
use Rattle.wh_value.specs.Order.{row_total}
use Rattle.wh_meaning.specs.Scalar.{Scalar, of_one, of_two}
use Rattle.wh_meaning.specs.Bag.{Bag, no_rows, one_row, with_row, bag_of, count, plus, beside}
use Rattle.wh_meaning.specs.Query.{Call, values_on, image_by, projected, is_row, with_key}
use Rattle.wh_meaning.proofs.BagLaws.{tied_rows, one_row-plus, with_row-plus, plus-comm, no_rows-plus}
use Rattle.wh_meaning.proofs.BagLaws.{restricted-no_rows, restricted-with_row}
use Rattle.wh_meaning.proofs.Gathered.{gathered-no_rows, gathered-with_row}
use Rattle.wh_aggregate.proofs.KeyLemmas.{keys-insert, keys-empty}
use Rattle.wh_maintenance.specs.Carried.{Change}
use Rattle.wh_maintenance.specs.Standing.{Standing, standing}
use Rattle.wh_maintenance.proofs.Keys.{self_tied}
use Rattle.wh_maintenance.proofs.Standing.{standing-none}
use Rattle.wh_maintenance.proofs.Sides.{beside-comm}
use Rattle.wh_group.specs.Tally.{begun_standing, stepped}
use Rattle.wh_group.specs.Moves.{Move, Moves, begun_move, move_at, with_came, with_went, taken, noted, added}
use Rattle.wh_group.specs.declared.moving.Side.{Side}
use Rattle.wh_group.specs.declared.moving.Side.TheVariants.{Comes, Goes}
use Rattle.wh_group.proofs.TallyLaws.{stepped-standing}

-- at each key what the rows of a bag that have it add up to
pub record IsSide (by : List Scalar) (calls : List Call) (b keyed : Bag) (at : Row → Standing) : Type 0 where
  pub keyed_is : projected by b ≡ Some keyed
  pub stand : (k : Row) → standing calls (with_key by k b) ≡ Some (at k)

pub record AreMoves (by : List Scalar) (calls : List Call) (c : Change) (m : Moves) : Type 0 where
  pub came_keys : Bag
  pub went_keys : Bag
  pub came : IsSide by calls c.comes came_keys (λ k. (move_at calls m k).0)
  pub went : IsSide by calls c.goes went_keys (λ k. (move_at calls m k).1)
  pub keys_are : keys m ≡ keys (plus came_keys went_keys)

-- a row without a key, or without an argument
abbrev pub LacksOn : List Scalar → List Call → Bag → Type 0
LacksOn by calls b = (projected by b ≡ None) ⊎ ((k : Row) × (standing calls (with_key by k b) ≡ None))

side_same : (by : List Scalar) (calls : List Call) (b keyed : Bag) (at at' : Row → Standing)
    → IsSide by calls b keyed at → ((k : Row) → at' k ≡ at k) → IsSide by calls b keyed at'
side_same by calls b keyed at at' h same = record {
  keyed_is = h.keyed_is;
  stand = λ k. h.stand k ∙ ap Some (sym (same k));
}

-- ---- a row more on a side

module _ (by : List Scalar) (calls : List Call) (row : Row) (b : Bag) where
  abbrev key_more : Row → Bool → Bag
  key_more k t = cond t (with_row row (with_key by k b)) (with_key by k b)

  with_key-more : (k : Row) (found : Option Row) → values_on by row ≡ found
      → with_key by k (with_row row b) ≡ key_more k (is_row k found)
  with_key-more k found is = restricted-with_row (λ r. is_row k (values_on by r)) row b
      ∙ ap (λ o. key_more k (is_row k o)) is

  side_more : (keyed : Bag) (key : Row) (at at' : Row → Standing) (s : Standing) → values_on by row ≡ Some key
      → IsSide by calls b keyed at → stepped calls row (at key) ≡ Some s
      → ((k : Row) → at' k ≡ cond (eq_by_cmp row_cmp k key) s (at k))
      → IsSide by calls (with_row row b) (with_row key keyed) at'
  side_more keyed key at at' s key_is h step after = record {
    keyed_is = gathered-with_row (image_by by) row b
        ∙ ap (λ o. beside (option_map one_row o) (projected by b)) key_is
        ∙ ap (beside (Some (one_row key))) h.keyed_is ∙ ap Some (one_row-plus key keyed);
    stand = λ k.
        ap (standing calls) (with_key-more k (Some key) key_is)
        ∙ elim (eq_by_cmp row_cmp k key) as (λ t. eq_by_cmp row_cmp k key ≡ t
        → standing calls (key_more k t) ≡ Some (cond t s (at k))) [
          | true ↦ λ t. stepped-standing calls row (with_key by k b) ∙ ap (of_one (stepped calls row)) (h.stand k)
              ∙ ap (λ q. stepped calls row (at q)) (tied_rows k key t) ∙ step
          | false ↦ λ t. h.stand k
        ] refl
        ∙ ap Some (sym (after k));
  }

  no_key_more : values_on by row ≡ None → LacksOn by calls (with_row row b)
  no_key_more none = inl (gathered-with_row (image_by by) row b
      ∙ ap (λ o. beside (option_map one_row o) (projected by b)) none)

  no_argument_more : (keyed : Bag) (key : Row) (at : Row → Standing) → values_on by row ≡ Some key
      → IsSide by calls b keyed at
      → stepped calls row (at key) ≡ None → LacksOn by calls (with_row row b)
  no_argument_more keyed key at key_is h none = inr (
    key,
    ap (standing calls) (with_key-more key (Some key) key_is ∙ ap (key_more key) (self_tied key))
        ∙ stepped-standing calls row (with_key by key b) ∙ ap (of_one (stepped calls row)) (h.stand key) ∙ none,
  )

  still_none : (k : Row) (t : Bool) → standing calls (with_key by k b) ≡ None → standing calls (key_more k t) ≡ None
  still_none k true none = stepped-standing calls row (with_key by k b) ∙ ap (of_one (stepped calls row)) none
  still_none k false none = none

  lacks_more : LacksOn by calls b → LacksOn by calls (with_row row b)
  lacks_more (inl none) = inl (gathered-with_row (image_by by) row b
      ∙ ap (beside (image_by by row)) none ∙ beside-comm (image_by by row) None)
  lacks_more (inr w) = inr (
    w.0,
    ap (standing calls) (with_key-more w.0 (values_on by row) refl)
        ∙ still_none w.0 (is_row w.0 (values_on by row)) w.1,
  )

-- ---- moves with a row more

mapped : {A B : Type 0} (f : A → B) (o : Option A) (y : B) → option_map f o ≡ Some y
    → (x : A) × (o ≡ Some x) × (y ≡ f x)
mapped f None y e = cc
mapped f (Some x) y e = (x, refl, cc)

mapped_none : {A B : Type 0} (f : A → B) (o : Option A) → option_map f o ≡ None → o ≡ None
mapped_none f None e = refl
mapped_none f (Some x) e = cc

move_at-insert : (calls : List Call) (m m' : Moves) (key : Row) (mv : Move) → m' ≡ insert m key mv → (k : Row)
    → move_at calls m' k ≡ cond (eq_by_cmp row_cmp k key) mv (move_at calls m k)
move_at-insert calls m m' key mv is k =
    ap (λ x. move_at calls x k) is
    ∙ ap (λ o. unwrap_or o (begun_move calls)) (get-insert row_total m key mv k)
    ∙ elim (eq_by_cmp row_cmp k key) as (λ t. unwrap_or (cond t (Some mv) (get m k)) (begun_move calls)
    ≡ cond t mv (move_at calls m k)) [ true ↦ refl | false ↦ refl ]

module _ (calls : List Call) (m m' : Moves) (key : Row) (s : Standing) where
  came_after : m' ≡ insert m key (with_came (move_at calls m key) s) → (k : Row)
      → ((move_at calls m' k).0 ≡ cond (eq_by_cmp row_cmp k key) s (move_at calls m k).0)
      × ((move_at calls m' k).1 ≡ (move_at calls m k).1)
  came_after is k =
      let after = move_at-insert calls m m' key (with_came (move_at calls m key) s) is k in
      elim (eq_by_cmp row_cmp k key) as (λ t. eq_by_cmp row_cmp k key ≡ t
      → move_at calls m' k ≡ cond t (with_came (move_at calls m key) s) (move_at calls m k)
      → ((move_at calls m' k).0 ≡ cond t s (move_at calls m k).0)
      × ((move_at calls m' k).1 ≡ (move_at calls m k).1)) [
        | true ↦ λ t e. (
          ap (λ (x : Move). x.0) e,
          ap (λ (x : Move). x.1) e ∙ ap (λ q. (move_at calls m q).1) (sym (tied_rows k key t)),
        )
        | false ↦ λ t e. (ap (λ (x : Move). x.0) e, ap (λ (x : Move). x.1) e)
      ] refl after

  went_after : m' ≡ insert m key (with_went (move_at calls m key) s) → (k : Row)
      → ((move_at calls m' k).0 ≡ (move_at calls m k).0)
      × ((move_at calls m' k).1 ≡ cond (eq_by_cmp row_cmp k key) s (move_at calls m k).1)
  went_after is k =
      let after = move_at-insert calls m m' key (with_went (move_at calls m key) s) is k in
      elim (eq_by_cmp row_cmp k key) as (λ t. eq_by_cmp row_cmp k key ≡ t
      → move_at calls m' k ≡ cond t (with_went (move_at calls m key) s) (move_at calls m k)
      → ((move_at calls m' k).0 ≡ (move_at calls m k).0)
      × ((move_at calls m' k).1 ≡ cond t s (move_at calls m k).1)) [
        | true ↦ λ t e. (
          ap (λ (x : Move). x.0) e ∙ ap (λ q. (move_at calls m q).0) (sym (tied_rows k key t)),
          ap (λ (x : Move). x.1) e,
        )
        | false ↦ λ t e. (ap (λ (x : Move). x.0) e, ap (λ (x : Move). x.1) e)
      ] refl after

keys_more : (m m' : Moves) (keyed : Bag) (key : Row) (mv : Move) → m' ≡ insert m key mv → keys m ≡ keys keyed
    → keys m' ≡ keys (with_row key keyed)
keys_more m m' keyed key mv is same = ap keys is ∙ keys-insert m keyed key mv (count keyed key) same

with_row-behind : (key : Row) (a b : Bag) → with_row key (plus a b) ≡ plus a (with_row key b)
with_row-behind key a b = ap (with_row key) (plus-comm a b) ∙ sym (with_row-plus key b a) ∙ plus-comm (with_row key b) a

-- a change with a row more on a side
abbrev pub more : Side → Row → Change → Change
more Comes row c = record { comes = with_row row c.comes; goes = c.goes }
more Goes row c = record { comes = c.comes; goes = with_row row c.goes }

abbrev pub all_more : Side → List Row → Change → Change
all_more side [] c = c
all_more side (row ∷ rows) c = more side row (all_more side rows c)

abbrev pub bag_on : Side → Change → Bag
bag_on Comes c = c.comes
bag_on Goes c = c.goes

module _ (by : List Scalar) (calls : List Call) where
  came_more : (row key : Row) (c : Change) (m m' : Moves) → values_on by row ≡ Some key → AreMoves by calls c m
      → noted Comes calls row key m ≡ Some m' → AreMoves by calls (more Comes row c) m'
  came_more row key c m m' key_is h is =
      let made = mapped (insert m key) (taken Comes calls row (move_at calls m key)) m' is in
      let step = mapped (with_came (move_at calls m key)) (stepped calls row (move_at calls m key).0) made.0 made.1 in
      let m'_is : m' ≡ insert m key (with_came (move_at calls m key) step.0) = made.2 ∙ ap (insert m key) step.2 in
      let after = came_after calls m m' key step.0 m'_is in
      record {
        came_keys = with_row key h.came_keys;
        went_keys = h.went_keys;
        came = side_more by calls row c.comes h.came_keys key (λ k. (move_at calls m k).0)
            (λ k. (move_at calls m' k).0) step.0 key_is h.came step.1 (λ k. (after k).0);
        went = side_same by calls c.goes h.went_keys (λ k. (move_at calls m k).1) (λ k. (move_at calls m' k).1) h.went
            (λ k. (after k).1);
        keys_are = keys_more m m' (plus h.came_keys h.went_keys) key (with_came (move_at calls m key) step.0) m'_is
            h.keys_are ∙ ap keys (sym (with_row-plus key h.came_keys h.went_keys));
      }

  went_more : (row key : Row) (c : Change) (m m' : Moves) → values_on by row ≡ Some key → AreMoves by calls c m
      → noted Goes calls row key m ≡ Some m' → AreMoves by calls (more Goes row c) m'
  went_more row key c m m' key_is h is =
      let made = mapped (insert m key) (taken Goes calls row (move_at calls m key)) m' is in
      let step = mapped (with_went (move_at calls m key)) (stepped calls row (move_at calls m key).1) made.0 made.1 in
      let m'_is : m' ≡ insert m key (with_went (move_at calls m key) step.0) = made.2 ∙ ap (insert m key) step.2 in
      let after = went_after calls m m' key step.0 m'_is in
      record {
        came_keys = h.came_keys;
        went_keys = with_row key h.went_keys;
        came = side_same by calls c.comes h.came_keys (λ k. (move_at calls m k).0) (λ k. (move_at calls m' k).0) h.came
            (λ k. (after k).0);
        went = side_more by calls row c.goes h.went_keys key (λ k. (move_at calls m k).1)
            (λ k. (move_at calls m' k).1) step.0 key_is h.went step.1 (λ k. (after k).1);
        keys_are = keys_more m m' (plus h.came_keys h.went_keys) key (with_went (move_at calls m key) step.0) m'_is
            h.keys_are ∙ ap keys (with_row-behind key h.came_keys h.went_keys);
      }

  row_moved : (side : Side) (row key : Row) (c : Change) (m m' : Moves) → values_on by row ≡ Some key
      → AreMoves by calls c m → noted side calls row key m ≡ Some m' → AreMoves by calls (more side row c) m'
  row_moved Comes row key c m m' key_is h is = came_more row key c m m' key_is h is
  row_moved Goes row key c m m' key_is h is = went_more row key c m m' key_is h is

  -- ---- rows more

  row_taken : (side : Side) (row : Row) (c : Change) (key : Option Row) (found : Option Moves) (m' : Moves)
      → values_on by row ≡ key → ((m : Moves) → found ≡ Some m → AreMoves by calls c m)
      → of_two (noted side calls row) key found ≡ Some m' → AreMoves by calls (more side row c) m'
  row_taken side row c None found m' key_is h e = cc
  row_taken side row c (Some key) None m' key_is h e = cc
  row_taken side row c (Some key) (Some m) m' key_is h e = row_moved side row key c m m' key_is (h m refl) e

  pub rows_moved : (side : Side) (rows : List Row) (c : Change) (m m' : Moves) → AreMoves by calls c m
      → added side by calls m rows ≡ Some m' → AreMoves by calls (all_more side rows c) m'
  rows_moved side [] c m m' h e = let is : m ≡ m' = cc in subst (AreMoves by calls c) is h
  rows_moved side (row ∷ rows) c m m' h e =
      row_taken side row (all_more side rows c) (values_on by row) (added side by calls m rows) m' refl
      (λ m'' is. rows_moved side rows c m m'' h is) e

  -- ---- rows that can't be added

  came_lacks : (row key : Row) (c : Change) (m : Moves) → values_on by row ≡ Some key → AreMoves by calls c m
      → noted Comes calls row key m ≡ None → LacksOn by calls (with_row row c.comes)
  came_lacks row key c m key_is h none =
      no_argument_more by calls row c.comes h.came_keys key (λ k. (move_at calls m k).0) key_is h.came
      (mapped_none (with_came (move_at calls m key)) (stepped calls row (move_at calls m key).0)
      (mapped_none (insert m key) (taken Comes calls row (move_at calls m key)) none))

  went_lacks : (row key : Row) (c : Change) (m : Moves) → values_on by row ≡ Some key → AreMoves by calls c m
      → noted Goes calls row key m ≡ None → LacksOn by calls (with_row row c.goes)
  went_lacks row key c m key_is h none =
      no_argument_more by calls row c.goes h.went_keys key (λ k. (move_at calls m k).1) key_is h.went
      (mapped_none (with_went (move_at calls m key)) (stepped calls row (move_at calls m key).1)
      (mapped_none (insert m key) (taken Goes calls row (move_at calls m key)) none))

  key_lacks : (side : Side) (row : Row) (c : Change) → values_on by row ≡ None
      → LacksOn by calls (bag_on side (more side row c))
  key_lacks Comes row c none = no_key_more by calls row c.comes none
  key_lacks Goes row c none = no_key_more by calls row c.goes none

  still_lacks : (side : Side) (row : Row) (c : Change) → LacksOn by calls (bag_on side c)
      → LacksOn by calls (bag_on side (more side row c))
  still_lacks Comes row c h = lacks_more by calls row c.comes h
  still_lacks Goes row c h = lacks_more by calls row c.goes h

  row_lacks : (side : Side) (row key : Row) (c : Change) (m : Moves) → values_on by row ≡ Some key
      → AreMoves by calls c m → noted side calls row key m ≡ None → LacksOn by calls (bag_on side (more side row c))
  row_lacks Comes row key c m key_is h none = came_lacks row key c m key_is h none
  row_lacks Goes row key c m key_is h none = went_lacks row key c m key_is h none

  row_stops : (side : Side) (row : Row) (c : Change) (key : Option Row) (found : Option Moves)
      → values_on by row ≡ key → ((m : Moves) → found ≡ Some m → AreMoves by calls c m)
      → (found ≡ None → LacksOn by calls (bag_on side c)) → of_two (noted side calls row) key found ≡ None
      → LacksOn by calls (bag_on side (more side row c))
  row_stops side row c None found key_is h earlier e = key_lacks side row c key_is
  row_stops side row c (Some key) None key_is h earlier e = still_lacks side row c (earlier refl)
  row_stops side row c (Some key) (Some m) key_is h earlier e = row_lacks side row key c m key_is (h m refl) e

  pub rows_lack : (side : Side) (rows : List Row) (c : Change) (m : Moves) → AreMoves by calls c m
      → added side by calls m rows ≡ None → LacksOn by calls (bag_on side (all_more side rows c))
  rows_lack side [] c m h e = cc
  rows_lack side (row ∷ rows) c m h e =
      row_stops side row (all_more side rows c) (values_on by row) (added side by calls m rows) refl
      (λ m' is. rows_moved side rows c m m' h is) (rows_lack side rows c m h) e

-- ---- from no row on

abbrev pub nothing : Change
nothing = record { comes = no_rows; goes = no_rows }

no_side : (by : List Scalar) (calls : List Call) (at : Row → Standing) → ((k : Row) → at k ≡ begun_standing calls)
    → IsSide by calls no_rows no_rows at
no_side by calls at is = record {
  keyed_is = gathered-no_rows (image_by by);
  stand = λ k. ap (standing calls) (restricted-no_rows (λ r. is_row k (values_on by r))) ∙ standing-none calls
      ∙ ap Some (sym (is k));
}

pub no_moves : (by : List Scalar) (calls : List Call) (m : Moves) → m ≡ empty → AreMoves by calls nothing m
no_moves by calls m is =
    let begun : (k : Row) → move_at calls m k ≡ begun_move calls =
    λ k. ap (λ x. move_at calls x k) is ∙ ap (λ o. unwrap_or o (begun_move calls)) (get-empty row_cmp k) in
    record {
      came_keys = no_rows;
      went_keys = no_rows;
      came = no_side by calls (λ k. (move_at calls m k).0) (λ k. ap (λ (x : Move). x.0) (begun k));
      went = no_side by calls (λ k. (move_at calls m k).1) (λ k. ap (λ (x : Move). x.1) (begun k));
      keys_are = ap keys is ∙ keys-empty Move ℕ ∙ ap keys (sym (no_rows-plus no_rows));
    }

pub all_came : (comes : List Row) (c : Change) → c.comes ≡ no_rows
    → all_more Comes comes c ≡ record { comes = bag_of comes; goes = c.goes }
all_came [] c none = ap (λ b. record { comes = b; goes = c.goes }) none
all_came (row ∷ rows) c none = ap (more Comes row) (all_came rows c none)

pub all_went : (goes : List Row) (c : Change) → c.goes ≡ no_rows
    → all_more Goes goes c ≡ record { comes = c.comes; goes = bag_of goes }
all_went [] c none = ap (λ b. record { comes = c.comes; goes = b }) none
all_went (row ∷ rows) c none = ap (more Goes row) (all_went rows c none)
