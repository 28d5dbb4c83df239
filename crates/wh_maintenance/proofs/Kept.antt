-- Kept groups, a row at a time, and what stands above them.
--     groups-with_row, groups-less_row     one row more, and one row fewer
--     above-carried                        from the change of the group rows to that of the query
use Rattle.std.specs.Prelude.{◌≡◌, Bool, true, false, cond, List, Option, Some, None}
use Rattle.std.proofs.Common.{refl, sym, ap, ◌∙◌, inl, inr}
use Rattle.std.specs.Ordering.{eq_by_cmp}
use Rattle.std.specs.FinMap.{get}
use Rattle.wh_value.specs.Value.{Row, row_cmp}
use Rattle.wh_meaning.specs.Scalar.{Scalar, of_one, of_two}
use Rattle.wh_meaning.specs.Bag.{Bag, no_rows, one_row, with_row, plus, gathered}
use Rattle.wh_meaning.specs.Query.{Query, Scan, Filter, Project, Join, UnionAll, Group, Call, Instance, values_on}
use Rattle.wh_meaning.specs.Query.{image_by, kept_by, filtered, projected, rows_in, is_row, with_key, eval}
use Rattle.wh_meaning.proofs.BagLaws.{plus-comm, plus-no_rows, one_row-plus, restricted-with_row, restricted-no_rows}
use Rattle.wh_meaning.proofs.Gathered.{gathered-no_rows, gathered-with_row, beside-nothing}
use Rattle.wh_maintenance.specs.Turn.{IsTurn}
use Rattle.wh_maintenance.specs.Carried.{Change, IsCarried, carried_over}
use Rattle.wh_maintenance.specs.Above.{group_of, above}
use Rattle.wh_maintenance.specs.Standing.{Standing, standing, begun, moved, Groups, IsGroupsOf, standing_at, if_left}
use Rattle.wh_maintenance.specs.Standing.{IsMoved, IsMovedAt}
use Rattle.wh_maintenance.proofs.Keys.{rows_in-no_rows}
use Rattle.wh_maintenance.proofs.Linear.{gathered-carried}
use Rattle.wh_maintenance.proofs.Standing.{groups-moved, standing-none}
use Rattle.wh_maintenance.proofs.Carrying.{one_alone}

abbrev pub arrives : Row → Change
arrives row = record { comes = one_row row; goes = no_rows }

abbrev pub leaves : Row → Change
leaves row = record { comes = no_rows; goes = one_row row }

pub turn-with_row : (row : Row) (b : Bag) → IsTurn b (with_row row b) (one_row row) no_rows
turn-with_row row b = record {
  stays = b;
  was = sym (plus-no_rows b);
  is = sym (plus-comm b (one_row row) ∙ one_row-plus row b);
}

pub turn-less_row : (row : Row) (b : Bag) → IsTurn (with_row row b) b no_rows (one_row row)
turn-less_row row b = record {
  stays = b;
  was = sym (plus-comm b (one_row row) ∙ one_row-plus row b);
  is = sym (plus-no_rows b);
}

module _ (by : List Scalar) (row key : Row) (key_is : values_on by row ≡ Some key) where
  with_key-one : (k : Row) (t : Bool) → eq_by_cmp row_cmp k key ≡ t
      → with_key by k (one_row row) ≡ cond t (one_row row) no_rows
  with_key-one k t e =
      restricted-with_row (λ r. is_row k (values_on by r)) row no_rows
      ∙ ap (λ s. cond s (with_row row (with_key by k no_rows)) (with_key by k no_rows)) (ap (is_row k) key_is ∙ e)
      ∙ ap (λ b. cond t (with_row row b) b) (restricted-no_rows (λ r. is_row k (values_on by r)))

  none-of : (k : Row) → rows_in (with_key by k no_rows) ≡ 0
  none-of k = ap rows_in (restricted-no_rows (λ r. is_row k (values_on by r))) ∙ rows_in-no_rows

  not-of : (k : Row) → eq_by_cmp row_cmp k key ≡ false → rows_in (with_key by k (one_row row)) ≡ 0
  not-of k e = ap rows_in (with_key-one k false e) ∙ rows_in-no_rows

  module _ (calls : List Call) (s : Standing) (s_is : standing calls (one_row row) ≡ Some s) where
    abbrev none : Standing
    none = record { rows = 0; totals = begun calls }

    stands-one : (k : Row) → eq_by_cmp row_cmp k key ≡ true → standing calls (with_key by k (one_row row)) ≡ Some s
    stands-one k e = ap (standing calls) (with_key-one k true e) ∙ s_is

    stands-none : (k : Row) → standing calls (with_key by k no_rows) ≡ Some none
    stands-none k = ap (standing calls) (restricted-no_rows (λ r. is_row k (values_on by r))) ∙ standing-none calls

    moved_by : (was now : Option Standing) (a b : Option Standing) (c g : Standing) → a ≡ Some c → b ≡ Some g
        → now ≡ if_left (moved (standing_at calls was) c g) → IsMoved calls was a b now
    moved_by was now None b c g f h e = cc
    moved_by was now (Some x) None c g f h e = cc
    moved_by was now (Some x) (Some y) c g f h e =
        let xc : x ≡ c = cc in let yg : y ≡ g = cc in
        e ∙ ap (λ z. if_left (moved (standing_at calls was) z g)) (sym xc)
        ∙ ap (λ z. if_left (moved (standing_at calls was) x z)) (sym yg)

    -- what the map has afterwards at each key
    abbrev pub IsNoted : Groups → Groups → Standing → Standing → Type 0
    IsNoted groups groups' came went = (k : Row) → get groups' k ≡ cond (eq_by_cmp row_cmp k key)
        (if_left (moved (standing_at calls (get groups k)) came went)) (get groups k)

    pub groups-with_row : (b : Bag) (groups groups' : Groups) → IsGroupsOf by calls b groups
        → IsNoted groups groups' s none
        → IsGroupsOf by calls (with_row row b) groups'
    groups-with_row b groups groups' h noted =
        groups-moved by calls b (with_row row b) (arrives row) (turn-with_row row b) groups groups' h (one_row key)
        (gathered-with_row (image_by by) row no_rows
        ∙ ap (λ x. of_two (λ x y. Some (plus x y)) x (gathered (image_by by) no_rows))
        (ap (λ x. of_one (λ r. Some (one_row r)) x) key_is)
        ∙ ap (of_two (λ x y. Some (plus x y)) (Some (one_row key))) (gathered-no_rows (image_by by))
        ∙ beside-nothing (Some (one_row key)))
        (λ k. elim (eq_by_cmp row_cmp k key) as (λ t. eq_by_cmp row_cmp k key ≡ t
        → get groups' k ≡ cond t (if_left (moved (standing_at calls (get groups k)) s none)) (get groups k)
        → IsMovedAt by calls (arrives row) k (get groups k) (get groups' k)) [
          | true ↦ λ t n. inr (moved_by (get groups k) (get groups' k) _ _ s none (stands-one k t) (stands-none k) n)
          | false ↦ λ t n. inl (not-of k t, none-of k, n)
        ] refl (noted k))

    pub groups-less_row : (b : Bag) (groups groups' : Groups) → IsGroupsOf by calls (with_row row b) groups
        → IsNoted groups groups' none s → IsGroupsOf by calls b groups'
    groups-less_row b groups groups' h noted =
        groups-moved by calls (with_row row b) b (leaves row) (turn-less_row row b) groups groups' h no_rows
        (gathered-no_rows (image_by by))
        (λ k. elim (eq_by_cmp row_cmp k key) as (λ t. eq_by_cmp row_cmp k key ≡ t
        → get groups' k ≡ cond t (if_left (moved (standing_at calls (get groups k)) none s)) (get groups k)
        → IsMovedAt by calls (leaves row) k (get groups k) (get groups' k)) [
          | true ↦ λ t n. inr (moved_by (get groups k) (get groups' k) _ _ none s (stands-none k) (stands-one k t) n)
          | false ↦ λ t n. inl (none-of k, not-of k t, n)
        ] refl (noted k))

-- ---- above the Group

pub above-carried : (q : Query) (old new : Instance) (found : Option Change)
    → ((g : Bag) → eval (group_of q) old ≡ Some g → IsCarried g (eval (group_of q) new) found)
    → (o : Bag) → eval q old ≡ Some o → IsCarried o (eval q new) (above q found)
unfolding eval group_of above
above-carried (Scan source) old new found h o e = h o e
above-carried (Filter q condition) old new found h o e =
    one_alone (filtered condition) (carried_over (kept_by condition))
    (λ a a' o c turn is. gathered-carried (kept_by condition) a a' o c turn is)
    (eval q old) (eval q new) (above q found) (above-carried q old new found h) o e
above-carried (Project q items) old new found h o e =
    one_alone (projected items) (carried_over (image_by items))
    (λ a a' o c turn is. gathered-carried (image_by items) a a' o c turn is)
    (eval q old) (eval q new) (above q found) (above-carried q old new found h) o e
above-carried (Join left right on) old new found h o e = h o e
above-carried (UnionAll left right) old new found h o e = h o e
above-carried (Group q by calls) old new found h o e = h o e
