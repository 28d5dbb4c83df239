-- The groups of the code's tree, of no rows, with a row more and with a group more.
--     one_group               the tree of no rows without keys
--     row_left, row_noted     the tree with the row, and the groups with it
--     not_noted               a row that can't be noted
--     group_joined            the tree with totals more at a key, and the groups with them
use Rattle.std.specs.Prelude.{◌≡◌, cond, length, List, [], ◌∷◌, Some, None, option_map, unwrap_or, Result, Ok, Err}
use Rattle.std.proofs.Common.{arith, refl, sym, ap, ◌∙◌}
use Rattle.std.specs.Ordering.{is_eq}
use Rattle.std.specs.BTreeMap.{is_at}
use Rattle.std.specs.Map.{lookup}
use Rattle.std.specs.FinMap.{empty, insert, from_entries}
use Rattle.wh_value.specs.Value.{Row, row_cmp}
use Rattle.wh_value.specs.Order.{row_total, row-IsAntisymmetric}
use Rattle.wh_meaning.specs.Bag.{no_rows}
use Rattle.wh_meaning.specs.Query as meaning
use Rattle.wh_meaning.specs.Query.{Total}
use Rattle.wh_meaning.proofs.KeyMaps.{gotten, map_after}
use Rattle.wh_scalar.specs.declared.fault.EvalFault.{EvalFault}
use Rattle.wh_scalar.specs.declared.scalar.Scalar.{Scalar}
use Rattle.wh_algebra.specs.View.{scalars_of}
use Rattle.wh_aggregate.specs.Given.{Leaves}
use Rattle.wh_aggregate.specs.Tally.{begun, tallied}
use Rattle.wh_aggregate.specs.Groups.{Groups, noted, AreOver, with_totals, with_group}
use Rattle.wh_aggregate.proofs.FaultLemmas.{still}

pub one_group : (by : List Scalar) (calls : List meaning.Call) (n : List (Row × List Total)) (key : Row)
    (totals : List Total) → length by ≡ 0 → key ≡ [] → totals ≡ begun calls
    → ((q : Row) → lookup (is_at (row_cmp q)) n ≡ cond (is_eq (row_cmp key q)) (Some totals) None)
    → AreOver (scalars_of by) calls no_rows (from_entries n)
one_group (e ∷ es) calls n key totals none key_is totals_is has = absurd (omega arith)
one_group [] calls n key totals none key_is totals_is has = record {
  rows = [];
  bag_is = refl;
  groups_are = ap Some (sym (map_after row_total row-IsAntisymmetric [] n key totals has
      ∙ ap (λ k. insert empty k totals) key_is ∙ ap (insert empty []) totals_is));
}

module _ (calls : List meaning.Call) (row key : Row) (m n : List (Row × List Total))
    (groups : Groups) (groups_is : groups ≡ from_entries m)
    (old new : List Total) (old_is : old ≡ unwrap_or (lookup (is_at (row_cmp key)) m) (begun calls)) where
  noted_as : noted calls row key groups ≡ option_map (insert (from_entries m) key) (tallied calls row old)
  noted_as =
      ap (noted calls row key) groups_is
      ∙ ap (λ ts. option_map (insert (from_entries m) key) (tallied calls row ts))
      (ap (λ o. unwrap_or o (begun calls)) (gotten row_total m key) ∙ sym old_is)

  module _ (has : (q : Row)
      → lookup (is_at (row_cmp q)) n ≡ cond (is_eq (row_cmp key q)) (Some new) (lookup (is_at (row_cmp q)) m)) where
    pub row_noted : tallied calls row old ≡ Some new → noted calls row key groups ≡ Some (from_entries n)
    row_noted is = noted_as ∙ ap (option_map (insert (from_entries m) key)) is
        ∙ ap Some (sym (map_after row_total row-IsAntisymmetric m n key new has))

    pub row_left : {B : Type 0} (r : Result B EvalFault) → Leaves r new (tallied calls row old)
        → Leaves r (from_entries n) (noted calls row key groups)
    row_left (Ok done) is = row_noted is
    row_left (Err fault) is =
        still fault (tallied calls row old) _ (λ none. noted_as ∙ ap (option_map (insert (from_entries m) key)) none) is

  pub not_noted : tallied calls row old ≡ None → noted calls row key groups ≡ None
  not_noted none = noted_as ∙ ap (option_map (insert (from_entries m) key)) none

pub group_joined : (key : Row) (m n : List (Row × List Total)) (groups : Groups) → groups ≡ from_entries m
    → (more new : List Total) → new ≡ with_totals (lookup (is_at (row_cmp key)) m) more
    → ((q : Row)
    → lookup (is_at (row_cmp q)) n ≡ cond (is_eq (row_cmp key q)) (Some new) (lookup (is_at (row_cmp q)) m))
    → from_entries n ≡ with_group key more groups
group_joined key m n groups groups_is more new new_is has =
    map_after row_total row-IsAntisymmetric m n key new has
    ∙ ap (insert (from_entries m) key) (new_is ∙ ap (λ o. with_totals o more) (sym (gotten row_total m key)))
    ∙ ap (with_group key more) (sym groups_is)
