-- The entries of the code's trees, and the maps that they are.
--     row_left, row_noted     the moves with a row more
--     not_noted               a row that can't be noted
--     set_after, gone_after   slots with what stands at one key
use Rattle.std.specs.Prelude.{◌≡◌, cond, List, Some, None, option_map, unwrap_or, Result, Ok, Err}
use Rattle.std.proofs.Common.{sym, ap, ◌∙◌}
use Rattle.std.specs.Ordering.{is_eq}
use Rattle.std.specs.Cmp.{eq_by_cmp_equiv}
use Rattle.std.specs.BTreeMap.{is_at}
use Rattle.std.specs.Map.{lookup}
use Rattle.std.specs.FinMap.{insert, remove, from_entries, same_map, get-remove}
use Rattle.wh_value.specs.Value.{Row, row_cmp}
use Rattle.wh_value.specs.Order.{row_total, row-IsAntisymmetric}
use Rattle.wh_meaning.specs.Query.{Call}
use Rattle.wh_meaning.proofs.KeyMaps.{gotten, map_after}
use Rattle.wh_scalar.specs.declared.fault.EvalFault.{EvalFault}
use Rattle.wh_aggregate.specs.Given.{Leaves}
use Rattle.wh_aggregate.proofs.FaultLemmas.{still}
use Rattle.wh_maintenance.specs.Standing.{Standing}
use Rattle.wh_group.specs.Moves.{Move, Moves, begun_move, taken, noted}
use Rattle.wh_group.specs.declared.moving.Side.{Side}

module _ (side : Side) (calls : List Call) (row key : Row) (m n : List (Row × Move))
    (moves : Moves) (moves_is : moves ≡ from_entries m)
    (old new : Move) (old_is : old ≡ unwrap_or (lookup (is_at (row_cmp key)) m) (begun_move calls)) where
  noted_as : noted side calls row key moves ≡ option_map (insert (from_entries m) key) (taken side calls row old)
  noted_as =
      ap (noted side calls row key) moves_is
      ∙ ap (λ mv. option_map (insert (from_entries m) key) (taken side calls row mv))
      (ap (λ o. unwrap_or o (begun_move calls)) (gotten row_total m key) ∙ sym old_is)

  module _ (has : (q : Row)
      → lookup (is_at (row_cmp q)) n ≡ cond (is_eq (row_cmp key q)) (Some new) (lookup (is_at (row_cmp q)) m)) where
    pub row_noted : taken side calls row old ≡ Some new → noted side calls row key moves ≡ Some (from_entries n)
    row_noted is = noted_as ∙ ap (option_map (insert (from_entries m) key)) is
        ∙ ap Some (sym (map_after row_total row-IsAntisymmetric m n key new has))

    pub row_left : {B : Type 0} (r : Result B EvalFault) → Leaves r new (taken side calls row old)
        → Leaves r (from_entries n) (noted side calls row key moves)
    row_left (Ok done) is = row_noted is
    row_left (Err fault) is =
        still fault (taken side calls row old) _
        (λ none. noted_as ∙ ap (option_map (insert (from_entries m) key)) none) is

  pub not_noted : taken side calls row old ≡ None → noted side calls row key moves ≡ None
  not_noted none = noted_as ∙ ap (option_map (insert (from_entries m) key)) none

module _ (m n : List (Row × Standing)) (key : Row) where
  pub set_after : (s : Standing) → ((q : Row)
      → lookup (is_at (row_cmp q)) n ≡ cond (is_eq (row_cmp key q)) (Some s) (lookup (is_at (row_cmp q)) m))
      → from_entries {R = row_cmp} n ≡ insert (from_entries m) key s
  set_after s has = map_after row_total row-IsAntisymmetric m n key s has

  pub gone_after : ((q : Row)
      → lookup (is_at (row_cmp q)) n ≡ cond (is_eq (row_cmp key q)) None (lookup (is_at (row_cmp q)) m))
      → from_entries {R = row_cmp} n ≡ remove (from_entries m) key
  gone_after has = same_map row_total row-IsAntisymmetric _ _ (λ q.
      gotten row_total n q
      ∙ has q
      ∙ ap (λ b. cond b None (lookup (is_at (row_cmp q)) m)) ((eq_by_cmp_equiv row_total).symm key q)
      ∙ ap (cond (is_eq (row_cmp q key)) None) (sym (gotten row_total m q))
      ∙ sym (get-remove row_total (from_entries m) key q))
