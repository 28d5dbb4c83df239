use Rattle.std.proofs.Common.{◌≡◌}
use Rattle.std.specs.FinMap.{find}
use Rattle.wh_value.specs.Value.{Row, row_cmp}
use Rattle.wh_meaning.specs.Bag.{times, count}
use Rattle.wh_part.specs.Holding.{IsWithin, columns_of}
use Rattle.wh_refresh.proofs.going.may_lose.Given as goal

abbrev pub invariant-loop-row : goal.invariant-loop-row
invariant-loop-row l = (row : Row) → IsWithin (columns_of l.meta) row
    → count l.rows row ≡ times (find row_cmp row l.row-iterator)
