use Rattle.std.proofs.Common.{◌≡◌, drop, length, nat_eq}
use Rattle.std.specs.List.{list_all}
use Rattle.wh_dml.proofs.columns.have_width.Given as goal

abbrev pub invariant-loop-row : goal.invariant-loop-row
invariant-loop-row l = list_all (λ row. nat_eq (length row) l.width) l.rows
    ≡ list_all (λ row. nat_eq (length row) l.width) (drop l.row-index l.rows)
