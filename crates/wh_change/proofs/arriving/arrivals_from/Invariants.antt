use Rattle.std.specs.List.{AllByRecursion}
use Rattle.wh_filed.specs.Filed.{filed_at, AreAmong}
use Rattle.wh_table.specs.Table.{table_of, filed_of}
use Rattle.wh_change.specs.Appended.{arrivals_at, CameBetween}
use Rattle.wh_change.proofs.arriving.arrivals_from.Given as goal

abbrev pub invariant-loop-place : goal.invariant-loop-place
invariant-loop-place l = record {
  came : CameBetween l.fn.first l.place (arrivals_at l.found.items) (table_of l.table).versions;
  among : AllByRecursion (λ a. AreAmong (filed_at a.came.items) (filed_of l.table)) l.found.items;
}
