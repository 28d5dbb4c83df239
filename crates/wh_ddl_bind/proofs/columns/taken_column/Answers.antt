use Rattle.std.proofs.Common.{Some, ap, sym, ◌∙◌, arith}
use Rattle.wh_value.specs.declared.column.Column.{Column}
use Rattle.wh_ddl_bind.proofs.ColumnLemmas.{taken_here, taken_later}
use Rattle.wh_ddl_bind.proofs.columns.taken_column.Goals as goal

pub returns-then-is_taken : goal.returns-then-is_taken
returns-then-is_taken c =
    ap Some (c.in_ok-copy.ensures ∙ ap (λ (x : Column). x.name) (sym c.index-columns-place.is))
    ∙ sym (taken_here c.args.columns.now c.loop-place.place c.index-columns-place.result c.is_taken.result
    (omega arith) c.index-columns-place.is c.is_taken.ensures c.if-is_taken.true)
    ∙ c.loop-place.invariant

pub loop-place-preserved : goal.loop-place-preserved
loop-place-preserved c =
    sym (taken_later c.args.columns.now c.loop-place.place c.index-columns-place.result c.is_taken.result
    (omega arith) c.index-columns-place.is c.is_taken.ensures c.if-is_taken.false)
    ∙ c.loop-place.invariant
