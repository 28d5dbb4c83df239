use Rattle.std.proofs.Common.{◌-◌, ◌∙◌, length, ap, sym, subst, arith, [], ◌∷◌}
use Rattle.wh_frame.specs.Partition.{last_number}
use Rattle.wh_part.proofs.RowNumbers.{last_at}
use Rattle.wh_change.specs.Seen.{IsBound}
use Rattle.wh_change.proofs.SeenRows.{bound_last}
use Rattle.wh_change.proofs.seen.bound_of.Goals as goal

pub returns : goal.returns
returns c =
    let p = c.args.partition.now in
    let rows = c.rows-rows.result.now in
    subst (λ n. IsBound n (p ∷ []))
    (sym (last_at rows (length rows - 1) c.index-rows-rows.result (omega (arith, c.rows-rows.ensures.some))
    ∙ ap last_number c.rows-rows.ensures.rows))
    (bound_last p c.rows-rows.ensures.rising)
