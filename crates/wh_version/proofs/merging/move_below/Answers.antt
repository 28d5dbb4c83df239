use Rattle.std.proofs.Common.{◌∙◌, ◌++◌, ap, sym, append-nil}
use Rattle.wh_version.specs.RowEdits.{entries_in}
use Rattle.wh_version.proofs.merging.move_below.Goals as goal

pub returns-clause-merged : goal.returns-clause-merged
returns-clause-merged c =
    sym (append-nil _)
    ∙ ap (λ l. entries_in c.loop-edit.merged.items ++ l)
    (sym (c.next_below.ensures.none_below c.in_default.is))
    ∙ c.loop-edit.invariant.0
