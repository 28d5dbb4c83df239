use Rattle.std.proofs.Common.{◌∙◌}
use Rattle.wh_machine.specs.Brought.{edits_sought}
use Rattle.wh_refresh.proofs.RefreshLemmas.{same_there}
use Rattle.wh_refresh.proofs.moving.is_brought.Goals as goal

pub returns : goal.returns
returns c stored bs are =
    c.is_some.ensures
    ∙ same_there stored c.args.id c.new_rows_of.result (edits_sought c.args.id bs) (c.new_rows_of.ensures.rows stored bs are)
