use Rattle.std.proofs.Common.{◌∙◌, sym, ap}
use Rattle.wh_naming.specs.Select.{Shown, shown_with, nothing_shown}
use Rattle.wh_expr_bind.specs.View.{entries_of}
use Rattle.wh_core_bind.proofs.Turns.{shown_turn}
use Rattle.wh_core_bind.proofs.items.all_shown.Goals as goal

pub loop-item-preserved : goal.loop-item-preserved
loop-item-preserved c =
    let entries = entries_of c.args.entries.now in
    c.in_ok-show.ensures
    ∙ ap (λ (s : Shown). shown_with entries s c.item-item.result) c.loop-item.invariant
    ∙ sym (shown_turn entries nothing_shown c.args.items.now c.loop-item.item-index c.item-item.result
    c.loop-item-test.true c.item-item.is)
