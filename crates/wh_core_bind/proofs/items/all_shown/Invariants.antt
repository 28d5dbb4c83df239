use Rattle.std.proofs.Common.{◌≡◌, take}
use Rattle.wh_naming.specs.Select.{all_shown, nothing_shown}
use Rattle.wh_expr_bind.specs.View.{entries_of}
use Rattle.wh_core_bind.specs.View.{shown_in}
use Rattle.wh_core_bind.proofs.items.all_shown.Given as goal

abbrev pub invariant-loop-item : goal.invariant-loop-item
invariant-loop-item l = shown_in l.shown ≡ all_shown (entries_of l.entries) nothing_shown (take l.item-index l.items)
