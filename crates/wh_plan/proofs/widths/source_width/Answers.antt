use Rattle.std.proofs.Common.{sym, subst}
use Rattle.std.specs.Prelude.{IfSome}
use Rattle.wh_moves.specs.Widths.{IsWide}
use Rattle.wh_exec.specs.Source.{bag_in}
use Rattle.wh_plan.proofs.WidthLaws.{parts_found}
use Rattle.wh_plan.proofs.widths.source_width.Goals as goal

pub returns-in-Parts : goal.returns-in-Parts
returns-in-Parts c = subst (λ source. IfSome c.parts_width.result (λ width. IsWide width (bag_in source)))
    (sym c.in-Parts.is) (parts_found _ c.parts_width.result c.parts_width.ensures)

pub returns-in-Loaded : goal.returns-in-Loaded
returns-in-Loaded c = subst (λ source. IfSome c.loaded_width.result (λ width. IsWide width (bag_in source)))
    (sym c.in-Loaded.is) (parts_found _ c.loaded_width.result c.loaded_width.ensures)
