use Rattle.std.proofs.Common.{sym}
use Rattle.std.proofs.lemmas.List.{length-map}
use Rattle.wh_scalar.specs.View.{scalar_of}
use Rattle.wh_plan.proofs.WidthLaws.{has_project}
use Rattle.wh_plan.proofs.widths.projected.Goals as goal

pub returns : goal.returns
returns c = has_project _ _ _ _ (sym (length-map c.args.items.now scalar_of))
