use Rattle.std.proofs.Common.{◌∙◌, ap, map}
use Rattle.wh_frame.specs.Partition.{Partition}
use Rattle.wh_value.specs.View.{column_of}
use Rattle.wh_part.specs.Outline.{types_fit, rows_fit}
use Rattle.wh_part.proofs.ExtentLaws.{fits_is}
use Rattle.wh_part.proofs.outline.Outline.fits.Goals as goal

pub returns : goal.returns
returns c =
    let is = c.self.invariant in
    let columns = map column_of c.args.columns.now in
    c.types_fit.ensures ∙ ap (types_fit columns) (c.deref.ensures.value ∙ is.found)
    ∙ fits_is columns c.self.inside.contents.partition.rows is.some is.even
    ∙ ap (λ (p : Partition). rows_fit columns p.rows) c.self.view_is
