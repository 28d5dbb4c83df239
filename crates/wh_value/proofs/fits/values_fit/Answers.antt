use Rattle.std.proofs.Common.{◌∙◌, sym, map}
use Rattle.std.proofs.lemmas.List.{length-map}
use Rattle.wh_value.specs.View.{column_of, value_of}
use Rattle.wh_value.proofs.FitLemmas.{not_as_long}
use Rattle.wh_value.proofs.fits.values_fit.Goals as goal

pub returns-then-columns-values : goal.returns-then-columns-values
returns-then-columns-values c =
    let columns = c.args.columns.now in
    let values = c.args.values.now in
    sym (not_as_long (map column_of columns) (map value_of values)
    (λ e. c.if-columns-values.true (sym (length-map columns column_of) ∙ e ∙ length-map values value_of)))
