use Rattle.std.proofs.Common.{◌∙◌, ◌≡◌, length, map, sym}
use Rattle.std.proofs.lemmas.List.{length-map}
use Rattle.wh_value.specs.View.{column_of}
use Rattle.wh_part.proofs.ExtentLaws.{uneven_fit}
use Rattle.wh_part.proofs.outline.types_fit.Goals as goal

pub returns-then-columns-types : goal.returns-then-columns-types
returns-then-columns-types c =
    sym (uneven_fit (map column_of c.args.columns.now) c.args.types.now
    (λ same. c.if-columns-types.true (sym (length-map c.args.columns.now column_of) ∙ same)))
