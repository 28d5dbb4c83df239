use Rattle.std.proofs.Common.{◌∙◌, ◌++◌, ap, append-nil, Some, option_map}
use Rattle.std.proofs.lemmas.List.{drop_all}
use Rattle.wh_algebra.specs.View.{scalars_of}
use Rattle.wh_effect.specs.Effect.{rows_over}
use Rattle.wh_dml.proofs.insert.new_rows_over.Goals as goal

pub returns : goal.returns
returns c =
    let added = c.loop-old.added.items in
    c.loop-old.invariant
    ∙ ap (λ xs. option_map (λ rest. added ++ rest) (rows_over (scalars_of c.args.parts.now) xs))
    (drop_all c.loop-old.old-index c.args.source.now c.loop-old-test.false)
    ∙ ap Some (append-nil added)
