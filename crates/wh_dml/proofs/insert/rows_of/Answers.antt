use Rattle.std.proofs.Common.{◌∙◌, ◌++◌, ap, append-nil, Some, option_map}
use Rattle.std.proofs.lemmas.List.{drop_all}
use Rattle.wh_bound_change.specs.View as bound
use Rattle.wh_effect.specs.Effect.{rows_of}
use Rattle.wh_dml.proofs.insert.rows_of.Goals as goal

pub returns : goal.returns
returns c =
    let added = c.loop-parts.added.items in
    c.loop-parts.invariant
    ∙ ap (λ xs. option_map (λ rest. added ++ rest) (rows_of (bound.rows_of xs)))
    (drop_all c.loop-parts.parts-index c.args.rows.now c.loop-parts-test.false)
    ∙ ap Some (append-nil added)
