use Rattle.std.proofs.Common.{[], ◌∷◌, Some, ◌∙◌}
use Rattle.wh_state.specs.Act.{DropsObject}
use Rattle.wh_catalog.specs.Catalog.{stored_of}
use Rattle.wh_decide.proofs.DefineLemmas.{drops_as}
use Rattle.wh_decide.proofs.definitions.drop_object.Goals as goal

pub returns : goal.returns
returns c =
    let sight = c.args.sight.now in
    c.tested.ensures (DropsObject c.args.id ∷ [])
    (c.in_ok-changes.ensures ∙ drops_as sight.stamp (stored_of sight.catalog.now).objects (Some c.args.id))
