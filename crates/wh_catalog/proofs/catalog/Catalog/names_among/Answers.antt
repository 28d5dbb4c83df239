use Rattle.std.proofs.Common.{refl, map, ◌∷◌, []}
use Rattle.std.specs.Option.{option_map_or}
use Rattle.wh_naming.specs.View.{named_of}
use Rattle.wh_state.specs.State.{at_id}
use Rattle.wh_state.specs.Bound.{named_as, names_among}
use Rattle.wh_dynamic.specs.declared.query.NamedSource.{NamedSource}
use Rattle.wh_dynamic.specs.View.{source_of}
use Rattle.wh_version.proofs.Steps.{one_on}
use Rattle.wh_catalog.specs.Catalog.{objects_of}
use Rattle.wh_catalog.proofs.catalog.Catalog.names_among.Goals as goal

pub loop-source-preserved : goal.loop-source-preserved
loop-source-preserved c =
    let all = c.args.sources.now in
    let at = c.loop-source in
    let objects = objects_of c.args.self.now in
    one_on (λ (s : NamedSource). option_map_or (λ o. named_as (source_of s) o ∷ []) (at_id objects s.id) [])
    (λ ss. names_among objects (map source_of ss)) (λ s ss. refl) all at.source-index c.source-item.result
    (map named_of at.names.items) (map named_of c.add_name.new.names.items) (names_among objects (map source_of all))
    c.loop-source-test.true c.source-item.is c.in_ok-add_name.ensures at.invariant
