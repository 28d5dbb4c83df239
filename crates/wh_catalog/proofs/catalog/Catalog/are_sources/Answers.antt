use Rattle.std.proofs.Common.{map, ap, sym, ◌∙◌}
use Rattle.std.specs.Prelude.{◌&&◌}
use Rattle.std.specs.List.{list_all}
use Rattle.wh_dynamic.specs.View.{source_of}
use Rattle.wh_catalog.specs.Catalog.{objects_of}
use Rattle.wh_catalog.specs.DynamicConditions.{has_one_id}
use Rattle.wh_catalog.proofs.Sources.{each_lives, each_one}
use Rattle.wh_catalog.proofs.catalog.Catalog.are_sources.Goals as goal

pub returns-then-are_live_sources : goal.returns-then-are_live_sources
returns-then-are_live_sources c =
    let sources = c.args.sources.now in
    c.have_one_id.ensures ∙ each_one sources sources
    ∙ ap (λ b. b && list_all (has_one_id (map source_of sources)) (map source_of sources))
    (sym c.if-are_live_sources.true ∙ c.are_live_sources.ensures ∙ each_lives (objects_of c.args.self.now) sources)

pub returns-else-are_live_sources : goal.returns-else-are_live_sources
returns-else-are_live_sources c =
    let sources = c.args.sources.now in
    c.if-are_live_sources.false
    ∙ ap (λ b. b && list_all (has_one_id (map source_of sources)) (map source_of sources))
    (sym c.if-are_live_sources.false ∙ c.are_live_sources.ensures ∙ each_lives (objects_of c.args.self.now) sources)
