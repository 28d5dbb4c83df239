-- What the objects that a query is kept with are, one by one.
use Rattle.std.proofs.Common.{◌≡◌, List, map, sym, ◌∙◌}
use Rattle.std.specs.List.{list_all}
use Rattle.wh_state.specs.State.{at_id}
use Rattle.wh_state.specs.Stored as machine
use Rattle.wh_dynamic.specs.declared.query.NamedSource.{NamedSource}
use Rattle.wh_dynamic.specs.View.{source_of}
use Rattle.wh_catalog.specs.Conditions.{is_live_table}
use Rattle.wh_catalog.specs.DynamicConditions.{are_live_sources, agrees, has_one_id}
use Rattle.wh_table.proofs.Apart.{list_all-map}

pub each_lives : (objects : List machine.StoredObject) (sources : List NamedSource)
    → list_all (λ (s : NamedSource). is_live_table (at_id objects s.id)) sources
    ≡ are_live_sources objects (map source_of sources)
each_lives objects sources = sym (list_all-map _ source_of sources)

pub each_one : (all sources : List NamedSource)
    → list_all (λ s. list_all (λ other. agrees (source_of s) (source_of other)) all) sources
    ≡ list_all (has_one_id (map source_of all)) (map source_of sources)
each_one all sources =
    sym (list_all-map (has_one_id (map source_of all)) source_of sources
    ∙ (λ i. list_all (λ s. list_all-map (agrees (source_of s)) source_of all i) sources))
