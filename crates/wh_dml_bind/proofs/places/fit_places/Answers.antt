use Rattle.std.proofs.Common.{◌∙◌, sym, map, option_map}
use Rattle.std.proofs.lemmas.List.{length-map}
use Rattle.wh_expr_bind.specs.View.{place_of, type_of_option}
use Rattle.wh_dml_bind.specs.View.{places_of}
use Rattle.wh_dml_bind.proofs.PlaceLemmas.{not_as_many}
use Rattle.wh_dml_bind.proofs.places.fit_places.Goals as goal

pub returns-then-places-types : goal.returns-then-places-types
returns-then-places-types c =
    let places = c.args.places.now in
    let types = c.args.types.now in
    sym (not_as_many (places_of places) (map type_of_option types) (λ e. c.if-places-types.true
    (sym (length-map places (option_map place_of)) ∙ e ∙ length-map types type_of_option)))
