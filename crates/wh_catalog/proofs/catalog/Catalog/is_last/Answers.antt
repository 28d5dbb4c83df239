use Rattle.std.proofs.Common.{Some, nat_eq, sym, ap, ◌∙◌}
use Rattle.std.specs.Option.{option_eq}
use Rattle.wh_catalog.specs.Names.{names_of, last_id}
use Rattle.wh_catalog.proofs.Names.{named_at, is_last_as}
use Rattle.wh_catalog.proofs.catalog.Catalog.is_last.Goals as goal

pub returns : goal.returns
returns c =
    let names = names_of c.args.self.now.objects.items in
    let id = c.args.id in
    c.eq.ensures
    ∙ ap (λ found. option_eq nat_eq found (Some id))
    (c.last_of_name.ensures ∙ ap (λ name. last_id name names) c.as_bytes.ensures.value)
    ∙ sym (is_last_as names id c.index-object.result.now.name
    (named_at c.in-Some.ensures.found c.index-object.ensures))
