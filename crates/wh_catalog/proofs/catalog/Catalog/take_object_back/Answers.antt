use Rattle.std.proofs.Common.{◌≡◌, List, [], ◌∷◌, ◌++◌, is_some, cond, bytes_eq, ap, subst, ◌∙◌}
use Rattle.std.proofs.lemmas.List.{map-append}
use Rattle.wh_catalog.specs.declared.object.StoredObject.{StoredObject}
use Rattle.wh_catalog.specs.Names.{last_id, names_of, AreLast, id_at}
use Rattle.wh_catalog.proofs.Index.{own_id, indexed_fewer}
use Rattle.wh_catalog.proofs.Names.{last_fewer}
use Rattle.wh_catalog.proofs.catalog.Catalog.take_object_back.Goals as goal

pub change_id-requires : goal.change_id-requires
change_id-requires c =
    let self = c.args.self.now in
    let left = c.pop.new.self.items in
    let object = c.in-Some.object in
    let names : names_of self.objects.items ≡ names_of left ++ object.name ∷ [] =
    ap names_of c.in-Some.ensures.items ∙ map-append (λ (o : StoredObject). o.name) left (object ∷ []) in
    ap is_some (ap (id_at self.names) c.as_bytes-name.ensures.value ∙ self.named object.name
    ∙ ap (last_id object.name) names ∙ own_id object.name (names_of left))

pub invariant_of-self-clause-named : goal.invariant_of-self-clause-named
invariant_of-self-clause-named c =
    let self = c.args.self.now in
    let left = c.pop.new.self.items in
    let object = c.in-Some.object in
    let bytes = c.as_bytes-name.ensures.value in
    let names : names_of self.objects.items ≡ names_of left ++ object.name ∷ [] =
    ap names_of c.in-Some.ensures.items ∙ map-append (λ (o : StoredObject). o.name) left (object ∷ []) in
    indexed_fewer self.names c.change_id.new.names object.name (names_of left)
    (λ other. self.named other ∙ ap (last_id other) names)
    (λ other. c.change_id.ensures other
    ∙ ap (λ id. cond (bytes_eq c.as_bytes-name.result.now other) id (id_at self.names other)) (c.last_id-id.ensures
    ∙ ap (λ (l : List StoredObject). last_id c.as_bytes-name.result.now (names_of l)) c.deref.ensures.value)
    ∙ ap (λ name. cond (bytes_eq name other) (last_id name (names_of left)) (id_at self.names other)) bytes)

pub invariant_of-self-clause-unique : goal.invariant_of-self-clause-unique
invariant_of-self-clause-unique c =
    last_fewer c.pop.new.self.items c.in-Some.object (subst AreLast c.in-Some.ensures.items c.args.self.now.unique)
