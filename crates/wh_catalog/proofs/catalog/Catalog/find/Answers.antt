use Rattle.std.proofs.Common.{◌≡◌, ℕ, ◌-◌, ◌<◌, ◌≤◌, List, length, Some, sym, ◌∙◌, arith}
use Rattle.std.proofs.lemmas.List.{length-map}
use Rattle.wh_catalog.specs.declared.catalog.Catalog.{Catalog}
use Rattle.wh_catalog.specs.declared.object.StoredObject.{StoredObject}
use Rattle.wh_catalog.specs.Catalog.{stored_of, kept_of}
use Rattle.wh_catalog.specs.Names.{last_id, names_of}
use Rattle.wh_catalog.proofs.Names.{id_within}
use Rattle.wh_catalog.proofs.LiveNames.{found_none, found_at}
use Rattle.wh_catalog.proofs.catalog.Catalog.find.Goals as goal

within : (c : Catalog) (name : List ℕ) (id : ℕ) → last_id name (names_of c.objects.items) ≡ Some id
    → (1 ≤ id) × (id - 1 < length c.objects.items)
within c name id some =
    let there = id_within name (names_of c.objects.items) id some in
    let count = length-map c.objects.items (λ (o : StoredObject). o.name) in
    (omega arith, omega arith)

pub returns-in_err-id : goal.returns-in_err-id
unfolding stored_of kept_of
returns-in_err-id c =
    let self = c.args.self.now in
    c.from_residual.ensures
    ∙ sym (found_none c.args.name.now self.objects.items self.unique (sym c.last_of_name.ensures ∙ c.in_err-id.was))

pub overflow_sub-id : goal.overflow_sub-id
overflow_sub-id c =
    (within c.args.self.now c.args.name.now c.in_ok-id.id (sym c.last_of_name.ensures ∙ c.in_ok-id.was)).0

pub index-object-requires : goal.index-object-requires
index-object-requires c =
    let self = c.args.self.now in
    let there = within self c.args.name.now c.in_ok-id.id (sym c.last_of_name.ensures ∙ c.in_ok-id.was) in
    let sized = self.objects.ok.0 in
    omega arith

pub returns : goal.returns
unfolding stored_of kept_of
returns c =
    let self = c.args.self.now in
    let name = c.args.name.now in
    let id = c.in_ok-id.id in
    let some : last_id name (names_of self.objects.items) ≡ Some id = sym c.last_of_name.ensures ∙ c.in_ok-id.was in
    let there = within self name id some in
    c.then_some.ensures ∙ sym (found_at name self.objects.items self.unique id c.index-object.result.now some there.1
    there.0 c.index-object.ensures)
