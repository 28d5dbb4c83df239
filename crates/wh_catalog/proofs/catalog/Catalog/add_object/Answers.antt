use Rattle.std.proofs.Common.{◌≡◌, ◌+◌, ◌∙◌, ap, sym, subst, map, List, ◌++◌, ◌∷◌, []}
use Rattle.std.proofs.Common.{length, ◌≤◌, Some, cond, bytes_eq, arith}
use Rattle.std.specs.Prelude.{count_by}
use Rattle.wh_value.specs.Limit.{bound}
use Rattle.wh_value.specs.declared.limit.Limit.TheVariants as limits
use Rattle.std.proofs.lemmas.List.{length-map, map-append}
use Rattle.wh_catalog.specs.declared.object.StoredObject.{StoredObject}
use Rattle.wh_catalog.specs.Names.{last_id, names_of, AreLast, id_at}
use Rattle.wh_catalog.specs.Undoable.{object_in}
use Rattle.wh_catalog.specs.Object.{kept_object, filed_of_objects}
use Rattle.wh_catalog.specs.Catalog.{kept_of}
use Rattle.wh_catalog.proofs.Dropped.{one_more}
use Rattle.wh_catalog.proofs.FiledLaws.{filed_with}
use Rattle.wh_catalog.proofs.Index.{indexed_more}
use Rattle.wh_catalog.proofs.LiveNames.{last_more}
use Rattle.wh_catalog.proofs.catalog.Catalog.add_object.Goals as goal

pub returns-in-Ok-clause-changed : goal.returns-in-Ok-clause-changed
unfolding kept_of
returns-in-Ok-clause-changed c =
    let before = c.args.self.now.objects.items in
    let object = c.args.object in
    ap (λ l. map object_in (map kept_object l))
    (c.push_reserved.ensures.items ∙ ap (λ l. l ++ object ∷ []) c.reserve.ensures.items)
    ∙ ap (map object_in) (map-append kept_object before (object ∷ []))
    ∙ map-append object_in (map kept_object before) (kept_object object ∷ [])

pub returns-in-Ok-clause-filed : goal.returns-in-Ok-clause-filed
unfolding kept_of
returns-in-Ok-clause-filed c =
    ap filed_of_objects (c.push_reserved.ensures.items ∙ ap (λ l. l ++ c.args.object ∷ []) c.reserve.ensures.items)
    ∙ filed_with c.args.self.now.objects.items c.args.object c.requires.nothing

pub invariant_of-self-in-Ok-clause-named : goal.invariant_of-self-in-Ok-clause-named
unfolding kept_of
invariant_of-self-in-Ok-clause-named c =
    let self = c.args.self.now in
    let before = self.objects.items in
    let object = c.args.object in
    let names : names_of c.push_reserved.new.self.items ≡ names_of before ++ object.name ∷ [] =
    ap names_of (c.push_reserved.ensures.items ∙ ap (λ l. l ++ object ∷ []) c.reserve.ensures.items)
    ∙ map-append (λ (o : StoredObject). o.name) before (object ∷ []) in
    let id : c.args.id ≡ length (names_of before) + 1 =
    omega (
      arith,
      c.requires.new.next_id,
      length-map (map kept_object before) object_in,
      length-map before kept_object,
      length-map before (λ (o : StoredObject). o.name),
    ) in
    λ other.
    indexed_more self.names c.give_id.new.names object.name (names_of before) c.args.id id self.named
    (λ n. c.in-Ok.ensures.given n
    ∙ ap (λ b. cond (bytes_eq b n) (Some c.args.id) (id_at self.names n)) c.as_bytes.ensures.value) other
    ∙ ap (last_id other) (sym names)

pub invariant_of-self-in-Ok-clause-unique : goal.invariant_of-self-in-Ok-clause-unique
unfolding kept_of
invariant_of-self-in-Ok-clause-unique c =
    let self = c.args.self.now in
    let object = c.args.object in
    subst AreLast (sym (c.push_reserved.ensures.items ∙ ap (λ l. l ++ object ∷ []) c.reserve.ensures.items))
    (last_more self.objects.items object self.unique c.requires.new.free)

pub invariant_of-self-in-Ok-clause-live : goal.invariant_of-self-in-Ok-clause-live
unfolding kept_of
invariant_of-self-in-Ok-clause-live c =
    let before = c.args.self.now.objects.items in
    let object = c.args.object in
    subst (λ (l : List StoredObject). count_by (λ (o : StoredObject). o.is_live) l ≤ bound limits.Objects)
    (sym (c.push_reserved.ensures.items ∙ ap (λ l. l ++ object ∷ []) c.reserve.ensures.items))
    (one_more before object (bound limits.Objects) c.requires.new.few)
