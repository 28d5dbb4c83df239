use Rattle.std.proofs.Common.{◌≡◌, List, [], Option, ap, sym, subst}
use Rattle.std.specs.Option.{IfSome, option_map_or}
use denote.Ref.{Bor}
use Rattle.wh_filed.specs.Filed.{Filed}
use Rattle.wh_catalog.specs.Undoable.{KeptKind}
use Rattle.wh_catalog.specs.declared.object.StoredObject.{StoredObject}
use Rattle.wh_catalog.specs.Object.{filed_in_kind}
use Rattle.wh_table.specs.Table as tables
use Rattle.wh_table.specs.declared.table.StoredTable.{StoredTable}
use Rattle.wh_refresh.specs.Objects.{filed_one, filed_at_objects, filed_at_id}
use Rattle.wh_refresh.proofs.ObjectLemmas.{found_held, table_held}
use Rattle.wh_refresh.proofs.objects.table_at.Goals as goal

pub returns-clause-among : goal.returns-clause-among
returns-clause-among c =
    let objects = c.args.objects.now in
    let object = c.in_ok-object.object in
    table_held c.table.result (filed_one object) (filed_at_objects objects)
    (subst (λ (k : KeptKind). IfSome c.table.result (λ (t : Bor StoredTable). tables.filed_of t.now ≡ filed_in_kind k))
    c.kind.ensures c.table.ensures.filed)
    (found_held objects c.args.id object c.in_ok-object.ensures)

pub returns-clause-filed : goal.returns-clause-filed
returns-clause-filed c =
    let object = c.in_ok-object.object in
    let here : filed_at_id c.args.objects.now c.args.id ≡ filed_one object =
    ap (λ (found : Option (Bor StoredObject)). option_map_or filed_one found []) (sym c.in_ok-object.ensures) in
    subst (λ (fs : List Filed). IfSome c.table.result (λ (t : Bor StoredTable). tables.filed_of t.now ≡ fs)) (sym here)
    (subst (λ (k : KeptKind). IfSome c.table.result (λ (t : Bor StoredTable). tables.filed_of t.now ≡ filed_in_kind k))
    c.kind.ensures c.table.ensures.filed)
