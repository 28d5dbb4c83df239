use Rattle.std.proofs.Common.{◌≡◌, inl, inr, List, Option, Some, None, Contains, refl, sym, ap, subst, ◌∙◌}
use Rattle.std.specs.FinMap.{values}
use Rattle.wh_meaning.specs.Bag.{Bag, bag_of}
use Rattle.std.specs.List.{AllByRecursion}
use Rattle.wh_filed.specs.Filed.{Filed, filed_at}
use Rattle.wh_state.specs.State.{Rows, rows_at, last_rows}
use Rattle.wh_state.specs.Act.{edited_table}
use Rattle.wh_state.specs.Stored.{table_meant}
use Rattle.wh_state.specs.Edits.{Edits}
use Rattle.wh_state.specs.Moments.{bag_at}
use Rattle.wh_machine.specs.Brought.{after_all, edits_sought}
use Rattle.wh_version.proofs.Among.{each_held}
use Rattle.wh_table.specs.Table.{table_of, filed_of}
use Rattle.wh_refresh.specs.Brought.{IsRowsOf}
use Rattle.wh_refresh.specs.Objects.{objects_in, stored_in, filed_at_objects, filed_at_id}
use Rattle.wh_refresh.specs.Sources.{bag_held, IsPartOf}
use Rattle.wh_refresh.proofs.MovesLaws.{stands_none, stands_alone}
use Rattle.wh_refresh.proofs.PartLaws.{part_none, part_alone, part_front}
use Rattle.wh_refresh.proofs.RefreshLemmas.{source_none, source_old, source_new, same_next, none_there}
use Rattle.wh_refresh.proofs.SourceLemmas.{held_none, held_alone, held_beside}
use Rattle.wh_refresh.proofs.sources.source_held.Goals as goal

pub returns-in_default-clause-held : goal.returns-in_default-clause-held
returns-in_default-clause-held c stamp bs are above =
    held_none _ c.new.ensures.items
    ∙ sym (source_none stamp c.args.moment bs (objects_in c.args.objects.now) above c.args.id
    (sym c.in_default.ensures.meant))

pub returns-in_ok-filed-in-Some-new_rows_of-clause-held : goal.returns-in_ok-filed-in-Some-new_rows_of-clause-held
returns-in_ok-filed-in-Some-new_rows_of-clause-held c stamp bs are above =
    let moment = c.args.moment in
    let id = c.args.id in
    let stored = stored_in c.args.objects.now in
    let objects = objects_in c.args.objects.now in
    let t = table_meant (table_of c.in-Some.table.now) in
    let bag : Bag = bag_at (after_all stamp moment bs objects) moment id in
    let new = c.in-Some-new_rows_of.rows.now in
    let by_edits : (edits : Option Edits) → edits_sought id bs ≡ edits → IsRowsOf stored id (Some new) edits
    → bag_held (record { filed = c.in_ok-filed-in-Some-new_rows_of.filed; made = c.added-made.result }) ≡ bag =
    elim [
      | None ↦ λ same is. absurd is
      | Some e ↦ λ same is.
          held_beside _ new.edited.added.items _ (last_rows (edited_table stamp stamp e t)) c.added-made.ensures
          (c.in_ok-filed-in-Some-new_rows_of.ensures.holds stamp e
          (is.edited (table_of c.in-Some.table.now) (sym c.in-Some.ensures.stored)))
          ∙ sym (source_new stamp moment bs objects above id e t same (sym c.in-Some.ensures.meant)
          ∙ ap (λ (rows : Rows). bag_of (values rows)) (same_next stamp moment stamp e t))
    ] in
    by_edits (edits_sought id bs) refl (c.in-Some-new_rows_of.ensures.rows stored bs are)

pub returns-in_ok-filed-in-None-clause-held : goal.returns-in_ok-filed-in-None-clause-held
returns-in_ok-filed-in-None-clause-held c stamp bs are above =
    let moment = c.args.moment in
    let objects = objects_in c.args.objects.now in
    let t = table_meant (table_of c.in-Some.table.now) in
    held_alone _ (rows_at t moment) c.in_ok-filed-in-None.ensures.holds
    ∙ sym (source_old stamp moment bs objects above c.args.id t
    (none_there (stored_in c.args.objects.now) c.args.id (edits_sought c.args.id bs)
    (c.in-None.ensures.rows (stored_in c.args.objects.now) bs are)) (sym c.in-Some.ensures.meant))

-- ---- among the partitions of the objects

pub returns-in_ok-filed-in-Some-new_rows_of-clause-among : goal.returns-in_ok-filed-in-Some-new_rows_of-clause-among
returns-in_ok-filed-in-Some-new_rows_of-clause-among c =
    each_held (Contains (filed_at_objects c.args.objects.now))
    (filed_at c.in_ok-filed-in-Some-new_rows_of.filed.items) (filed_of c.in-Some.table.now)
    c.in_ok-filed-in-Some-new_rows_of.ensures.among c.in-Some.ensures.among

pub returns-in_ok-filed-in-None-clause-among : goal.returns-in_ok-filed-in-None-clause-among
returns-in_ok-filed-in-None-clause-among c =
    each_held (Contains (filed_at_objects c.args.objects.now)) (filed_at c.in_ok-filed-in-None.filed.items)
    (filed_of c.in-Some.table.now) c.in_ok-filed-in-None.ensures.among c.in-Some.ensures.among

-- ---- parts of those that its table has

pub returns-in_default-clause-part : goal.returns-in_default-clause-part
returns-in_default-clause-part c bs are =
    part_none (filed_at_id c.args.objects.now c.args.id) _ c.new.ensures.items

pub returns-in_ok-filed-in-Some-new_rows_of-clause-part : goal.returns-in_ok-filed-in-Some-new_rows_of-clause-part
returns-in_ok-filed-in-Some-new_rows_of-clause-part c bs are =
    let id = c.args.id in
    let stored = stored_in c.args.objects.now in
    let all = filed_at_id c.args.objects.now id in
    let filed = c.in_ok-filed-in-Some-new_rows_of.filed.items in
    let new = c.in-Some-new_rows_of.rows.now in
    let by_edits : (edits : Option Edits) → IsRowsOf stored id (Some new) edits → IsPartOf all (filed_at filed) =
    elim [
      | None ↦ λ is. absurd is
      | Some e ↦ λ is.
          part_front (filed_of c.in-Some.table.now) all filed new.edited.added.items _ c.in-Some.ensures.filed
          c.in_ok-filed-in-Some-new_rows_of.ensures.among (c.in_ok-filed-in-Some-new_rows_of.ensures.holds 0 e
          (is.edited (table_of c.in-Some.table.now) (sym c.in-Some.ensures.stored)))
    ] in
    by_edits (edits_sought id bs) (c.in-Some-new_rows_of.ensures.rows stored bs are)

pub returns-in_ok-filed-in-None-clause-part : goal.returns-in_ok-filed-in-None-clause-part
returns-in_ok-filed-in-None-clause-part c bs are =
    part_alone (filed_of c.in-Some.table.now) (filed_at_id c.args.objects.now c.args.id)
    c.in_ok-filed-in-None.filed.items _ c.in-Some.ensures.filed c.in_ok-filed-in-None.ensures.among
    c.in_ok-filed-in-None.ensures.holds

-- ---- as a version of the table

pub returns-in_default-clause-stands : goal.returns-in_default-clause-stands
returns-in_default-clause-stands c =
    inr (stands_none c.args.objects.now c.args.id c.args.moment _ c.in_default.ensures.stored c.new.ensures.items)

pub returns-in_ok-filed-in-Some-new_rows_of-clause-stands : goal.returns-in_ok-filed-in-Some-new_rows_of-clause-stands
returns-in_ok-filed-in-Some-new_rows_of-clause-stands c = inl (record {
  among = c.in-Some-new_rows_of.ensures.among;
  filed = subst (λ (fs : List Filed). AllByRecursion (Contains fs) (filed_at c.in_ok-filed-in-Some-new_rows_of.filed.items))
      c.in-Some.ensures.filed c.in_ok-filed-in-Some-new_rows_of.ensures.among;
})

pub returns-in_ok-filed-in-None-clause-stands : goal.returns-in_ok-filed-in-None-clause-stands
returns-in_ok-filed-in-None-clause-stands c =
    inr (stands_alone c.args.objects.now c.args.id c.args.moment c.in-Some.table.now _ c.in-Some.ensures.stored
    c.in-Some.ensures.filed c.in_ok-filed-in-None.ensures.among c.in_ok-filed-in-None.ensures.holds
    c.in_ok-filed-in-None.ensures.stand)
