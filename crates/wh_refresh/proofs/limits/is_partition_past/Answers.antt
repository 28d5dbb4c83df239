use Rattle.std.proofs.Common.{◌≡◌, ◌+◌, List, Option, Some, None, length, false, refl, subst, sym, ap, ◌∙◌}
use Rattle.std.specs.Prelude.{nat_lt}
use Rattle.std.specs.Option.{option_map_or}
use Rattle.wh_frame.specs.Partition.{Partition}
use Rattle.wh_value.specs.Limit.{bound}
use Rattle.wh_value.specs.declared.limit.Limit.TheVariants as limits
use Rattle.wh_state.specs.State.{Table}
use Rattle.wh_state.specs.Edits.{Edits, partitions_made}
use Rattle.wh_state.specs.Act.{table_partitions_made}
use Rattle.wh_state.specs.Stored.{table_meant}
use Rattle.wh_state.specs.Objects.{table_at}
use Rattle.wh_state.proofs.MeaningLaws.{last_partitions_meant}
use Rattle.wh_machine.specs.Refresh.{is_partition_past}
use Rattle.wh_table.specs.Table.{table_of}
use Rattle.wh_refresh.specs.Objects.{objects_in, stored_in}
use Rattle.wh_refresh.specs.Brought.{IsRowsOf}
use Rattle.wh_refresh.specs.declared.brought.NewRows.{NewRows}
use Rattle.wh_refresh.proofs.limits.is_partition_past.Goals as goal

pub returns-in-Some-table_at : goal.returns-in-Some-table_at
returns-in-Some-table_at c b is =
    let stored = stored_in c.args.objects.now in
    let objects = objects_in c.args.objects.now in
    let t = table_of c.in-Some-table_at.table.now in
    let by_edits : (edits : Option Edits) → b.edits ≡ edits → IsRowsOf stored c.args.one.now.id
    (Some c.in-Some.rows) edits
    → nat_lt c.bound.result (c.next_partition.result + length c.added.result.now) ≡ is_partition_past objects b =
    elim [
      | None ↦ λ same new. absurd new
      | Some e ↦ λ same new.
          let added : List Partition = c.in-Some.rows.edited.added.items in
          let made : length c.added.result.now ≡ length (table_partitions_made e (table_meant t)) =
          ap length (c.added.ensures ∙ (new.edited t (sym c.in-Some-table_at.ensures.stored)).added
          ∙ ap (partitions_made t.next_partition t.next_row e) (sym (last_partitions_meant t))) in
          (λ i. nat_lt (c.bound.ensures i) (c.next_partition.ensures.number i + made i))
          ∙ ap (λ (found : Option Table). option_map_or (λ t. nat_lt (bound limits.PartitionNumber)
          (t.next_partition + length (table_partitions_made e t))) found false)
          (c.in-Some-table_at.ensures.meant ∙ ap (table_at objects) (sym is.id))
          ∙ ap (λ (edits : Option Edits). is_partition_past objects (record b { edits = edits })) (sym same)
    ] in
    by_edits b.edits refl (subst (λ (rows : Option NewRows). IsRowsOf stored c.args.one.now.id rows b.edits)
    c.in-Some.is is.rows)
