use Rattle.std.proofs.Common.{true, false, ◌≡◌, ◌+◌, ◌<◌, ◌++◌, length, map, Some, None, Err, sym, ap, ◌∙◌, arith}
use Rattle.std.proofs.lemmas.Bool.Decides.{nat_tests}
use Rattle.std.proofs.lemmas.Result.{IfOk-from_err}
use Rattle.wh_value.specs.declared.limit.Limit.TheVariants as limits
use Rattle.wh_record.specs.View.{change_of}
use Rattle.wh_machine.specs.Offsets.{offset_moves}
use Rattle.wh_catalog.specs.Catalog.{stored_of, state_of}
use Rattle.wh_machine.specs.Transaction.{touched, first_past, row_past, partition_past}
use Rattle.wh_txn.specs.declared.fault.RecordFault.{RecordFault}
use Rattle.wh_txn.specs.Recording.{touched_at, versions_for, offsets_written}
use Rattle.wh_txn.proofs.ReadLemmas.{read_all}
use Rattle.wh_txn.proofs.RecordLemmas.{row_first, partition_first, idle_within, idle_size}
use Rattle.wh_txn.proofs.CommitLemmas.{none_written, some_written}
use Rattle.wh_txn.proofs.recording.commit.Goals as goal

pub returns-then-is_idle-clause-gives : goal.returns-then-is_idle-clause-gives
returns-then-is_idle-clause-gives g c = λ shown t parts.
    let size = idle_size parts _ _ true c.deref.ensures.value c.is_idle.ensures c.if-is_idle.true in
    let none : length (touched t) + length t.streams ≡ 0 = grind (arith, nat_tests, size) in
    record {
      made = none_written (stored_of c.args.catalog.now) c.args.stamp (state_of c.args.catalog.now).objects t none;
      within = idle_within (state_of c.args.catalog.now).objects t none;
      limit = λ id which is. absurd cc;
    }

pub returns-in-Some-clause-gives : goal.returns-in-Some-clause-gives
returns-in-Some-clause-gives g c = λ shown t parts.
    let objects = (state_of c.args.catalog.now).objects in
    let at = ap touched_at c.deref-2.ensures.value ∙ parts.touched_is in
    record {
      made = tt;
      within = tt;
      limit = λ id which is.
          let found : Some (c.in-Some.id, limits.RowNumber) ≡ Some (id, which) = cc in
          row_first objects t c.in-Some.id
          (sym (c.in-Some.ensures ∙ ap (first_past (row_past objects) limits.RowNumber) at)) ∙ found;
    }

pub returns-in_err-changes-clause-gives : goal.returns-in_err-changes-clause-gives
returns-in_err-changes-clause-gives g c = λ shown t parts.
    let objects = (state_of c.args.catalog.now).objects in
    let at = ap touched_at c.deref-2.ensures.value ∙ parts.touched_is in
    record {
      made = IfOk-from_err c.from_residual.result _ c.from_residual.ensures.0;
      within = IfOk-from_err c.from_residual.result _ c.from_residual.ensures.0;
      limit = λ id which is.
          let same = rw is at c.from_residual.ensures.1 in
          partition_first objects t (Some (id, which))
          (sym (c.in_default.ensures ∙ ap (first_past (row_past objects) limits.RowNumber) at))
          (ap (first_past (partition_past objects) limits.PartitionNumber) (sym parts.touched_is)
          ∙ (c.in_err-changes.ensures.gives shown).limit id which
          (ap (λ (fault : RecordFault). Err fault) (sym same)));
    }

pub returns-clause-gives : goal.returns-clause-gives
returns-clause-gives g c = λ shown t parts.
    let stored = stored_of c.args.catalog.now in
    let objects = (state_of c.args.catalog.now).objects in
    let at = ap touched_at c.deref-2.ensures.value ∙ parts.touched_is in
    let size = idle_size parts _ _ false c.deref.ensures.value c.is_idle.ensures c.if-is_idle.false in
    let some : 0 < length (touched t) + length t.streams = grind (arith, nat_tests, size) in
    let given = c.in_ok-changes.ensures.gives shown in
    let versions = given.made ∙ ap (versions_for c.args.stamp stored.objects) parts.touched_is in
    record {
      made = some_written stored c.args.stamp objects t (map change_of c.add_offsets.new.changes.items) some
          (c.in_ok-add_offsets.ensures
          ∙ (λ i. versions i ++ offsets_written (offset_moves objects (parts.start_is i) (parts.streams_are i))));
      within = partition_first objects t None
          (sym (c.in_default.ensures ∙ ap (first_past (row_past objects) limits.RowNumber) at))
          (ap (first_past (partition_past objects) limits.PartitionNumber) (sym parts.touched_is) ∙ given.within);
      limit = λ id which is. absurd cc;
    }

pub returns-clause-read : goal.returns-clause-read
returns-clause-read g c =
    read_all _ c.add_offsets.new.changes.items
    (offset_moves (state_of c.args.catalog.now).objects c.args.start c.args.streams.now)
    c.in_ok-add_offsets.ensures c.in_ok-changes.ensures.read
