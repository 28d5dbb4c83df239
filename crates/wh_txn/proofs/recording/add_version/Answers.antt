use Rattle.std.proofs.Common.{◌+◌, ◌≤◌, length, is_some, ap, sym, ◌∙◌, arith}
use Rattle.wh_value.specs.Limit.{bound}
use Rattle.wh_value.specs.declared.limit.Limit.TheVariants as limits
use Rattle.wh_fetch.specs.DiskFetch.{told_of, Covers}
use Rattle.wh_filed.proofs.FetchingLaws.{all_covered}
use Rattle.wh_table.specs.Table.{table_of, filed_of}
use Rattle.wh_catalog.specs.Catalog.{stored_of}
use Rattle.wh_txn.specs.Recording.{touched_in}
use Rattle.wh_txn.proofs.ReadLemmas.{read_more}
use Rattle.wh_txn.proofs.RecordLemmas.{none_added, version_added, missing_within, rows_within, partitions_within}
use Rattle.wh_txn.proofs.RecordLemmas.{partitions_past}
use Rattle.wh_txn.proofs.ShownLemmas.{shown_among}
use Rattle.wh_txn.proofs.recording.add_version.Goals as goal

pub returns-in_default-clause-adds : goal.returns-in_default-clause-adds
returns-in_default-clause-adds g c = λ shown. record {
  made = none_added c.args.stamp (stored_of c.args.catalog.now).objects c.args.one.id (touched_in c.args.one).1
      c.args.changes.now.items (sym c.in_default.ensures.table);
  within = missing_within c.args.catalog.now c.args.one.id (touched_in c.args.one).1 (sym c.in_default.ensures.table);
  limit = λ id which is. absurd cc;
}

pub rewrite-requires : goal.rewrite-requires
rewrite-requires g c = record {
  rows = rows_within c.args.catalog.now c.args.one.id (touched_in c.args.one).1 (table_of c.in-Some.table.now)
      (sym c.in-Some.ensures.table) c.requires.within;
  covered = all_covered (Covers g.D.Disk c.args.fetch.now) (filed_of c.in-Some.table.now)
      (λ part. c.requires.right);
}

pub returns-in_default-2-clause-adds : goal.returns-in_default-2-clause-adds
returns-in_default-2-clause-adds g c = λ shown. record {
  made = tt;
  within = tt;
  limit = λ id which is.
      let past = sym (ap is_some c.in_default-2.is)
      ∙ c.in_ok-rewritten.ensures.fits (shown_among (told_of g.D.Disk c.args.fetch.now)
      (filed_of c.in-Some.table.now) _ c.in-Some.ensures.among shown) in (
        (cc),
        (cc),
        partitions_past c.args.catalog.now c.args.one.id (touched_in c.args.one).1 (table_of c.in-Some.table.now)
            (sym c.in-Some.ensures.table) past,
      );
}

pub version-change-requires : goal.version-change-requires
version-change-requires g c =
    let t = table_of c.in-Some.table.now in
    let s = (touched_in c.args.one).1 in
    let added = ap length c.added.ensures in
    let rows : t.next_row + length s.edits.added ≤ bound limits.RowNumber =
    rows_within c.args.catalog.now c.args.one.id s t (sym c.in-Some.ensures.table) c.requires.within in
    omega (arith, added, rows)

pub returns-clause-adds : goal.returns-clause-adds
returns-clause-adds g c = λ shown.
    let there = shown_among (told_of g.D.Disk c.args.fetch.now) (filed_of c.in-Some.table.now) _
    c.in-Some.ensures.among shown in
    let fits = sym (ap is_some c.in-Some-2.is) ∙ c.in_ok-rewritten.ensures.fits there in
    record {
      made = version_added c.args.stamp (stored_of c.args.catalog.now).objects c.args.one.id
          (touched_in c.args.one).1 (table_of c.in-Some.table.now) c.args.changes.now.items c.push.new.self.items
          c.version-change.result _ _ _ (sym c.in-Some.ensures.table) c.in-Ok.ensures.items
          c.version-change.ensures (ap length c.added.ensures)
          (rw c.in-Some-2.is at c.in_ok-rewritten.ensures.removed there)
          (rw c.in-Some-2.is at c.in_ok-rewritten.ensures.added there);
      within = partitions_within c.args.catalog.now c.args.one.id (touched_in c.args.one).1
          (table_of c.in-Some.table.now) (sym c.in-Some.ensures.table) fits;
      limit = λ id which is. absurd cc;
    }

pub returns-clause-read : goal.returns-clause-read
returns-clause-read g c = λ read.
    read_more c.args.changes.now.items c.push.new.self.items c.version-change.result _ c.in-Ok.ensures.items
    c.version-change.ensures read

pub returns-in_err-rewritten-clause-sound : goal.returns-in_err-rewritten-clause-sound
returns-in_err-rewritten-clause-sound g c = λ shown.
    c.in_err-rewritten.ensures.sound (shown_among (told_of g.D.Disk c.args.fetch.now)
    (filed_of c.in-Some.table.now) _ c.in-Some.ensures.among shown)

pub returns-in_default-2-clause-sound : goal.returns-in_default-2-clause-sound
returns-in_default-2-clause-sound g c = λ shown.
    c.in_ok-rewritten.ensures.sound (shown_among (told_of g.D.Disk c.args.fetch.now)
    (filed_of c.in-Some.table.now) _ c.in-Some.ensures.among shown)

pub returns-in_default-push-clause-sound : goal.returns-in_default-push-clause-sound
returns-in_default-push-clause-sound g c = λ shown.
    c.in_ok-rewritten.ensures.sound (shown_among (told_of g.D.Disk c.args.fetch.now)
    (filed_of c.in-Some.table.now) _ c.in-Some.ensures.among shown)

pub returns-clause-sound : goal.returns-clause-sound
returns-clause-sound g c = λ shown.
    c.in_ok-rewritten.ensures.sound (shown_among (told_of g.D.Disk c.args.fetch.now)
    (filed_of c.in-Some.table.now) _ c.in-Some.ensures.among shown)
