use Rattle.std.proofs.Common.{rules}
use Rattle.wh_dynamic.specs.View.{groups_change_of}
use Rattle.wh_record.proofs.WritingLaws.{groups_written}
use Rattle.wh_record.proofs.GroupLaws.{keys_are_rising}
use Rattle.wh_record.proofs.groups_encoding.write_groups.Goals as goal

pub returns-clause-written : goal.returns-clause-written
returns-clause-written c =
    groups_written c.args.id (groups_change_of c.args.groups.now) c.args.out.now c.write_u32.new.out
    c.write_u32-2.new.out c.write_u32-3.new.out c.write_entries.new.out c.in_ok-write_u32.ensures.ok
    c.in_ok-write_u32-2.ensures.ok c.in_ok-write_u32-3.ensures.ok
    (rw (← c.deref.ensures.value) c.in_ok-write_entries.ensures.written)

pub returns-clause-spelled : goal.returns-clause-spelled
returns-clause-spelled c =
    let written = c.in_ok-write_entries.ensures in
    record {
      id = search rules;
      keys = search rules;
      calls = search rules;
      few = rw (← c.deref.ensures.value) written.fits;
      rising = keys_are_rising c.args.groups.now.entries.items (rw (← c.deref.ensures.value) written.rising);
      entries = rw (← c.deref.ensures.value) written.spelled;
    }
