use Rattle.std.proofs.Common.{rules, sym, ◌∙◌}
use Rattle.wh_record.proofs.FieldLaws.{rising_ids, rising_is}
use Rattle.wh_record.proofs.task_encoding.write_run.Goals as goal

pub returns-clause-spelled : goal.returns-clause-spelled
returns-clause-spelled c =
    let ids = c.in_ok-write_ids.ensures in
    record {
      root = search rules;
      few = ids.fits;
      tasks = rising_is rising_ids 0 c.args.tasks.now ids.wide (sym c.ids_rise.ensures ∙ c.if-not-ids_rise.false);
    }
