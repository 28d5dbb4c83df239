use Rattle.std.proofs.Common.{rules, ◌++◌, sym, subst}
use Rattle.std.specs.Prelude.{OnOk}
use Rattle.wh_filed.specs.Filed.{AreAmong}
use Rattle.wh_record.specs.View.{UnderstoodChange, change_of}
use Rattle.wh_record.specs.Places.{filed_in_change}
use Rattle.wh_catalog.specs.Object.{kept_objects, filed_of_objects}
use Rattle.wh_catalog.specs.Catalog.{kept_of}
use Rattle.wh_catalog.proofs.FiledLaws.{among_steady}
use Rattle.wh_catalog.proofs.catalog.Catalog.carry_out.Goals as goal

pub returns-in_ok-stream-in-CreatesStream-clause-changed : goal.returns-in_ok-stream-in-CreatesStream-clause-changed
returns-in_ok-stream-in-CreatesStream-clause-changed c =
    let made = c.in_ok-stream-in-CreatesStream.ensures.made c.args.stamp in search rules

pub returns-in_ok-task-in-CreatesTask-clause-changed : goal.returns-in_ok-task-in-CreatesTask-clause-changed
returns-in_ok-task-in-CreatesTask-clause-changed c =
    let made = c.in_ok-task-in-CreatesTask.ensures.made c.args.stamp in search rules

pub returns-in-Drops-clause-filed : goal.returns-in-Drops-clause-filed
returns-in-Drops-clause-filed c =
    among_steady c.drop_at.result (kept_of c.args.self.now) (kept_of c.drop_at.new.self)
    (filed_in_change c.args.at (change_of c.args.change)) c.drop_at.ensures.steady c.drop_at.ensures.back

pub returns-in-SetsTask-clause-filed : goal.returns-in-SetsTask-clause-filed
returns-in-SetsTask-clause-filed c =
    among_steady c.set_task.result (kept_of c.args.self.now) (kept_of c.set_task.new.self)
    (filed_in_change c.args.at (change_of c.args.change)) c.set_task.ensures.steady c.set_task.ensures.back

pub returns-in-StartsRun-clause-filed : goal.returns-in-StartsRun-clause-filed
returns-in-StartsRun-clause-filed c =
    among_steady c.start_run.result (kept_of c.args.self.now) (kept_of c.start_run.new.self)
    (filed_in_change c.args.at (change_of c.args.change)) c.start_run.ensures.steady c.start_run.ensures.back

pub returns-in-FinishesTask-clause-filed : goal.returns-in-FinishesTask-clause-filed
returns-in-FinishesTask-clause-filed c =
    among_steady c.finish_task.result (kept_of c.args.self.now) (kept_of c.finish_task.new.self)
    (filed_in_change c.args.at (change_of c.args.change)) c.finish_task.ensures.steady c.finish_task.ensures.back

pub returns-in-SetsOffset-clause-filed : goal.returns-in-SetsOffset-clause-filed
unfolding kept_of
returns-in-SetsOffset-clause-filed c =
    among_steady c.set_offset.result (kept_objects c.args.self.now.objects.items) (kept_objects c.set_offset.new.objects.items)
    (filed_in_change c.args.at (change_of c.args.change)) c.set_offset.ensures.steady c.set_offset.ensures.back

pub returns-in-SetsDynamic-clause-filed : goal.returns-in-SetsDynamic-clause-filed
unfolding kept_of
returns-in-SetsDynamic-clause-filed c =
    among_steady c.set_dynamic.result (kept_objects c.args.self.now.objects.items) (kept_objects c.set_dynamic.new.objects.items)
    (filed_in_change c.args.at (change_of c.args.change)) c.set_dynamic.ensures.steady c.set_dynamic.ensures.back

pub returns-in-SetsGroups-clause-filed : goal.returns-in-SetsGroups-clause-filed
unfolding kept_of
returns-in-SetsGroups-clause-filed c =
    among_steady c.set_groups.result (kept_objects c.args.self.now.objects.items) (kept_objects c.set_groups.new.objects.items)
    (filed_in_change c.args.at (change_of c.args.change)) c.set_groups.ensures.steady c.set_groups.ensures.back

pub returns-in-PushesVersion-clause-filed : goal.returns-in-PushesVersion-clause-filed
unfolding kept_of
returns-in-PushesVersion-clause-filed c =
    let P : UnderstoodChange → Type 0 = λ change.
    OnOk c.push_version.result (AreAmong (filed_of_objects c.push_version.new.objects.items)
    (filed_of_objects c.args.self.now.objects.items ++ filed_in_change c.args.at (change_of change))) in
    subst P (sym c.in-PushesVersion.is) c.push_version.ensures.filed
