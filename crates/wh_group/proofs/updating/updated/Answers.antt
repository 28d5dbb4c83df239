use Rattle.wh_algebra.specs.View.{calls_of, scalars_of}
use Rattle.wh_group.specs.Slots.{kept_groups}
use Rattle.wh_group.proofs.FoundLaws.{comes_stop, goes_stop, settled_found, settled_stops}
use Rattle.wh_group.proofs.updating.updated.Goals as goal

pub returns-in_err-add-clause-out_of_range : goal.returns-in_err-add-clause-out_of_range
returns-in_err-add-clause-out_of_range c e b h among =
    comes_stop _ _ (kept_groups c.args.groups.now) c.args.comes.now c.args.goes.now c.new-touched.result c.new-touched.ensures
    c.from_residual.result c.in_err-add.field-0.0 c.from_residual.ensures.1 c.in_err-add.ensures e

pub returns-in_err-add-2-clause-out_of_range : goal.returns-in_err-add-2-clause-out_of_range
returns-in_err-add-2-clause-out_of_range c e b h among =
    goes_stop (scalars_of c.args.by.now) (calls_of c.args.calls.now) (kept_groups c.args.groups.now) c.args.comes.now c.args.goes.now
    c.new-touched.result c.new-touched.ensures c.add.new.self c.in_ok-add.ensures
    c.from_residual-in_err-add-2.result c.in_err-add-2.field-0.0 c.from_residual-in_err-add-2.ensures.1
    c.in_err-add-2.ensures e b h among

pub returns-clause-updated : goal.returns-clause-updated
returns-clause-updated c =
    settled_found (scalars_of c.args.by.now) (calls_of c.args.calls.now) (kept_groups c.args.groups.now) c.args.comes.now
    c.args.goes.now c.new-touched.result c.new-touched.ensures c.add.new.self c.in_ok-add.ensures c.add-2.new.self
    c.in_ok-add-2.ensures c.settled.result c.settled.ensures

pub returns-clause-out_of_range : goal.returns-clause-out_of_range
returns-clause-out_of_range c e b h among =
    settled_stops (scalars_of c.args.by.now) (calls_of c.args.calls.now) (kept_groups c.args.groups.now) c.args.comes.now
    c.args.goes.now c.new-touched.result c.new-touched.ensures c.add.new.self c.in_ok-add.ensures c.add-2.new.self
    c.in_ok-add-2.ensures c.settled.result c.settled.ensures e
