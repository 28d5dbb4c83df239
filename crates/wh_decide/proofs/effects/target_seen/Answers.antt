use Rattle.std.proofs.Common.{sym, ◌∙◌, subst}
use Rattle.wh_bound_change.specs.View.{change_of}
use Rattle.wh_txn.specs.Touched.{ShowsTo}
use Rattle.wh_decide.proofs.effects.target_seen.Goals as goal

pub returns-then-is_insert-clause-seen : goal.returns-then-is_insert-clause-seen
returns-then-is_insert-clause-seen g c = λ shown. λ t there. sym c.is_insert.ensures ∙ c.if-is_insert.true

pub returns-clause-seen : goal.returns-clause-seen
returns-clause-seen g c = λ shown. λ t there.
    subst (ShowsTo (change_of c.args.bound.now.change) c.in_ok-target.target) there
    (c.in_ok-target.ensures.shows shown c.args.sight.now.stamp)
