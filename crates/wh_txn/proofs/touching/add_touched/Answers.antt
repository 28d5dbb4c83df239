use Rattle.std.proofs.Common.{◌≡◌, ◌∷◌, [], true}
use Rattle.wh_bound_change.specs.View.{change_of}
use Rattle.wh_filed.specs.Filed.{filed_at, partitions_at}
use Rattle.wh_filed.proofs.ShownLaws.{shown_front}
use Rattle.wh_txn.proofs.TouchedLemmas.{put_on, left_on}
use Rattle.wh_txn.proofs.touching.add_touched.Goals as goal

pub returns-in_ok-push-clause-touched : goal.returns-in_ok-push-clause-touched
returns-in_ok-push-clause-touched c = λ whole out.
    put_on (change_of c.args.change.now) whole c.args.found.now.items c.push.new.self.items c.args.one
    c.in_ok-push.ensures.items out

pub returns-else-not-leaves-clause-touched : goal.returns-else-not-leaves-clause-touched
returns-else-not-leaves-clause-touched c = λ whole out.
    let leaves : c.leaves.result ≡ true = cc in
    left_on (change_of c.args.change.now) whole (partitions_at c.args.found.now.items) c.args.one.now.partition out
    ((rw leaves at c.leaves.ensures) c.args.one.now.partition c.meta.ensures.says)

pub returns-else-not-leaves-clause-among : goal.returns-else-not-leaves-clause-among
returns-else-not-leaves-clause-among c = λ told shown.
    shown_front told (filed_at c.args.found.now.items) (c.args.one.now ∷ []) shown
