use Rattle.std.proofs.Common.{◌-◌, ◌<◌, Bool, ◌∙◌, ap, sym, subst, arith}
use Rattle.std.proofs.lemmas.Bool.{eqb-true}
use Rattle.wh_version.specs.Arrivals.{IsFront}
use Rattle.wh_filed.specs.Filed.{partitions_at}
use Rattle.wh_version.specs.History.{versions_of, marked_of}
use Rattle.wh_version.specs.Lasting.{version_by, versions_by, lies_in_front}
use Rattle.wh_version.specs.Lists.{behind}
use Rattle.wh_version.proofs.Starts.{first_empty, front_behind}
use Rattle.wh_version.proofs.history.History.front.Goals as goal
use Rattle.wh_version.proofs.history.History.front.Goals.{Else-not-self}

pub returns-then-not-self-clause-came : goal.returns-then-not-self-clause-came
unfolding versions_of
returns-then-not-self-clause-came c =
    let h = c.args.self.now in
    let front = c.in_ok-front.front in
    let came = partitions_at front.came.items in
    subst (λ (b : Bool). IsFront c.args.stamp front.count came (behind b (marked_of h))) (sym c.if-not-self.true)
    c.in_ok-front.ensures.came

-- the mark that is no version is one of those at the front
module _ (c : Else-not-self) where
  less : (0 < c.in_ok-front.front.count) × IsFront c.args.stamp (c.in_ok-front.front.count - 1)
      (partitions_at c.in_ok-front.front.came.items)
      (versions_by c.args.self.now.kept.items 1 c.args.self.now.later.items)
  less =
      let h = c.args.self.now in
      front_behind (version_by h.kept.items 0 h.first) (first_empty h) (versions_by h.kept.items 1 h.later.items)
      c.args.stamp c.in_ok-front.front.count (partitions_at c.in_ok-front.front.came.items)
      (eqb-true h.first.stamp 0 (ap (λ b. lies_in_front b h.first) (sym c.if-not-self.false) ∙ h.front))
      c.in_ok-front.ensures.came

pub overflow_sub-result : goal.overflow_sub-result
overflow_sub-result c =
    let some = (less (goal.at.overflow_sub-result c).Else-not-self).0 in
    omega (arith, some)

pub returns-clause-came : goal.returns-clause-came
unfolding versions_of
returns-clause-came c =
    let h = c.args.self.now in
    let came = partitions_at c.in_ok-front.front.came.items in
    let count = c.in_ok-front.front.count - 1 in
    subst (λ (b : Bool). IsFront c.args.stamp count came (behind b (marked_of h))) (sym c.if-not-self.false)
    (less (goal.at.returns-clause-came c).Else-not-self).1
