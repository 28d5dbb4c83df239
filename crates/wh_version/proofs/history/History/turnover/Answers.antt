use Rattle.std.proofs.Common.{◌≡◌, List, [], ◌++◌, ap, length, take, subst, arith}
use Rattle.wh_state.specs.State.{content_in}
use Rattle.wh_filed.specs.Filed.{Filed, filed_at, partitions_at, partitions_filed}
use Rattle.wh_version.specs.declared.lasting.Lasting.{Lasting}
use Rattle.wh_version.specs.declared.turnover.Reach.{Reach}
use Rattle.wh_version.specs.History.{versions_of}
use Rattle.wh_version.specs.Lasting.{standing_filed, standing_at}
use Rattle.wh_version.specs.Times.{data_at}
use Rattle.wh_version.proofs.Kept.{joined}
use Rattle.wh_version.proofs.MovedLaws.{went_moved, came_moved}
use Rattle.wh_version.proofs.TurnoverLaws.{Grows, reach_grows, reach_within, content_there, turned_over}
use Rattle.wh_version.proofs.history.History.turnover.Goals.{After-reach-new}
use Rattle.wh_version.proofs.history.History.turnover.Goals as goal

module _ (c : After-reach-new) where
  abbrev kept : List Lasting
  kept = c.args.self.now.kept.items

  abbrev old : Reach
  old = c.reach-old.result

  abbrev new : Reach
  new = c.reach-new.result

  grows : Grows old new (length kept)
  grows =
      let h = c.args.self.now in
      reach_grows h.first h.later.items (length kept) c.args.from c.args.to old new c.requires h.marks
      c.reach-old.ensures c.reach-new.ensures

  before : content_in [] (data_at c.args.from (versions_of c.args.self.now))
      ≡ standing_at old.place (take old.partitions kept)
  before = content_there c.args.self.now c.args.from old c.reach-old.ensures

  after : content_in [] (data_at c.args.to (versions_of c.args.self.now))
      ≡ standing_at new.place (take new.partitions kept)
  after = content_there c.args.self.now c.args.to new c.reach-new.ensures

  -- as it is said of what is kept, and of a slice of it
  abbrev Completes : List Lasting → List Filed → Type 0
  Completes all came =
      standing_filed new.place (take old.partitions all) ++ came ≡ standing_filed new.place (take new.partitions all)

pub gone_by-requires-clause-within : goal.gone_by-requires-clause-within
gone_by-requires-clause-within c =
    let at = grows (goal.at.gone_by-requires-clause-within c).After-reach-new in
    let count = at.count in
    let within = at.within in
    omega arith

pub gone_by-requires-clause-place : goal.gone_by-requires-clause-place
gone_by-requires-clause-place c =
    let h = c.args.self.now in
    reach_within h.first h.later.items c.args.to c.reach-new.result c.reach-new.ensures

pub standing_behind-requires-clause-order : goal.standing_behind-requires-clause-order
standing_behind-requires-clause-order c =
    (grows (goal.at.standing_behind-requires-clause-order c).After-reach-new).count

pub standing_behind-requires-clause-within : goal.standing_behind-requires-clause-within
standing_behind-requires-clause-within c =
    let within = (grows (goal.at.standing_behind-requires-clause-within c).After-reach-new).within in
    omega (arith, within, ap length c.deref.ensures.value)

pub returns-clause-turnover : goal.returns-clause-turnover
returns-clause-turnover c =
    let at = (goal.at.returns-clause-turnover c).After-reach-new in
    let came = filed_at c.in_ok-came.came.items in
    turned_over (kept at) (old at) (new at) (partitions_at c.in_ok-went.went.items)
    (partitions_at c.in_ok-came.came.items) _ _ (grows at).place (ap partitions_filed c.in_ok-went.ensures)
    (joined (standing_filed (new at).place (take (old at).partitions (kept at))) came _
    (subst (λ ks. Completes at ks came) c.deref.ensures.value c.in_ok-came.ensures))
    (before at) (after at)

pub returns-clause-went : goal.returns-clause-went
returns-clause-went c =
    let at = (goal.at.returns-clause-went c).After-reach-new in
    let h = c.args.self.now in
    went_moved (kept at) h.numbers c.args.from c.args.to (versions_of h) (old at) (new at) (grows at) (before at)
    (after at) (filed_at c.in_ok-went.went.items) c.in_ok-went.ensures

pub returns-clause-came : goal.returns-clause-came
returns-clause-came c =
    let at = (goal.at.returns-clause-came c).After-reach-new in
    let h = c.args.self.now in
    let came = filed_at c.in_ok-came.came.items in
    came_moved (kept at) h.numbers c.args.from c.args.to (versions_of h) (old at) (new at) (grows at) (before at)
    (after at) came (subst (λ ks. Completes at ks came) c.deref.ensures.value c.in_ok-came.ensures)
