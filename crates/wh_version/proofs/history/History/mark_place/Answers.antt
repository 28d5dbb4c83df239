use Rattle.std.proofs.Common.{ap, arith}
use Rattle.wh_version.specs.Arrivals.{mark_place}
use Rattle.wh_version.proofs.ArrivalLaws.{within_marks}
use Rattle.wh_version.proofs.history.History.mark_place.Goals as goal

pub overflow_add-result : goal.overflow_add-result
overflow_add-result c =
    let h = c.args.self.now in
    let within = within_marks h c.args.place c.requires in
    let further = ap (λ b. mark_place b c.args.place) c.if-self.true in
    let sized = h.later.ok.0 in
    omega (arith, within, further)

pub returns-then-self-clause-within : goal.returns-then-self-clause-within
returns-then-self-clause-within c =
    let within = within_marks c.args.self.now c.args.place c.requires in
    let further = ap (λ b. mark_place b c.args.place) c.if-self.true in
    omega (arith, within, further)

pub returns-clause-within : goal.returns-clause-within
returns-clause-within c =
    let within = within_marks c.args.self.now c.args.place c.requires in
    let same = ap (λ b. mark_place b c.args.place) c.if-self.false in
    omega (arith, within, same)
