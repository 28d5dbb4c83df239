use Rattle.std.proofs.Common.{◌≡◌, ◌∙◌, refl, ap, sym, subst, cond, Some, None, is_eq, suc, arith, ◌+◌}
use Rattle.std.proofs.lemmas.Grind.{common_steps}
use Rattle.std.specs.FinMap.{from_entries}
use Rattle.std.specs.Option.{IsSome}
use Rattle.wh_value.specs.Value.{row_cmp}
use Rattle.wh_meaning.specs.Bag.{times, count}
use Rattle.wh_bag.proofs.Faults.{on_ok, on_err, not_full}
use Rattle.wh_bag.proofs.Entries.{found_at, counted, raised, first_added}
use Rattle.wh_bag.proofs.bag.Bag.add.Goals as goal

pub returns-in-Some-clause-ok : goal.returns-in-Some-clause-ok
returns-in-Some-clause-ok c =
    let row = c.args.row in
    let m = c.self.inside.map in
    let new = c.add.new.self in
    let found : Some c.in-Some.times.now ≡ found_at m.entries row = c.in-Some.ensures.value in
    let written = (c.get_mut.follows.holds new).3 (subst IsSome found refl) in
    on_ok c.add.result
    (λ more. raised m.entries (c.get_mut.follows.lender new).entries row c.args.self.now c.self.view_is
    c.in-Some.times.now c.args.count found
    (λ q. written.0 q ∙ ap (λ v. cond (is_eq (row_cmp row q)) (Some v) (found_at m.entries q)) more))
    c.add.ensures.ok

pub returns-in-Some-clause-err : goal.returns-in-Some-clause-err
returns-in-Some-clause-err c =
    let row = c.args.row in
    let m = c.self.inside.map in
    let new = c.add.new.self in
    let found : Some c.in-Some.times.now ≡ found_at m.entries row = c.in-Some.ensures.value in
    let written = (c.get_mut.follows.holds new).3 (subst IsSome found refl) in
    let none_more : c.in-Some.times.now ≡ 0 + c.in-Some.times.now = omega arith in
    on_err c.add.result
    (λ same. raised m.entries (c.get_mut.follows.lender new).entries row c.args.self.now c.self.view_is
    c.in-Some.times.now 0 found
    (λ q. written.0 q ∙ ap (λ v. cond (is_eq (row_cmp row q)) (Some v) (found_at m.entries q)) (same ∙ none_more)))
    c.add.ensures.err

pub returns-in-Some-clause-too_many : goal.returns-in-Some-clause-too_many
returns-in-Some-clause-too_many c =
    let found : suc c.in-Some.times.now ≡ count c.args.self.now c.args.row =
    ap times c.in-Some.ensures.value
    ∙ counted c.self.inside.map.entries c.args.self.now c.self.view_is c.args.row in
    (λ e. let over = c.add.ensures.too_many.0 e in omega arith, λ over. c.add.ensures.too_many.1 (omega arith))

pub returns-in_err-enter-clause-too_many : goal.returns-in_err-enter-clause-too_many
returns-in_err-enter-clause-too_many c =
    let m = c.self.inside.map in
    let absent : found_at m.entries c.args.row ≡ None = grind (arith, common_steps) in
    let none : count c.args.self.now c.args.row ≡ 0 =
    sym (counted m.entries c.args.self.now c.self.view_is c.args.row) ∙ ap times absent in (
      λ e. absurd (not_full c.from_residual.result c.from_residual.ensures.1 e),
      λ over. absurd (omega (arith, c.ranges.count.fits)),
    )

pub returns-clause-ok : goal.returns-clause-ok
returns-clause-ok c =
    let m = c.self.inside.map in
    let absent : found_at m.entries c.args.row ≡ None = grind (arith, common_steps) in
    let same = ap (λ t. from_entries t.entries) c.get_mut.follows.holds-at-none ∙ c.self.view_is in
    first_added m.entries c.args.self.now c.self.view_is c.args.row c.args.count _ c.enter.new.self absent same
    c.in_ok-enter.ensures.ok

pub returns-clause-too_many : goal.returns-clause-too_many
returns-clause-too_many c =
    let m = c.self.inside.map in
    let absent : found_at m.entries c.args.row ≡ None = grind (arith, common_steps) in
    let none : count c.args.self.now c.args.row ≡ 0 =
    sym (counted m.entries c.args.self.now c.self.view_is c.args.row) ∙ ap times absent in
    (λ e. cc, λ over. absurd (omega (arith, c.ranges.count.fits)))
