use Rattle.std.proofs.Common.{◌≡◌, ap, Err, arith}
use Rattle.std.proofs.lemmas.Grind.{common_steps}
use Rattle.wh_meaning.specs.Bag.{no_rows}
use Rattle.wh_bag.proofs.Faults.{sum_full}
use Rattle.wh_bag.proofs.Changes.{lacks, overflows, changed}
use Rattle.wh_bag.proofs.change.apply.Goals as goal

pub returns-then-not-is_empty-clause-missing : goal.returns-then-not-is_empty-clause-missing
returns-then-not-is_empty-clause-missing c _ =
    let some : c.in_ok-excess.field-0 ≡ no_rows → ⊥ =
    λ none. grind (arith, common_steps, c.is_empty-2.ensures.1 none) in
    let change = c.args.change.now in
    let least = c.in_ok-least.least in
    lacks c.args.old.now change.plus change.minus least.plus least.minus c.in_ok-excess.field-0
    c.in_ok-least.ensures c.in_ok-excess.ensures.excess some

pub returns-in_err-add_all-clause-too_many : goal.returns-in_err-add_all-clause-too_many
returns-in_err-add_all-clause-too_many c full =
    let none : c.in_ok-excess.field-0 ≡ no_rows = grind (arith, common_steps) in
    let change = c.args.change.now in
    let least = c.in_ok-least.least in
    let handed = c.from_residual-in_err-add_all in
    let fault = sum_full handed.result c.in_err-add_all.field-0.0 handed.ensures.1 full in
    overflows c.args.old.now change.plus change.minus least.plus least.minus c.in_ok-excess.field-0
    c.in_ok-least.ensures c.in_ok-excess.ensures.excess none c.in_ok-new.new c.in_ok-new.ensures.excess
    (c.in_err-add_all.ensures.too_many (ap Err fault))

pub returns-clause-changed : goal.returns-clause-changed
returns-clause-changed c =
    let none : c.in_ok-excess.field-0 ≡ no_rows = grind (arith, common_steps) in
    let change = c.args.change.now in
    let least = c.in_ok-least.least in
    changed c.args.old.now change.plus change.minus least.plus least.minus c.in_ok-excess.field-0
    c.in_ok-least.ensures c.in_ok-excess.ensures.excess none c.in_ok-new.new c.in_ok-new.ensures.excess
    c.add_all.new.self c.in_ok-add_all.ensures.ok
