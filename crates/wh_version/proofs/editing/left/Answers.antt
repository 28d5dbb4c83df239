use Rattle.std.proofs.Common.{◌+◌, ◌-◌, ◌++◌, ◌∙◌, ap, refl, length, take}
use Rattle.wh_state.specs.Edits.{made_of}
use Rattle.wh_version.proofs.ByRows.{turned}
use Rattle.wh_version.proofs.Left.{lefts, left_on, left_none, left_all}
use Rattle.wh_version.proofs.editing.left.Goals as goal

pub loop-done-init : goal.loop-done-init
loop-done-init c =
    let edits = c.args.edits.now in
    let sorted = c.args.sorted.now in
    let next = c.args.next in
    ap (λ l. l ++ made_of (next + length l) (lefts edits (turned (take (length sorted - 0) sorted))))
    c.in_ok-left.ensures.items
    ∙ left_none edits next sorted (length sorted) 0 refl _ refl

pub loop-done-preserved : goal.loop-done-preserved
loop-done-preserved c =
    let at = c.loop-done in
    left_on c.args.edits.now c.args.next c.args.sorted.now _ at.done refl c.index-sorted-count.result at.left.items
    c.add_left.new.left.items _
    c.loop-done-test.true c.index-sorted-count.is c.in_ok-add_left.ensures at.invariant

pub returns : goal.returns
returns c =
    let at = c.loop-done in
    left_all c.args.edits.now c.args.next c.args.sorted.now _ at.done refl at.left.items _
    c.loop-done-test.false at.invariant
