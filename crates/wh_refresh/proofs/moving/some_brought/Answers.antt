use Rattle.std.proofs.Common.{ℕ, ◌+◌, Bool, List, drop, sym, ap, ◌∙◌}
use Rattle.std.specs.Prelude.{◌||◌, is_some}
use Rattle.std.specs.List.{list_any}
use Rattle.std.proofs.lemmas.List.{at_drop_more, at_drop_all}
use Rattle.wh_machine.specs.Refresh.{Brought}
use Rattle.wh_machine.specs.Brought.{edits_sought}
use Rattle.wh_refresh.proofs.moving.some_brought.Goals as goal

abbrev any_of : List Brought → List ℕ → Bool
any_of bs ids = list_any (λ id. is_some (edits_sought id bs)) ids

pub returns-then-is_brought : goal.returns-then-is_brought
returns-then-is_brought c stored bs are =
    let i = c.loop-id.id-index in
    let ids = c.args.ids.now in
    ap (λ (b : Bool). b || any_of bs (drop (i + 1) ids)) (c.if-is_brought.ensures stored bs are)
    ∙ sym (at_drop_more (any_of bs) ids i 0 c.loop-id-test.true)
    ∙ c.loop-id.invariant stored bs are

pub loop-id-preserved : goal.loop-id-preserved
loop-id-preserved c stored bs are =
    let i = c.loop-id.id-index in
    let ids = c.args.ids.now in
    ap (λ (b : Bool). b || any_of bs (drop (i + 1) ids)) (c.if-is_brought.ensures stored bs are)
    ∙ sym (at_drop_more (any_of bs) ids i 0 c.loop-id-test.true)
    ∙ c.loop-id.invariant stored bs are

pub returns : goal.returns
returns c stored bs are =
    sym (at_drop_all (any_of bs) c.args.ids.now c.loop-id.id-index c.loop-id-test.false)
    ∙ c.loop-id.invariant stored bs are
