use Rattle.std.proofs.Common.{◌+◌, Bool, List, drop, sym, ap, ◌∙◌}
use Rattle.std.specs.Prelude.{◌||◌}
use Rattle.std.proofs.lemmas.List.{at_drop_more, at_drop_all}
use Rattle.wh_state.specs.State.{Object}
use Rattle.wh_machine.specs.Refresh.{has_new_data}
use Rattle.wh_machine.specs.Brought.{after_all}
use Rattle.wh_refresh.specs.Objects.{objects_in}
use Rattle.wh_refresh.proofs.sources.has_new_data.Goals as goal

pub returns-then-has_version_between : goal.returns-then-has_version_between
returns-then-has_version_between c stamp bs are above =
    let i = c.loop-id.id-index in
    let ids = c.args.ids.now in
    let objects : List Object = after_all stamp c.args.to bs (objects_in c.args.objects.now) in
    ap (λ (b : Bool). b || has_new_data objects c.args.from c.args.to (drop (i + 1) ids))
    (c.if-has_version_between.ensures stamp bs are above)
    ∙ sym (at_drop_more (has_new_data objects c.args.from c.args.to) ids i 0 c.loop-id-test.true)
    ∙ c.loop-id.invariant stamp bs are above

pub loop-id-preserved : goal.loop-id-preserved
loop-id-preserved c stamp bs are above =
    let i = c.loop-id.id-index in
    let ids = c.args.ids.now in
    let objects : List Object = after_all stamp c.args.to bs (objects_in c.args.objects.now) in
    ap (λ (b : Bool). b || has_new_data objects c.args.from c.args.to (drop (i + 1) ids))
    (c.if-has_version_between.ensures stamp bs are above)
    ∙ sym (at_drop_more (has_new_data objects c.args.from c.args.to) ids i 0 c.loop-id-test.true)
    ∙ c.loop-id.invariant stamp bs are above

pub returns : goal.returns
returns c stamp bs are above =
    let objects : List Object = after_all stamp c.args.to bs (objects_in c.args.objects.now) in
    sym (at_drop_all (has_new_data objects c.args.from c.args.to) c.args.ids.now c.loop-id.id-index
    c.loop-id-test.false)
    ∙ c.loop-id.invariant stamp bs are above
