use Rattle.std.proofs.Common.{◌++◌, sym, ap, ◌∙◌, append-nil, arith}
use Rattle.wh_dml.proofs.MetLaws.{either_behind}
use Rattle.wh_dml.proofs.met.flags_of_both.Goals as goal

pub returns-then-place-others : goal.returns-then-place-others
returns-then-place-others c =
    let both = c.loop-place.both.items in
    sym (c.loop-place.invariant
    ∙ ap (λ rest. both ++ rest)
    (either_behind c.loop-place.place c.args.flags.now c.args.others.now (omega (arith, c.if-place-others.true)))
    ∙ append-nil both)
