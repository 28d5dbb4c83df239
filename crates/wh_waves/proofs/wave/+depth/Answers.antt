use Rattle.std.proofs.Common.{sym, ◌∙◌}
use Rattle.wh_waves.proofs.wave.+depth.Goals as goal
use Rattle.wh_waves.proofs.WaveLemmas.{depth_first}

pub returns-then-has_one-clause-depth : goal.returns-then-has_one-clause-depth
returns-then-has_one-clause-depth t c =
    depth_first c.args.sources.now c.args.waves.now c.wave-item.result c.deref.result.now c.depth-depth.result _
    c.in-len1-up.len_at_least c.wave-item.is c.deref.ensures.value c.depth-depth.ensures.depth c.if-depth-gt0.false
    (sym c.if-has_one.true ∙ c.has_one.ensures)

pub returns-else-has_one-clause-depth : goal.returns-else-has_one-clause-depth
returns-else-has_one-clause-depth t c =
    depth_first c.args.sources.now c.args.waves.now c.wave-item.result c.deref.result.now c.depth-depth.result _
    c.in-len1-up.len_at_least c.wave-item.is c.deref.ensures.value c.depth-depth.ensures.depth c.if-depth-gt0.false
    (sym c.if-has_one.false ∙ c.has_one.ensures)
