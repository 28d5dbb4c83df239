use Rattle.wh_part.proofs.outline.drawn.Given as goal

abbrev pub ghost-outlined : goal.ghost-outlined
ghost-outlined g a = g.partition
