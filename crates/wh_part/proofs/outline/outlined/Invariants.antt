use Rattle.wh_part.proofs.outline.outlined.Given as goal

abbrev pub ghost-of : goal.ghost-of
ghost-of g a = g.partition
