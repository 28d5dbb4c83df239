use Rattle.wh_part.proofs.outline.Outline.of.Given as goal

abbrev pub ghost-drawn : goal.ghost-drawn
ghost-drawn a = a._partition.now
