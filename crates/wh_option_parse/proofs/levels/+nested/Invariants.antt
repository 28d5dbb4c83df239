use Rattle.wh_option_parse.proofs.levels.+nested.Given as goal

abbrev pub decreases-nested : goal.decreases-nested
decreases-nested l = l.depth
