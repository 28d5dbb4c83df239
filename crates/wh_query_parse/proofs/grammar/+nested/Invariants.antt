use Rattle.wh_query_parse.proofs.grammar.+nested.Given as goal

abbrev pub decreases-nested : goal.decreases-nested
decreases-nested l = l.depth
