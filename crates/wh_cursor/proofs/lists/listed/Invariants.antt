use Rattle.wh_cursor.proofs.lists.listed.Given as goal

abbrev pub ghost-items : goal.ghost-items
ghost-items g a = g.reader
