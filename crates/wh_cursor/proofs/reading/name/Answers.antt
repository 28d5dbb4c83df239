use Rattle.wh_grammar.specs.Name.{IsName}
use Rattle.wh_cursor.proofs.Found as lemmas
use Rattle.wh_cursor.proofs.Names.{name_sound, name-complete}
use Rattle.wh_cursor.proofs.reading.name.Goals as goal

pub returns-clause-found : goal.returns-clause-found
returns-clause-found c = lemmas.found (IsName c.args.words.now) _ (name_sound c.args.words.now) _ _ c.name.ensures.reads

pub returns-clause-none : goal.returns-clause-none
returns-clause-none c = lemmas.none (IsName c.args.words.now) _ (λ name us h. name-complete h) _ _ c.name.ensures.reads
