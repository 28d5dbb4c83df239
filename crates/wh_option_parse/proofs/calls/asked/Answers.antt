use Rattle.wh_grammar.specs.Parts.{AsksForData}
use Rattle.wh_cursor.proofs.Found.{found, none}
use Rattle.wh_option_parse.specs.Read.{read_asked}
use Rattle.wh_option_parse.proofs.LagLemmas.{asked_read}
use Rattle.wh_option_parse.proofs.calls.asked.Goals as goal

pub returns-clause-found : goal.returns-clause-found
returns-clause-found c =
    let ts = c.args.words.now in
    found (AsksForData ts) (read_asked ts) (λ x us. (asked_read ts x us).0) c.read_asked.result c.read_asked.new.words
    c.read_asked.ensures.reads

pub returns-clause-none : goal.returns-clause-none
returns-clause-none c =
    let ts = c.args.words.now in
    none (AsksForData ts) (read_asked ts) (λ x us. (asked_read ts x us).1) c.read_asked.result c.read_asked.new.words
    c.read_asked.ensures.reads
