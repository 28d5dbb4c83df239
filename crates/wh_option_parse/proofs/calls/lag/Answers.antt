use Rattle.wh_grammar.specs.Parts.{IsLag}
use Rattle.wh_cursor.proofs.Found.{found, none}
use Rattle.wh_option_parse.specs.Read.{read_lag}
use Rattle.wh_option_parse.proofs.LagLemmas.{lags_read}
use Rattle.wh_option_parse.proofs.calls.lag.Goals as goal

pub returns-clause-found : goal.returns-clause-found
returns-clause-found c =
    let ts = c.args.words.now in
    found (IsLag ts) (read_lag ts) (λ x us. (lags_read ts x us).0) c.read_lag.result c.read_lag.new.words
    c.read_lag.ensures.reads

pub returns-clause-none : goal.returns-clause-none
returns-clause-none c =
    let ts = c.args.words.now in
    none (IsLag ts) (read_lag ts) (λ x us. (lags_read ts x us).1) c.read_lag.result c.read_lag.new.words
    c.read_lag.ensures.reads
