use Rattle.wh_option_parse.specs.Follow.{IsConditionAt}
use Rattle.wh_cursor.proofs.Found.{found, none}
use Rattle.wh_option_parse.specs.Read.{read_condition}
use Rattle.wh_option_parse.proofs.Conditions.{conditions_read}
use Rattle.wh_option_parse.proofs.calls.condition.Goals as goal

pub returns-clause-found : goal.returns-clause-found
returns-clause-found c =
    let ts = c.args.words.now in
    found (IsConditionAt c.args.depth ts) (read_condition c.args.depth ts)
    (λ x us. (conditions_read c.args.depth ts x us).0) c.read_condition.result c.read_condition.new.words
    c.read_condition.ensures.reads

pub returns-clause-none : goal.returns-clause-none
returns-clause-none c =
    let ts = c.args.words.now in
    none (IsConditionAt c.args.depth ts) (read_condition c.args.depth ts)
    (λ x us. (conditions_read c.args.depth ts x us).1) c.read_condition.result c.read_condition.new.words
    c.read_condition.ensures.reads
