use Rattle.wh_option_parse.specs.Follow.{AreTaskOptionsAt}
use Rattle.wh_cursor.proofs.Found.{found, none}
use Rattle.wh_option_parse.specs.Read.{read_task_options}
use Rattle.wh_option_parse.proofs.TaskLemmas.{task_options_read}
use Rattle.wh_option_parse.proofs.calls.task_options.Goals as goal

pub returns-clause-found : goal.returns-clause-found
returns-clause-found c =
    let ts = c.args.words.now in
    found (AreTaskOptionsAt ts) (read_task_options ts) (λ x us. (task_options_read ts x us).0)
    c.read_task_options.result c.read_task_options.new.words c.read_task_options.ensures.reads

pub returns-clause-none : goal.returns-clause-none
returns-clause-none c =
    let ts = c.args.words.now in
    none (AreTaskOptionsAt ts) (read_task_options ts) (λ x us. (task_options_read ts x us).1) c.read_task_options.result
    c.read_task_options.new.words c.read_task_options.ensures.reads
