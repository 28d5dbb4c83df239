use Rattle.wh_option_parse.proofs.TableLemmas.{found, none}
use Rattle.wh_option_parse.proofs.calls.table_options.Goals as goal

pub returns-clause-found : goal.returns-clause-found
returns-clause-found c =
    found c.args.words.now c.read_table_options.result c.read_table_options.new.words c.read_table_options.ensures.reads

pub returns-clause-none : goal.returns-clause-none
returns-clause-none c =
    none c.args.words.now c.read_table_options.result c.read_table_options.new.words c.read_table_options.ensures.reads
