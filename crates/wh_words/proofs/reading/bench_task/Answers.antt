use Rattle.std.proofs.Common.{ap, sym, ◌∙◌, refl}
use Rattle.clap.specs.Words.{found_of}
use Rattle.clap.proofs.WalkLemmas.{first_value-rows}
use Rattle.wh_words.specs.Number.{given_number}
use Rattle.wh_words.specs.Words.{workers_in}
use Rattle.wh_words.proofs.reading.bench_task.Goals as goal

pub returns-in_err-workers-clause-task : goal.returns-in_err-workers-clause-task
returns-in_err-workers-clause-task c =
    let workers = c.workers_of.ensures.number ∙ ap workers_in (c.get_str.ensures ∙ first_value-rows (found_of c.args.matches.now) _) in
    rw (c.from_residual.ensures, sym workers ∙ c.in_err-workers.was) refl

pub returns-in_err-rows-clause-task : goal.returns-in_err-rows-clause-task
returns-in_err-rows-clause-task c =
    let workers = c.workers_of.ensures.number ∙ ap workers_in (c.get_str.ensures ∙ first_value-rows (found_of c.args.matches.now) _) in
    let rows = c.number_in.ensures.number ∙ ap (given_number 0 200000) (c.get_str-2.ensures ∙ first_value-rows (found_of c.args.matches.now) _) in
    rw (c.from_residual-in_err-rows.ensures, sym workers ∙ c.in_ok-workers.was, sym rows ∙ c.in_err-rows.was) refl

pub returns-in_err-seed-clause-task : goal.returns-in_err-seed-clause-task
returns-in_err-seed-clause-task c =
    let workers = c.workers_of.ensures.number ∙ ap workers_in (c.get_str.ensures ∙ first_value-rows (found_of c.args.matches.now) _) in
    let rows = c.number_in.ensures.number ∙ ap (given_number 0 200000) (c.get_str-2.ensures ∙ first_value-rows (found_of c.args.matches.now) _) in
    let seed = c.number_in-2.ensures.number ∙ ap (given_number 1 2147483646) (c.get_str-3.ensures ∙ first_value-rows (found_of c.args.matches.now) _) in
    rw (c.from_residual-in_err-seed.ensures, sym workers ∙ c.in_ok-workers.was, sym rows ∙ c.in_ok-rows.was, sym seed ∙ c.in_err-seed.was) refl

pub returns-clause-task : goal.returns-clause-task
returns-clause-task c =
    let workers = c.workers_of.ensures.number ∙ ap workers_in (c.get_str.ensures ∙ first_value-rows (found_of c.args.matches.now) _) in
    let rows = c.number_in.ensures.number ∙ ap (given_number 0 200000) (c.get_str-2.ensures ∙ first_value-rows (found_of c.args.matches.now) _) in
    let seed = c.number_in-2.ensures.number ∙ ap (given_number 1 2147483646) (c.get_str-3.ensures ∙ first_value-rows (found_of c.args.matches.now) _) in
    rw (sym workers ∙ c.in_ok-workers.was, sym rows ∙ c.in_ok-rows.was, sym seed ∙ c.in_ok-seed.was) refl
