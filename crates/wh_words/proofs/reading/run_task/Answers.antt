use Rattle.std.proofs.Common.{ap, sym, ◌∙◌, refl}
use Rattle.clap.specs.Words.{found_of}
use Rattle.clap.proofs.WalkLemmas.{first_value-rows}
use Rattle.wh_words.specs.Words.{workers_in, clock_in}
use Rattle.wh_words.proofs.reading.run_task.Goals as goal

pub returns-in_err-workers-clause-task : goal.returns-in_err-workers-clause-task
returns-in_err-workers-clause-task c =
    let workers = c.workers_of.ensures.number ∙ ap workers_in (c.get_str.ensures ∙ first_value-rows (found_of c.args.matches.now) _) in
    rw (c.from_residual.ensures, sym workers ∙ c.in_err-workers.was) refl

pub returns-in_err-system_clock-clause-task : goal.returns-in_err-system_clock-clause-task
returns-in_err-system_clock-clause-task c =
    let workers = c.workers_of.ensures.number ∙ ap workers_in (c.get_str.ensures ∙ first_value-rows (found_of c.args.matches.now) _) in
    let clock = c.clock_of.ensures ∙ ap clock_in (c.get_str-2.ensures ∙ first_value-rows (found_of c.args.matches.now) _) in
    rw (c.from_residual-in_err-system_clock.ensures, sym workers ∙ c.in_ok-workers.was, sym clock ∙ c.in_err-system_clock.was) refl

pub returns-clause-task : goal.returns-clause-task
returns-clause-task c =
    let workers = c.workers_of.ensures.number ∙ ap workers_in (c.get_str.ensures ∙ first_value-rows (found_of c.args.matches.now) _) in
    let clock = c.clock_of.ensures ∙ ap clock_in (c.get_str-2.ensures ∙ first_value-rows (found_of c.args.matches.now) _) in
    rw (sym workers ∙ c.in_ok-workers.was, sym clock ∙ c.in_ok-system_clock.was) refl
