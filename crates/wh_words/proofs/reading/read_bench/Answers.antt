use Rattle.std.proofs.Common.{ap, sym, ◌∙◌, map}
use Rattle.std.specs.Prelude.{Err}
use Rattle.std.specs.String.{string_bytes}
use Rattle.clap.specs.Words.{fault_of, matches_of, App}
use Rattle.wh_words.specs.Words.{bench_of}
use Rattle.wh_words.proofs.Meant.{refused, passed}
use Rattle.wh_words.proofs.reading.read_bench.Goals as goal

pub returns-in-Err-clause-reads : goal.returns-in-Err-clause-reads
returns-in-Err-clause-reads c =
    let same = ap (λ (app : App). fault_of app (map string_bytes c.args.words.now)) c.in_ok-command.ensures in
    refused c.in-Err.fault _ _ (λ e none. c.in-Err.ensures.usage (ap Err e) (same ∙ none))

pub returns-in-Ok-clause-reads : goal.returns-in-Ok-clause-reads
returns-in-Ok-clause-reads c =
    let words = map string_bytes c.args.words.now in
    let app = c.in_ok-command.ensures in
    passed _ _ _ c.told.result (sym (ap (λ (a : App). fault_of a words) app) ∙ c.in-Ok.ensures.ok.0)
    (c.bench_task.ensures.task ∙ ap bench_of (c.in-Ok.ensures.ok.1 ∙ ap (λ (a : App). matches_of a words) app)) c.told.ensures.reads
