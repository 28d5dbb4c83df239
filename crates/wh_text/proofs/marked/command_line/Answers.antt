use Rattle.std.proofs.Common.{◌≡◌, ◌∙◌, ap, take, min, length, arith}
use Rattle.std.proofs.lemmas.List.{take_min}
use Rattle.wh_grammar.specs.Script.{CommandLine}
use Rattle.wh_text.proofs.marked.command_line.Goals as goal

pub returns-clause-line : goal.returns-clause-line
returns-clause-line c =
    let text = c.args.text.now in
    let count : c.min-count.result ≡ min 65537 (length text) = omega arith in
    ap CommandLine (c.in-Ok.ensures ∙ ap (λ n. take n text) count ∙ take_min 65537 text)
