use Rattle.std.proofs.Common.{◌≡◌, ◌==◌, ◌∙◌, true, map, sym}
use Rattle.std.specs.List.{list_all}
use Rattle.wh_grammar.specs.Bytes.{upper}
use Rattle.wh_lex.proofs.WordLemmas.{upper_kept}
use Rattle.wh_lex.proofs.words.upper_case.Goals as goal

pub returns-then-is_upper : goal.returns-then-is_upper
returns-then-is_upper c =
    let all : list_all (λ byte. upper byte == byte) c.args.word.now ≡ true = sym c.is_upper.ensures
    ∙ c.if-is_upper.true in
    let same : map upper c.args.word.now ≡ c.args.word.now = upper_kept c.args.word.now all in
    rw same c.made_text.ensures
