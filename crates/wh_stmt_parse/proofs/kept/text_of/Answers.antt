use Rattle.std.proofs.Common.{◌∙◌, Some, ap, sym}
use Rattle.wh_lex.proofs.TextLemmas.{text-read, text-none}
use Rattle.wh_stmt_parse.proofs.kept.text_of.Goals as goal

pub returns-in_ok-made-in-Some : goal.returns-in_ok-made-in-Some
returns-in_ok-made-in-Some c =
    let same = rw (c.in_ok-made-in-Some.was) at c.in-Some.ensures.found.1 in
    text-read c.args.bytes.now c.in-Some.ensures.found.0 ∙ ap Some (sym same)

pub returns-in-None : goal.returns-in-None
returns-in-None c = text-none c.args.bytes.now c.in-None.ensures.none
