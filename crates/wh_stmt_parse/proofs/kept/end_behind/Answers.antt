use Rattle.std.proofs.Common.{◌∙◌}
use Rattle.wh_stmt_parse.proofs.Parting.{end_at}
use Rattle.wh_stmt_parse.proofs.kept.end_behind.Goals as goal

pub returns-in-Some : goal.returns-in-Some
returns-in-Some c =
    c.behind.ensures ∙ end_at c.args.first.now c.args.more.now c.in-Some.last.now c.in-Some.ensures.value
