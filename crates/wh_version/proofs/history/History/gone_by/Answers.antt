use Rattle.std.proofs.Common.{ap, sym, ◌∙◌, arith}
use Rattle.wh_filed.specs.Filed.{filed_at}
use Rattle.wh_version.proofs.Going.{none_gone}
use Rattle.wh_version.proofs.history.History.gone_by.Goals as goal

pub returns-then-self-old : goal.returns-then-self-old
returns-then-self-old c =
    let h = c.args.self.now in
    let sized = h.later.ok.0 in
    ap filed_at c.new.ensures.items
    ∙ sym (none_gone h.last_going c.args.old.place c.args.new c.args.old.partitions h.kept.items (omega arith)
    (omega (arith, c.requires.place)) h.went)
