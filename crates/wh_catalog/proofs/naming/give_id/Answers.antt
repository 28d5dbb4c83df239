use Rattle.std.proofs.Common.{Some, cond, bytes_eq, ap, ◌∙◌}
use Rattle.wh_catalog.specs.Names.{id_at}
use Rattle.wh_catalog.proofs.Index.{updated}
use Rattle.wh_catalog.proofs.naming.give_id.Goals as goal

pub returns-clause-given : goal.returns-clause-given
returns-clause-given c = λ other.
    updated c.args.names.now c.insert.new.self c.in_ok-key.key.items
    (Some c.args.id) c.in_ok-insert.ensures.updates other
    ∙ ap (λ key. cond (bytes_eq key other) (Some c.args.id) (id_at c.args.names.now other)) c.in_ok-key.ensures.items
