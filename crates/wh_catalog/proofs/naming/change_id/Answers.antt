use Rattle.std.proofs.Common.{ap, sym, ◌∙◌, cond, bytes_eq, Some, None}
use Rattle.wh_catalog.specs.Names.{id_at}
use Rattle.wh_catalog.proofs.Index.{updated}
use Rattle.wh_catalog.proofs.naming.change_id.Goals as goal

pub returns-in-Some-get_mut : goal.returns-in-Some-get_mut
returns-in-Some-get_mut c = λ other.
    let id = c.in-Some.id in
    updated c.args.names.now (c.get_mut.follows.lender id) c.args.name.now (Some id)
    ((c.get_mut.follows.holds id).3 c.requires) other
    ∙ ap (λ put. cond (bytes_eq c.args.name.now other) put (id_at c.args.names.now other)) (sym c.in-Some.is)

pub returns-in-None : goal.returns-in-None
returns-in-None c = λ other.
    updated c.args.names.now c.swap_remove.new.self c.args.name.now None c.swap_remove.ensures.updates other
    ∙ ap (λ put. cond (bytes_eq c.args.name.now other) put (id_at c.args.names.now other)) (sym c.in-None.is)
