use Rattle.std.proofs.Common.{subst}
use Rattle.wh_frame.specs.Partition.{Partition}
use Rattle.wh_part.specs.declared.meta.PartMeta.{PartMeta}
use Rattle.wh_part.specs.Meta.{IsMetaOf}
use Rattle.wh_part.proofs.outline.Outline.filed.Goals as goal

pub returns-clause-says : goal.returns-clause-says
returns-clause-says c =
    let is = c.self.invariant.says in
    let meta = c.self.inside.meta in
    let filed : PartMeta = record {
      id = record { object = c.args.object; number = meta.id.number };
      at = c.args.at;
      length = meta.length;
      rows = meta.rows;
      first = meta.first;
      last = meta.last;
      columns = meta.columns;
    } in
    subst (λ (p : Partition). IsMetaOf filed p) c.self.view_is
    (record {
      number = is.number;
      rows = is.rows;
      first = is.first;
      last = is.last;
      width = is.width;
      columns = is.columns;
    })
