use Rattle.wh_catalog.specs.Catalog.{kept_of, filed_of}
use Rattle.wh_catalog.specs.Object.{kept_object}
use Rattle.wh_state.specs.State.{at_id}
use Rattle.wh_catalog.proofs.FiledLaws.{table_among, table_under}
use Rattle.wh_catalog.proofs.catalog.Catalog.table.Goals as goal

pub returns-clause-filed : goal.returns-clause-filed
returns-clause-filed c =
    table_under c.table.result (kept_object c.in_ok-object.object.now) (at_id (kept_of c.args.self.now) c.args.id)
    c.in_ok-object.ensures.kept c.table.ensures.filed

pub returns-clause-among : goal.returns-clause-among
returns-clause-among c =
    table_among c.table.result c.in_ok-object.object.now (filed_of c.args.self.now) c.table.ensures.filed
    c.in_ok-object.ensures.among
