use Rattle.std.proofs.Common.{rules}
use Rattle.wh_fetch.specs.DiskFetch.{told_of, Covers}
use Rattle.wh_filed.proofs.FetchingLaws.{all_shown_by, all_covered}
use Rattle.wh_exec.specs.Source.{filed_in}
use Rattle.wh_dml.proofs.changing.source_rows.Goals as goal

pub answered_in_order-requires : goal.answered_in_order-requires
answered_in_order-requires g c = (
  c.type_bounds.sync-R,
  all_covered (Covers g.D.Disk c.args.fetch.now) (filed_in c.args.sources.now) (λ part. c.requires),
)

pub returns-in-InsertQuery-clause-rows : goal.returns-in-InsertQuery-clause-rows
returns-in-InsertQuery-clause-rows g c all =
    let shown = all_shown_by (told_of g.D.Disk c.args.fetch.now) (filed_in c.args.sources.now) all in
    let rows = c.answered_in_order.ensures.rows shown in
    search rules

pub returns-in-InsertQuery-clause-sound : goal.returns-in-InsertQuery-clause-sound
returns-in-InsertQuery-clause-sound g c all =
    c.answered_in_order.ensures.sound
    (all_shown_by (told_of g.D.Disk c.args.fetch.now) (filed_in c.args.sources.now) all)
