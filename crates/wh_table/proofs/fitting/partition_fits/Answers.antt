use Rattle.std.proofs.Common.{◌∙◌, sym, ap, map}
use Rattle.std.specs.Prelude.{◌&&◌, nat_lt}
use Rattle.std.specs.List.{list_all}
use Rattle.wh_value.specs.View.{column_of}
use Rattle.wh_frame.specs.Partition.{last_number}
use Rattle.wh_table.proofs.FittingLaws.{entries_fit, both_all}
use Rattle.wh_table.proofs.fitting.partition_fits.Goals as goal

pub returns-then-fits : goal.returns-then-fits
returns-then-fits c =
    let rows = c.args.partition.now.rows in
    ap (λ n. nat_lt n c.args.next_row) c.last.ensures.last
    ∙ ap (λ b. b && nat_lt (last_number rows) c.args.next_row) (sym c.if-fits.true ∙ c.fits.ensures)
    ∙ sym (entries_fit (map column_of c.args.columns.now) c.args.next_row rows c.last.ensures.some
    c.last.ensures.rising)

pub returns-else-fits : goal.returns-else-fits
returns-else-fits c =
    let rows = c.args.partition.now.rows in
    c.if-fits.false
    ∙ ap (λ b. b && list_all (λ e. nat_lt e.0 c.args.next_row) rows) (sym c.if-fits.false ∙ c.fits.ensures)
    ∙ sym (both_all (map column_of c.args.columns.now) c.args.next_row rows)
