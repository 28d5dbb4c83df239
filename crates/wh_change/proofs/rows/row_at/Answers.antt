use Rattle.std.proofs.Common.{◌∙◌, ap, sym, arith}
use Rattle.std.specs.FinMap.Entries.{find}
use Rattle.std.specs.Ordering.{nat_cmp}
use Rattle.wh_change.specs.Rows.{entry_at, entries_at}
use Rattle.wh_change.proofs.RisingRows.{found, none_found, none_there}
use Rattle.wh_change.proofs.rows.row_at.Goals as goal

pub returns-then-rows-place : goal.returns-then-rows-place
returns-then-rows-place c = sym (none_found entry_at c.args.number c.args.rows.now c.place_of-place.result c.requires
    c.place_of-place.ensures (λ d within same. omega (arith, c.if-rows-place.true)))

pub returns-then-found-number : goal.returns-then-found-number
returns-then-found-number c = sym (none_there entry_at c.args.number c.args.rows.now c.place_of-place.result
    c.index-rows-place.result c.requires c.place_of-place.ensures (omega (arith, c.if-rows-place.false))
    c.index-rows-place.is (λ same. c.if-found-number.true same))

pub returns : goal.returns
returns c =
    let rows = c.args.rows.now in
    sym (ap (λ n. find nat_cmp n (entries_at rows)) (sym c.if-found-number.false)
    ∙ found entry_at 0 rows c.place_of-place.result c.index-rows-place.result c.requires
    (omega (arith, c.if-rows-place.false)) c.index-rows-place.is)
