use Rattle.std.proofs.Common.{◌≡◌, false, length, is_some, ap, sym, ◌∙◌, arith, nat_eq, nat_lt}
use Rattle.std.proofs.lemmas.Bool.Decides.{nat_tests}
use Rattle.wh_part.specs.View.{numbered_of}
use Rattle.wh_change.proofs.RisingRows.{none_found, found_or_not}
use Rattle.wh_change.proofs.seen.has_row.Goals as goal

pub returns-then-place-rows : goal.returns-then-place-rows
returns-then-place-rows c =
    ap (λ row. nat_eq row.number c.args.number) (sym c.index-rows-place.is)
    ∙ found_or_not numbered_of c.args.number c.args.rows.now c.place_in-place.result
    c.index-rows-place.result c.requires
    c.place_in-place.ensures (omega (arith, c.if-place-rows.true)) c.index-rows-place.is

pub returns-else-place-rows : goal.returns-else-place-rows
returns-else-place-rows c =
    let behind : nat_lt c.place_in-place.result (length c.args.rows.now) ≡ false = grind (arith, nat_tests) in
    behind ∙ sym (ap is_some (none_found numbered_of c.args.number c.args.rows.now c.place_in-place.result c.requires
    c.place_in-place.ensures (λ d within same. omega (arith, c.if-place-rows.false))))
