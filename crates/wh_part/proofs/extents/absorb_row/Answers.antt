use Rattle.std.proofs.Common.{◌∙◌, ◌≡◌, ◌∷◌, ◌<◌, ◌+◌, ap, arith, drop, length, map, get_or, sym}
use Rattle.std.proofs.lemmas.List.{drop_more, length-map, length-set, get_or-map}
use Rattle.wh_value.specs.Value.{Value, Null}
use Rattle.wh_value.specs.View.{value_of}
use Rattle.wh_part.proofs.AbsorbLaws.{row_more, row_done}
use Rattle.wh_part.proofs.extents.absorb_row.Goals as goal

pub loop-place-preserved : goal.loop-place-preserved
loop-place-preserved c =
    let extents = c.loop-place.extents in
    let place = c.loop-place.place in
    let row = map value_of c.args.values.now in
    let within : place < length extents = omega (arith, c.loop-place-test.true, c.min-place-end.ensures, c.loop-place.invariant.count) in
    let inside : place < length row = omega (arith, c.loop-place-test.true, c.min-place-end.ensures, length-map c.args.values.now value_of) in
    let read : get_or row place Null ≡ _ =
    get_or-map value_of c.args.values.now place _ Null (omega (arith, inside, length-map c.args.values.now value_of))
    ∙ ap value_of (sym c.index-values-place.is) ∙ sym c.seen_in.ensures in
    record {
      count = length-set extents place c.absorb.new.extent ∙ c.loop-place.invariant.count;
      made = row_more extents place _ c.absorb.new.extent row _ within
          (drop_more row place Null inside ∙ ap (λ (v : Value). v ∷ drop (place + 1) row) read) c.absorb.ensures ∙ c.loop-place.invariant.made;
    }

pub returns : goal.returns
returns c =
    sym (row_done c.loop-place.extents c.loop-place.place (map value_of c.args.values.now)
    (omega (arith, c.loop-place-test.false, c.min-place-end.ensures, c.loop-place.invariant.count, length-map c.args.values.now value_of)))
    ∙ c.loop-place.invariant.made
