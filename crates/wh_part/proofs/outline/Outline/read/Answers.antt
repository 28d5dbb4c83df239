use Rattle.std.proofs.Common.{◌∙◌, ◌-◌, ap, arith, length, refl, sym, Some}
use Rattle.std.proofs.lemmas.Result.{err_from_is_err_and}
use Rattle.wh_frame.specs.Partition.{Partition}
use Rattle.wh_part.specs.Sketch.{sketched}
use Rattle.wh_part.proofs.SketchLaws.{sketched_there, none_sketched, is_sketch, rest_is_behind}
use Rattle.wh_part.proofs.outline.Outline.read.Goals as goal

pub returns-in_err-sketch : goal.returns-in_err-sketch
returns-in_err-sketch c =
    let p = err_from_is_err_and c.from_residual.result c.from_residual.ensures.1 in
    rw (p.1, p.2) (none_sketched c.args.width c.args.bytes.now c.in_err-sketch.field-0.0 c.in_err-sketch.ensures)

pub overflow_sub-size : goal.overflow_sub-size
overflow_sub-size c =
    let sketch = sketched c.in_ok-sketch.sketch in
    rest_is_behind c.args.width c.args.bytes.now sketch c.in_ok-sketch.rest.now (λ i. omega (arith, c.type_inv.bytes i))
    (sketched_there c.args.width c.args.bytes.now sketch c.in_ok-sketch.rest.now c.in_ok-sketch.ensures)

pub spelled-requires : goal.spelled-requires
spelled-requires c =
    let sketch = sketched c.in_ok-sketch.sketch in
    is_sketch c.args.width c.args.bytes.now sketch c.in_ok-sketch.rest.now
    (length c.args.bytes.now - length c.in_ok-sketch.rest.now) (λ i. omega (arith, c.type_inv.bytes i))
    (sketched_there c.args.width c.args.bytes.now sketch c.in_ok-sketch.rest.now c.in_ok-sketch.ensures) refl

pub returns : goal.returns
returns c =
    let sketch = sketched c.in_ok-sketch.sketch in
    let is = sketched_there c.args.width c.args.bytes.now sketch c.in_ok-sketch.rest.now c.in_ok-sketch.ensures in
    is.there ∙ ap (λ (p : Partition). Some (p, c.in_ok-sketch.rest.now)) (sym c.in_ok-outline.ensures)
