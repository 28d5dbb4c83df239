use Rattle.std.proofs.Common.{◌∙◌, ◌+◌, ap, refl, subst, sym, map}
use Rattle.wh_frame.specs.Partition.{Partition}
use Rattle.wh_part.specs.declared.meta.PartMeta.{PartMeta}
use Rattle.wh_part.specs.Outline.{IsOutlineOf, ends_of, types_in}
use Rattle.wh_part.specs.Sketch.{sketched}
use Rattle.wh_part.proofs.SketchLaws.{outline_is}
use Rattle.wh_part.proofs.outline.outlined.Goals as goal

pub invariant_of-result : goal.invariant_of-result
invariant_of-result g c =
    let sketch = c.args.sketch.now in
    let meta : PartMeta = record {
      id = record { object = 0; number = sketch.number };
      at = 0;
      length = c.args.size;
      rows = sketch.count;
      first = sketch.first;
      last = sketch.last;
      columns = c.in_ok-columns.columns;
    } in
    let types = c.in_ok-types.types.items in
    subst (λ (p : Partition). IsOutlineOf meta types p) (sym c.of.ensures)
    (outline_is meta types (sketched sketch) g.partition
    (rw c.deref.ensures.value at c.in_ok-columns.ensures) c.args.size c.requires
    (rw c.deref-2.ensures.value at c.in_ok-types.ensures) refl refl refl refl refl)
