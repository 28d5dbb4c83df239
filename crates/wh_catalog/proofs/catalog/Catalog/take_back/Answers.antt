use Rattle.std.proofs.Common.{◌<◌, ◌≤◌, ◌∙◌, ap, sym, arith}
use Rattle.wh_value.specs.Limit.{bound}
use Rattle.wh_value.specs.declared.limit.Limit.TheVariants as limits
use Rattle.wh_state.specs.State.{live_count}
use Rattle.wh_catalog.specs.Object.{kept_objects, stored_objects}
use Rattle.wh_catalog.specs.Catalog.{kept_of, stored_of}
use Rattle.wh_catalog.specs.Undo.{step_undone}
use Rattle.wh_catalog.proofs.Dropped.{comes_back, stays_if_full, stays_if_not_last}
use Rattle.wh_catalog.proofs.catalog.Catalog.take_back.Goals.{
  else-live_count-bound-via-then-live_count-bound+else-is_last,
  else-live_count-bound-via-else-live_count-bound,
}
use Rattle.wh_catalog.proofs.catalog.Catalog.take_back.Goals as goal

pub returns-then-is_last-clause-back : goal.returns-then-is_last-clause-back
unfolding kept_of stored_of
returns-then-is_last-clause-back c =
    let xs = c.args.self.now.objects.items in
    let id = c.in-DroppedObject.id in
    let room : live_count (stored_objects xs) < bound limits.Objects =
    omega (arith, c.live_count.ensures.count, c.bound.ensures, c.if-live_count-bound.true) in
    c.revive.ensures.back
    ∙ sym (comes_back xs id room (sym c.is_last.ensures ∙ c.if-is_last.true))
    ∙ ap (λ step. step_undone step (kept_objects xs)) (sym c.in-DroppedObject.is)

pub returns-else-live_count-bound-clause-back : goal.returns-else-live_count-bound-clause-back
unfolding kept_of stored_of
returns-else-live_count-bound-clause-back c =
    let xs = c.args.self.now.objects.items in
    let id = c.in-DroppedObject.id in
    elim c.else-live_count-bound.branch [
      | else-live_count-bound-via-then-live_count-bound+else-is_last w ↦
          let room : live_count (stored_objects xs) < bound limits.Objects =
          omega (arith, c.live_count.ensures.count, c.bound.ensures, w.if-live_count-bound.true) in
          sym (stays_if_not_last xs id room (sym w.is_last.ensures ∙ w.if-is_last.false))
          ∙ ap (λ step. step_undone step (kept_objects xs)) (sym c.in-DroppedObject.is)
      | else-live_count-bound-via-else-live_count-bound w ↦
          let full : bound limits.Objects ≤ live_count (stored_objects xs) =
          omega (arith, c.live_count.ensures.count, c.bound.ensures, w.if-live_count-bound.false) in
          sym (stays_if_full xs id full)
          ∙ ap (λ step. step_undone step (kept_objects xs)) (sym c.in-DroppedObject.is)
    ]
