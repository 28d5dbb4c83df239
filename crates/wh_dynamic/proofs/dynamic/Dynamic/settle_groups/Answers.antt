use Rattle.std.proofs.Common.{◌≡◌, ◌∙◌, sym, ap}
use Rattle.std.specs.Option.{option_map_or}
use Rattle.std.specs.FinMap.{empty}
use Rattle.wh_group.specs.Slots.{settle_before}
use Rattle.wh_dynamic.specs.View.{slots_in, kept_slots}
use Rattle.wh_dynamic.proofs.NoSlots.{none_settled}
use Rattle.wh_dynamic.proofs.dynamic.Dynamic.settle_groups.Goals as goal

pub returns-in_default-clause-slots : goal.returns-in_default-clause-slots
returns-in_default-clause-slots c =
    let none : slots_in c.args.self.now ≡ empty = ap (λ kept. option_map_or kept_slots kept empty) c.in_default.is in
    none ∙ sym (none_settled c.args.was.now) ∙ ap (settle_before c.args.was.now) (sym none)
