use Rattle.std.proofs.Common.{◌≡◌, ◌∙◌, ap, sym, None, arith}
use Rattle.std.specs.FinMap.{get}
use Rattle.wh_value.specs.Order.{row_total}
use Rattle.wh_meaning.proofs.KeyMaps.{gotten}
use Rattle.wh_maintenance.specs.Standing.{Standing}
use Rattle.wh_group.specs.Slots.{slots_of, kept_groups}
use Rattle.wh_group.proofs.SlotLaws.{found_standing, found_gone, found_none}
use Rattle.wh_group.proofs.groups.Groups.get.Goals.{in_default-via-in-Some+else-group-gt0, in_default-via-in_default}
use Rattle.wh_group.proofs.groups.Groups.get.Goals as goal

pub returns-in-Some : goal.returns-in-Some
returns-in-Some c =
    let slots = slots_of c.args.self.now in
    let key = c.args.key.now in
    let rows = ap (λ (s : Standing). s.rows) c.group.view_is in
    let some = c.if-group-gt0.true in
    sym (found_standing slots key c.in-Some.group.now
    (gotten row_total c.args.self.now.map.entries key ∙ sym c.in-Some.ensures.value) (λ none. omega arith))

pub returns-in_default : goal.returns-in_default
returns-in_default c =
    let slots = slots_of c.args.self.now in
    let key = c.args.key.now in
    elim c.in_default.branch as (λ _. None ≡ get (kept_groups c.args.self.now) key) [
      | in_default-via-in-Some+else-group-gt0 w ↦
          let rows = ap (λ (s : Standing). s.rows) w.group.view_is in
          let none = w.if-group-gt0.false in
          sym (found_gone slots key w.in-Some.group.now
          (gotten row_total c.args.self.now.map.entries key ∙ sym w.in-Some.ensures.value) (omega arith))
      | in_default-via-in_default w ↦
          sym (found_none slots key
          (gotten row_total c.args.self.now.map.entries key ∙ sym w.in_default.ensures.value))
    ]
