use Rattle.std.proofs.Common.{◌≡◌, ◌∙◌, ap, sym}
use Rattle.std.specs.BTreeMap.{is_at}
use Rattle.std.specs.Map.{lookup}
use Rattle.std.specs.FinMap.{insert}
use Rattle.wh_value.specs.Value.{row_cmp}
use Rattle.wh_value.specs.Order.{row_total}
use Rattle.wh_meaning.proofs.KeyMaps.{gotten}
use Rattle.wh_maintenance.specs.Entries.{set_at}
use Rattle.wh_group.specs.Slots.{slots_of, groups_of_slots, kept_groups, put_at}
use Rattle.wh_group.proofs.MapLaws.{set_after}
use Rattle.wh_group.proofs.SlotLaws.{some_left, kept-insert, put-inserted}
use Rattle.wh_group.proofs.groups.Groups.fill.Goals.{In-Ok}
use Rattle.wh_group.proofs.groups.Groups.fill.Goals as goal

-- the slots with the group in that of the key
inserted : (c : In-Ok) → slots_of (record { map = c.insert.new.self })
    ≡ insert (slots_of c.args.self.now) c.args.key c.args.group
inserted c =
    set_after c.args.self.now.map.entries c.insert.new.self.entries c.in_ok-copy.copy c.args.group
    c.in-Ok.ensures.updates.0
    ∙ ap (λ key. insert (slots_of c.args.self.now) key c.args.group) c.in_ok-copy.ensures

pub returns-in-Ok-clause-ok : goal.returns-in-Ok-clause-ok
returns-in-Ok-clause-ok c =
    ap groups_of_slots (inserted c)
    ∙ kept-insert (slots_of c.args.self.now) c.args.key c.args.group
    ∙ ap (set_at (kept_groups c.args.self.now) c.args.key) (some_left c.args.group c.requires)

pub returns-in-Ok-clause-was : goal.returns-in-Ok-clause-was
returns-in-Ok-clause-was c =
    let key = c.args.key in
    let entries = c.args.self.now.map.entries in
    put-inserted (slots_of c.args.self.now) key c.args.group c.in-Ok.was
    (gotten row_total entries key ∙ ap (λ k. lookup (is_at (row_cmp k)) entries) (sym c.in_ok-copy.ensures)
    ∙ sym c.in-Ok.ensures.old)
    ∙ ap (λ slots. put_at slots key c.in-Ok.was) (sym (inserted c))
