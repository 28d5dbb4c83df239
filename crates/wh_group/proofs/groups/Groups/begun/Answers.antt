use Rattle.std.proofs.Common.{◌≡◌, ◌∙◌, ap, sym, None, map, rules}
use Rattle.std.specs.List.{list_all}
use Rattle.std.specs.Ordering.{eq_by_cmp}
use Rattle.std.specs.Map.{update_all}
use Rattle.std.specs.BTreeMap.{IsFromIterResult}
use Rattle.std.specs.FinMap.{empty, get}
use Rattle.wh_value.specs.Value.{Row, row_cmp}
use Rattle.wh_value.specs.Order.{row_total}
use Rattle.wh_meaning.proofs.KeyMaps.{gotten}
use Rattle.wh_maintenance.specs.Entries.{set_all}
use Rattle.wh_group.specs.Slots.{slots_of, has_group, slot_of}
use Rattle.wh_group.proofs.SlotLaws.{kept-made, set_slots}
use Rattle.wh_group.proofs.groups.Groups.begun.Goals.{In_ok-map}
use Rattle.wh_group.proofs.groups.Groups.begun.Goals as goal

-- at each key stands what the entries' slots write
made : (c : In_ok-map) (q : Row) → get (slots_of (record { map = c.in_ok-map.map })) q
    ≡ update_all (eq_by_cmp row_cmp) (λ _. None) (map slot_of c.args.entries.items) q
made c q =
    let tree : IsFromIterResult row_cmp (map slot_of c.args.entries.items) c.in_ok-map.map = search rules in
    gotten row_total c.in_ok-map.map.entries q ∙ tree.0 q

pub returns : goal.returns
returns c =
    let set = set_slots c.args.entries.items c.requires in
    kept-made (map slot_of c.args.entries.items) (slots_of (record { map = c.in_ok-map.map })) (made c)
    (ap (list_all has_group) set ∙ c.requires)
    ∙ ap (λ es. set_all es empty) set
