use Rattle.std.proofs.Common.{◌∙◌, ap, sym, rules}
use Rattle.std.proofs.lemmas.List.{nil_from_length}
use Rattle.std.specs.FinMap.{from_entries}
use Rattle.wh_maintenance.specs.Entries.{set_all}
use Rattle.wh_group.specs.Slots.{groups_of_slots}
use Rattle.wh_group.proofs.SlotLaws.{kept-none}
use Rattle.wh_group.proofs.groups.Groups.set_all.Goals as goal

pub returns-then-have_groups-clause-ok : goal.returns-then-have_groups-clause-ok
returns-then-have_groups-clause-ok c =
    let none = nil_from_length c.args.self.now.map.entries (search rules) in
    c.in_ok-self.ensures
    ∙ ap (set_all c.args.entries.items) (sym (ap (λ es. groups_of_slots (from_entries es)) none ∙ kept-none))
