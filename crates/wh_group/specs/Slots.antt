-- Slots of kept groups, by key.
--     slots_of                        what stands in each; one with no rows is of a group that was removed since
--     standing_in                     the group of a key, or none
--     groups_of_slots, kept_groups    the groups of all keys
--     put_slot, put_slots             a slot as it was, or none; of several, from the last to the first
--     settle_slot                     without the slot of a group that was removed
--     settle_found, settle_slots      so of the slot that an entry's call found, if it found one; of several
--     put_before, settle_before       slots as they were before a call, and without those that it found
--     has_group                       an entry's group has rows
--     gone                            what a group that is removed leaves
--     slot_of                         the slot that an entry fills
--     setting                         the entry that fills a slot
--     Replaces                        a slot takes another standing and gives what stood there; where there is no slot,
--                                     the other comes back
use Rattle.std.specs.Prelude.{◌≡◌, Bool, if◌then◌else◌, List, [], ◌∷◌, Option, Some, None, is_some, unwrap_or}
use Rattle.std.specs.Prelude.{Result, Ok, Err}
use Rattle.std.specs.FinMap.{FinMap, empty, get, contains_key, insert, remove, retain_keys, from_entries}
use Rattle.wh_value.specs.Value.{Row, row_cmp}
use Rattle.wh_meaning.specs.Scalar.{of_one}
use Rattle.wh_maintenance.specs.Standing as kept
use Rattle.wh_maintenance.specs.Standing.{Standing, if_left}
use Rattle.wh_maintenance.specs.Entries.{GroupEntry, set_at}
use Rattle.wh_group.specs.declared.groups.Before.{Before}
use Rattle.wh_group.specs.declared.groups.Before.TheVariants.{Nothing, Entries}
use Rattle.wh_group.specs.declared.groups.Groups.{Groups}

abbrev pub Slots : Type 0
Slots = FinMap row_cmp Standing

abbrev pub slots_of : Groups → Slots
slots_of groups = from_entries groups.map.entries

abbrev pub standing_in : Slots → Row → Option Standing
standing_in slots key = of_one if_left (get slots key)

abbrev pub groups_of_slots : Slots → kept.Groups
groups_of_slots slots = retain_keys slots (λ key. is_some (standing_in slots key))

abbrev pub kept_groups : Groups → kept.Groups
kept_groups groups = groups_of_slots (slots_of groups)

-- ---- a call taken back

abbrev pub put_at : Slots → Row → Option Standing → Slots
put_at slots key None = remove slots key
put_at slots key (Some s) = if contains_key slots key then insert slots key s else slots

abbrev pub put_slot : Slots → GroupEntry → Slots
put_slot slots e = put_at slots e.key e.group

abbrev pub put_slots : List GroupEntry → Slots → Slots
put_slots [] slots = slots
put_slots (e ∷ es) slots = put_slot (put_slots es slots) e

abbrev pub put_before : Before → Slots → Slots
put_before Nothing slots = empty
put_before (Entries was) slots = put_slots was.items slots

-- ---- groups that were removed

abbrev pub settle_slot : Slots → Row → Slots
settle_slot slots key = set_at slots key (standing_in slots key)

abbrev pub settle_found : Slots → GroupEntry → Slots
settle_found slots e = if is_some e.group then settle_slot slots e.key else slots

abbrev pub settle_slots : List GroupEntry → Slots → Slots
settle_slots [] slots = slots
settle_slots (e ∷ es) slots = settle_slots es (settle_found slots e)

abbrev pub settle_before : Before → Slots → Slots
settle_before Nothing slots = slots
settle_before (Entries was) slots = settle_slots was.items slots

-- ---- slots made at once

abbrev pub has_group : GroupEntry → Bool
has_group e = is_some (of_one if_left e.group)

abbrev pub gone : Standing
gone = record { rows = 0; totals = [] }

abbrev pub slot_of : GroupEntry → Row × Standing
slot_of e = (e.key, unwrap_or e.group gone)

abbrev pub setting : Row × Standing → GroupEntry
setting p = record { key = p.0; group = Some p.1 }

-- ---- one slot

abbrev pub Replaces : Result Standing Standing → Slots → Row → Standing → Slots → Type 0
Replaces (Ok was) old key s new = (get old key ≡ Some was) × (new ≡ insert old key s)
Replaces (Err back) old key s new = (back ≡ s) × (get old key ≡ None) × (new ≡ old)
