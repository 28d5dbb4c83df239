-- Entries of groups.
--     GroupEntry          a key, and the group that stands at it from then on, or none
--     set_one, set_all    groups behind an entry, and behind several, from the first to the last
--     groups_of           the groups of a bag, by key; None where a key or an argument has no value
--     groups_over         those of the Group of a query, over an instance
--     entries_between     the entries by rising key that lead from groups to others: of each key at which another stands
use Rattle.std.specs.Prelude.{Bool, true, false, not, ◌&&◌, nat_eq, List, [], ◌∷◌, ◌++◌, map, Option, Some, None}
use Rattle.std.specs.Prelude.{option_map}
use Rattle.std.specs.FinMap.{FinMap, empty, get, insert, remove, keys, entries, from_entries, retain_keys}
use Rattle.std.specs.Ordering.{eq_by_cmp, int_cmp}
use Rattle.wh_value.specs.Value.{Row, row_cmp}
use Rattle.wh_meaning.specs.Scalar.{Scalar, of_one}
use Rattle.wh_meaning.specs.Bag.{Bag}
use Rattle.wh_meaning.specs.Query.{Call, Total, Instance, with_key, projected, eval}
use Rattle.wh_maintenance.specs.Standing.{Standing, standing, Groups}
use Rattle.wh_maintenance.specs.Above.{Grouping}

pub record GroupEntry : Type 0 where
  pub key : Row
  pub group : Option Standing

abbrev pub set_at : Groups → Row → Option Standing → Groups
set_at groups key None = remove groups key
set_at groups key (Some s) = insert groups key s

abbrev pub set_one : Groups → GroupEntry → Groups
set_one groups e = set_at groups e.key e.group

abbrev pub set_all : List GroupEntry → Groups → Groups
set_all [] groups = groups
set_all (e ∷ es) groups = set_all es (set_one groups e)

-- ---- of a bag

abbrev pub with_group : List Scalar → List Call → Bag → Row → Groups → Option Groups
with_group by calls b key groups = option_map (insert groups key) (standing calls (with_key by key b))

abbrev pub groups_at_keys : List Scalar → List Call → Bag → List Row → Option Groups
groups_at_keys by calls b [] = Some empty
groups_at_keys by calls b (key ∷ others) = of_one (with_group by calls b key) (groups_at_keys by calls b others)

unfoldable pub groups_of : List Scalar → List Call → Bag → Option Groups
groups_of by calls b = of_one (λ keyed. groups_at_keys by calls b (keys keyed)) (projected by b)

-- of a query's Group over an instance
abbrev pub groups_over : Instance → Grouping → Option Groups
groups_over instance g = of_one (groups_of g.by g.calls) (eval g.below instance)

-- ---- from groups to others

abbrev pub same_total : Total → Total → Bool
same_total t u = eq_by_cmp int_cmp t.sum u.sum && nat_eq t.values u.values

abbrev pub same_totals : List Total → List Total → Bool
same_totals [] [] = true
same_totals (t ∷ ts) (u ∷ us) = same_total t u && same_totals ts us
same_totals _ _ = false

abbrev pub same_group : Option Standing → Option Standing → Bool
same_group None None = true
same_group (Some s) (Some t) = nat_eq s.rows t.rows && same_totals s.totals t.totals
same_group _ _ = false

-- what stands afterwards at each key of the two
abbrev pub with_both_keys : Groups → Groups → FinMap row_cmp (Option Standing)
with_both_keys old new = from_entries (map (λ key. (key, get new key)) (keys old ++ keys new))

abbrev pub is_another : Groups → Groups → Row → Bool
is_another old new key = not (same_group (get old key) (get new key))

abbrev pub entry_of : Row × Option Standing → GroupEntry
entry_of e = record { key = e.0; group = e.1 }

unfoldable pub entries_between : Groups → Groups → List GroupEntry
entries_between old new = map entry_of (entries (retain_keys (with_both_keys old new) (is_another old new)))
