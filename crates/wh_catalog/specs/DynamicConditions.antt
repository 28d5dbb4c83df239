-- When what a commit does to dynamic tables applies, as tests.
--     is_lag               whether a lag is DOWNSTREAM, or within its limits
--     has_one_id           whether a name stands for one object
--     same_columns         whether columns are the same, to the letter
--     is_right             whether nothing is found wrong with a query that gives these columns
--     binds                whether a query binds to these columns
--     dynamic_applies      whether a new dynamic table applies
--     takes_state          whether a dynamic table that stands for a moment takes a state
--     takes_groups         whether a dynamic table takes a change of its groups
use Rattle.std.specs.Prelude.{ℕ, Bool, true, false, not, ◌&&◌, ◌||◌, List, [], ◌∷◌, map, is_some, nat_eq, nat_le}
use Rattle.std.specs.Prelude.{bytes_eq}
use Rattle.std.specs.FinMap.{get}
use Rattle.std.specs.List.{list_all}
use Rattle.std.specs.Option.{option_map_or}
use Rattle.wh_value.specs.Column.{Column}
use Rattle.wh_value.specs.Limit.{bound}
use Rattle.wh_value.specs.declared.limit.Limit.TheVariants as limits
use Rattle.wh_naming.specs.Findings.{first_failing}
use Rattle.wh_naming.specs.Select.{BoundQuery, column_of}
use Rattle.wh_naming.specs.Typing.{same_type}
use Rattle.wh_state.specs.State.{at_id}
use Rattle.wh_maintenance.specs.Standing.{Groups}
use Rattle.wh_maintenance.specs.Entries.{GroupEntry}
use Rattle.wh_state.specs.Dynamic.{Source, DynamicQuery, DynamicState, most_failed_refreshes}
use Rattle.wh_state.specs.Dynamic.{Dynamic, Kept, GroupsChange}
use Rattle.wh_state.specs.Bound.{but_taken, query_bound}
use Rattle.wh_state.specs.Stored.{StoredObject}
use Rattle.wh_state.specs.Commit.{DynamicChange}
use Rattle.wh_catalog.specs.Conditions.{are_stored_columns, is_new_object, is_live_table}

abbrev pub is_lag : ℕ → Bool
is_lag lag = nat_eq lag 0 || (nat_le (bound limits.LeastTargetLag) lag && nat_le lag (bound limits.MostTargetLag))

-- ---- queries

abbrev pub are_live_sources : List StoredObject → List Source → Bool
are_live_sources objects sources = list_all (λ s. is_live_table (at_id objects s.id)) sources

abbrev pub agrees : Source → Source → Bool
agrees s other = not (bytes_eq other.name s.name) || nat_eq other.id s.id

abbrev pub has_one_id : List Source → Source → Bool
has_one_id sources s = list_all (agrees s) sources

abbrev pub same_column : Column → Column → Bool
same_column a b = bytes_eq a.name b.name && same_type a.column_type b.column_type

abbrev pub same_columns : List Column → List Column → Bool
same_columns [] [] = true
same_columns [] (y ∷ ys) = false
same_columns (x ∷ xs) [] = false
same_columns (x ∷ xs) (y ∷ ys) = same_column x y && same_columns xs ys

abbrev pub is_right : BoundQuery → List Column → Bool
is_right q columns = not (is_some (first_failing (but_taken q.findings)))
    && (not q.is_wide && same_columns (map column_of q.outputs) columns)

abbrev pub are_sources : List StoredObject → List Source → Bool
are_sources objects sources = are_live_sources objects sources && list_all (has_one_id sources) sources

abbrev pub binds : List StoredObject → DynamicQuery → List Column → Bool
binds objects q columns = are_sources objects q.sources && is_right (query_bound objects q) columns

-- ---- new dynamic tables

abbrev pub is_formed : List StoredObject → DynamicChange → Bool
is_formed objects c = is_new_object objects c.id c.name && (is_lag c.lag && are_stored_columns c.columns)

abbrev pub dynamic_applies : List StoredObject → DynamicChange → Bool
dynamic_applies objects c = is_formed objects c && binds objects c.query c.columns

-- ---- states

abbrev pub takes_state : ℕ → DynamicState → Bool
takes_state moment s = is_lag s.lag && (nat_le s.failures most_failed_refreshes && nat_le moment s.moment)

-- ---- groups

abbrev pub has_form : GroupsChange → Kept → Bool
has_form c k = nat_eq c.keys k.keys && nat_eq c.calls k.calls

abbrev pub may_set : Groups → GroupEntry → Bool
may_set groups e = is_some e.group || is_some (get groups e.key)

abbrev pub is_taken_by : GroupsChange → Kept → Bool
is_taken_by c k = has_form c k && list_all (may_set k.groups) c.entries

abbrev pub takes_groups : GroupsChange → Dynamic → Bool
takes_groups c d = option_map_or (is_taken_by c) d.kept false
