-- Refreshes: dynamic tables brought to a moment.
--     Brought            what is done to one table: how it is brought to the moment, its edits, and what becomes of its
--                        groups, where it is kept
--     brought_one, brought_all     of one table, and of several by rising ids; None where an evaluation is undefined
--     Refreshing, refresh          the refresh of a table to a moment: a refusal, or its lines and its acts
use Rattle.std.specs.Prelude.{ℕ, ◌+◌, Bool, true, false, not, ◌&&◌, if◌then◌else◌, List, [], ◌∷◌, ◌++◌, length, map}
use Rattle.std.specs.Prelude.{Option, Some, None, option_map, unwrap_or, nat_eq, nat_lt, nat_le}
use Rattle.std.specs.FinMap.{empty, entries}
use Rattle.std.specs.List.{flat_map, list_any}
use Rattle.std.specs.Option.{option_map_or}
use Rattle.wh_value.specs.Limit.{bound}
use Rattle.wh_value.specs.declared.limit.Limit.TheVariants as limits
use Rattle.wh_reply.specs.Reply.{Refusal, OverLimit, SourceGone, NumberOutOfRange, RefreshAction, NoData, Full}
use Rattle.wh_reply.specs.Reply.{Incremental}
use Rattle.wh_reply.specs.Reply.{Refreshed}
use Rattle.wh_state.specs.State.{Object, Table, State, last_rows}
use Rattle.wh_maintenance.specs.Standing.{Groups}
use Rattle.wh_maintenance.specs.Entries.{entries_between}
use Rattle.wh_state.specs.Dynamic.{Dynamic, DynamicState, Kept, GroupsChange, ids_read}
use Rattle.wh_state.specs.Moments.{evaluated_at, groups_at}
use Rattle.wh_state.specs.Edits.{Edits}
use Rattle.wh_state.specs.Objects.{table_at, dynamic_at, name_at, is_live_at}
use Rattle.wh_state.specs.Act.{Act, PutsDynamic, RefreshesRows, all_acted, table_partitions_made}
use Rattle.wh_moment.specs.Upstream.{upstream, dynamics_of, brought}
use Rattle.wh_moment.specs.Moment.{brought_to}
use Rattle.wh_moment.specs.Rebase.{rebase}
use Rattle.wh_machine.specs.Tests.{first_of}

-- ---- one table

-- whether a version of a source stands for a moment behind one, up to another
abbrev pub has_version_between : ℕ → ℕ → Table → Bool
has_version_between from to t = list_any (λ v. nat_lt from v.data_timestamp && nat_le v.data_timestamp to) t.versions

abbrev pub has_new_data : List Object → ℕ → ℕ → List ℕ → Bool
has_new_data objects from to ids =
    list_any (λ id. option_map_or (has_version_between from to) (table_at objects id) false) ids

abbrev pub by_mode : Bool → RefreshAction
by_mode true = Incremental
by_mode false = Full

-- that there is nothing new is looked at first; a table that stands for no moment yet is evaluated
abbrev pub action_by : Dynamic → Bool → RefreshAction
action_by d is_new = if nat_eq d.state.moment 0 then Full else (if is_new then by_mode d.is_incremental else NoData)

abbrev pub action_of : List Object → ℕ → Dynamic → RefreshAction
action_of objects moment d = action_by d (has_new_data objects d.state.moment moment (ids_read d.query))

-- the groups that a table has so far; none where it stands for no moment
abbrev pub groups_stood : Dynamic → Kept → Groups
groups_stood d k = if nat_eq d.state.moment 0 then empty else k.groups

-- to the groups of its query for the moment
abbrev pub groups_change : List Object → ℕ → Dynamic → Kept → GroupsChange
groups_change objects moment d k = record {
  keys = k.keys;
  calls = k.calls;
  entries = entries_between (groups_stood d k) (unwrap_or (groups_at objects moment d) empty);
}

abbrev pub groups_brought : List Object → ℕ → Dynamic → Option GroupsChange
groups_brought objects moment d = option_map (groups_change objects moment d) d.kept

-- no edits, and no change of groups, where there is nothing new
pub record Brought : Type 0 where
  pub id : ℕ
  pub action : RefreshAction
  pub edits : Option Edits
  pub groups : Option GroupsChange
  pub state : DynamicState

abbrev pub brought_as : ℕ → ℕ → DynamicState → RefreshAction → Option Edits → Option GroupsChange → Brought
brought_as id moment s action edits groups =
    record { id = id; action = action; edits = edits; groups = groups; state = brought_to moment s }

abbrev pub brought_by : List Object → ℕ → ℕ → Dynamic → Table → RefreshAction → Option Brought
brought_by objects moment id d t NoData = Some (brought_as id moment d.state NoData None None)
brought_by objects moment id d t action = option_map (λ rows. brought_as id moment d.state action
    (Some (rebase (last_rows t) rows)) (groups_brought objects moment d)) (evaluated_at objects moment d)

abbrev pub brought_with : List Object → ℕ → ℕ → Option Dynamic → Option Table → Option Brought
brought_with objects moment id (Some d) (Some t) = brought_by objects moment id d t (action_of objects moment d)
brought_with objects moment id _ _ = None

unfoldable pub brought_one : List Object → ℕ → ℕ → Option Brought
brought_one objects moment id = brought_with objects moment id (dynamic_at objects id) (table_at objects id)

abbrev pub version_acts : ℕ → ℕ → Option Edits → Option GroupsChange → List Act
version_acts id moment None groups = []
version_acts id moment (Some e) groups = RefreshesRows id moment e groups ∷ []

abbrev pub acts_of_one : ℕ → Brought → List Act
acts_of_one moment b = version_acts b.id moment b.edits b.groups ++ PutsDynamic b.id b.state ∷ []

-- ---- several, by rising ids: each over what those before it leave

abbrev pub brought_then : (List Object → Option (List Brought)) → ℕ → ℕ → List Object → Option Brought
    → Option (List Brought)
brought_then rest stamp moment objects None = None
brought_then rest stamp moment objects (Some b) =
    option_map (λ more. b ∷ more) (rest (all_acted stamp objects (acts_of_one moment b)))

abbrev pub brought_all : ℕ → ℕ → List ℕ → List Object → Option (List Brought)
brought_all stamp moment [] objects = Some []
brought_all stamp moment (id ∷ ids) objects =
    brought_then (brought_all stamp moment ids) stamp moment objects (brought_one objects moment id)

-- ---- the numbers that versions would pass

abbrev pub is_row_past : List Object → Brought → Bool
is_row_past objects b = option_map_or (λ e. option_map_or
    (λ t. nat_lt (bound limits.RowNumber) (t.next_row + length e.added)) (table_at objects b.id) false) b.edits false

abbrev pub is_partition_past : List Object → Brought → Bool
is_partition_past objects b = option_map_or (λ e. option_map_or
    (λ t. nat_lt (bound limits.PartitionNumber) (t.next_partition + length (table_partitions_made e t)))
    (table_at objects b.id) false) b.edits false

-- row numbers of any table first
abbrev pub number_refusal : List Object → List Brought → Option Refusal
number_refusal objects all =
    if list_any (is_row_past objects) all then Some (OverLimit limits.RowNumber)
    else (if list_any (is_partition_past objects) all then Some (OverLimit limits.PartitionNumber) else None)

-- ---- a refresh

abbrev pub lost_source : List Object → ℕ → Bool
lost_source objects id = option_map_or (λ d. list_any (λ source. not (is_live_at objects source)) (ids_read d.query))
    (dynamic_at objects id) false

abbrev pub first_lost : List Object → List ℕ → Option Refusal
first_lost objects [] = None
first_lost objects (id ∷ ids) =
    if lost_source objects id then Some (SourceGone (name_at objects id)) else first_lost objects ids

abbrev pub counted_in : Option Edits → ℕ × ℕ
counted_in None = (0, 0)
counted_in (Some e) = (length e.added, length (entries e.rows))

abbrev pub told_of : List Object → ℕ → Brought → Refreshed
told_of objects moment b = record {
  name = name_at objects b.id;
  moment = moment;
  action = b.action;
  plus = (counted_in b.edits).0;
  minus = (counted_in b.edits).1;
}

pub data Refreshing : Type 0 where
  Fails : Refusal → Refreshing
  Brings : List Refreshed → List Act → Refreshing

abbrev pub unless_past : Option Refusal → List Refreshed → List Act → Refreshing
unless_past (Some why) lines acts = Fails why
unless_past None lines acts = Brings lines acts

abbrev pub refresh_by : List Object → ℕ → Option Refusal → Option (List Brought) → Refreshing
refresh_by objects moment (Some why) all = Fails why
refresh_by objects moment None None = Fails NumberOutOfRange
refresh_by objects moment None (Some all) = unless_past (number_refusal objects all)
    (map (told_of objects moment) all) (flat_map (acts_of_one moment) all)

-- the table and its upstream, by rising ids
abbrev pub with_upstream : List Object → ℕ → List ℕ
with_upstream objects id = upstream (dynamics_of objects) id ++ id ∷ []

-- whole or not at all, at the state's last stamp; that each source is there is tested first, then what is asked for
-- besides, and then the evaluations
unfoldable pub refresh : State → Option Refusal → ℕ → ℕ → Refreshing
refresh s besides id moment = refresh_by s.objects moment
    (first_of (first_lost s.objects (with_upstream s.objects id) ∷ besides ∷ []))
    (brought_all s.last moment (brought (dynamics_of s.objects) id moment) s.objects)
