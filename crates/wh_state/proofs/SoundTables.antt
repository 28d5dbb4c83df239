-- Tables whose versions are sound, and one version more.
--     IsFresh                       no version of a stamp, or behind it
--     table_later, new_sound        at a later stamp, and as it is created
--     last_after                    the rows of the version more
--     edited_sound                  a table with a version more
--     IsRefreshed, refreshed_sound  a dynamic table with a version more, that has the rows of its query for a moment
use Rattle.std.proofs.Common.{◌≡◌, ℕ, ◌+◌, ◌<◌, ◌≤◌, ◌⊎◌, inl, inr, ◌++◌, ◌∷◌, [], List, length, Option, Some, None}
use Rattle.std.proofs.Common.{option_map, refl, sym, ap, subst, ◌∙◌, arith}
use Rattle.std.specs.List.{AllByRecursion}
use Rattle.std.specs.FinMap.{get, values}
use Rattle.std.specs.Option.{IfSome}
use Rattle.std.proofs.lemmas.Option.{IfSome_then}
use Rattle.std.proofs.lemmas.Bool.{cases_lt}
use Rattle.wh_value.specs.Value.{Row}
use Rattle.wh_value.specs.Column.{Column}
use Rattle.wh_meaning.specs.Bag.{bag_of}
use Rattle.wh_state.specs.State.{Version, Table, Object, Rows, nothing_held, new_table, version_for, last_rows}
use Rattle.wh_state.specs.State.{content_in}
use Rattle.wh_maintenance.specs.Entries.{GroupEntry}
use Rattle.wh_state.specs.Dynamic.{DynamicState, Dynamic, Kept, GroupsChange, behind_entries, with_dynamic_state}
use Rattle.wh_state.specs.Dynamic.{with_groups, ids_read}
use Rattle.wh_state.specs.Bound.{kept_for}
use Rattle.wh_state.specs.Edits.{Edits, rows_after}
use Rattle.wh_state.specs.Moments.{evaluated_at, groups_at, written_out, over_tables}
use Rattle.wh_state.specs.Act.{next_contents, edited_table}
use Rattle.wh_state.specs.Sound.{IsTimely, IsTimelyFor, IsBelow, IsSoundTable, IsKeptAs, IsSoundDynamic}
use Rattle.wh_state.proofs.AllLaws.{all_map, all_both, all_more}
use Rattle.wh_state.proofs.IdLaws.{last_more}
use Rattle.wh_state.proofs.VersionLaws.{still_lacks, empty_lacks, last_below, IsBefore, rise_more, none_more}
use Rattle.wh_state.proofs.EvaluatedLaws.{StandFrom, StandAt}

-- each version has a stamp before
abbrev pub IsFresh : ℕ → Table → Type 0
IsFresh stamp t = AllByRecursion (λ v. v.stamp < stamp) t.versions

timely_later : (committed stamp : ℕ) → committed ≤ stamp → (v : Version) → IsTimely committed v → IsTimely stamp v
timely_later committed stamp later v is = record { stamp = omega (arith, is.stamp); data_timestamp = is.data_timestamp }

pub table_later : (committed stamp : ℕ) → committed ≤ stamp → (t : Table) → IsSoundTable committed t
    → IsSoundTable stamp t
table_later committed stamp later t is = record {
  created = omega (arith, is.created);
  timely = all_map (IsTimely committed) (IsTimely stamp) (timely_later committed stamp later) t.versions is.timely;
  rise = is.rise;
  below = is.below;
  none_returns = is.none_returns;
}

pub new_sound : (columns : List Column) (retention stamp : ℕ)
    → IsSoundTable stamp (new_table nothing_held columns retention stamp)
new_sound columns retention stamp = record {
  created = omega arith;
  timely = (record { stamp = omega arith; data_timestamp = refl }, tt);
  rise = tt;
  below = (λ number has. absurd (cc (empty_lacks number, has.is_there)), tt);
  none_returns = tt;
}

-- ---- one version more

abbrev next_version : ℕ → ℕ → Edits → Table → Version
next_version stamp moment e t = version_for stamp moment (next_contents e t)

-- no number of it is too great
next_below : (stamp moment : ℕ) (e : Edits) (t : Table) → AllByRecursion (IsBelow t.next_row) t.versions
    → IsBelow (t.next_row + length e.added) (next_version stamp moment e t)
next_below stamp moment e t below number has = by_place (cases_lt number (t.next_row + length e.added))
  where
    -- a row that was there before is below the old next number
    by_row : (old : Option Row) → get (last_rows t) number ≡ old → (t.next_row + length e.added ≤ number)
        → number < t.next_row + length e.added
    by_row None lacks behind =
        absurd (cc (still_lacks t.next_row e (last_rows t) number (inr behind) lacks, has.is_there))
    by_row (Some row) there behind = absurd (omega (arith, last_below t.next_row t.versions below number row there))

    by_place : (number < t.next_row + length e.added) ⊎ (t.next_row + length e.added ≤ number)
        → number < t.next_row + length e.added
    by_place (inl within) = within
    by_place (inr behind) = by_row (get (last_rows t) number) refl behind

all_below : (stamp moment : ℕ) (e : Edits) (t : Table) → AllByRecursion (IsBelow t.next_row) t.versions
    → AllByRecursion (IsBelow (t.next_row + length e.added)) (t.versions ++ next_version stamp moment e t ∷ [])
all_below stamp moment e t below =
    let next : ℕ = t.next_row + length e.added in
    all_more (IsBelow next) t.versions (next_version stamp moment e t)
    (all_map (IsBelow t.next_row) (IsBelow next) (λ w is number has. omega (arith, is number has)) t.versions below)
    (next_below stamp moment e t below)

pub last_after : (stamp moment : ℕ) (e : Edits) (t : Table)
    → last_rows (edited_table stamp moment e t) ≡ rows_after t.next_row e (last_rows t)
unfolding edited_table
last_after stamp moment e t = ap (λ (v : Option Version). (content_in nothing_held v).rows)
    (last_more t.versions (next_version stamp moment e t))

-- at a stamp that none of the others has
pub edited_sound : (stamp : ℕ) (e : Edits) (t : Table) → IsFresh stamp t → IsSoundTable stamp t
    → IsSoundTable stamp (edited_table stamp stamp e t)
unfolding edited_table
edited_sound stamp e t fresh sound =
    let v : Version = next_version stamp stamp e t in
    record {
      created = sound.created;
      timely =
          all_more (IsTimely stamp) t.versions v sound.timely (record { stamp = omega arith; data_timestamp = refl });
      rise = rise_more t.versions v (all_both (IsTimely stamp) (λ u. u.stamp < stamp) (IsBefore v)
          (λ u timely before. (before, omega (arith, timely.data_timestamp, before))) t.versions sound.timely fresh)
          sound.rise;
      below = all_below stamp stamp e t sound.below;
      none_returns = none_more t.next_row t.versions v sound.below sound.none_returns
          (λ number before lacks. still_lacks t.next_row e (last_rows t) number (inl before) lacks);
    }

-- ---- a refresh

-- to a later moment, for which the dynamic tables that it reads stand: the version more has the rows that its query
-- gives then, and the groups that are kept are its groups then
pub record IsRefreshed (stamp : ℕ) (objects : List Object) (d : Dynamic) (t : Table) (moment : ℕ) (e : Edits)
    (c : Option GroupsChange) (state : DynamicState) : Type 0 where
  pub fresh : IsFresh stamp t
  pub later : d.state.moment < moment
  pub within : moment ≤ stamp
  pub sources : StandAt moment objects (ids_read d.query)
  pub rows : evaluated_at objects moment d ≡ Some (bag_of (values (rows_after t.next_row e (last_rows t))))
  pub groups : IfSome (with_groups c d).kept (λ k. groups_at objects moment d ≡ Some k.groups)
  pub brought : state.moment ≡ moment
  pub tried : state.tried ≤ stamp

kept_behind : (entries : List GroupEntry) (first found : Option Kept) → IsKeptAs first found
    → IsKeptAs first (option_map (behind_entries entries) found)
kept_behind entries None found is = ap (option_map (behind_entries entries)) is
kept_behind entries (Some first) None is = absurd is
kept_behind entries (Some first) (Some k) is = is

-- among what is there behind it
pub refreshed_sound : (stamp : ℕ) (old objects : List Object) (d : Dynamic) (t : Table) (moment : ℕ) (e : Edits)
    (c : Option GroupsChange) (state : DynamicState) → IsRefreshed stamp old d t moment e c state
    → StandFrom moment objects (ids_read d.query) → evaluated_at objects moment d ≡ evaluated_at old moment d
    → groups_at objects moment d ≡ groups_at old moment d
    → ((layers : ℕ) → AllByRecursion (λ id. id < layers) (ids_read d.query)
    → written_out (over_tables layers objects moment) objects d ≡ evaluated_at old moment d)
    → IsSoundDynamic stamp objects d t
    → IsSoundDynamic stamp objects (with_dynamic_state state (with_groups c d)) (edited_table stamp moment e t)
unfolding edited_table evaluated_at groups_at written_out
refreshed_sound stamp old objects d t moment e c state is stand same alike whole sound = by_change c is.groups
  where
    v : Version
    v = next_version stamp moment e t

    with_kept : (kept : Option Kept) → IsKeptAs (kept_for objects d.is_incremental d.query) kept
        → IfSome kept (λ k. groups_at old moment d ≡ Some k.groups)
        → IsSoundDynamic stamp objects (record d { state = state; kept = kept }) (edited_table stamp moment e t)
    with_kept kept are groups = record {
      created = sound.created;
      older = sound.older;
      moment = omega (arith, is.brought, is.within);
      tried = is.tried;
      timely = all_more (IsTimelyFor stamp state.moment) t.versions v
          (all_map (IsTimelyFor stamp d.state.moment) (IsTimelyFor stamp state.moment)
          (λ u timely. record {
            stamp = timely.stamp;
            data_timestamp = omega (arith, timely.data_timestamp, is.later, is.brought);
          }) t.versions sound.timely)
          (record { stamp = omega arith; data_timestamp = omega (arith, is.brought) });
      rise = rise_more t.versions v (all_both (IsTimelyFor stamp d.state.moment) (λ u. u.stamp < stamp) (IsBefore v)
          (λ u timely before. (before, omega (arith, timely.data_timestamp, is.later))) t.versions sound.timely
          is.fresh) sound.rise;
      below = all_below stamp moment e t sound.below;
      none_returns = none_more t.next_row t.versions v sound.below sound.none_returns
          (λ number before lacks. still_lacks t.next_row e (last_rows t) number (inl before) lacks);
      mode = sound.mode;
      kept = are;
      stands = λ some. record {
        rows = ap (λ (time : ℕ). evaluated_at objects time d) is.brought ∙ same ∙ is.rows
            ∙ ap (λ (held : Rows). Some (bag_of (values held))) (sym (last_after stamp moment e t));
        groups = IfSome_then kept groups (λ k their.
            ap (λ (time : ℕ). groups_at objects time d) is.brought ∙ alike ∙ their);
        sources = subst (λ (time : ℕ). StandFrom time objects (ids_read d.query)) (sym is.brought) stand;
        whole = λ layers enough.
            ap (λ (time : ℕ). written_out (over_tables layers objects time) objects d) is.brought
            ∙ whole layers enough ∙ is.rows
            ∙ ap (λ (held : Rows). Some (bag_of (values held))) (sym (last_after stamp moment e t));
      };
      none = λ zero. absurd (omega (arith, zero, is.brought, is.later));
      no_groups = λ zero. absurd (omega (arith, zero, is.brought, is.later));
    }

    by_change : (c : Option GroupsChange) → IfSome (with_groups c d).kept (λ k. groups_at old moment d ≡ Some k.groups)
        → IsSoundDynamic stamp objects (with_dynamic_state state (with_groups c d)) (edited_table stamp moment e t)
    by_change None groups = with_kept d.kept sound.kept groups
    by_change (Some c) groups = with_kept (option_map (behind_entries c.entries) d.kept)
        (kept_behind c.entries (kept_for objects d.is_incremental d.query) d.kept sound.kept) groups
