-- The rows of a table at a time, by the partitions of the version that is found.
use Rattle.std.proofs.Common.{◌≡◌, ℕ, Bool, true, false, cond, List, [], ◌∷◌, map, filter, refl, ap, ◌∙◌}
use Rattle.std.specs.Prelude.{nat_le}
use Rattle.wh_state.specs.State.{Version, content_in, last_of, nothing_held}
use Rattle.wh_state.specs.Stored.{StoredVersion, StoredTable, version_meant, table_meant, rows_of}
use Rattle.wh_state.specs.State.{rows_at}
use Rattle.wh_version.specs.Times.{data_at}
use Rattle.wh_table.proofs.Pushed.{last_meant}

abbrev is_early : ℕ → StoredVersion → Bool
is_early time v = nat_le v.data_timestamp time

filter_meant : (time : ℕ) (vs : List StoredVersion)
    → filter (λ (v : Version). nat_le v.data_timestamp time) (map version_meant vs)
    ≡ map version_meant (filter (is_early time) vs)
filter_meant time [] = refl
filter_meant time (v ∷ vs) = by_test (nat_le v.data_timestamp time) (filter_meant time vs)
  where
    by_test : (b : Bool)
        → filter (λ (v : Version). nat_le v.data_timestamp time) (map version_meant vs)
        ≡ map version_meant (filter (is_early time) vs)
        → cond b (version_meant v ∷ filter (λ (v : Version). nat_le v.data_timestamp time) (map version_meant vs))
        (filter (λ (v : Version). nat_le v.data_timestamp time) (map version_meant vs))
        ≡ map version_meant (cond b (v ∷ filter (is_early time) vs) (filter (is_early time) vs))
    by_test true rest = ap (λ l. version_meant v ∷ l) rest
    by_test false rest = rest

pub rows_meant : (t : StoredTable) (time : ℕ)
    → rows_at (table_meant t) time ≡ rows_of (content_in [] (data_at time t.versions))
rows_meant t time =
    ap (λ vs. (content_in nothing_held (last_of vs)).rows) (filter_meant time t.versions)
    ∙ last_meant (filter (is_early time) t.versions)
