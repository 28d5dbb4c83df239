-- The two times of a version, and the last version up to one.
--     data_at, visible_at     the last version whose data timestamp, or stamp, is at most that
--     is_between              whether a time lies behind one, up to another
--     last_place              the last place at which a test is true
--     place_behind            the same, but for the first place, if that is asked
use Rattle.std.specs.Prelude.{ℕ, zero, suc, Bool, true, false, ◌&&◌, List, [], ◌∷◌, filter, nat_le, nat_lt}
use Rattle.std.specs.Prelude.{Option, Some, None}
use Rattle.wh_state.specs.State.{last_of}
use Rattle.wh_state.specs.Stored.{StoredVersion}
use Rattle.wh_version.specs.declared.mark.VersionMark.{VersionMark}
use Rattle.wh_version.specs.declared.times.Time.{Time}
use Rattle.wh_version.specs.declared.times.Time.TheVariants.{Stamp, Data}

abbrev pub data_at : ℕ → List StoredVersion → Option StoredVersion
data_at timestamp versions = last_of (filter (λ v. nat_le v.data_timestamp timestamp) versions)

abbrev pub visible_at : ℕ → List StoredVersion → Option StoredVersion
visible_at stamp versions = last_of (filter (λ v. nat_le v.stamp stamp) versions)

abbrev pub is_between : ℕ → ℕ → ℕ → Bool
is_between from to time = nat_lt from time && nat_le time to

-- ---- by marks

abbrev pub time_of : Time → VersionMark → ℕ
time_of Stamp mark = mark.stamp
time_of Data mark = mark.data_timestamp

abbrev pub is_up_to : Time → ℕ → VersionMark → Bool
is_up_to time limit mark = nat_le (time_of time mark) limit

-- a place with one more in front, at which the test is true or false
abbrev pub one_further : Bool → Option ℕ → Option ℕ
one_further here (Some place) = Some (suc place)
one_further true None = Some zero
one_further false None = None

abbrev pub last_place : {X : Type 0} → (X → Bool) → List X → Option ℕ
last_place test [] = None
last_place test (x ∷ xs) = one_further (test x) (last_place test xs)

abbrev pub place_behind : Bool → Option ℕ → Option ℕ
place_behind true (Some zero) = None
place_behind true (Some (suc place)) = Some (suc place)
place_behind true None = None
place_behind false found = found
