-- What came with versions, one version after the other.
--     came_more          one version more
--     came_pushed, among_pushed      the same of a list that is pushed to, and of what came being the table's
--     came_at            what came with the version at a place
--     alike_so           numbers seen alike, in equal lists
--     apart_at, arrived_in       its partitions are apart; its place among those that are loaded
--     loaded_length      as many are loaded
--     came_to            so many versions
--     begun, turned      in front of the versions that came behind the front, and one further
use Rattle.std.proofs.Common.{◌≡◌, ℕ, zero, suc, ◌+◌, ◌<◌, Bool, true, false, List, [], ◌∷◌, ◌++◌, length}
use Rattle.std.proofs.Common.{Some, get_or, take, drop, refl, sym, ap, subst, ◌∙◌, arith}
use Rattle.std.proofs.lemmas.List.{map-append, length-map, get_or-map}
use Rattle.std.specs.Prelude.{◌||◌, is_some, if◌then◌else◌}
use Rattle.std.specs.List.{AllByRecursion}
use Rattle.std.specs.FinMap.{get, entries}
use Rattle.wh_value.specs.Value.{Row}
use Rattle.wh_frame.specs.Partition.{Partition}
use Rattle.wh_state.specs.Commit.{AllApart}
use Rattle.wh_state.specs.Stored.{StoredVersion, rows_of}
use Rattle.wh_state.proofs.AllLaws.{all_map}
use Rattle.wh_net.specs.Net.{RowChange, is_between}
use Rattle.wh_filed.specs.Filed.{Filed, filed_at, partitions_at, loaded_of, AreAmong}
use Rattle.wh_version.specs.Arrivals.{IsFront}
use Rattle.wh_version.specs.declared.arrivals.Arrivals.{Arrivals}
use Rattle.wh_table.specs.Changes.{AreArrivals}
use Rattle.wh_table.specs.Rows.{all_rows}
use Rattle.wh_change.specs.Appended.{arrivals_at, arrived_of, CameAt, CameBetween, came_in, AreSeenAlike}
use Rattle.wh_change.specs.declared.arrived.Arrived.{Arrived}
use Rattle.wh_change.specs.Seen.{is_seen, appeared}
use Rattle.wh_change.proofs.Behind.{version_seen, front_walked}
use Rattle.wh_change.proofs.Entries.{each_found}
use Rattle.wh_change.proofs.SeenRows.{seen_more}
use Rattle.wh_change.proofs.Walking.{Walked, AreAsked, walked_with, walked_on}

abbrev pub Came : Type 0
Came = ℕ × List Partition

pub came_more : (first last : ℕ) (vs : List Came) (v : Came) (versions : List StoredVersion)
    → CameBetween first last vs versions → CameAt last v versions
    → CameBetween first (suc last) (vs ++ v ∷ []) versions
came_more first last [] v versions between at =
    (subst (λ (n : ℕ). CameAt n v versions) (sym between) at, ap suc between)
came_more first last (w ∷ vs) v versions between at =
    (between.0, came_more (suc first) last vs v versions between.1 at)

pub came_pushed : (first place next : ℕ) (found new : List Arrivals) (one : Arrivals) (versions : List StoredVersion)
    → suc place ≡ next → new ≡ found ++ one ∷ [] → CameBetween first place (arrivals_at found) versions
    → CameAt place (one.stamp, partitions_at one.came.items) versions
    → CameBetween first next (arrivals_at new) versions
came_pushed first place next found new one versions is_next is_new between at =
    subst (λ (n : ℕ). CameBetween first n (arrivals_at new) versions) is_next
    (subst (λ (vs : List Came). CameBetween first (suc place) vs versions)
    (sym (ap arrivals_at is_new
    ∙ map-append (λ (a : Arrivals). (a.stamp, partitions_at a.came.items)) found (one ∷ [])))
    (came_more first place (arrivals_at found) (one.stamp, partitions_at one.came.items) versions between at))

pub among_pushed : (all : List Filed) (found new : List Arrivals) (one : Arrivals) → new ≡ found ++ one ∷ []
    → AllByRecursion (λ a. AreAmong (filed_at a.came.items) all) found → AreAmong (filed_at one.came.items) all
    → AllByRecursion (λ a. AreAmong (filed_at a.came.items) all) new
among_pushed all found new one is each more =
    subst (AllByRecursion (λ a. AreAmong (filed_at a.came.items) all)) (sym is) (with_last found each)
  where
    with_last : (xs : List Arrivals) → AllByRecursion (λ a. AreAmong (filed_at a.came.items) all) xs
        → AllByRecursion (λ a. AreAmong (filed_at a.came.items) all) (xs ++ one ∷ [])
    with_last [] each = (more, tt)
    with_last (x ∷ xs) each = (each.0, with_last xs each.1)

pub came_at : (first last : ℕ) (vs : List Came) (i : ℕ) (v : Came) (versions : List StoredVersion)
    → CameBetween first last vs versions → i < length vs → v ≡ get_or vs i v → CameAt (first + i) v versions
came_at first last [] i v versions between within is = absurd (omega arith)
came_at first last (w ∷ vs) zero v versions between within is =
    let here : first ≡ first + zero = omega arith in
    subst (λ (n : ℕ). CameAt n v versions) here (subst (λ (x : Came). CameAt first x versions) (sym is) between.0)
came_at first last (w ∷ vs) (suc i) v versions between within is =
    let further : suc first + i ≡ first + suc i = omega arith in
    subst (λ (n : ℕ). CameAt n v versions) further
    (came_at (suc first) last vs i v versions between.1 (omega arith) is)

pub came_to : (first last : ℕ) (vs : List Came) (versions : List StoredVersion) → CameBetween first last vs versions
    → first + length vs ≡ last
came_to first last [] versions between = omega (arith, between)
came_to first last (v ∷ vs) versions between =
    let rest = came_to (suc first) last vs versions between.1 in
    omega (arith, rest)

pub alike_so : (asked wanted some found all others : List Partition) → asked ≡ wanted → some ≡ found → all ≡ others
    → AreSeenAlike wanted found others
    → AreSeenAlike asked some all
alike_so asked wanted some found all others is_asked is_some_of is_all alike number there =
    ap (is_seen number) is_some_of ∙ alike number (ap (is_seen number) (sym is_asked) ∙ there)
    ∙ ap (is_seen number) (sym is_all)

pub apart_at : (first last : ℕ) (vs : List Came) (i : ℕ) (v : Came) (versions : List StoredVersion)
    → CameBetween first last vs versions → i < length vs → v ≡ get_or vs i v → AllApart [] v.1
apart_at first last vs i v versions between within is = (came_at first last vs i v versions between within is).apart

abbrev loaded_at : Arrived → Came
loaded_at a = (a.stamp, loaded_of a.came.items)

pub loaded_length : (arrived items : List Arrived) → items ≡ arrived → length (arrived_of arrived) ≡ length items
loaded_length arrived items same = length-map arrived loaded_at ∙ ap (λ (xs : List Arrived). length xs) (sym same)

-- what came with the version at a place, of those that are loaded
pub arrived_in : (arrived items : List Arrived) (i : ℕ) (a : Arrived) → items ≡ arrived → i < length items
    → a ≡ get_or items i a
    → (i < length (arrived_of arrived)) × (loaded_at a ≡ get_or (arrived_of arrived) i (loaded_at a))
arrived_in arrived items i a same within is =
    let long = loaded_length arrived items same in (
      omega (arith, long, within),
      ap loaded_at is ∙ sym (get_or-map loaded_at items i a (loaded_at a) within)
          ∙ ap (λ (xs : List Arrived). get_or (arrived_of xs) i (loaded_at a)) same,
    )

-- ---- numbers that came

seen_first : (n : ℕ) (ps qs : List Partition) → is_seen n ps ≡ true → is_seen n (ps ++ qs) ≡ true
seen_first n ps qs there = seen_more n ps qs ∙ ap (λ (b : Bool). b || is_seen n qs) there

seen_behind : (n : ℕ) (ps qs : List Partition) → is_seen n qs ≡ true → is_seen n (ps ++ qs) ≡ true
seen_behind n ps qs there = seen_more n ps qs ∙ ap (λ (b : Bool). is_seen n ps || b) there ∙ either (is_seen n ps)
  where
    either : (b : Bool) → (b || true) ≡ true
    either true = refl
    either false = refl

seen_in : (vs : List Came) (i : ℕ) (v : Came) → i < length vs → v ≡ get_or vs i v → (n : ℕ) → is_seen n v.1 ≡ true
    → is_seen n (came_in vs) ≡ true
seen_in [] i v within is n there = absurd (omega arith)
seen_in (w ∷ vs) zero v within is n there =
    seen_first n w.1 (came_in vs) (ap (λ (x : Came). is_seen n x.1) (sym is) ∙ there)
seen_in (w ∷ vs) (suc i) v within is n there =
    seen_behind n w.1 (came_in vs) (seen_in vs i v (omega arith) is n there)

rows_asked : (ps asked : List Partition) → ((n : ℕ) → is_seen n ps ≡ true → is_seen n asked ≡ true)
    → AreAsked asked (entries (rows_of ps))
rows_asked ps asked within =
    all_map (λ e. get (rows_of ps) e.0 ≡ Some e.1) (λ e. is_seen e.0 asked ≡ true)
    (λ e got. within e.0 (sym (version_seen e.0 ps) ∙ ap is_some got)) (entries (rows_of ps)) (each_found (rows_of ps))

-- ---- the walk

pub begun : (from to count : ℕ) (versions : List StoredVersion) (asked seen front : List Partition)
    → IsFront from count front versions → AreSeenAlike asked seen front
    → Walked from to versions asked count [] seen
begun from to count versions asked seen front is_front alike =
    walked_with from to versions asked count [] front seen
    (front_walked from to count versions asked front is_front.arrived (omega (arith, is_front.counted))) alike

-- the partitions that came with a version, by their rows
pub turned : (from to : ℕ) (versions : List StoredVersion) (vs : List Came) (first last i place : ℕ) (v : Came)
    (records now : List RowChange) (seen sorted more : List Partition)
    → CameBetween first last vs versions → i < length vs → v ≡ get_or vs i v → place ≡ first + (i + 1)
    → all_rows sorted ≡ entries (rows_of v.1)
    → now ≡ records ++ (if is_between from to v.0 then appeared seen (all_rows sorted) else [])
    → more ≡ seen ++ sorted
    → Walked from to versions (came_in vs) (first + i) records seen
    → Walked from to versions (came_in vs) place now more
turned from to versions vs first last i place v records now seen sorted more between within is is_place rows is_now
    is_more walked =
    let at = came_at first last vs i v versions between within is in
    let next : suc (first + i) ≡ place = omega (arith, is_place) in
    subst (λ (n : ℕ). Walked from to versions (came_in vs) n now more) next
    (subst (Walked from to versions (came_in vs) (suc (first + i)) now) (sym is_more)
    (walked_on from to v.0 versions (came_in vs) (first + i) records now seen sorted walked
    (subst (λ (es : List (ℕ × Row)). AreArrivals v.0 es (take (first + i) versions) (drop (first + i) versions))
    (sym rows) at.arrivals)
    (subst (AreAsked (came_in vs)) (sym rows) (rows_asked v.1 (came_in vs) (seen_in vs i v within is)))
    is_now))
