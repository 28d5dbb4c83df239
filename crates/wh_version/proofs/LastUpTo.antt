-- The last version up to a time, by its mark.
use Rattle.std.proofs.Common.{◌≡◌, ℕ, zero, suc, ◌+◌, ◌-◌, ◌<◌, ◌≤◌, cond, Bool, true, false, List, [], ◌∷◌, length}
use Rattle.std.proofs.Common.{filter, drop, get_or, option_map, Option, Some, None, IsTrue, refl, ap, ◌∙◌, arith}
use Rattle.std.proofs.lemmas.Bool.{and_parts}
use Rattle.wh_state.specs.State.{last_of}
use Rattle.wh_state.specs.Stored.{StoredVersion}
use Rattle.wh_version.specs.declared.lasting.Lasting.{Lasting}
use Rattle.wh_version.specs.declared.mark.VersionMark.{VersionMark}
use Rattle.wh_version.specs.Lasting.{version_by, versions_by, count_to}
use Rattle.wh_version.specs.Times.{one_further, last_place}
use Rattle.wh_version.proofs.Pushed.{count_within}

-- ---- the last place

found_at : {X : Type 0} (test : X → Bool) (xs : List X) (i : ℕ) (d : X) → i < length xs → test (get_or xs i d) ≡ true
    → last_place test (drop (suc i) xs) ≡ None
    → last_place test xs ≡ Some i
found_at test [] i d within here none = absurd (omega arith)
found_at test (y ∷ xs) zero d within here none = λ j. one_further (here j) (none j)
found_at test (y ∷ xs) (suc i) d within here none =
    ap (one_further (test y)) (found_at test xs i d (omega arith) here none)

-- one in front, and none behind
pub found_behind : {X : Type 0} (test : X → Bool) (y : X) (xs : List X) (place : ℕ) (d : X) → 0 < place
    → place ≤ length xs → test (get_or xs (place - 1) d) ≡ true → last_place test (drop place xs) ≡ None
    → last_place test (y ∷ xs) ≡ Some place
found_behind test y xs zero d some within here none = absurd (omega arith)
found_behind test y xs (suc i) d some within here none =
    let same : i ≡ suc i - 1 = omega arith in
    ap (one_further (test y)) (found_at test xs i d (omega arith) (ap (λ n. test (get_or xs n d)) same ∙ here) none)

pub place_within : {X : Type 0} (test : X → Bool) (xs : List X) (place : ℕ) → last_place test xs ≡ Some place
    → place < length xs
place_within test [] place found = cc
place_within test (x ∷ xs) place found = pick (test x) (last_place test xs) (λ q. place_within test xs q) found
  where
    pick : (b : Bool) (r : Option ℕ) → ((q : ℕ) → r ≡ Some q → q < length xs) → one_further b r ≡ Some place
        → place < suc (length xs)
    pick b (Some q) within is =
        let below = within q refl in
        let same : suc q ≡ place = cc in
        omega arith
    pick true None within is =
        let same : zero ≡ place = cc in
        omega arith
    pick false None within is = cc

-- ---- versions

pub mark_within : (least : ℕ) (marks : List VersionMark) (total place : ℕ) (d : VersionMark)
    → IsTrue (count_to least marks total) → place < length marks
    → (get_or marks place d).partitions ≤ total
mark_within least [] total place d counts within = absurd (omega arith)
mark_within least (m ∷ marks) total zero d counts within =
    count_within m.partitions marks total (and_parts _ _ counts).1
mark_within least (m ∷ marks) total (suc place) d counts within =
    mark_within m.partitions marks total place d (and_parts _ _ counts).1 (omega arith)

last_behind : {X : Type 0} (x y : X) (ys : List X) → last_of ys ≡ Some x → last_of (y ∷ ys) ≡ Some x
last_behind x y [] is = cc
last_behind x y (z ∷ ys) is = is

none_there : {X : Type 0} (ys : List X) → last_of ys ≡ None → ys ≡ []
none_there [] none = refl
none_there (y ∷ []) none = cc
none_there (y ∷ z ∷ ys) none = let rest : z ∷ ys ≡ [] = none_there (z ∷ ys) none in cc

abbrev version_from : List Lasting → ℕ → List VersionMark → VersionMark → ℕ → StoredVersion
version_from kept first marks d place = version_by kept (first + place) (get_or marks place d)

-- what holds of the versions, by a test of their marks
pub last_from : (of_version : StoredVersion → Bool) (of_mark : VersionMark → Bool) (kept : List Lasting)
    (first : ℕ) (marks : List VersionMark) (d : VersionMark)
    → ((place : ℕ) (m : VersionMark) → of_version (version_by kept place m) ≡ of_mark m)
    → last_of (filter of_version (versions_by kept first marks))
    ≡ option_map (version_from kept first marks d) (last_place of_mark marks)
last_from of_version of_mark kept first [] d same = refl
last_from of_version of_mark kept first (m ∷ marks) d same =
    let rest : List StoredVersion = filter of_version (versions_by kept (first + 1) marks) in
    ap (λ b. last_of (cond b (version_by kept first m ∷ rest) rest)) (same first m)
    ∙ pick (of_mark m) (last_place of_mark marks) rest (last_from of_version of_mark kept (first + 1) marks d same)
  where
    pick : (b : Bool) (r : Option ℕ) (rest : List StoredVersion)
        → last_of rest ≡ option_map (version_from kept (first + 1) marks d) r
        → last_of (cond b (version_by kept first m ∷ rest) rest)
        ≡ option_map (version_from kept first (m ∷ marks) d) (one_further b r)
    pick true (Some place) rest is =
        let further : first + 1 + place ≡ first + suc place = omega arith in
        last_behind _ (version_by kept first m) rest is
        ∙ ap (λ n. Some (version_by kept n (get_or marks place d))) further
    pick false (Some place) rest is =
        let further : first + 1 + place ≡ first + suc place = omega arith in
        is ∙ ap (λ n. Some (version_by kept n (get_or marks place d))) further
    pick true None rest is =
        let here : first ≡ first + zero = omega arith in
        ap (λ vs. last_of (version_by kept first m ∷ vs)) (none_there rest is)
        ∙ ap (λ n. Some (version_by kept n m)) here
    pick false None rest is = is

pub last_by_marks : (of_version : StoredVersion → Bool) (of_mark : VersionMark → Bool) (kept : List Lasting)
    (marks : List VersionMark) (d : VersionMark)
    → ((place : ℕ) (m : VersionMark) → of_version (version_by kept place m) ≡ of_mark m)
    → last_of (filter of_version (versions_by kept 0 marks))
    ≡ option_map (λ place. version_by kept place (get_or marks place d)) (last_place of_mark marks)
last_by_marks of_version of_mark kept marks d same =
    last_from of_version of_mark kept 0 marks d same ∙ from_none (last_place of_mark marks)
  where
    from_none : (r : Option ℕ)
        → option_map (version_from kept 0 marks d) r
        ≡ option_map (λ place. version_by kept place (get_or marks place d)) r
    from_none (Some place) = let same_place : 0 + place ≡ place = omega arith in
        ap (λ n. Some (version_by kept n (get_or marks place d))) same_place
    from_none None = refl
