-- What came with each version, by the marks.
--     count_versions     there are as many versions as marks
--     count_behind       so there are, but for a first mark that is none
--     within_marks       a version's mark has a place
--     version_there      the version at a place, and those behind it
--     before_grows       each mark counts the partitions that there were before
--     arrived            what came with a version
use Rattle.std.proofs.Common.{◌≡◌, ℕ, zero, suc, ◌+◌, ◌-◌, ◌<◌, ◌≤◌, Bool, true, false}
use Rattle.std.proofs.Common.{List, [], ◌∷◌, ◌++◌, length, take, drop, get_or, Some}
use Rattle.std.proofs.Common.{IsTrue, refl, ap, subst, ◌∙◌, arith}
use Rattle.wh_frame.specs.Partition.{Partition}
use Rattle.wh_state.specs.State.{last_of, content_in}
use Rattle.wh_version.specs.declared.history.History.{History}
use Rattle.wh_version.specs.declared.lasting.Lasting.{Lasting}
use Rattle.wh_version.specs.declared.mark.VersionMark.{VersionMark}
use Rattle.wh_version.specs.Lasting.{standing_at, gone_between, version_by, versions_by, count_to}
use Rattle.wh_version.specs.Arrivals.{IsArrival, partitions_before, mark_place}
use Rattle.wh_version.specs.Lists.{behind}
use Rattle.wh_version.specs.History.{versions_of, marks_of, standing_in}
use Rattle.wh_version.proofs.TurnoverLaws.{counts_rise, turned_over}

pub count_versions : (kept : List Lasting) (first : ℕ) (marks : List VersionMark)
    → length (versions_by kept first marks) ≡ length marks
count_versions kept first [] = refl
count_versions kept first (m ∷ marks) = ap suc (count_versions kept (first + 1) marks)

pub count_behind : (kept : List Lasting) (b : Bool) (m : VersionMark) (marks : List VersionMark)
    → mark_place b (length (behind b (versions_by kept 0 (m ∷ marks)))) ≡ length (m ∷ marks)
count_behind kept true m marks = ap suc (count_versions kept 1 marks)
count_behind kept false m marks = count_versions kept 0 (m ∷ marks)

pub within_marks : (h : History) (place : ℕ) → place < length (versions_of h)
    → mark_place h.starts_empty place < length (marks_of h)
unfolding versions_of
within_marks h place within =
    subst (λ n. mark_place h.starts_empty place < n)
    (count_behind h.kept.items h.starts_empty h.first h.later.items) (further h.starts_empty _ within)
  where
    further : (b : Bool) (n : ℕ) → place < n → mark_place b place < mark_place b n
    further true n less = omega arith
    further false n less = less

pub version_there : (kept : List Lasting) (first : ℕ) (marks : List VersionMark) (place : ℕ) (d : VersionMark)
    → place < length marks
    → drop place (versions_by kept first marks)
    ≡ version_by kept (first + place) (get_or marks place d) ∷ drop (suc place) (versions_by kept first marks)
version_there kept first [] place d within = absurd (omega arith)
version_there kept first (m ∷ marks) zero d within =
    let same : first ≡ first + zero = omega arith in
    ap (λ n. version_by kept n m ∷ versions_by kept (first + 1) marks) same
version_there kept first (m ∷ marks) (suc place) d within =
    let same : first + 1 + place ≡ first + suc place = omega arith in
    version_there kept (first + 1) marks place d (omega arith)
    ∙ ap (λ n. version_by kept n (get_or marks place d) ∷ drop (suc place) (versions_by kept (first + 1) marks)) same

last_behind : {X : Type 0} (x y : X) (ys : List X) → last_of ys ≡ Some x → last_of (y ∷ ys) ≡ Some x
last_behind x y [] is = cc
last_behind x y (z ∷ ys) is = is

last_before : (kept : List Lasting) (first : ℕ) (marks : List VersionMark) (place : ℕ) (d : VersionMark)
    → place < length marks
    → last_of (take (suc place) (versions_by kept first marks))
    ≡ Some (version_by kept (first + place) (get_or marks place d))
last_before kept first [] place d within = absurd (omega arith)
last_before kept first (m ∷ marks) zero d within =
    let same : first ≡ first + zero = omega arith in
    ap (λ n. Some (version_by kept n m)) same
last_before kept first (m ∷ marks) (suc place) d within =
    let same : first + 1 + place ≡ first + suc place = omega arith in
    last_behind _ (version_by kept first m) (take (suc place) (versions_by kept (first + 1) marks))
    (last_before kept (first + 1) marks place d (omega arith))
    ∙ ap (λ n. Some (version_by kept n (get_or marks place d))) same

pub before_grows : (marks : List VersionMark) (total place : ℕ) (d : VersionMark) → IsTrue (count_to 0 marks total)
    → place < length marks
    → partitions_before marks d place ≤ (get_or marks place d).partitions
before_grows marks total zero d counts within = omega arith
before_grows marks total (suc place) d counts within =
    counts_rise 0 marks total place (suc place) d counts (omega arith) within

stood : (kept : List Lasting) (marks : List VersionMark) (d : VersionMark) (place : ℕ) → place < length marks
    → standing_in (take place (versions_by kept 0 marks))
    ≡ standing_at (place - 1) (take (partitions_before marks d place) kept)
stood kept marks d zero within = refl
stood kept marks d (suc place) within =
    let same : 0 + place ≡ suc place - 1 = omega arith in
    ap (content_in []) (last_before kept 0 marks place d (omega arith))
    ∙ ap (λ n. standing_at n (take (get_or marks place d).partitions kept)) same

pub arrived : (kept : List Lasting) (marks : List VersionMark) (d : VersionMark) (place : ℕ) (came : List Partition)
    → place < length marks
    → standing_at place (take (partitions_before marks d place) kept) ++ came
    ≡ standing_at place (take (get_or marks place d).partitions kept)
    → IsArrival (get_or marks place d).stamp came (take place (versions_by kept 0 marks))
    (drop place (versions_by kept 0 marks))
arrived kept marks d place came within is_came =
    let before : ℕ = partitions_before marks d place in
    let went : List Partition = gone_between (place - 1) place (take before kept) in
    record {
      version = version_by kept (0 + place) (get_or marks place d);
      rest = drop (suc place) (versions_by kept 0 marks);
      first = version_there kept 0 marks place d within;
      stamp = refl;
      went = went;
      turnover = turned_over kept (record { place = place - 1; partitions = before })
          (record { place = place; partitions = (get_or marks place d).partitions }) went came _ _ (omega arith) refl
          is_came (stood kept marks d place within)
          (ap (λ n. standing_at n (take (get_or marks place d).partitions kept)) (omega arith));
    }
