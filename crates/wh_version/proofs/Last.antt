-- The last version, by its mark.
use Rattle.std.proofs.Common.{◌≡◌, ℕ, ◌+◌, ◌-◌, ◌<◌, ◌≤◌, ◌⊎◌, inl, inr, cond, true, List, [], ◌∷◌, length, map, filter}
use Rattle.std.proofs.Common.{take, get_or, option_map, Some, IsTrue, refl, sym, ap, ◌∙◌, arith}
use Rattle.std.proofs.lemmas.Bool.{and_parts, or_cases, leb-true, eqb-true, ne_eqb, le-ltb, lt-ltb}
use Rattle.std.proofs.lemmas.List.{take_all}
use Rattle.std.specs.Prelude.{nat_lt, nat_le, nat_eq, ◌||◌}
use Rattle.std.specs.List.{list_all}
use Rattle.wh_state.specs.State.{last_of, content_in}
use Rattle.wh_version.specs.declared.lasting.Lasting.{Lasting}
use Rattle.wh_version.specs.declared.mark.VersionMark.{VersionMark}
use Rattle.wh_version.specs.Lasting.{stands_at, standing_at, version_by, versions_by, partitions_in}
use Rattle.wh_version.specs.Lasting.{count_to, is_gone_by, is_standing}
use Rattle.wh_version.specs.History.{versions_of, standing_in, next_in}
use Rattle.wh_version.specs.declared.history.History.{History}
use Rattle.wh_version.proofs.Starts.{first_empty, standing_behind}

-- the last element, by its place
pub last_of-get_or : {X : Type 0} (x : X) (xs : List X) (d : X)
    → last_of (x ∷ xs) ≡ Some (get_or (x ∷ xs) (length xs) d)
last_of-get_or x [] d = refl
last_of-get_or x (y ∷ ys) d = last_of-get_or y ys d

-- the place is there, so that it doesn't matter what is taken elsewhere
pub get_or_any : (m : VersionMark) (marks : List VersionMark) (d : VersionMark)
    → get_or (m ∷ marks) (length marks) m ≡ get_or (m ∷ marks) (length marks) d
get_or_any m [] d = refl
get_or_any m (n ∷ marks) d = sym (get_or_any n marks m) ∙ get_or_any n marks d

pub last_version : (kept : List Lasting) (place : ℕ) (m : VersionMark) (marks : List VersionMark)
    → last_of (versions_by kept place (m ∷ marks))
    ≡ Some (version_by kept (place + length marks) (get_or (m ∷ marks) (length marks) m))
last_version kept place m [] = ap (λ n. Some (version_by kept n m)) (omega arith)
last_version kept place m (n ∷ marks) =
    last_version kept (place + 1) n marks ∙ ap (λ k. Some (version_by kept k (get_or (n ∷ marks) (length marks) n)))
    (omega arith) ∙ ap (λ k. Some (version_by kept (place + length (n ∷ marks)) k)) (get_or_any n marks m)

pub timestamp_of : (kept : List Lasting) (m : VersionMark) (marks : List VersionMark)
    → option_map (λ v. v.data_timestamp) (last_of (versions_by kept 0 (m ∷ marks)))
    ≡ Some (get_or (m ∷ marks) (length marks) m).data_timestamp
timestamp_of kept m marks = ap (option_map (λ v. v.data_timestamp)) (last_version kept 0 m marks)

pub first_alone : (m : VersionMark) (marks : List VersionMark) → length marks ≡ 0
    → get_or (m ∷ marks) (length marks) m ≡ m
first_alone m [] none = refl
first_alone m (n ∷ marks) none = absurd (omega arith)

pub last_of_later : (m : VersionMark) (marks : List VersionMark) (d : VersionMark) → 0 < length marks
    → get_or (m ∷ marks) (length marks) m ≡ get_or marks (length marks - 1) d
last_of_later m [] d some = absurd (omega arith)
last_of_later m (n ∷ marks) d some = sym (get_or_any n marks m) ∙ get_or_any n marks d
    ∙ ap (λ k. get_or (n ∷ marks) k d) (omega arith)

pub next_last : (m : VersionMark) (marks : List VersionMark)
    → next_in (map (λ mark. mark.partitions + 1) (m ∷ marks)) ≡ (get_or (m ∷ marks) (length marks) m).partitions + 1
next_last m [] = refl
next_last m (n ∷ marks) = next_last n marks ∙ ap (λ k. k.partitions + 1) (get_or_any n marks m)

pub counts_all : (least : ℕ) (m : VersionMark) (marks : List VersionMark) (total : ℕ)
    → IsTrue (count_to least (m ∷ marks) total)
    → (get_or (m ∷ marks) (length marks) m).partitions ≡ total
counts_all least m [] total counts = eqb-true m.partitions total (and_parts _ _ counts).1
counts_all least m (n ∷ marks) total counts = sym (ap (λ k. k.partitions) (get_or_any n marks m))
    ∙ counts_all m.partitions n marks total (and_parts _ _ counts).1

-- one that stands still or is gone from an earlier version stands exactly where it stands still
stands_now : (last until : ℕ) → last < 18446744073709551615
    → (nat_le until last || nat_eq until 18446744073709551615) ≡ true
    → nat_eq until 18446744073709551615 ≡ nat_lt last until
stands_now last until within gone = by_cases (or_cases _ _ gone)
  where
    by_cases : (nat_le until last ≡ true) ⊎ (nat_eq until 18446744073709551615 ≡ true)
        → nat_eq until 18446744073709551615 ≡ nat_lt last until
    by_cases (inl early) = let here : until ≤ last = leb-true until last early in
        ne_eqb until 18446744073709551615 (λ e. omega arith) ∙ sym (le-ltb last until here)
    by_cases (inr still) = let here : until ≡ 18446744073709551615 = eqb-true until 18446744073709551615 still in
        still ∙ sym (lt-ltb last until (omega arith))

pub standing_last : (last : ℕ) (kept : List Lasting) → last < 18446744073709551615
    → IsTrue (list_all (is_gone_by last) kept)
    → filter is_standing kept ≡ filter (stands_at last) kept
standing_last last [] within gone = refl
standing_last last (k ∷ kept) within gone =
    let each = and_parts _ _ gone in
    let here = stands_now last k.until within each.0 in
    let rest = standing_last last kept within each.1 in
    λ i. cond (here i) (k ∷ rest i) (rest i)

-- the last version has the partitions that stand still
pub standing_still : (kept : List Lasting) (m : VersionMark) (marks : List VersionMark)
    → length marks < 18446744073709551615 → IsTrue (count_to 0 (m ∷ marks) (length kept))
    → IsTrue (list_all (is_gone_by (length marks)) kept)
    → content_in [] (last_of (versions_by kept 0 (m ∷ marks))) ≡ partitions_in (filter is_standing kept)
standing_still kept m marks within counts gone =
    let all = counts_all 0 m marks (length kept) counts in
    ap (content_in []) (last_version kept 0 m marks)
    ∙ ap (λ n. standing_at n (take (get_or (m ∷ marks) (length marks) m).partitions kept)) (omega arith)
    ∙ ap (standing_at (length marks)) (take_all _ kept (omega arith))
    ∙ ap partitions_in (sym (standing_last (length marks) kept within gone))

pub standing_now : (h : History) → standing_in (versions_of h) ≡ partitions_in (filter is_standing h.kept.items)
unfolding versions_of
standing_now h =
    let sized = h.later.ok.0 in
    standing_behind (version_by h.kept.items 0 h.first) (first_empty h) h.starts_empty
    (versions_by h.kept.items 1 h.later.items)
    ∙ standing_still h.kept.items h.first h.later.items (omega arith) h.marks h.gone
