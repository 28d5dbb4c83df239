-- A walk over versions with the partitions that came so far. Only the numbers of certain partitions are asked for.
--     Walked        what is known in front of a version: the records so far, and which numbers were seen
--     walk_begins, walked_past, walked_on, walk_ends
--     walked_with   the same with other partitions, in which these numbers are seen alike
use Rattle.std.proofs.Common.{◌≡◌, ℕ, zero, suc, inl, inr, cond, Bool, true, false, List, [], ◌∷◌, ◌++◌}
use Rattle.std.proofs.Common.{map, take, drop, filter, Option, Some, None, refl, sym, ap, subst, ◌∙◌, append_assoc}
use Rattle.std.proofs.lemmas.List.{append-nil}
use Rattle.std.specs.Prelude.{◌||◌, not, is_some, if◌then◌else◌}
use Rattle.std.specs.List.{AllByRecursion}
use Rattle.std.specs.Cmp.{nat_cmp_total}
use Rattle.std.specs.Ordering.{nat_cmp}
use Rattle.std.specs.FinMap.{get, entries, entries_sorted, get-entries, get-empty, nat_cmp-IsAntisymmetric}
use Rattle.std.specs.FinMap.Entries.{find, where_key, is_sorted-where_key, find-where_key, same_entries}
use Rattle.wh_value.specs.Value.{Row}
use Rattle.wh_frame.specs.Partition.{Partition}
use Rattle.wh_state.specs.State.{Rows, content_in}
use Rattle.wh_state.specs.Stored.{StoredVersion, version_meant, rows_of}
use Rattle.wh_net.specs.Net.{RowChange, inserted, is_in_one, first_here, is_between, appended_from, appended}
use Rattle.wh_version.specs.History.{standing_in}
use Rattle.wh_table.specs.Changes.{IsShown, AreChanges, AreArrivals}
use Rattle.wh_table.specs.Rows.{all_rows}
use Rattle.wh_table.proofs.Pushed.{last_of-push}
use Rattle.wh_change.specs.Appended.{AreSeenAlike}
use Rattle.wh_change.specs.Seen.{is_seen, appeared}
use Rattle.wh_change.proofs.SeenRows.{found_rows, seen_more}

-- ---- the next of a list

next_dropped : {X : Type 0} (n : ℕ) (xs : List X) (x : X) (rest : List X) → drop n xs ≡ x ∷ rest
    → drop (suc n) xs ≡ rest
next_dropped zero [] x rest is = absurd cc
next_dropped zero (y ∷ xs) x rest is = cc
next_dropped (suc n) [] x rest is = absurd cc
next_dropped (suc n) (y ∷ xs) x rest is = next_dropped n xs x rest is

next_taken : {X : Type 0} (n : ℕ) (xs : List X) (x : X) (rest : List X) → drop n xs ≡ x ∷ rest
    → take (suc n) xs ≡ take n xs ++ x ∷ []
next_taken zero [] x rest is = absurd cc
next_taken zero (y ∷ xs) x rest is = cc
next_taken (suc n) [] x rest is = absurd cc
next_taken (suc n) (y ∷ xs) x rest is = ap (λ l. y ∷ l) (next_taken n xs x rest is)

not_both : {X : Type 0} → false ≡ true → X
not_both is = absurd cc

-- ---- one version more

abbrev pub HasAll : List Partition → List Rows → List Partition → Type 0
HasAll asked earlier seen = (n : ℕ) → is_seen n asked ≡ true → is_in_one n earlier ≡ is_seen n seen

-- what one of the rows has, one of the others has
abbrev pub AreIn : Rows → List Rows → Type 0
AreIn rows earlier = (n : ℕ) → is_some (get rows n) ≡ true → is_in_one n earlier ≡ true

abbrev is_new : List Rows → ℕ → Bool
is_new earlier n = not (is_in_one n earlier)

-- of a version, its arrivals, and the rows of the version before
module _ (earlier : List Rows) (old new gone arrived : Rows)
    (each : (n : ℕ) → IsShown (get old n) (get new n) (get gone n) (get arrived n)) (within : AreIn old earlier) where
  same_new : (n : ℕ) → cond (is_new earlier n) (get new n) None ≡ cond (is_new earlier n) (get arrived n) None
  same_new n = by_either (each n)
    where
      none_new : (row : Option Row) (known : Bool) → (is_some row ≡ true → known ≡ true)
          → cond (not known) row None ≡ cond (not known) None None
      none_new None true sure = refl
      none_new None false sure = refl
      none_new (Some row) true sure = refl
      none_new (Some row) false sure = not_both (sure refl)

      by_either : IsShown (get old n) (get new n) (get gone n) (get arrived n)
          → cond (is_new earlier n) (get new n) None ≡ cond (is_new earlier n) (get arrived n) None
      by_either (inl is) = ap (λ row. cond (is_new earlier n) row None) (sym is.1)
      by_either (inr is) =
          none_new (get new n) (is_in_one n earlier) (λ there. within n (ap is_some is.0 ∙ there))
          ∙ ap (λ row. cond (is_new earlier n) row None) (sym is.2)

  pub same_first : first_here earlier new ≡ filter (λ e. is_new earlier e.0) (entries arrived)
  same_first =
      same_entries nat_cmp nat_cmp_total nat_cmp-IsAntisymmetric _ _
      (is_sorted-where_key nat_cmp (is_new earlier) (entries new) (entries_sorted new))
      (is_sorted-where_key nat_cmp (is_new earlier) (entries arrived) (entries_sorted arrived))
      (λ q. sought q new ∙ same_new q ∙ sym (sought q arrived))
    where
      sought : (q : ℕ) (rows : Rows)
          → find nat_cmp q (where_key nat_cmp (is_new earlier) (entries rows))
          ≡ cond (is_new earlier q) (get rows q) None
      sought q rows =
          find-where_key nat_cmp (is_new earlier) q
          (λ x same. ap (is_new earlier) (sym (nat_cmp-IsAntisymmetric q x same))) (entries rows)
          ∙ ap (λ row. cond (is_new earlier q) row None) (sym (get-entries rows q))

  pub same_more : (asked seen came : List Partition) → HasAll asked earlier seen → all_rows came ≡ entries arrived
      → HasAll asked (new ∷ earlier) (seen ++ came)
  same_more asked seen came same is n wanted =
      by_either (each n) ∙ ap (λ b. is_seen n seen || b) (sym in_came) ∙ sym (seen_more n seen came)
    where
      in_came : is_seen n came ≡ is_some (get arrived n)
      in_came = sym (found_rows n came) ∙ ap (λ es. is_some (find nat_cmp n es)) is
          ∙ ap is_some (sym (get-entries arrived n))

      turned : (a b : Bool) → (a || b) ≡ (b || a)
      turned true true = refl
      turned true false = refl
      turned false true = refl
      turned false false = refl

      known : (a b : Bool) → (a ≡ true → b ≡ true) → (a || b) ≡ (b || false)
      known true true sure = refl
      known true false sure = not_both (sure refl)
      known false true sure = refl
      known false false sure = refl

      by_either : IsShown (get old n) (get new n) (get gone n) (get arrived n)
          → (is_some (get new n) || is_in_one n earlier) ≡ (is_seen n seen || is_some (get arrived n))
      by_either (inl is) = turned (is_some (get new n)) (is_in_one n earlier)
          ∙ (λ i. same n wanted i || is_some (sym is.1 i))
      by_either (inr is) =
          known (is_some (get new n)) (is_in_one n earlier) (λ there. within n (ap is_some is.0 ∙ there))
          ∙ (λ i. same n wanted i || is_some (sym is.2 i))

-- ---- the walk

pub record Walked (from to : ℕ) (vs : List StoredVersion) (asked : List Partition) (place : ℕ)
    (records : List RowChange) (seen : List Partition) : Type 0 where
  pub earlier : List Rows
  pub so_far : records ++ appended_from earlier from to (map version_meant (drop place vs))
      ≡ appended (map version_meant vs) from to
  pub same : HasAll asked earlier seen
  pub last : AreIn (rows_of (standing_in (take place vs))) earlier

pub walk_begins : (from to : ℕ) (vs : List StoredVersion) (asked seen : List Partition) → seen ≡ []
    → Walked from to vs asked 0 [] seen
unfolding appended
walk_begins from to vs asked seen none = record {
  earlier = [];
  so_far = refl;
  same = λ n wanted. ap (is_seen n) (sym none);
  last = λ n there. absurd (no_row n there);
}
  where
    no_row : (n : ℕ) → is_some (get (rows_of []) n) ≡ true → ⊥
    no_row n there = not_some (get (rows_of []) n) (get-empty nat_cmp n) there
      where
        not_some : (row : Option Row) → row ≡ None → is_some row ≡ true → ⊥
        not_some None none there = absurd cc
        not_some (Some row) none there = absurd cc

pub walk_ends : (from to : ℕ) (vs : List StoredVersion) (asked : List Partition) (place : ℕ)
    (records : List RowChange) (seen : List Partition)
    → Walked from to vs asked place records seen → drop place vs ≡ []
    → records ≡ appended (map version_meant vs) from to
walk_ends from to vs asked place records seen walked none =
    sym (append-nil records)
    ∙ ap (λ l. records ++ appended_from walked.earlier from to (map version_meant l)) (sym none) ∙ walked.so_far

pub walked_with : (from to : ℕ) (vs : List StoredVersion) (asked : List Partition) (place : ℕ)
    (records : List RowChange) (others seen : List Partition)
    → Walked from to vs asked place records others → AreSeenAlike asked seen others
    → Walked from to vs asked place records seen
walked_with from to vs asked place records others seen walked alike = record {
  earlier = walked.earlier;
  so_far = walked.so_far;
  same = λ n wanted. walked.same n wanted ∙ sym (alike n wanted);
  last = walked.last;
}

-- with the next version, whose new rows are told, and what was seen with it
pub walked_past : (from to : ℕ) (vs : List StoredVersion) (asked : List Partition) (place : ℕ)
    (records now : List RowChange) (seen more : List Partition) (walked : Walked from to vs asked place records seen)
    (version : StoredVersion) (rest : List StoredVersion) → drop place vs ≡ version ∷ rest
    → HasAll asked (rows_of version.content ∷ walked.earlier) more
    → now ≡ records ++ (if is_between from to version.stamp
    then map (λ (e : ℕ × Row). inserted e.0 false e.1) (first_here walked.earlier (rows_of version.content)) else [])
    → Walked from to vs asked (suc place) now more
walked_past from to vs asked place records now seen more walked version rest first same is_now = record {
  earlier = rows ∷ walked.earlier;
  so_far = ap (λ l. now ++ appended_from (rows ∷ walked.earlier) from to (map version_meant l))
      (next_dropped place vs version rest first) ∙ ap (λ l. l ++ later) is_now ∙ append_assoc records _ later
      ∙ ap (λ l. records ++ appended_from walked.earlier from to (map version_meant l)) (sym first)
      ∙ walked.so_far;
  same = same;
  last = λ n there. ap (λ b. b || is_in_one n walked.earlier)
      (sym (ap (λ ps. is_some (get (rows_of ps) n)) stands) ∙ there);
}
  where
    rows : Rows
    rows = rows_of version.content

    later : List RowChange
    later = appended_from (rows ∷ walked.earlier) from to (map version_meant rest)

    stands : standing_in (take (suc place) vs) ≡ version.content
    stands = ap standing_in (next_taken place vs version rest first)
        ∙ ap (content_in []) (last_of-push (take place vs) version)

abbrev pub AreAsked : List Partition → List (ℕ × Row) → Type 0
AreAsked asked es = AllByRecursion (λ e. is_seen e.0 asked ≡ true) es

same_records : (earlier : List Rows) (asked seen : List Partition) → HasAll asked earlier seen → (es : List (ℕ × Row))
    → AreAsked asked es
    → map (λ (e : ℕ × Row). inserted e.0 false e.1) (filter (λ e. is_new earlier e.0) es) ≡ appeared seen es
same_records earlier asked seen same es wanted =
    ap (map (λ (e : ℕ × Row). inserted e.0 false e.1)) (kept es wanted)
  where
    kept : (es : List (ℕ × Row)) → AreAsked asked es
        → filter (λ e. is_new earlier e.0) es ≡ filter (λ e. not (is_seen e.0 seen)) es
    kept [] wanted = refl
    kept (e ∷ es) wanted =
        λ i. cond (not (same e.0 wanted.0 i)) (e ∷ kept es wanted.1 i) (kept es wanted.1 i)

-- with what came with the next version
pub walked_on : (from to stamp : ℕ) (vs : List StoredVersion) (asked : List Partition) (place : ℕ)
    (records now : List RowChange) (seen came : List Partition)
    → Walked from to vs asked place records seen
    → AreArrivals stamp (all_rows came) (take place vs) (drop place vs) → AreAsked asked (all_rows came)
    → now ≡ records ++ (if is_between from to stamp then appeared seen (all_rows came) else [])
    → Walked from to vs asked (suc place) now (seen ++ came)
walked_on from to stamp vs asked place records now seen came walked arrival wanted is_now =
    walked_past from to vs asked place records now seen (seen ++ came) walked arrival.version arrival.rest
    arrival.first
    (same_more walked.earlier old rows changes.gone changes.arrived changes.each walked.last asked seen came
    walked.same changes.by_came)
    (is_now ∙ ap (λ l. records ++ l) (sym added))
  where
    rows : Rows
    rows = rows_of arrival.version.content

    old : Rows
    old = rows_of (standing_in (take place vs))

    changes : AreChanges arrival.went (all_rows came) old rows
    changes = arrival.changes

    new_records : map (λ (e : ℕ × Row). inserted e.0 false e.1) (first_here walked.earlier rows)
        ≡ appeared seen (all_rows came)
    new_records =
        ap (map (λ (e : ℕ × Row). inserted e.0 false e.1))
        (same_first walked.earlier old rows changes.gone changes.arrived changes.each walked.last)
        ∙ same_records walked.earlier asked seen walked.same (entries changes.arrived)
        (subst (AreAsked asked) changes.by_came wanted)
        ∙ ap (appeared seen) (sym changes.by_came)

    added : (if is_between from to arrival.version.stamp
        then map (λ (e : ℕ × Row). inserted e.0 false e.1) (first_here walked.earlier rows) else [])
        ≡ (if is_between from to stamp then appeared seen (all_rows came) else [])
    added = λ i. if is_between from to (arrival.stamped i) then new_records i else []
