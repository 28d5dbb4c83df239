-- Histories that begin before their first version: their first mark is none, and nothing stands at it.
--     standing_behind     what stands in the last version
--     found_behind        what stands in the last version of those that pass a test
--     last_behind         the last version, where there is one
--     last_in             the last version of those that pass a test, by its mark
--     arrival_behind, front_behind     what came with a version, and with those at the front
use Rattle.std.proofs.Common.{◌≡◌, ℕ, zero, suc, ◌+◌, ◌-◌, ◌<◌, Bool, true, false, cond, List, [], ◌∷◌, ◌++◌, length}
use Rattle.std.proofs.Common.{take, drop, filter, get_or, option_map, Option, Some, None, refl, sym, ap, subst}
use Rattle.std.proofs.Common.{◌∙◌, arith}
use Rattle.std.specs.Prelude.{nat_le, if◌then◌else◌}
use Rattle.std.proofs.lemmas.Bool.{le-leb}
use Rattle.wh_frame.specs.Partition.{Partition}
use Rattle.wh_state.specs.State.{content_in, last_of}
use Rattle.wh_state.specs.Stored.{StoredVersion}
use Rattle.wh_version.specs.declared.history.History.{History}
use Rattle.wh_version.specs.declared.lasting.Lasting.{Lasting}
use Rattle.wh_version.specs.declared.mark.VersionMark.{VersionMark}
use Rattle.wh_version.specs.Arrivals.{IsArrival, HaveArrived, IsFront, count_by, mark_place}
use Rattle.wh_version.specs.Turnover.{IsMixed}
use Rattle.wh_version.specs.History.{marks_of, marked_of, standing_in, popped}
use Rattle.wh_version.specs.Lasting.{standing_at, version_by, versions_by}
use Rattle.wh_version.specs.Lists.{behind, shortened}
use Rattle.wh_version.specs.Times.{last_place, one_further, place_behind}
use Rattle.wh_version.proofs.LastUpTo.{last_from, last_by_marks}

-- nothing stands at the first mark
pub first_empty : (h : History) → (version_by h.kept.items 0 h.first).content ≡ []
first_empty h = ap (λ n. standing_at 0 (take n h.kept.items)) h.nothing

pub push_behind : {X : Type 0} (b : Bool) (x : X) (xs : List X) (y : X)
    → behind b ((x ∷ xs) ++ y ∷ []) ≡ behind b (x ∷ xs) ++ y ∷ []
push_behind true x xs y = refl
push_behind false x xs y = refl

pub pop_behind : {X : Type 0} (b : Bool) (x : X) (xs : List X)
    → behind b (shortened (x ∷ xs)) ≡ popped b (behind b (x ∷ xs))
pop_behind true x xs = refl
pop_behind false x xs = refl

abbrev front_content : List StoredVersion → List Partition
front_content [] = []
front_content (v ∷ vs) = v.content

module _ (v : StoredVersion) (nothing : v.content ≡ []) where
  pub standing_behind : (b : Bool) (vs : List StoredVersion) → standing_in (behind b (v ∷ vs)) ≡ standing_in (v ∷ vs)
  standing_behind false vs = refl
  standing_behind true [] = sym nothing
  standing_behind true (w ∷ vs) = refl

  pub found_behind : (b : Bool) (test : StoredVersion → Bool) (vs : List StoredVersion)
      → content_in [] (last_of (filter test (behind b (v ∷ vs)))) ≡ content_in [] (last_of (filter test (v ∷ vs)))
  found_behind false test vs = refl
  found_behind true test vs = by_test (test v) (filter test vs)
    where
      by_test : (c : Bool) (ws : List StoredVersion)
          → content_in [] (last_of ws) ≡ content_in [] (last_of (cond c (v ∷ ws) ws))
      by_test false ws = refl
      by_test true [] = sym nothing
      by_test true (w ∷ ws) = refl

  pub arrival_behind : (b : Bool) (vs : List StoredVersion) (place time : ℕ) (came : List Partition)
      → IsArrival time came (take (mark_place b place) (v ∷ vs)) (drop (mark_place b place) (v ∷ vs))
      → IsArrival time came (take place (behind b (v ∷ vs))) (drop place (behind b (v ∷ vs)))
  arrival_behind false vs place time came arrival = arrival
  arrival_behind true vs place time came arrival = record {
    version = arrival.version;
    rest = arrival.rest;
    first = arrival.first;
    stamp = arrival.stamp;
    went = arrival.went;
    turnover = record {
      stay = arrival.turnover.stay;
      before = subst (λ ps. IsMixed arrival.turnover.stay arrival.went ps) (sym (standing_behind true (take place vs)))
          arrival.turnover.before;
      after = arrival.turnover.after;
    };
  }

  arrived_behind : (n : ℕ) (vs : List StoredVersion) (came : List Partition) → HaveArrived (suc n) came (v ∷ vs)
      → HaveArrived n came vs
  arrived_behind zero vs came (earlier, next, time, is, before, arrival) =
      is ∙ (λ i. before i ++ next) ∙ (append_nothing arrival.turnover.stay next
      (sym arrival.turnover.after ∙ ap front_content (sym arrival.first) ∙ nothing))
    where
      append_nothing : (xs ys : List Partition) → xs ++ ys ≡ [] → ys ≡ []
      append_nothing [] ys is = is
      append_nothing (x ∷ xs) ys is = cc
  arrived_behind (suc n) vs came (earlier, next, time, is, before, arrival) = (
    earlier,
    next,
    time,
    is,
    arrived_behind n vs earlier before,
    arrival_behind true vs n time next arrival,
  )

  pub front_behind : (vs : List StoredVersion) (stamp n : ℕ) (came : List Partition) → v.stamp ≡ 0
      → IsFront stamp n came (v ∷ vs)
      → (0 < n) × IsFront stamp (n - 1) came vs
  front_behind vs stamp n came early front = by_count n counted front.arrived
    where
      counted : n ≡ suc (count_by stamp vs)
      counted = front.counted ∙ ap (λ s. if nat_le s stamp then suc (count_by stamp vs) else 0) early
          ∙ ap (λ c. if c then suc (count_by stamp vs) else 0) (le-leb 0 stamp (omega arith))

      by_count : (n : ℕ) → n ≡ suc (count_by stamp vs) → HaveArrived n came (v ∷ vs)
          → (0 < n) × IsFront stamp (n - 1) came vs
      by_count zero is arrived = absurd (omega arith)
      by_count (suc m) is arrived =
          let same : m ≡ suc m - 1 = omega arith in
          let less : m ≡ count_by stamp vs = omega arith in (
            omega arith,
            subst (λ k. IsFront stamp k came vs) same
                (record { counted = less; arrived = arrived_behind m vs came arrived }),
          )

-- ---- last ones

pub last_behind : {X : Type 0} (b : Bool) (x : X) (xs : List X) → 0 < length (behind b (x ∷ xs))
    → last_of (behind b (x ∷ xs)) ≡ last_of (x ∷ xs)
last_behind false x xs some = refl
last_behind true x [] some = absurd (omega arith)
last_behind true x (y ∷ xs) some = refl

pub last_in : (h : History) (of_version : StoredVersion → Bool) (of_mark : VersionMark → Bool)
    → ((place : ℕ) (m : VersionMark) → of_version (version_by h.kept.items place m) ≡ of_mark m)
    → option_map (λ place. version_by h.kept.items place (get_or (marks_of h) place h.first))
    (place_behind h.starts_empty (last_place of_mark (marks_of h)))
    ≡ last_of (filter of_version (behind h.starts_empty (marked_of h)))
last_in h of_version of_mark same = by_start h.starts_empty
  where
    kept : List Lasting
    kept = h.kept.items

    marks : List VersionMark
    marks = h.later.items

    later : (c : Bool) (found : Option ℕ)
        → option_map (λ place. version_by kept place (get_or (h.first ∷ marks) place h.first))
        (place_behind true (one_further c found))
        ≡ option_map (λ place. version_by kept (1 + place) (get_or marks place h.first)) found
    later c (Some place) =
        let next : suc place ≡ 1 + place = omega arith in
        ap (λ n. Some (version_by kept n (get_or marks place h.first))) next
    later true None = refl
    later false None = refl

    by_start : (b : Bool)
        → option_map (λ place. version_by kept place (get_or (h.first ∷ marks) place h.first))
        (place_behind b (last_place of_mark (h.first ∷ marks)))
        ≡ last_of (filter of_version (behind b (versions_by kept 0 (h.first ∷ marks))))
    by_start false = sym (last_by_marks of_version of_mark kept (h.first ∷ marks) h.first same)
    by_start true = later (of_mark h.first) (last_place of_mark marks)
        ∙ sym (last_from of_version of_mark kept 1 marks h.first same)
