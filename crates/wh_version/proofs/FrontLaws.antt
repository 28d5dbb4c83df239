-- The versions at the front, one after the other, and what came with them.
--     FrontUpTo              what is known in front of a place
--     front_longer, front_ends
--     Grown                  what came with a version, of its partitions up to an index
--     grown_on
use Rattle.std.proofs.Common.{◌≡◌, ℕ, suc, ◌+◌, ◌<◌, ◌≤◌, Bool, true, false, List, [], ◌∷◌, ◌++◌, length, take}
use Rattle.std.proofs.Common.{drop, get_or}
use Rattle.std.proofs.Common.{refl, sym, ap, ◌∙◌, append_assoc, arith}
use Rattle.std.proofs.lemmas.Bool.{le-leb}
use Rattle.std.proofs.lemmas.Bool.Decides.{nat_tests}
use Rattle.std.specs.Prelude.{nat_le, if◌then◌else◌}
use Rattle.wh_frame.specs.Partition.{Partition}
use Rattle.wh_state.specs.Stored.{StoredVersion}
use Rattle.wh_version.specs.declared.lasting.Lasting.{Lasting}
use Rattle.wh_version.specs.declared.mark.VersionMark.{VersionMark}
use Rattle.wh_version.specs.Lasting.{standing_at, versions_by}
use Rattle.wh_version.specs.Arrivals.{HaveArrived, IsFront, count_by, partitions_before}
use Rattle.wh_version.proofs.ArrivalLaws.{version_there, arrived}
use Rattle.wh_version.proofs.TurnoverLaws.{standing_on}

-- ---- a version's partitions

pub record Grown (kept : List Lasting) (place before index : ℕ) (old now : List Partition) : Type 0 where
  pub next : List Partition
  pub more : now ≡ old ++ next
  pub joined : standing_at place (take before kept) ++ next ≡ standing_at place (take index kept)

pub grown_on : (kept : List Lasting) (place before index : ℕ) (k : Lasting) (old now after : List Partition)
    → index < length kept → k ≡ get_or kept index k → after ≡ now ++ standing_at place (k ∷ [])
    → Grown kept place before index old now → Grown kept place before (index + 1) old after
grown_on kept place before index k old now after within is after_is grown =
    let one = standing_at place (k ∷ []) in
    let front = standing_at place (take before kept) in
    record {
      next = grown.next ++ one;
      more = after_is ∙ ap (λ l. l ++ one) grown.more ∙ append_assoc old grown.next one;
      joined = standing_on kept place index k grown.next _ front within is refl grown.joined;
    }

-- ---- versions

pub record FrontUpTo (stamp : ℕ) (kept : List Lasting) (marks : List VersionMark) (d : VersionMark) (place before : ℕ)
    (came : List Partition) : Type 0 where
  pub counted : place + count_by stamp (drop place (versions_by kept 0 marks))
      ≡ count_by stamp (versions_by kept 0 marks)
  pub before_is : before ≡ partitions_before marks d place
  pub arrived : HaveArrived place came (versions_by kept 0 marks)

module _ (stamp : ℕ) (kept : List Lasting) (marks : List VersionMark) (d : VersionMark) where
  abbrev versions : List StoredVersion
  versions = versions_by kept 0 marks

  abbrev mark : ℕ → VersionMark
  mark place = get_or marks place d

  -- those from a place on, where there is a version
  counted_there : (place : ℕ) → place < length marks → (b : Bool) → nat_le (mark place).stamp stamp ≡ b
      → count_by stamp (drop place versions) ≡ (if b then suc (count_by stamp (drop (suc place) versions)) else 0)
  counted_there place within b is =
      ap (count_by stamp) (version_there kept 0 marks place d within)
      ∙ ap (λ (b : Bool). if b then suc (count_by stamp (drop (suc place) versions)) else 0) is

  pub front_longer : (place before : ℕ) (came now : List Partition) → place < length marks → (mark place).stamp ≤ stamp
      → Grown kept place before (mark place).partitions came now → FrontUpTo stamp kept marks d place before came
      → FrontUpTo stamp kept marks d (suc place) (mark place).partitions now
  front_longer place before came now within early grown known =
      let joined = ap (λ n. standing_at place (take n kept) ++ grown.next) (sym known.before_is) ∙ grown.joined in
      let one_more = counted_there place within true (le-leb (mark place).stamp stamp early) in
      record {
        counted = omega (arith, known.counted, one_more);
        before_is = refl;
        arrived = (
          came,
          grown.next,
          (mark place).stamp,
          grown.more,
          known.arrived,
          arrived kept marks d place grown.next within joined,
        );
      }

  front_done : (place before : ℕ) (came : List Partition) → count_by stamp (drop place versions) ≡ 0
      → FrontUpTo stamp kept marks d place before came → IsFront stamp place came versions
  front_done place before came none known =
      record { counted = omega (arith, known.counted, none); arrived = known.arrived }

  -- at a version that is later
  pub front_ends : (place before : ℕ) (came : List Partition) → place < length marks → stamp < (mark place).stamp
      → FrontUpTo stamp kept marks d place before came → IsFront stamp place came versions
  front_ends place before came within late =
      let later : nat_le (mark place).stamp stamp ≡ false = grind (arith, nat_tests) in
      front_done place before came (counted_there place within false later)
