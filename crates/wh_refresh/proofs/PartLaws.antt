-- Partitions of a table that sources hold at two moments.
--     AreNumberedFrom        numbers that rise by one
--     numbers_at             the partitions that an object has in the file are numbered from 1 on
--     once                   those that are apart stand once
--     all_back               what holds of each of two lists holds of each behind
--     part_none, part_alone, part_front     parts of them
--     parts_more             the sources of ids, with one more
--     all_numbered           sources of the same ids are told apart by these numbers
--     only_hold, moved_hold  what holds of the partitions of sources holds of those that moved
use Rattle.std.proofs.Common.{◌≡◌, ℕ, zero, suc, ◌+◌, ◌<◌, ◌≤◌, inl, inr, Bool, true, false, cond, List, [], ◌∷◌, ◌++◌}
use Rattle.std.proofs.Common.{length, take, get_or, Contains, IsTrue, Option, Some, None, refl, sym, ap, subst}
use Rattle.std.proofs.Common.{◌∙◌, arith}
use Rattle.std.proofs.lemmas.Bool.{and_parts, eqb-true}
use Rattle.std.proofs.lemmas.List.{take_more}
use Rattle.std.specs.Prelude.{◌||◌, not, nat_eq}
use Rattle.std.specs.List.{AllByRecursion}
use Rattle.std.specs.Option.{option_map_or}
use denote.Ref.{Bor}
use Rattle.wh_frame.specs.Partition.{Partition, first_number, last_number}
use Rattle.wh_frame.specs.Spelling.{RisesFrom}
use Rattle.wh_filed.specs.Filed.{Filed, filed_at, partitions_at, partitions_filed}
use Rattle.wh_filed.proofs.ShownLaws.{all_append}
use Rattle.wh_maintenance.specs.Parts.{has, IsDistinct}
use Rattle.wh_delta.specs.Moved.{View, same_number, only_in, filed_views, moved_of, IsNumbered, AllNumbered}
use Rattle.wh_state.specs.State.{Rows, at_id}
use Rattle.wh_state.specs.Commit.{AreApart, AllApart}
use Rattle.wh_state.specs.Orderly.{HasRisingRows}
use Rattle.wh_state.proofs.AllLaws.{all_map}
use Rattle.wh_version.specs.Lasting.{numbered_from}
use Rattle.wh_table.specs.Shown.{HoldsRising}
use Rattle.wh_table.specs.Table.{kept_table}
use Rattle.wh_catalog.specs.Object.{filed_in_kind, kept_kind}
use Rattle.wh_catalog.specs.declared.object.StoredKind.{StoredKind}
use Rattle.wh_catalog.specs.declared.object.StoredKind.TheVariants.{Table, Stream, Task, Dynamic}
use Rattle.wh_catalog.specs.declared.object.StoredObject.{StoredObject}
use Rattle.wh_refresh.specs.Objects.{filed_one, filed_at_id}
use Rattle.wh_refresh.specs.Sources.{filed_by, views_held, IsPartOf, AreParts}
use Rattle.wh_refresh.specs.declared.sources.SourceHeld.{SourceHeld}

-- ---- numbers

abbrev pub AreNumberedFrom : ℕ → List Filed → Type 0
AreNumberedFrom next all = IsTrue (numbered_from next (partitions_filed all))

pub numbers_at : (objects : List (Bor StoredObject)) (id : ℕ) → AreNumberedFrom 1 (filed_at_id objects id)
unfolding kept_table
numbers_at objects id = by_found (at_id objects id)
  where
    by_kind : (k : StoredKind) → AreNumberedFrom 1 (filed_in_kind (kept_kind k))
    by_kind (Table t) = t.history.numbers
    by_kind (Stream s) = refl
    by_kind (Task t) = refl
    by_kind (Dynamic d t) = t.history.numbers

    by_found : (found : Option (Bor StoredObject)) → AreNumberedFrom 1 (option_map_or filed_one found [])
    by_found None = refl
    by_found (Some o) = by_kind o.now.kind

number_at : (next : ℕ) (all : List Filed) → AreNumberedFrom next all → (i : ℕ) → i < length all → (d : Filed)
    → (get_or all i d).partition.number ≡ next + i
number_at next [] numbers i within d = absurd (omega (arith, within))
number_at next (f ∷ fs) numbers zero within d =
    let parts = and_parts (nat_eq f.partition.number next) (numbered_from (next + 1) (partitions_filed fs)) numbers in
    let here = eqb-true f.partition.number next parts.0 in omega (arith, here)
number_at next (f ∷ fs) numbers (suc i) within d =
    let parts = and_parts (nat_eq f.partition.number next) (numbered_from (next + 1) (partitions_filed fs)) numbers in
    let rest = number_at (next + 1) fs parts.1 i (omega (arith, within)) d in omega (arith, rest)

any_default : (all : List Filed) (i : ℕ) → i < length all → (d e : Filed) → get_or all i d ≡ get_or all i e
any_default [] i within d e = absurd (omega (arith, within))
any_default (f ∷ fs) zero within d e = refl
any_default (f ∷ fs) (suc i) within d e = any_default fs i (omega (arith, within)) d e

-- there is one of each number
one_filed : (all : List Filed) → AreNumberedFrom 1 all → (f g : Filed) → Contains all f → Contains all g
    → same_number f g ≡ true → f ≡ g
one_filed all numbers f g (i, here, is) (j, there, at) same =
    let first : f.partition.number ≡ 1 + i =
    ap (λ (x : Filed). x.partition.number) (sym is) ∙ number_at 1 all numbers i here f in
    let second : g.partition.number ≡ 1 + j =
    ap (λ (x : Filed). x.partition.number) (sym at) ∙ number_at 1 all numbers j there g in
    let equal : f.partition.number ≡ g.partition.number = eqb-true f.partition.number g.partition.number same in
    let place : i ≡ j = omega (arith, first, second, equal) in
    sym is ∙ any_default all i here f g ∙ ap (λ (n : ℕ). get_or all n g) place ∙ at

-- ---- partitions that are apart stand once

first_last : (least : ℕ) (rows : List _) → RisesFrom least rows → first_number rows ≤ last_number rows
first_last least [] rise = omega arith
first_last least (e ∷ []) rise = omega arith
first_last least (e ∷ f ∷ es) rise =
    let rest = first_last (e.0 + 1) (f ∷ es) rise.1 in omega (arith, rest, rise.1.0)

not_apart : (p : Partition) → HasRisingRows p → AreApart p p → ⊥
not_apart p rise (inl less) = let within = first_last 0 p.rows rise in omega (arith, less, within)
not_apart p rise (inr less) = let within = first_last 0 p.rows rise in omega (arith, less, within)

-- each later one is apart from those before
apart_before : (before ps : List Partition) → AllApart before ps
    → AllByRecursion (λ q. AllByRecursion (AreApart q) before) ps
apart_before before [] apart = tt
apart_before before (p ∷ ps) apart = (
  apart.0,
  all_map (λ q. AllByRecursion (AreApart q) (p ∷ before)) (λ q. AllByRecursion (AreApart q) before) (λ q h. h.1) ps
      (apart_before (p ∷ before) ps apart.1),
)

apart_behind : (p : Partition) (before ps : List Partition) → AllApart (p ∷ before) ps
    → AllByRecursion (λ q. AreApart q p) ps
apart_behind p before ps apart =
    all_map (λ q. AllByRecursion (AreApart q) (p ∷ before)) (λ q. AreApart q p) (λ q h. h.0) ps
    (apart_before (p ∷ before) ps apart)

module _ (all : List Filed) (numbers : AreNumberedFrom 1 all) where
  no_other : (f : Filed) → Contains all f → HasRisingRows f.partition → (fs : List Filed)
      → AllByRecursion (Contains all) fs
      → AllByRecursion (λ p. AreApart p f.partition) (partitions_filed fs) → has same_number fs f ≡ false
  no_other f here rise [] among apart = refl
  no_other f here rise (g ∷ gs) among apart =
      ap (λ (t : Bool). t || has same_number gs f) (by_test (same_number f g) refl)
      ∙ no_other f here rise gs among.1 apart.1
    where
      by_test : (t : Bool) → same_number f g ≡ t → t ≡ false
      by_test true same = absurd (not_apart f.partition rise
          (subst (λ (x : Filed). AreApart x.partition f.partition) (sym (one_filed all numbers f g here among.0 same))
          apart.0))
      by_test false same = refl

  pub once : (before : List Partition) (fs : List Filed) → AllByRecursion (Contains all) fs
      → AllByRecursion HasRisingRows (partitions_filed fs) → AllApart before (partitions_filed fs)
      → IsDistinct same_number fs
  once before [] among rising apart = tt
  once before (f ∷ fs) among rising apart = (
    no_other f among.0 rising.0 fs among.1 (apart_behind f.partition before (partitions_filed fs) apart.1),
    once (f.partition ∷ before) fs among.1 rising.1 apart.1,
  )

  numbered_parts : (old new : List Filed) → IsPartOf all old → IsPartOf all new → IsNumbered old new
  numbered_parts old new was is = record {
    old_once = once [] old was.among was.rising was.apart;
    new_once = once [] new is.among is.rising is.apart;
    one = all_map (Contains all)
        (λ f. AllByRecursion (λ g. same_number f g ≡ true → f.partition ≡ g.partition) new)
        (λ f here. all_map (Contains all) (λ g. same_number f g ≡ true → f.partition ≡ g.partition)
        (λ g there same. ap (λ (x : Filed). x.partition) (one_filed all numbers f g here there same)) new is.among)
        old was.among;
  }

-- ---- parts

pub part_none : (all : List Filed) (filed : List (Bor Filed)) → filed ≡ [] → IsPartOf all (filed_at filed)
part_none all filed none =
    subst (λ (fs : List (Bor Filed)). IsPartOf all (filed_at fs)) (sym none)
    (record { among = tt; rising = tt; apart = tt })

pub part_alone : (one all : List Filed) (filed : List (Bor Filed)) (rows : Rows) → one ≡ all
    → AllByRecursion (Contains one) (filed_at filed) → HoldsRising (partitions_at filed) rows
    → IsPartOf all (filed_at filed)
part_alone one all filed rows is among holds = record {
  among = subst (λ (fs : List Filed). AllByRecursion (Contains fs) (filed_at filed)) is among;
  rising = holds.rising;
  apart = holds.holds.apart;
}

apart_front : (before ps qs : List Partition) → AllApart before (ps ++ qs) → AllApart before ps
apart_front before [] qs apart = tt
apart_front before (p ∷ ps) qs apart = (apart.0, apart_front (p ∷ before) ps qs apart.1)

all_front : {X : Type 0} (P : X → Type 0) (xs ys : List X) → AllByRecursion P (xs ++ ys) → AllByRecursion P xs
all_front P [] ys each = tt
all_front P (x ∷ xs) ys each = (each.0, all_front P xs ys each.1)

pub all_back : {X : Type 0} (P : X → Type 0) (xs ys : List X) → AllByRecursion P (xs ++ ys) → AllByRecursion P ys
all_back P [] ys each = each
all_back P (x ∷ xs) ys each = all_back P xs ys each.1

-- those in front of others
pub part_front : (one all : List Filed) (filed : List (Bor Filed)) (others : List Partition) (rows : Rows) → one ≡ all
    → AllByRecursion (Contains one) (filed_at filed) → HoldsRising (partitions_at filed ++ others) rows
    → IsPartOf all (filed_at filed)
part_front one all filed others rows is among holds = record {
  among = subst (λ (fs : List Filed). AllByRecursion (Contains fs) (filed_at filed)) is among;
  rising = all_front HasRisingRows (partitions_at filed) others holds.rising;
  apart = apart_front [] (partitions_at filed) others holds.holds.apart;
}

-- ---- sources

module _ (objects : List (Bor StoredObject)) where
  parts_next : (ids : List ℕ) (sources : List SourceHeld) (id : ℕ) (source : SourceHeld)
      → AreParts objects ids sources → IsPartOf (filed_at_id objects id) (filed_by source)
      → AreParts objects (ids ++ id ∷ []) (sources ++ source ∷ [])
  parts_next [] [] id source parts part = (part, tt)
  parts_next (x ∷ ids) (s ∷ sources) id source parts part =
      (parts.0, parts_next ids sources id source parts.1 part)
  parts_next [] (s ∷ sources) id source parts part = absurd parts
  parts_next (x ∷ ids) [] id source parts part = absurd parts

  pub parts_more : (ids : List ℕ) (i : ℕ) (sources new : List SourceHeld) (source : SourceHeld) → i < length ids
      → new ≡ sources ++ source ∷ [] → AreParts objects (take i ids) sources
      → IsPartOf (filed_at_id objects (get_or ids i 0)) (filed_by source)
      → AreParts objects (take (i + 1) ids) new
  parts_more ids i sources new source within pushed parts part =
      subst (AreParts objects (take (i + 1) ids)) (sym pushed)
      (subst (λ (xs : List ℕ). AreParts objects xs (sources ++ source ∷ [])) (sym (take_more ids i 0 within))
      (parts_next (take i ids) sources (get_or ids i 0) source parts part))

  pub all_numbered : (ids : List ℕ) (old new : List SourceHeld) → AreParts objects ids old
      → AreParts objects ids new → AllNumbered (views_held old) (views_held new)
  all_numbered [] [] [] was is = tt
  all_numbered (id ∷ ids) (o ∷ old) (n ∷ new) was is = (
    numbered_parts (filed_at_id objects id) (numbers_at objects id) (filed_by o) (filed_by n) was.0 is.0,
    all_numbered ids old new was.1 is.1,
  )
  all_numbered [] (o ∷ old) new was is = absurd was
  all_numbered [] [] (n ∷ new) was is = absurd is
  all_numbered (id ∷ ids) [] new was is = absurd was
  all_numbered (id ∷ ids) (o ∷ old) [] was is = absurd is

-- ---- those that moved

module _ (P : Filed → Type 0) where
  pub only_hold : (some others : List Filed) → AllByRecursion P some → AllByRecursion P (only_in some others)
  only_hold [] others each = tt
  only_hold (f ∷ fs) others each = by_test (not (has same_number others f)) (only_hold fs others each.1)
    where
      by_test : (t : Bool) → AllByRecursion P (only_in fs others)
          → AllByRecursion P (cond t (f ∷ only_in fs others) (only_in fs others))
      by_test true rest = (each.0, rest)
      by_test false rest = rest

  pub moved_hold : (some others : List View) → AllByRecursion P (filed_views some)
      → AllByRecursion P (filed_views (moved_of some others))
  moved_hold [] others each = tt
  moved_hold (v ∷ vs) [] each =
      all_append P (only_in v.0 []) (filed_views (moved_of vs []))
      (only_hold v.0 [] (all_front P v.0 (filed_views vs) each))
      (moved_hold vs [] (all_back P v.0 (filed_views vs) each))
  moved_hold (v ∷ vs) (o ∷ os) each =
      all_append P (only_in v.0 o.0) (filed_views (moved_of vs os))
      (only_hold v.0 o.0 (all_front P v.0 (filed_views vs) each))
      (moved_hold vs os (all_back P v.0 (filed_views vs) each))
