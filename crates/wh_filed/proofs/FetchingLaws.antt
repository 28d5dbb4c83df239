-- Partitions of the file, and the fetch that they are asked of.
--     at_place               what holds of all that references point to holds of the one at a place
--     shown_by, all_shown_by     what the bytes of a file tell of partitions is what stands in them undamaged
--     shown_now              where all are shown the one at a place is, and still is where the same is told
--     all_covered            they are covered where each partition is
--     still_covered          and stay so
use Rattle.std.proofs.Common.{◌≡◌, ℕ, zero, suc, ◌<◌, true, List, [], ◌∷◌, length, Option}
use Rattle.std.proofs.Common.{refl, sym, ◌∙◌, subst, get_or, arith}
use Rattle.std.specs.List.{AllByRecursion}
use Rattle.std.proofs.lemmas.Bool.{eq-eqb}
use denote.Ref.{Bor}
use Rattle.wh_frame.specs.Partition.{Partition, first_number, last_number}
use Rattle.wh_part.specs.Meta.{IsMetaOf}
use Rattle.wh_part.specs.declared.meta.PartMeta.{PartMeta}
use Rattle.wh_fetch.specs.Place.{told_in, told_at, describes, contents_at}
use Rattle.wh_fetch.proofs.DamageLemmas.{stands}
use Rattle.wh_filed.specs.Filed.{Filed, filed_at, IsShown, AllShown}
use Rattle.wh_filed.specs.Fetching.{IsMetaFor, IsShownBy, AllShownBy, AllCovered}

pub at_place : (P : Filed → Type 0) (fs : List (Bor Filed)) (i : ℕ) (f : Bor Filed) → i < length fs
    → f ≡ get_or fs i f → AllByRecursion P (filed_at fs) → P f.now
at_place P [] i f within at all = absurd (omega (arith, within))
at_place P (x ∷ xs) zero f within at all = subst (λ (y : Bor Filed). P y.now) (sym at) all.0
at_place P (x ∷ xs) (suc i) f within at all = at_place P xs i f (omega (arith, within)) at all.1

-- ---- what is told

is_described : (meta : PartMeta) (p : Partition) → IsMetaOf meta p → describes meta p ≡ true
is_described meta p is =
    rw (
      eq-eqb meta.id.number p.number is.number,
      eq-eqb meta.rows (length p.rows) is.rows,
      eq-eqb meta.first (first_number p.rows) is.first,
      eq-eqb meta.last (last_number p.rows) is.last,
    ) refl

told_there : (told : Option (List ℕ)) (meta : PartMeta) (f : Filed) → IsMetaFor meta f
    → told_at told meta ≡ told_in told f.width f.at f.length
told_there told meta f is = rw (is.place.0, is.place.1, is.place.2) refl

pub shown_by : (told : Option (List ℕ)) (f : Filed) → IsShown told f → IsShownBy (contents_at told) f
shown_by told f shown meta is =
    stands told meta f.partition (told_there told meta f is ∙ shown.spelled) (is_described meta f.partition is.says)
    (λ bytes is_told. omega (arith, is.place.0, is.place.1, shown.within bytes is_told))

pub all_shown_by : (told : Option (List ℕ)) (fs : List Filed) → AllShown told fs → AllShownBy (contents_at told) fs
all_shown_by told [] all = tt
all_shown_by told (f ∷ fs) all = (shown_by told f all.0, all_shown_by told fs all.1)

pub shown_now : (was now : PartMeta → Option Partition) → now ≡ was → (fs : List (Bor Filed)) (i : ℕ) (f : Bor Filed)
    → i < length fs → f ≡ get_or fs i f → AllShownBy was (filed_at fs) → IsShownBy now f.now
shown_now was now same fs i f within at all =
    subst (λ (contents : PartMeta → Option Partition). IsShownBy contents f.now) (sym same)
    (at_place (IsShownBy was) fs i f within at all)

-- ---- what is covered

pub all_covered : (covers : PartMeta → Type 0) (fs : List Filed) → ((meta : PartMeta) → covers meta)
    → AllCovered covers fs
all_covered covers [] each = tt
all_covered covers (f ∷ fs) each = (λ meta is. each meta, all_covered covers fs each)

pub still_covered : (old new : PartMeta → Type 0) (fs : List Filed) → ((meta : PartMeta) → old meta → new meta)
    → AllCovered old fs → AllCovered new fs
still_covered old new [] on all = tt
still_covered old new (f ∷ fs) on all = (λ meta is. on meta (all.0 meta is), still_covered old new fs on all.1)
