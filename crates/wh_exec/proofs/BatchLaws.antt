-- Batches of partitions that are gone through one after the other.
--     up_to, parted       what was gone through has the batch more; the whole is that and a rest
--     batch               the references of a batch
--     shown_part, covered_part               what holds of all holds of a batch
--     batch_more, batch_lacks                a batch more, and one whose rows are undefined
--     batch_asked                            what was asked for has the names of the batch more
--     rows_loaded, one_loaded                the rows of partitions that were loaded, and one of them more
use Rattle.std.specs.Prelude.{◌≡◌, ℕ, zero, suc, ◌+◌, ◌-◌, ◌<◌, ◌≤◌, List, [], ◌∷◌, ◌++◌, map, take, drop, length, Option}
use Rattle.std.specs.List.{AllByRecursion, slice_range, flat_map}
use denote.Ref.{Bor}
use Rattle.std.proofs.Common.{refl, sym, ap, subst, ◌∙◌, arith, take-append-drop}
use Rattle.std.proofs.Common.{append-nil, get_or}
use Rattle.std.proofs.lemmas.List.{map-append, length-map, get_or-map}
use Rattle.std.proofs.lemmas.List.Concat.{flat_map-append}
use Rattle.std.proofs.lemmas.List.Folds.{drop_split}
use Rattle.std.specs.Arc.{arc_value}
use Rattle.std.specs.declared.sync.Arc.{Arc}
use Rattle.std.specs.Global.{Global}
use Rattle.wh_value.specs.Value.{Row}
use Rattle.wh_frame.specs.Partition.{Partition}
use Rattle.wh_part.specs.declared.meta.PartMeta.{PartMeta}
use Rattle.wh_part.specs.declared.meta.PartId.{PartId}
use Rattle.wh_filed.specs.Filed.{Filed, filed_at, partitions_filed, partitions_at, loaded_of}
use Rattle.wh_filed.specs.Fetching.{IsShownBy, AllShownBy, IsCovered, AllCovered}
use Rattle.wh_filed.specs.Asking.{id_of, names_at, AsksAmong}
use Rattle.wh_filed.proofs.AskingLaws.{among_on}
use Rattle.wh_meaning.specs.Bag.{beside}
use Rattle.wh_exec.specs.declared.sink.Sink.{Sink}
use Rattle.wh_exec.specs.declared.step.Step.{Step}
use Rattle.wh_exec.specs.Sink.{Takes, Lacks}
use Rattle.wh_exec.proofs.PartLaws.{meant, meant-behind}
use Rattle.wh_exec.proofs.Turns.{one_more}
use Rattle.wh_exec.proofs.SinkLaws.{takes_on, lacks_on, lacks_first}

-- ---- a part of a list

module _ {X : Type 0} where
  pub up_to : (xs : List X) (at end : ℕ) → at ≤ end → take end xs ≡ take at xs ++ slice_range xs at end
  up_to xs zero end le = ap (λ k. take k xs) (omega arith)
  up_to xs (suc at) zero le = absurd (omega (arith, le))
  up_to [] (suc at) (suc end) le = sym (taken_none (suc end - suc at))
    where
      taken_none : (n : ℕ) → ◌≡◌ {A = List X} (take n []) []
      taken_none zero = refl
      taken_none (suc n) = refl
  up_to (x ∷ xs) (suc at) (suc end) le =
      ap (λ ys. x ∷ ys) (up_to xs at end (omega (arith, le)))
      ∙ ap (λ k. x ∷ (take at xs ++ take k (drop at xs))) (omega arith)

  pub parted : (xs : List X) (at end : ℕ) → at ≤ end → xs ≡ take at xs ++ (slice_range xs at end ++ drop end xs)
  parted xs at end le =
      sym (take-append-drop at xs) ∙ ap (λ ys. take at xs ++ ys) (drop_split xs at end le)

  all_taken : (P : X → Type 0) (n : ℕ) (xs : List X) → AllByRecursion P xs → AllByRecursion P (take n xs)
  all_taken P zero xs all = tt
  all_taken P (suc n) [] all = tt
  all_taken P (suc n) (x ∷ xs) all = (all.0, all_taken P n xs all.1)

  all_left : (P : X → Type 0) (n : ℕ) (xs : List X) → AllByRecursion P xs → AllByRecursion P (drop n xs)
  all_left P zero xs all = all
  all_left P (suc n) [] all = tt
  all_left P (suc n) (x ∷ xs) all = all_left P n xs all.1

  module _ {Y : Type 0} (f : X → Y) where
    mapped_taken : (n : ℕ) (xs : List X) → map f (take n xs) ≡ take n (map f xs)
    mapped_taken zero xs = refl
    mapped_taken (suc n) [] = refl
    mapped_taken (suc n) (x ∷ xs) = ap (λ ys. f x ∷ ys) (mapped_taken n xs)

    mapped_left : (n : ℕ) (xs : List X) → map f (drop n xs) ≡ drop n (map f xs)
    mapped_left zero xs = refl
    mapped_left (suc n) [] = refl
    mapped_left (suc n) (x ∷ xs) = mapped_left n xs

    mapped_part : (xs : List X) (at end : ℕ) → map f (slice_range xs at end) ≡ slice_range (map f xs) at end
    mapped_part xs at end = mapped_taken (end - at) (drop at xs) ∙ ap (take (end - at)) (mapped_left at xs)

-- ---- what references of a batch point to

module _ (fs : List (Bor Filed)) (at end : ℕ) where
  abbrev pub batch : List (Bor Filed)
  batch = slice_range fs at end

  filed_part : filed_at batch ≡ slice_range (filed_at fs) at end
  filed_part = mapped_part (λ f. f.now) fs at end

  named_part : names_at batch ≡ slice_range (names_at fs) at end
  named_part = ap (map id_of) filed_part ∙ mapped_part id_of (filed_at fs) at end

  parts_part : partitions_at batch ≡ slice_range (partitions_at fs) at end
  parts_part = ap partitions_filed filed_part ∙ mapped_part (λ f. f.partition) (filed_at fs) at end

  all_part : (P : Filed → Type 0) → AllByRecursion P (filed_at fs) → AllByRecursion P (filed_at batch)
  all_part P all = subst (AllByRecursion P) (sym filed_part)
      (all_taken P (end - at) (drop at (filed_at fs)) (all_left P at (filed_at fs) all))

  pub shown_part : (was now : PartMeta → Option Partition) → now ≡ was → AllShownBy was (filed_at fs)
      → AllShownBy now (filed_at batch)
  shown_part was now same all =
      subst (λ (contents : PartMeta → Option Partition). AllShownBy contents (filed_at batch)) (sym same)
      (all_part (IsShownBy was) all)

  pub covered_part : (covers : PartMeta → Type 0) → AllCovered covers (filed_at fs) → AllCovered covers (filed_at batch)
  covered_part covers all = all_part (IsCovered covers) all

  -- ---- a batch behind others

  module _ (le : at ≤ end) where
    pub batch_asked : (before between after : List PartId) → AsksAmong (take at (names_at fs)) before between
        → AsksAmong (names_at batch) between after → AsksAmong (take end (names_at fs)) before after
    batch_asked before between after one two =
        subst (λ names. AsksAmong names before after)
        (ap (λ names. take at (names_at fs) ++ names) named_part ∙ sym (up_to (names_at fs) at end le))
        (among_on (take at (names_at fs)) (names_at batch) before between after one two)

    module _ (steps : List Step) {first mid : Sink} (takes : Takes first mid (meant steps (take at (partitions_at fs))))
      where
        pub batch_more : {last : Sink} → Takes mid last (meant steps (partitions_at batch))
            → Takes first last (meant steps (take end (partitions_at fs)))
        batch_more {last} more = subst (Takes first last)
            (sym (ap (meant steps) (up_to (partitions_at fs) at end le ∙ ap (λ ps. take at (partitions_at fs) ++ ps)
            (sym parts_part)) ∙ meant-behind steps (take at (partitions_at fs)) (partitions_at batch)))
            (takes_on takes more)

        pub batch_lacks : Lacks mid (meant steps (partitions_at batch)) → Lacks first (meant steps (partitions_at fs))
        batch_lacks lacks =
            let left = drop end (partitions_at fs) in
            subst (Lacks first)
            (sym (ap (meant steps) (parted (partitions_at fs) at end le ∙ ap (λ ps. take at (partitions_at fs) ++ (ps ++ left))
            (sym parts_part)) ∙ meant-behind steps (take at (partitions_at fs)) (partitions_at batch ++ left)
            ∙ ap (beside (meant steps (take at (partitions_at fs)))) (meant-behind steps (partitions_at batch) left)))
            (lacks_on takes (lacks_first (meant steps left) lacks))

-- ---- partitions that were loaded

pub rows_loaded : (all : List (Arc Partition Global)) (i : ℕ) (part : Arc Partition Global) (before after : List Row)
    (rows : List (ℕ × Row)) → i < length all → part ≡ get_or all i part
    → before ≡ map (λ e. e.1) (flat_map (λ p. p.rows) (take i (loaded_of all)))
    → after ≡ before ++ map (λ e. e.1) rows → rows ≡ (arc_value part).rows
    → after ≡ map (λ e. e.1) (flat_map (λ p. p.rows) (take (i + 1) (loaded_of all)))
rows_loaded all i part before after rows within at so put same =
    put ∙ ap (λ rs. rs ++ map (λ e. e.1) rows) so
    ∙ ap (λ es. map (λ e. e.1) (flat_map (λ p. p.rows) (take i (loaded_of all))) ++ map (λ e. e.1) es)
    (same ∙ sym (append-nil (arc_value part).rows))
    ∙ sym (map-append (λ (e : ℕ × Row). e.1) (flat_map (λ p. p.rows) (take i (loaded_of all)))
    ((arc_value part).rows ++ []))
    ∙ ap (map (λ e. e.1)) (sym (flat_map-append (λ (p : Partition). p.rows) (take i (loaded_of all)) (arc_value part ∷ [])))
    ∙ ap (λ ps. map (λ e. e.1) (flat_map (λ p. p.rows) ps))
    (sym (one_more (loaded_of all) i (arc_value part) (omega (arith, within, length-map all arc_value))
    (ap arc_value at ∙ sym (get_or-map arc_value all i part (arc_value part) within))))

-- one more of them
pub one_loaded : (steps : List Step) (old new : List (Arc Partition Global)) (found : Arc Partition Global)
    (p : Partition) → new ≡ old ++ found ∷ [] → arc_value found ≡ p
    → meant steps (loaded_of new) ≡ beside (meant steps (loaded_of old)) (meant steps (p ∷ []))
one_loaded steps old new found p put is =
    ap (meant steps) (ap loaded_of put ∙ map-append arc_value old (found ∷ [])
    ∙ ap (λ q. loaded_of old ++ q ∷ []) is)
    ∙ meant-behind steps (loaded_of old) (p ∷ [])
