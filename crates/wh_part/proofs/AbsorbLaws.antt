-- A row's values, one after the other, as loops go over them.
--     so_far                       the extents so far, and those whose values are still read
--     absorbed_more, absorbed_all, absorbed_fails     after a further value, at the end, and at a fault
--     row_so_far, row_more, row_done                  the same of a row at hand
--     skimmed_more, skimmed_all, skimmed_fails        rows, one after the other
use Rattle.std.specs.Prelude.{◌≡◌, ℕ, suc, false, ◌+◌, ◌-◌, ◌<◌, ◌≤◌, List, [], ◌∷◌, ◌++◌, map, length, set, Option, Some, None}
use Rattle.std.proofs.Common.{get_or, min, take, drop, refl, sym, ap, ◌∙◌, append_assoc, arith, inl, inr}
use Rattle.std.proofs.lemmas.Bool.{cases_lt}
use Rattle.std.proofs.lemmas.List.{append-nil, take_all, drop_all, drop_more, map_push, map-append, take_more_set}
use Rattle.std.proofs.lemmas.List.{drop-set-lt, take-append-drop}
use Rattle.wh_value.specs.Value.{Value, Row}
use Rattle.wh_part.specs.declared.fault.ReadError.{ReadError}
use Rattle.wh_part.specs.declared.fault.ReadError.TheVariants.{Memory, Malformed}
use Rattle.wh_part.specs.declared.extent.Extent as declared
use Rattle.wh_part.specs.declared.seen.Seen.TheVariants as variants
use Rattle.wh_part.specs.Reading.{◌>>=◌, Fails}
use Rattle.wh_part.specs.Decoding.{value_at}
use Rattle.wh_part.specs.Extent.{Extent, extent_of, absorbed, row_absorbed}
use Rattle.wh_part.specs.Skim.{absorbs_at, row_skim_at, skims_at}
use Rattle.wh_part.proofs.Loops.{with_front, regroup}

abbrev Extents : Type 0
Extents = List declared.Extent

abbrev pub so_far : Extents → ℕ → List ℕ → Option (List Extent × List ℕ)
so_far es i rest = with_front (map extent_of (take i es)) (absorbs_at (map extent_of (drop i es)) rest)

-- ---- the extents with one of them written

module _ (es : Extents) (i : ℕ) (d new : declared.Extent) (within : i < length es) where
  next_one : map extent_of (drop i es) ≡ extent_of (get_or es i d) ∷ map extent_of (drop (i + 1) es)
  next_one = ap (map extent_of) (drop_more es i d within)

  front_more : map extent_of (take (i + 1) (set es i new)) ≡ map extent_of (take i es) ++ extent_of new ∷ []
  front_more = ap (map extent_of) (take_more_set es i new within) ∙ map_push extent_of (take i es) new

  behind_same : map extent_of (drop (i + 1) (set es i new)) ≡ map extent_of (drop (i + 1) es)
  behind_same = ap (map extent_of) (drop-set-lt (i + 1) es i new (omega arith))

pub absorbed_more : (es : Extents) (i : ℕ) (d new : declared.Extent) (rest after : List ℕ) (v : Value)
    (total : Option (List Extent × List ℕ)) → i < length es → value_at rest ≡ Some (v, after)
    → extent_of new ≡ absorbed (extent_of (get_or es i d)) v → so_far es i rest ≡ total
    → so_far (set es i new) (i + 1) after ≡ total
unfolding absorbs_at
absorbed_more es i d new rest after v total within read made before =
    let e = get_or es i d in
    let others = map extent_of (drop (i + 1) es) in
    let front = map extent_of (take i es) in
    let more : with_front front (absorbs_at (map extent_of (drop i es)) rest)
    ≡ with_front (front ++ absorbed (extent_of e) v ∷ []) (absorbs_at others after) =
    ap (λ (l : List Extent). with_front front (absorbs_at l rest)) (next_one es i d new within)
    ∙ ap (λ (o : Option (Value × List ℕ)). with_front front
    (o >>= λ x. absorbs_at others x.1 >>= λ y. Some (absorbed (extent_of e) x.0 ∷ y.0, y.1))) read
    ∙ regroup front (absorbed (extent_of e) v) (absorbs_at others after) in
    ap (λ (l : List Extent). with_front l (absorbs_at (map extent_of (drop (i + 1) (set es i new))) after))
    (front_more es i d new within ∙ ap (λ (x : Extent). front ++ x ∷ []) made)
    ∙ ap (λ (l : List Extent). with_front (front ++ absorbed (extent_of e) v ∷ []) (absorbs_at l after))
    (behind_same es i d new within)
    ∙ sym more ∙ before

any_extent : declared.Extent
any_extent = record {
  least = variants.Null;
  greatest = variants.Null;
  types = record { number = false; varchar = false; boolean = false };
}

pub absorbed_fails : (fault : ReadError) (es : Extents) (i : ℕ) (rest : List ℕ)
    (total : Option (List Extent × List ℕ)) → i < length es → Fails fault (value_at rest)
    → so_far es i rest ≡ total
    → Fails fault total
unfolding absorbs_at
absorbed_fails Memory es i rest total within none before = tt
absorbed_fails Malformed es i rest total within none before =
    let e = get_or es i any_extent in
    let front = map extent_of (take i es) in
    let others = map extent_of (drop (i + 1) es) in
    sym before ∙ ap (λ (l : List Extent). with_front front (absorbs_at l rest)) (next_one es i any_extent any_extent within)
    ∙ ap (λ (o : Option (Value × List ℕ)). with_front front
    (o >>= λ x. absorbs_at others x.1 >>= λ y. Some (absorbed (extent_of e) x.0 ∷ y.0, y.1))) none

pub absorbed_all : (es : Extents) (i : ℕ) (rest : List ℕ) (total : Option (List Extent × List ℕ)) → length es ≤ i
    → so_far es i rest ≡ total → total ≡ Some (map extent_of es, rest)
unfolding absorbs_at
absorbed_all es i rest total past before =
    sym before
    ∙ ap (λ (l : Extents). with_front (map extent_of l) (absorbs_at (map extent_of (drop i es)) rest))
    (take_all i es past)
    ∙ ap (λ (l : Extents). with_front (map extent_of es) (absorbs_at (map extent_of l) rest)) (drop_all i es past)
    ∙ ap (λ (l : List Extent). Some (l, rest)) (append-nil (map extent_of es))

front_none : (o : Option (List Extent × List ℕ)) → with_front [] o ≡ o
front_none None = refl
front_none (Some x) = refl

pub absorbed_none : (es : Extents) (rest : List ℕ) → so_far es 0 rest ≡ absorbs_at (map extent_of es) rest
absorbed_none es rest = front_none (absorbs_at (map extent_of es) rest)

-- ---- a row at hand

abbrev pub row_so_far : Extents → ℕ → Row → List Extent
row_so_far es i row = map extent_of (take i es) ++ row_absorbed (map extent_of (drop i es)) (drop i row)

pub row_more : (es : Extents) (i : ℕ) (d new : declared.Extent) (row : Row) (v : Value) → i < length es
    → drop i row ≡ v ∷ drop (i + 1) row → extent_of new ≡ absorbed (extent_of (get_or es i d)) v
    → row_so_far (set es i new) (i + 1) row ≡ row_so_far es i row
row_more es i d new row v within next made =
    let e = get_or es i d in
    let front = map extent_of (take i es) in
    let others = row_absorbed (map extent_of (drop (i + 1) es)) (drop (i + 1) row) in
    ap (λ (l : List Extent). l ++ row_absorbed (map extent_of (drop (i + 1) (set es i new))) (drop (i + 1) row))
    (front_more es i d new within ∙ ap (λ (x : Extent). front ++ x ∷ []) made)
    ∙ ap (λ (l : List Extent). (front ++ absorbed (extent_of e) v ∷ []) ++ row_absorbed l (drop (i + 1) row))
    (behind_same es i d new within)
    ∙ append_assoc front (absorbed (extent_of e) v ∷ []) others
    ∙ sym (ap (λ (l : List Extent). front ++ row_absorbed l (drop i row)) (next_one es i d new within)
    ∙ ap (λ (r : Row). front ++ row_absorbed (extent_of e ∷ map extent_of (drop (i + 1) es)) r) next)

no_values : (es : List Extent) → row_absorbed es [] ≡ es
no_values [] = refl
no_values (e ∷ es) = refl

pub row_done : (es : Extents) (i : ℕ) (row : Row) → min (length es) (length row) ≤ i
    → row_so_far es i row ≡ map extent_of es
row_done es i row past =
    let front = map extent_of (take i es) in
    let behind : row_absorbed (map extent_of (drop i es)) (drop i row) ≡ map extent_of (drop i es) =
    elim (cases_lt i (length es)) [
      | inl lt ↦ ap (row_absorbed (map extent_of (drop i es))) (drop_all i row (omega arith))
          ∙ no_values (map extent_of (drop i es))
      | inr le ↦ ap (λ (l : Extents). row_absorbed (map extent_of l) (drop i row)) (drop_all i es le)
          ∙ ap (map extent_of) (sym (drop_all i es le))
    ] in
    ap (λ (l : List Extent). front ++ l) behind ∙ sym (map-append extent_of (take i es) (drop i es))
    ∙ ap (map extent_of) (take-append-drop i es)

-- ---- rows, one after the other

abbrev Skimmed : Type 0
Skimmed = Option ((ℕ × List Extent) × List ℕ)

pub skimmed_more : (count i least next : ℕ) (es new : List Extent) (bytes after : List ℕ) (total : Skimmed) → i < count
    → row_skim_at least es bytes ≡ Some ((next, new), after) → skims_at (count - i) least es bytes ≡ total
    → skims_at (count - (i + 1)) next new after ≡ total
unfolding skims_at
skimmed_more count i least next es new bytes after total lt read before =
    let k : count - i ≡ suc (count - (i + 1)) = omega arith in
    sym (ap (λ (n : ℕ). skims_at n least es bytes) k
    ∙ ap (λ (o : Skimmed). o >>= λ x. skims_at (count - (i + 1)) x.0.0 x.0.1 x.1) read)
    ∙ before

pub skimmed_fails : (fault : ReadError) (count i least : ℕ) (es : List Extent) (bytes : List ℕ) (total : Skimmed)
    → i < count → Fails fault (row_skim_at least es bytes) → skims_at (count - i) least es bytes ≡ total
    → Fails fault total
unfolding skims_at
skimmed_fails Memory count i least es bytes total lt none before = tt
skimmed_fails Malformed count i least es bytes total lt none before =
    let k : count - i ≡ suc (count - (i + 1)) = omega arith in
    sym before ∙ ap (λ (n : ℕ). skims_at n least es bytes) k
    ∙ ap (λ (o : Skimmed). o >>= λ x. skims_at (count - (i + 1)) x.0.0 x.0.1 x.1) none

pub skimmed_all : (count i least : ℕ) (es : List Extent) (bytes : List ℕ) (total : Skimmed) → count ≤ i
    → skims_at (count - i) least es bytes ≡ total → total ≡ Some ((least, es), bytes)
unfolding skims_at
skimmed_all count i least es bytes total past before =
    let k : count - i ≡ 0 = omega arith in
    sym before ∙ ap (λ (n : ℕ). skims_at n least es bytes) k
