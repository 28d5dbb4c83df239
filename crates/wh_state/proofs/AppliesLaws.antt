-- What edits are written as applies.
--     cut_apart, made_apart      the partitions that they make are apart from those that stay
--     VersionFits, IsFirmTable   what holds of each table of a file that runs leave
--     EditsFit                   the rows of edits fit columns
--     version_applies            the next version
use Rattle.std.proofs.Common.{◌≡◌, inr, ℕ, zero, suc, ◌+◌, ◌*◌, ◌<◌, ◌≤◌, List, []}
use Rattle.std.proofs.Common.{◌∷◌, ◌++◌, length, map, drop, take, Some, refl, sym, subst, arith}
use Rattle.std.proofs.Common.{IsTrue}
use Rattle.std.specs.List.{AllByRecursion}
use Rattle.std.specs.FinMap.{get}
use Rattle.std.proofs.lemmas.List.{length-drop}
use Rattle.wh_value.specs.Value.{Row}
use Rattle.wh_value.specs.Column.{Column}
use Rattle.wh_value.specs.Fits.{row_fits}
use Rattle.wh_value.specs.Limit.{bound}
use Rattle.wh_value.specs.declared.limit.Limit.TheVariants as limits
use Rattle.wh_frame.specs.Partition.{Partition, last_number, numbered, partitions_of, cut, cut_into}
use Rattle.wh_frame.specs.Spelling.{RisesFrom}
use Rattle.wh_state.specs.State.{content_in, last_of}
use Rattle.std.specs.Prelude.{not}
use Rattle.wh_state.specs.Edits.{Edits, edited, is_touched, touched, by_rows, numbers_gone, without, made_of}
use Rattle.wh_state.specs.Edits.{partitions_left, partitions_made}
use Rattle.wh_state.specs.Stored.{StoredVersion, StoredTable, standing}
use Rattle.wh_state.specs.Commit.{AreApart, AllApart, RowsFit, DoesNotFall, VersionApplies}
use Rattle.wh_state.specs.Orderly.{IsOrderly}
use Rattle.wh_state.proofs.AllLaws.{all_map, all_both, all_append, all_filter}
use Rattle.wh_state.proofs.EditLaws.{untouched, without_gone}
use Rattle.wh_state.proofs.ActLaws.{version_change, orderly_standing}
use Rattle.wh_state.proofs.OrderlyLaws.{apart_append, KeptTable}
use Rattle.wh_state.proofs.PartLaws.{few_parts, made_have, made_numbered, gone_stand, edited_all, left_each, made_all}
use Rattle.wh_state.proofs.PartLaws.{numbered_rise_from}
use Rattle.wh_state.proofs.ApartLaws.{left_apart}

-- ---- rows that come

last_of_front : (n least : ℕ) (e : ℕ × Row) (es : List (ℕ × Row)) → RisesFrom least (e ∷ es)
    → (least ≤ last_number (e ∷ take n es)) × RisesFrom (last_number (e ∷ take n es) + 1) (drop n es)
last_of_front zero least e es rising = rising
last_of_front (suc n) least e [] rising = (rising.0, tt)
last_of_front (suc n) least e (f ∷ es) rising =
    let rest = last_of_front n (e.0 + 1) f es rising.1 in
    (omega (arith, rising.0, rest.0), rest.1)

end_weaker : (least most : ℕ) → least ≤ most → (ps : List Partition) →
    AllByRecursion (λ p. last_number p.rows < least) ps
    → AllByRecursion (λ p. last_number p.rows < most) ps
end_weaker least most h ps below =
    all_map (λ p. last_number p.rows < least) (λ p. last_number p.rows < most) (λ p less. omega arith) ps below

-- behind those that end before them
cut_apart : (number count least : ℕ) (es : List (ℕ × Row)) (before : List Partition) → RisesFrom least es
    → count * 1000 < length es + 1000 → AllByRecursion (λ p. last_number p.rows < least) before
    → AllApart before (cut_into number count es)
cut_apart number zero least es before rising some below = tt
cut_apart number (suc count) least [] before rising some below = absurd (omega arith)
cut_apart number (suc count) least (e ∷ es) before rising some below =
    let front : Partition = record { number = number; rows = e ∷ take 999 es } in
    let rest = last_of_front 999 least e es rising in
    let left : count * 1000 < length (drop 999 es) + 1000 = omega (arith, length-drop 999 es) in (
      all_map (λ p. last_number p.rows < least) (AreApart front) (λ p less. inr (omega (arith, rising.0))) before below,
      cut_apart (number + 1) count (last_number (e ∷ take 999 es) + 1) (drop 999 es) (front ∷ before) rest.1 left
          (omega arith, end_weaker least (last_number (e ∷ take 999 es) + 1) (omega (arith, rest.0)) before below),
    )

last_below : (next : ℕ) (es : List (ℕ × Row)) → 0 < length es → AllByRecursion (λ e. e.0 < next) es
    → last_number es < next
last_below next [] some below = absurd (omega arith)
last_below next (e ∷ []) some below = below.0
last_below next (e ∷ f ∷ es) some below = last_below next (f ∷ es) (omega arith) below.1

abbrev pub HasRows : Partition → Type 0
HasRows p = 0 < length p.rows

ends_below : (next : ℕ) (ps : List Partition) → AllByRecursion HasRows ps
    → AllByRecursion (λ p. AllByRecursion (λ e. e.0 < next) p.rows) ps
    → AllByRecursion (λ p. last_number p.rows < next) ps
ends_below next ps some below =
    all_both HasRows (λ p. AllByRecursion (λ e. e.0 < next) p.rows) (λ p. last_number p.rows < next)
    (λ p some below. last_below next p.rows some below) ps some below

-- each partition that is made has rows
left_some : (next : ℕ) (lists : List (List (ℕ × Row))) → AllByRecursion HasRows (made_of next lists)
left_some next [] = tt
left_some next ([] ∷ lists) = left_some next lists
left_some next ((e ∷ es) ∷ lists) = (omega arith, left_some (next + 1) lists)

cut_some : (number count : ℕ) (es : List (ℕ × Row)) → count * 1000 < length es + 1000
    → AllByRecursion HasRows (cut_into number count es)
cut_some number zero es some = tt
cut_some number (suc count) [] some = absurd (omega arith)
cut_some number (suc count) (e ∷ es) some =
    (omega arith, cut_some (number + 1) count (drop 999 es) (omega (arith, length-drop 999 es)))

pub made_some : (next next_row : ℕ) (e : Edits) (ps : List Partition)
    → AllByRecursion HasRows (partitions_made next next_row e ps)
made_some next next_row e ps =
    made_have (λ first made. AllByRecursion HasRows made) (λ first left added. all_append HasRows left added)
    left_some cut_some next next_row e ps

-- those that edits make, and those that stay
pub made_apart : (next next_row : ℕ) (e : Edits) (ps : List Partition) → IsOrderly ps → AllByRecursion HasRows ps
    → AllByRecursion (λ p. AllByRecursion (λ e. e.0 < next_row) p.rows) ps
    → AllApart (without (numbers_gone e.rows ps) ps) (partitions_made next next_row e ps)
unfolding partitions_made
made_apart next next_row e ps orderly some below =
    let left : List Partition = partitions_left next e.rows ps in
    let stays : List Partition = untouched e.rows ps in
    let added : List (ℕ × Row) = numbered next_row e.added in
    let left_below : AllByRecursion (λ p. AllByRecursion (λ e. e.0 < next_row) p.rows) left =
    left_each (AllByRecursion (λ e. e.0 < next_row)) next e.rows ps
    (all_map (λ p. AllByRecursion (λ e. e.0 < next_row) p.rows)
    (λ p. AllByRecursion (λ e. e.0 < next_row) (edited e.rows p.rows))
    (λ p h. edited_all (λ e. e.0 < next_row) e.rows (λ number row old is h. h) p.rows h) ps below) in
    subst (λ (before : List Partition). AllApart before (left ++ cut (next + length left) added))
    (sym (without_gone e.rows ps orderly.numbers))
    (apart_append stays left (cut (next + length left) added) (left_apart next e.rows ps orderly)
    (cut_apart (next + length left) (partitions_of (length added)) next_row added (left ++ stays)
    (numbered_rise_from next_row e.added) (few_parts (length added))
    (all_append (λ p. last_number p.rows < next_row) left stays
    (ends_below next_row left (left_some next
    (map (λ p. edited e.rows p.rows) (by_rows (touched e.rows ps)))) left_below)
    (stay_below (ends_below next_row ps some below)))))
  where
    stay_below : AllByRecursion (λ p. last_number p.rows < next_row) ps
        → AllByRecursion (λ p. last_number p.rows < next_row) (untouched e.rows ps)
    stay_below h = all_filter (λ p. last_number p.rows < next_row) (λ p. not (is_touched e.rows p)) ps h

-- ---- tables

abbrev pub FitRows : List Column → Partition → Type 0
FitRows columns p = AllByRecursion (λ e. IsTrue (row_fits columns e.1)) p.rows

abbrev pub VersionFits : List Column → StoredVersion → Type 0
VersionFits columns v = AllByRecursion (FitRows columns) v.content

pub record IsFirmTable (t : StoredTable) : Type 0 where
  pub kept : KeptTable t
  pub some : AllByRecursion HasRows (standing t)
  pub fits : AllByRecursion (VersionFits t.columns) t.versions

-- the row numbers of those that stand
abbrev pub IsBelowNext : StoredTable → Type 0
IsBelowNext t = AllByRecursion (λ p. AllByRecursion (λ e. e.0 < t.next_row) p.rows) (standing t)

-- what edits put in place of rows, and what they add
pub record EditsFit (columns : List Column) (e : Edits) : Type 0 where
  pub rows : (number : ℕ) (row : Row) → get e.rows number ≡ Some (Some row) → IsTrue (row_fits columns row)
  pub added : AllByRecursion (λ row. IsTrue (row_fits columns row)) e.added

pub standing_fits : (t : StoredTable) → IsFirmTable t → AllByRecursion (FitRows t.columns) (standing t)
standing_fits t firm = of_last t.versions firm.fits
  where
    of_last : (versions : List StoredVersion) → AllByRecursion (VersionFits t.columns) versions
        → AllByRecursion (FitRows t.columns) (content_in [] (last_of versions))
    of_last [] all = tt
    of_last (v ∷ []) all = all.0
    of_last (v ∷ w ∷ vs) all = of_last (w ∷ vs) all.1

numbered_fit : (columns : List Column) (next most : ℕ) (rows : List Row) → next + length rows ≤ most
    → AllByRecursion (λ row. IsTrue (row_fits columns row)) rows
    → AllByRecursion (λ e. IsTrue (row_fits columns e.1) × (e.0 < most)) (numbered next rows)
numbered_fit columns next most [] h fit = tt
numbered_fit columns next most (row ∷ rows) h fit =
    ((fit.0, omega arith), numbered_fit columns (next + 1) most rows (omega arith) fit.1)

pub made_fits : (e : Edits) (t : StoredTable) → IsFirmTable t → IsBelowNext t → EditsFit t.columns e
    → AllByRecursion (RowsFit t.columns (t.next_row + length e.added))
    (partitions_made t.next_partition t.next_row e (standing t))
made_fits e t firm below fit =
    made_all (λ r. IsTrue (row_fits t.columns r.1) × (r.0 < t.next_row + length e.added)) t.next_partition t.next_row e
    (standing t)
    (all_both (FitRows t.columns) (λ p. AllByRecursion (λ r. r.0 < t.next_row) p.rows)
    (λ p. AllByRecursion (λ r. IsTrue (row_fits t.columns r.1) × (r.0 < t.next_row + length e.added))
    (edited e.rows p.rows))
    (λ p fits less. edited_all (λ r. IsTrue (row_fits t.columns r.1) × (r.0 < t.next_row + length e.added)) e.rows
    (λ number row old is before. (fit.rows number row is, before.1)) p.rows
    (all_both (λ r. IsTrue (row_fits t.columns r.1)) (λ r. r.0 < t.next_row)
    (λ r. IsTrue (row_fits t.columns r.1) × (r.0 < t.next_row + length e.added))
    (λ r fits less. (fits, omega (arith, less))) p.rows fits less)) (standing t) (standing_fits t firm) below)
    (numbered_fit t.columns t.next_row (t.next_row + length e.added) e.added (omega arith) fit.added)

-- the next version of a table, with numbers within the limits and a later stamp
pub version_applies : (stamp id : ℕ) (e : Edits) (t : StoredTable) → IsFirmTable t → IsBelowNext t →
    EditsFit t.columns e
    → DoesNotFall (last_of t.versions) stamp → t.next_row + length e.added ≤ bound limits.RowNumber
    → t.next_partition + length (partitions_made t.next_partition t.next_row e (standing t)) ≤ bound
    limits.PartitionNumber
    → VersionApplies t (version_change stamp id e t)
version_applies stamp id e t firm below fit later few few_partitions = record {
  timestamp = later;
  width = refl;
  next_row = few;
  next_partition = few_partitions;
  removed = gone_stand e.rows (standing t);
  numbers = made_numbered t.next_partition t.next_row e (standing t);
  rows = made_fits e t firm below fit;
  apart = made_apart t.next_partition t.next_row e (standing t) (orderly_standing t firm.kept.orderly) firm.some below;
}
