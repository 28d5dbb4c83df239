-- What is read of groups is spelled so, and what is spelled so is read.
--     keys_are_rising, rising_keys     the test of keys decides that they rise
--     reads_total, reads_standing, reads_entry, reads_groups     the two laws of each
use Rattle.std.proofs.Common.{◌≡◌, ℕ, zero, suc, ◌-◌, ◌^◌, ◌<◌, Bool, true, cond, T, List, [], ◌∷◌, ◌++◌, length}
use Rattle.std.proofs.Common.{ℤ, pos, negsuc, Option, Some, None, refl, sym, ap, subst, ◌∙◌, arith, replicate}
use Rattle.std.specs.Prelude.{◌&&◌, ◌||◌, ◌≤ℤ◌, nat_eq}
use Rattle.std.specs.Option.{IfSome}
use Rattle.std.specs.List.{flat_map, AllByRecursion}
use Rattle.std.specs.List.Sorted.{IsStrictlySortedBy}
use Rattle.std.specs.Int.{w32, w64, to_be_bytes, cast_unsigned, cast_signed}
use Rattle.std.specs.Int.RustNames.{FitsSigned}
use Rattle.std.specs.declared.cmp.Ordering.{Ordering}
use Rattle.std.specs.Ordering.{is_lt, eq_by_cmp, int_cmp}
use Rattle.std.specs.FinMap.{int_cmp-IsAntisymmetric}
use Rattle.std.proofs.lemmas.Bool.{and_parts, eqb-true, lt-ltb}
use Rattle.std.proofs.lemmas.Int.{ints, of_z-to_z, to_z-of_z}
use Rattle.std.proofs.lemmas.List.{length-replicate}
use Rattle.wh_value.specs.Value.{row_cmp}
use Rattle.wh_value.specs.Order.{row_total}
use Rattle.wh_value.proofs.TestLaws.{is-Equal}
use Rattle.wh_value.proofs.ListLaws.{all_map}
use Rattle.wh_frame.specs.Spelling.{list_bytes}
use Rattle.wh_meaning.specs.Query.{Total}
use Rattle.wh_maintenance.specs.Standing.{Standing, nothing_yet}
use Rattle.wh_maintenance.specs.Entries.{GroupEntry}
use Rattle.wh_maintenance.proofs.EntryLaws.{less_is}
use Rattle.wh_state.specs.Spelling.{total_bytes, standing_bytes, entry_bytes, groups_bytes, keys_of}
use Rattle.wh_state.specs.Spelling.{IsTotal, IsStanding, IsGroupEntry, IsGroupsChange}
use Rattle.wh_part.proofs.ReaderLaws.{Reads, reads_then, reads_where, reads_as, reads_same, reads_items, reads_list}
use Rattle.wh_part.proofs.ReaderLaws.{wide32, wide64, reads_number}
use Rattle.wh_part.proofs.PartitionLaws.{reads_value}
use Rattle.wh_record.specs.Decoding.{total_at, is_nothing, are_nothing, may_stand, group_of, standing_at, entry_at}
use Rattle.wh_record.specs.Decoding.{keys_rise, entries_at, groups_at}
use Rattle.wh_record.proofs.FieldLaws.{reads_record, four_grouped}

-- ---- totals

fits : (z : ℤ) → negsuc (2 ^ 63 - 1) ≤ℤ z → z ≤ℤ pos (2 ^ 63 - 1) → FitsSigned w64 z
fits (pos n) least most = record { sfits = omega (arith, ints) }
fits (negsuc n) least most = record { sfits = omega (arith, ints) }

below : (z : ℤ) → FitsSigned w64 z → cast_unsigned w64 z < 2 ^ 64
below (pos n) h = omega (arith, h.sfits)
below (negsuc n) h = omega arith

total_is : (bits values : ℕ) → bits < 2 ^ 64 → values < 2 ^ 64
    → IsTotal (record { sum = cast_signed w64 bits; values = values })
total_is bits values lt few =
    record { least = omega (arith, ints); most = omega (arith, ints); values = few }

pub reads_total : Reads total_bytes IsTotal total_at
unfolding total_at
reads_total =
    reads_same total_bytes IsTotal total_at (λ bytes. refl) (λ t. refl) (λ t good. good) (λ t good. good)
    (reads_as total_bytes IsTotal (λ p. record { sum = cast_signed w64 p.0; values = p.1 })
    (λ t. (cast_unsigned w64 t.sum, t.values))
    (λ p good. (
      ap (λ (bits : ℕ). to_be_bytes w64 bits ++ to_be_bytes w64 p.1) (sym (of_z-to_z w64 p.0 good.0)),
      total_is p.0 p.1 good.0 good.1,
    ))
    (λ t good. let wide = fits t.sum good.least good.most in (
      refl,
      (below t.sum wide, good.values),
      ap {B = Total} (λ (z : ℤ). record { sum = z; values = t.values }) (to_z-of_z w64 t.sum wide),
    ))
    (reads_then (reads_number wide64) (λ bits _. reads_number wide64)))

-- ---- groups that are left, or removed

nothing_is : (t : Total) → is_nothing t ≡ true → t ≡ nothing_yet
nothing_is t e =
    let both = and_parts (eq_by_cmp int_cmp t.sum (pos 0)) (nat_eq t.values 0) e in
    let sum = int_cmp-IsAntisymmetric t.sum (pos 0) (is-Equal (int_cmp t.sum (pos 0)) both.0) in
    let values = eqb-true t.values 0 both.1 in
    ap {B = Total} (λ (z : ℤ). record { sum = z; values = t.values }) sum
    ∙ ap {B = Total} (λ (n : ℕ). record { sum = pos 0; values = n }) values

nothings_are : (ts : List Total) → are_nothing ts ≡ true → ts ≡ replicate (length ts) nothing_yet
nothings_are [] e = refl
nothings_are (t ∷ ts) e =
    let both = and_parts (is_nothing t) (are_nothing ts) e in
    let first = nothing_is t both.0 in
    let rest = nothings_are ts both.1 in
    cc

are_nothings : (calls : ℕ) → are_nothing (replicate calls nothing_yet) ≡ true
are_nothings zero = refl
are_nothings (suc calls) = are_nothings calls

all_totals : (calls : ℕ) → AllByRecursion IsTotal (replicate calls nothing_yet)
all_totals zero = tt
all_totals (suc calls) =
    (record { least = omega (arith, ints); most = omega (arith, ints); values = omega arith }, all_totals calls)

abbrev ArePartsOf : ℕ → ℕ × List Total → Type 0
ArePartsOf calls p =
    ((p.0 < 2 ^ 64) × ((length p.1 ≡ calls) × AllByRecursion IsTotal p.1)) × (may_stand p.0 p.1 ≡ true)

abbrev parts_of : ℕ → Option Standing → ℕ × List Total
parts_of calls None = (0, replicate calls nothing_yet)
parts_of calls (Some s) = (s.rows, s.totals)

abbrev bytes_of : ℕ × List Total → List ℕ
bytes_of p = to_be_bytes w64 p.0 ++ flat_map total_bytes p.1

abbrev IsGroup : ℕ → Option Standing → Type 0
IsGroup calls group = IfSome group (IsStanding calls)

-- a group with rows is left
some_rows : (rows : ℕ) (totals : List Total) → 0 < rows
    → (may_stand rows totals ≡ true) × (group_of rows totals ≡ Some (record { rows = rows; totals = totals }))
some_rows rows totals some =
    let test = lt-ltb 0 rows some in (
      ap (λ (b : Bool). b || are_nothing totals) test,
      ap (λ (b : Bool). cond b (Some (record { rows = rows; totals = totals })) None) test,
    )

group_there : (calls rows : ℕ) (totals : List Total) → ArePartsOf calls (rows, totals)
    → (bytes_of (rows, totals) ≡ standing_bytes calls (group_of rows totals)) × IsGroup calls (group_of rows totals)
unfolding standing_bytes
group_there calls zero totals good =
    let none : totals ≡ replicate calls nothing_yet =
    nothings_are totals good.1 ∙ ap (λ (n : ℕ). replicate n nothing_yet) good.0.1.0 in
    (ap (λ (ts : List Total). to_be_bytes w64 0 ++ flat_map total_bytes ts) none, tt)
group_there calls (suc rows) totals good =
    subst (λ (g : Option Standing). (bytes_of (suc rows, totals) ≡ standing_bytes calls g) × IsGroup calls g)
    (sym (some_rows (suc rows) totals (omega arith)).1)
    (refl, record { some = omega arith; few = good.0.0; all = good.0.1.0; totals = good.0.1.1 })

group_again : (calls : ℕ) (group : Option Standing) → IsGroup calls group
    → (bytes_of (parts_of calls group) ≡ standing_bytes calls group) × ArePartsOf calls (parts_of calls group)
    × (group_of (parts_of calls group).0 (parts_of calls group).1 ≡ group)
unfolding standing_bytes
group_again calls None good = (
  refl,
  ((omega arith, (length-replicate calls nothing_yet, all_totals calls)), are_nothings calls),
  refl,
)
group_again calls (Some s) good =
    let left = some_rows s.rows s.totals good.some in
    (refl, ((good.few, (good.all, good.totals)), left.0), left.1)

pub reads_standing : (calls : ℕ) → Reads (standing_bytes calls) (IsGroup calls) (standing_at calls)
unfolding standing_at
reads_standing calls =
    reads_same (standing_bytes calls) (IsGroup calls) (standing_at calls)
    (λ bytes. refl) (λ group. refl) (λ group good. good) (λ group good. good)
    (reads_as (standing_bytes calls) (IsGroup calls) (λ p. group_of p.0 p.1) (parts_of calls)
    (λ p good. group_there calls p.0 p.1 good) (λ group good. group_again calls group good)
    (reads_where (λ p. may_stand p.0 p.1)
    (reads_then (reads_number wide64) (λ rows _. reads_items reads_total calls))))

-- ---- entries

pub reads_entry : (keys calls : ℕ) → Reads (entry_bytes calls) (IsGroupEntry keys calls) (entry_at keys calls)
unfolding entry_at entry_bytes
reads_entry keys calls =
    reads_record (entry_bytes calls) (IsGroupEntry keys calls) (entry_at keys calls)
    (λ e. (e.key, e.group)) (λ bytes. refl) (λ e. refl) (λ p. refl)
    (λ p good. record { width = good.0.0; key = good.0.1; group = good.1 })
    (λ e good. ((good.width, good.key), good.group))
    (reads_then (reads_items reads_value keys) (λ key _. reads_standing calls))

pub keys_are_rising : (es : List GroupEntry) → keys_rise es ≡ true → IsStrictlySortedBy row_cmp (keys_of es)
unfolding IsStrictlySortedBy
keys_are_rising [] e = tt
keys_are_rising (x ∷ []) e = (tt, tt)
keys_are_rising (x ∷ y ∷ es) e =
    let both = and_parts (is_lt (row_cmp x.key y.key)) (keys_rise (y ∷ es)) e in
    let less = less_is (row_cmp x.key y.key) (subst T (sym both.0) tt) in
    let rest = keys_are_rising (y ∷ es) both.1 in
    ((less, all_map _ _ (λ key h. row_total.trans x.key y.key key less h) (keys_of es) rest.0), rest)

rising_keys : (es : List GroupEntry) → IsStrictlySortedBy row_cmp (keys_of es) → keys_rise es ≡ true
unfolding IsStrictlySortedBy
rising_keys [] h = refl
rising_keys (x ∷ []) h = refl
rising_keys (x ∷ y ∷ es) h =
    ap (λ (r : Ordering). is_lt r && keys_rise (y ∷ es)) h.0.0 ∙ rising_keys (y ∷ es) h.1

abbrev AreEntries : ℕ → ℕ → List GroupEntry → Type 0
AreEntries keys calls es =
    (length es < 2 ^ 32) × IsStrictlySortedBy row_cmp (keys_of es) × AllByRecursion (IsGroupEntry keys calls) es

reads_entries : (keys calls : ℕ)
    → Reads (list_bytes (entry_bytes calls)) (AreEntries keys calls) (entries_at keys calls)
unfolding entries_at
reads_entries keys calls =
    reads_same (list_bytes (entry_bytes calls)) (AreEntries keys calls) (entries_at keys calls)
    (λ bytes. refl) (λ es. refl)
    (λ es good. (good.0.0, keys_are_rising es good.1, good.0.1))
    (λ es good. ((good.0, good.2), rising_keys es good.1))
    (reads_where keys_rise (reads_list (reads_number wide32) (reads_entry keys calls)))

-- ---- changes

pub reads_groups : Reads (λ p. groups_bytes p.0 p.1) (λ p. IsGroupsChange p.0 p.1) groups_at
unfolding groups_at groups_bytes
reads_groups =
    reads_record (λ p. groups_bytes p.0 p.1) (λ p. IsGroupsChange p.0 p.1) groups_at
    (λ p. (p.0, (p.1.keys, (p.1.calls, p.1.entries)))) (λ bytes. refl) (λ p. refl)
    (λ p. four_grouped (to_be_bytes w32 p.0) (to_be_bytes w32 p.1.0) (to_be_bytes w32 p.1.1.0)
    (list_bytes (entry_bytes p.1.1.0) p.1.1.1))
    (λ p good. record {
      id = good.0;
      keys = good.1.0;
      calls = good.1.1.0;
      few = good.1.1.1.0;
      rising = good.1.1.1.1;
      entries = good.1.1.1.2;
    })
    (λ p good. (good.id, (good.keys, (good.calls, (good.few, good.rising, good.entries)))))
    (reads_then (reads_number wide32) (λ id _. reads_then (reads_number wide32)
    (λ keys _. reads_then (reads_number wide32) (λ calls _. reads_entries keys calls))))
