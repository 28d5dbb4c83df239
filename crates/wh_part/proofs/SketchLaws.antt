-- What a pass says of the partition at the front of bytes, and what an outline keeps of it.
--     sketch_is                    the pass says what the partition's rows say
--     sketched_there               so there is a partition where it says something, and it is as sketched
--     none_sketched                and none where it says nothing
--     outline_is                   an outline with the ends and types of a sketch's extents
use Rattle.std.specs.Prelude.{◌≡◌, ℕ, zero, suc, ◌+◌, ◌-◌, ◌<◌, ◌≤◌, Bool, true, false, ◌&&◌, nat_lt, nat_le}
use Rattle.std.specs.Prelude.{List, [], ◌∷◌, ◌++◌, map, length, Option, Some, None}
use Rattle.std.proofs.Common.{cond, get_or, refl, sym, ap, subst, ◌∙◌, arith, length-append}
use Rattle.std.specs.Int.{w32, w64}
use Rattle.std.proofs.lemmas.Bool.{and_parts, and_from, ltb-true, le-leb}
use Rattle.std.proofs.lemmas.Option.{same_Some}
use Rattle.std.proofs.lemmas.List.{length-map, get_or-map}
use Rattle.wh_value.specs.Value.{Value, Null, Row}
use Rattle.wh_value.specs.View.{value_of}
use Rattle.wh_frame.specs.Partition.{Partition, first_number, last_number}
use Rattle.wh_frame.specs.Spelling.{partition_bytes, IsPartition}
use Rattle.wh_part.specs.declared.fault.ReadError.{ReadError}
use Rattle.wh_part.specs.declared.fault.ReadError.TheVariants.{Memory, Malformed}
use Rattle.wh_part.specs.declared.extent.Types.{Types}
use Rattle.wh_part.specs.declared.meta.Bounds.{Bounds}
use Rattle.wh_part.specs.declared.meta.PartMeta.{PartMeta}
use Rattle.wh_part.specs.Meta.{IsEven, IsMetaOf, IsBoundsOf, IsLeast, IsGreatest, width_of, column}
use Rattle.wh_part.specs.Holding.{Sides, sides_of}
use Rattle.wh_part.specs.Reading.{Reader, ◌>>=◌, Fails, as_at, where_at, items_at, number_at}
use Rattle.wh_part.specs.Decoding.{value_at, row_at, is_row_count, rises_from, row_count_at, rows_at, partition_at}
use Rattle.wh_part.specs.Extent.{Extent, started, rows_absorbed, extents_of}
use Rattle.wh_part.specs.Skim.{starts_at, skims_at, Sketch, sketch_at, sketch_of}
use Rattle.wh_part.specs.Outline.{ends_of, types_in, IsOutlineOf, IsSketchOf}
use Rattle.wh_part.proofs.MetaLemmas.{even_partition}
use Rattle.wh_part.proofs.ReaderLaws.{AreBytes, bind_some, cond_same}
use Rattle.wh_part.proofs.PartitionLaws.{reads_partition}
use Rattle.wh_part.proofs.SkimLaws.{items_count, starts_is, skims_is, next_after, if_rising}
use Rattle.wh_part.proofs.ExtentLaws.{extents_span, extent_count, least_of, greatest_of, and_false}

abbrev pub first_in : Option (Partition × List ℕ) → Partition
first_in None = record { number = 0; rows = [] }
first_in (Some x) = x.0

next_is : (r : ℕ × Row) (rows : List (ℕ × Row)) → next_after (r.0 + 1) rows ≡ last_number (r ∷ rows) + 1
next_is r [] = refl
next_is r (e ∷ rows) = next_is e rows

abbrev Found : Type 0
Found = Option (Sketch × List ℕ)

abbrev Rows : Type 0
Rows = Option (List (ℕ × Row) × List ℕ)

-- the rows, if they rise
abbrev risen : List (ℕ × Row) × List ℕ → Rows
risen x = cond (rises_from 0 x.0) (Some x) None

-- what is said of a partition of that number with these rows
abbrev of_rows : ℕ → List (ℕ × Row) × List ℕ → Found
of_rows number x = Some (sketch_of (record { number = number; rows = x.0 }), x.1)

abbrev row_first : ℕ × Row → List (ℕ × Row) × List ℕ → Rows
row_first r xs = Some (r ∷ xs.0, xs.1)

abbrev numbered : ℕ → List Value × List ℕ → Option ((ℕ × Row) × List ℕ)
numbered k x = Some ((k, x.0), x.1)

-- the steps in which a partition is read
abbrev Counted : Type 0
Counted = (ℕ × List (ℕ × Row)) × List ℕ

abbrev of_number : ℕ → List (ℕ × Row) × List ℕ → Option Counted
of_number n y = Some ((n, y.0), y.1)

abbrev rows_alone : Counted → Rows
rows_alone p = Some (p.0.1, p.1)

abbrev as_partition : Counted → Option (Partition × List ℕ)
as_partition p = Some (record { number = p.0.0; rows = p.0.1 }, p.1)

abbrev as_sketch : Partition × List ℕ → Found
as_sketch p = Some (sketch_of p.0, p.1)

-- and those in which it is sketched
abbrev of_skim : ℕ → ℕ → ℕ → (ℕ × List Extent) × List ℕ → Found
of_skim number n first x = Some (
  record { number = number; count = n; first = first; next = x.0.0; extents = x.0.1 },
  x.1,
)

abbrev of_started : ℕ → ℕ → ℕ → List Extent × List ℕ → Found
of_started number n first s = skims_at (n - 1) (first + 1) s.0 s.1 >>= of_skim number n first

abbrev of_first : ℕ → ℕ → ℕ → ℕ × List ℕ → Found
of_first width number n first = starts_at width first.1 >>= of_started number n first.0

abbrev all_started : List Value × List ℕ → Option (List Extent × List ℕ)
all_started x = Some (map started x.0, x.1)

pub count_some : (bytes : List ℕ) (n : ℕ × List ℕ) → row_count_at bytes ≡ Some n → 0 < n.0
unfolding row_count_at
count_some bytes n e =
    let a = bind_some (number_at w32 bytes) (λ x. cond (is_row_count x.0) (Some x) None) n e in
    let c = cond_same (is_row_count a.0.0) a.0 n a.2 in
    let both = and_parts (nat_lt 0 a.0.0) (nat_le a.0.0 1000) c.0 in
    subst (λ (z : ℕ × List ℕ). 0 < z.0) c.1 (ltb-true 0 a.0.0 both.0)

module _ (width : ℕ) (bytes : List ℕ) (number : ℕ) where
  -- as a partition's rows are read, and as they are said here
  regrouped : (n : ℕ) (o : Rows)
      → ((((((o >>= of_number n) >>= rows_alone) >>= risen) >>= of_number number) >>= as_partition) >>= as_sketch)
      ≡ ((o >>= risen) >>= of_rows number)
  regrouped n None = refl
  regrouped n (Some x) = by_test (rises_from 0 x.0)
    where
      by_test : (b : Bool)
          → (((cond b (Some x) None >>= of_number number) >>= as_partition) >>= as_sketch)
          ≡ (cond b (Some x) None >>= of_rows number)
      by_test true = refl
      by_test false = refl

  -- of a first row, and those behind it
  module _ (n m : ℕ) (size : n ≡ suc m) (first : ℕ) (row : Row) where
    abbrev made : ℕ → ℕ → List (ℕ × Row) × List ℕ → Found
    made count next x = Some (
      record {
        number = number;
        count = count;
        first = first;
        next = next;
        extents = rows_absorbed (map started row) x.0;
      },
      x.1,
    )

    by_rest : (o : Rows) → ((x : List (ℕ × Row) × List ℕ) → o ≡ Some x → length x.0 ≡ m)
        → ((o >>= if_rising (first + 1) (map started row)) >>= of_skim number n first)
        ≡ (((o >>= row_first (first, row)) >>= risen) >>= of_rows number)
    by_rest None counted = refl
    by_rest (Some x) counted = by_test (rises_from (first + 1) x.0) refl
      where
        by_test : (b : Bool) → rises_from (first + 1) x.0 ≡ b
            → (if_rising (first + 1) (map started row) x >>= of_skim number n first)
            ≡ (cond (nat_le 0 first && rises_from (first + 1) x.0) (Some ((first, row) ∷ x.0, x.1)) None
            >>= of_rows number)
        by_test true h =
            ap (λ (b : Bool). cond b (Some ((next_after (first + 1) x.0, rows_absorbed (map started row) x.0), x.1)) None
            >>= of_skim number n first) h
            ∙ ap (λ (k : ℕ). made k (next_after (first + 1) x.0) x) (size ∙ ap suc (sym (counted x refl)))
            ∙ ap (λ (k : ℕ). made (suc (length x.0)) k x) (next_is (first, row) x.0)
            ∙ sym (ap (λ (b : Bool). cond b (Some ((first, row) ∷ x.0, x.1)) None >>= of_rows number)
            (and_from _ _ (le-leb 0 first (omega arith)) h))
        by_test false h =
            ap (λ (b : Bool). cond b (Some ((next_after (first + 1) x.0, rows_absorbed (map started row) x.0), x.1)) None
            >>= of_skim number n first) h
            ∙ sym (ap (λ (b : Bool). cond b (Some ((first, row) ∷ x.0, x.1)) None >>= of_rows number)
            (ap (λ (b : Bool). nat_le 0 first && b) h ∙ and_false (nat_le 0 first)))

    by_row : (behind : List ℕ) (o : Option (List Value × List ℕ)) → items_at value_at width behind ≡ o
        → o ≡ Some (row, bytes)
        → (skims_at (n - 1) (first + 1) (map started row) bytes >>= of_skim number n first)
        ≡ (((items_at (row_at width) m bytes >>= row_first (first, row)) >>= risen)
        >>= of_rows number)
    by_row behind o e f =
        let wide : length (map started row) ≡ width =
        length-map row started ∙ items_count value_at width behind row bytes (e ∙ f) in
        ap (λ (k : ℕ). skims_at k (first + 1) (map started row) bytes >>= of_skim number n first) (omega (arith, size))
        ∙ ap (λ (o : Option ((ℕ × List Extent) × List ℕ)). o >>= of_skim number n first)
        (skims_is m (first + 1) (map started row) bytes)
        ∙ ap (λ (w : ℕ). (items_at (row_at w) m bytes >>= if_rising (first + 1) (map started row)) >>= of_skim number n first) wide
        ∙ by_rest (items_at (row_at width) m bytes) (λ x g. items_count (row_at width) m bytes x.0 x.1 g)

module _ (width number : ℕ) where
  abbrev rows_on : ℕ → (ℕ × Row) × List ℕ → Rows
  rows_on m r = items_at (row_at width) m r.1 >>= row_first r.0

  by_values : (n m : ℕ) → n ≡ suc m → (first : ℕ) (behind : List ℕ) (o : Option (List Value × List ℕ))
      → items_at value_at width behind ≡ o
      → ((o >>= all_started) >>= of_started number n first)
      ≡ ((((o >>= numbered first) >>= rows_on m) >>= risen) >>= of_rows number)
  by_values n m size first behind None e = refl
  by_values n m size first behind (Some y) e =
      by_row width y.1 number n m size first y.0 behind (Some y) e refl

  by_first : (n m : ℕ) → n ≡ suc m → (o : Option (ℕ × List ℕ))
      → (o >>= of_first width number n)
      ≡ ((((o >>= λ k. items_at value_at width k.1 >>= numbered k.0) >>= rows_on m) >>= risen) >>= of_rows number)
  by_first n m size None = refl
  by_first n m size (Some f) =
      ap (λ (o : Option (List Extent × List ℕ)). o >>= of_started number n f.0) (starts_is width f.1)
      ∙ by_values n m size f.0 f.1 (items_at value_at width f.1) refl

  counted : (n : ℕ) (behind : List ℕ) → 0 < n
      → (number_at w64 behind >>= of_first width number n)
      ≡ ((items_at (row_at width) n behind >>= risen) >>= of_rows number)
  unfolding items_at row_at
  counted zero behind some = absurd (omega arith)
  counted (suc m) behind some = by_first (suc m) m refl (number_at w64 behind)

  by_count : (bytes behind : List ℕ) (o : Option (ℕ × List ℕ)) → row_count_at behind ≡ o
      → (o >>= λ count. number_at w64 count.1 >>= of_first width number count.0)
      ≡ ((((((o >>= λ n. items_at (row_at width) n.0 n.1 >>= of_number n.0) >>= rows_alone) >>= risen)
      >>= of_number number) >>= as_partition) >>= as_sketch)
  by_count bytes behind None e = refl
  by_count bytes behind (Some n) e =
      counted n.0 n.1 (count_some behind n e)
      ∙ sym (regrouped width bytes number n.0 (items_at (row_at width) n.0 n.1))

pub sketch_is : (width : ℕ) (bytes : List ℕ) → sketch_at width bytes ≡ as_at sketch_of (partition_at width) bytes
unfolding sketch_at partition_at rows_at
sketch_is width bytes = by_number (number_at w64 bytes)
  where
    by_number : (o : Option (ℕ × List ℕ))
        → (o >>= λ number. row_count_at number.1
        >>= λ count. number_at w64 count.1 >>= of_first width number.0 count.0)
        ≡ (((o >>= λ k. rows_at width k.1 >>= of_number k.0) >>= as_partition) >>= as_sketch)
    by_number None = refl
    by_number (Some k) = by_count width k.0 bytes k.1 (row_count_at k.1) refl

-- ---- what was read

pub record IsRead (width : ℕ) (bytes : List ℕ) (sketch : Sketch) (rest : List ℕ) : Type 0 where
  pub there : partition_at width bytes ≡ Some (first_in (partition_at width bytes), rest)
  pub same : sketch ≡ sketch_of (first_in (partition_at width bytes))

pub sketched_there : (width : ℕ) (bytes : List ℕ) (sketch : Sketch) (rest : List ℕ)
    → sketch_at width bytes ≡ Some (sketch, rest)
    → IsRead width bytes sketch rest
sketched_there width bytes sketch rest e =
    let a = bind_some (partition_at width bytes) as_sketch (sketch, rest)
    (sym (sketch_is width bytes) ∙ e) in
    let pairs = same_Some (sketch_of a.0.0, a.0.1) (sketch, rest) a.2 in
    let here : first_in (partition_at width bytes) ≡ a.0.0 = ap first_in a.1 in
    record {
      there = a.1 ∙ ap (λ (p : Partition). Some (p, a.0.1)) (sym here)
          ∙ ap (λ (l : List ℕ). Some (first_in (partition_at width bytes), l)) (ap (λ (z : Sketch × List ℕ). z.1) pairs);
      same = sym (ap (λ (z : Sketch × List ℕ). z.0) pairs) ∙ ap sketch_of (sym here);
    }

pub none_sketched : (width : ℕ) (bytes : List ℕ) (e : ReadError) → Fails e (sketch_at width bytes)
    → Fails e (partition_at width bytes)
none_sketched width bytes Memory f = tt
none_sketched width bytes Malformed f = by_read (partition_at width bytes) (sym (sketch_is width bytes) ∙ f)
  where
    by_read : (o : Option (Partition × List ℕ)) → (o >>= as_sketch) ≡ None → o ≡ None
    by_read None g = refl
    by_read (Some p) g = absurd cc

-- the bytes that were passed over are the partition's
pub is_sketch : (width : ℕ) (bytes : List ℕ) (sketch : Sketch) (rest : List ℕ) (size : ℕ) → AreBytes bytes
    → IsRead width bytes sketch rest
    → size ≡ length bytes - length rest
    → IsSketchOf sketch size (first_in (partition_at width bytes))
is_sketch width bytes sketch rest size fits is passed =
    let p = first_in (partition_at width bytes) in
    let taken = (reads_partition width).takes bytes p rest fits is.there in
    record {
      same = is.same;
      bytes = omega (arith, passed, ap length taken.0, length-append (partition_bytes p) rest);
      some = taken.1.some;
      even = even_partition width p taken.1;
      rising = taken.1.rising;
    }

pub rest_is_behind : (width : ℕ) (bytes : List ℕ) (sketch : Sketch) (rest : List ℕ) → AreBytes bytes
    → IsRead width bytes sketch rest
    → length rest ≤ length bytes
rest_is_behind width bytes sketch rest fits is =
    let p = first_in (partition_at width bytes) in
    let taken = (reads_partition width).takes bytes p rest fits is.there in
    omega (arith, ap length taken.0, length-append (partition_bytes p) rest)

-- ---- outlines

module _ (meta : PartMeta) (types : List Types) (sketch : Sketch) (p : Partition)
    (ends : map sides_of meta.columns.items ≡ map ends_of sketch.extents) where
  column_is : sketch ≡ sketch_of p → 0 < length p.rows → IsEven p.rows → (place : ℕ) (d : Bounds)
      → place < width_of p.rows
      → IsBoundsOf (get_or meta.columns.items place d) (column place p.rows)
  column_is same some even place d within =
      let extents = extents_of p.rows in
      let here : map sides_of meta.columns.items ≡ map ends_of extents =
      ends ∙ ap (λ (s : Sketch). map ends_of s.extents) same in
      let wide : length extents ≡ width_of p.rows = extent_count p.rows in
      let count : length meta.columns.items ≡ length extents =
      sym (length-map meta.columns.items sides_of) ∙ ap length here ∙ length-map extents ends_of in
      let e : Extent = get_or extents place (started Null) in
      let at : sides_of (get_or meta.columns.items place d) ≡ ends_of e =
      sym (get_or-map sides_of meta.columns.items place d (sides_of d) (omega arith))
      ∙ ap (λ (l : List Sides). get_or l place (sides_of d)) here
      ∙ get_or-map ends_of extents place (started Null) (sides_of d) (omega arith) in
      let spans = extents_span p.rows some even place (started Null) (omega arith) in
      record {
        least = subst (λ (v : Value). IsLeast v (column place p.rows)) (sym (ap (λ (s : Sides). s.0) at))
            (least_of e (column place p.rows) spans);
        greatest = subst (λ (v : Value). IsGreatest v (column place p.rows)) (sym (ap (λ (s : Sides). s.1) at))
            (greatest_of e (column place p.rows) spans);
      }

  pub outline_is : (size : ℕ) → IsSketchOf sketch size p → types ≡ types_in sketch.extents
      → meta.id.number ≡ sketch.number → meta.rows ≡ sketch.count → meta.first ≡ sketch.first
      → meta.last + 1 ≡ sketch.next → meta.length ≡ size
      → IsOutlineOf meta types p
  outline_is size is types_are number_is rows_are first_is last_is length_is = record {
    says = record {
      number = number_is ∙ ap (λ (s : Sketch). s.number) is.same;
      rows = rows_are ∙ ap (λ (s : Sketch). s.count) is.same;
      first = first_is ∙ ap (λ (s : Sketch). s.first) is.same;
      last = omega (arith, last_is, ap (λ (s : Sketch). s.next) is.same);
      width = sym (length-map meta.columns.items sides_of) ∙ ap length ends ∙ length-map sketch.extents ends_of
          ∙ ap (λ (s : Sketch). length s.extents) is.same ∙ extent_count p.rows;
      columns = column_is is.same is.some is.even;
    };
    size = length_is ∙ is.bytes;
    some = is.some;
    even = is.even;
    rising = is.rising;
    found = types_are ∙ ap (λ (s : Sketch). types_in s.extents) is.same;
  }
