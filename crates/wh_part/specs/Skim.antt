-- Reading what is known of a partition without its rows, in one pass over its bytes.
--     starts_at, absorbs_at     the values of a row at the front: the first, and one more
--     skims_at                  so many further rows, whose numbers rise
--     Sketch, sketch_at         what is so known of the partition at the front
--     sketch_of                 and of a partition
use Rattle.std.specs.Prelude.{ℕ, zero, suc, ◌+◌, ◌-◌, List, [], ◌∷◌, length, Option, Some, None, nat_le}
use Rattle.std.specs.Prelude.{if◌then◌else◌}
use Rattle.std.specs.Int.{w64}
use Rattle.wh_frame.specs.Partition.{Partition, first_number, last_number}
use Rattle.wh_part.specs.Reading.{Reader, ◌>>=◌, as_at, items_at, number_at}
use Rattle.wh_part.specs.Decoding.{value_at, row_count_at}
use Rattle.wh_part.specs.Extent.{Extent, started, absorbed, extents_of}

unfoldable pub start_at : Reader Extent
start_at bytes = as_at started value_at bytes

abbrev pub starts_at : ℕ → Reader (List Extent)
starts_at = items_at start_at

unfoldable pub absorbs_at : List Extent → Reader (List Extent)
absorbs_at [] bytes = Some ([], bytes)
absorbs_at (e ∷ es) bytes = value_at bytes >>= λ v. absorbs_at es v.1 >>= λ x. Some (absorbed e v.0 ∷ x.0, x.1)

-- a row of a least number or a greater one: the number that the next has at least, and the extents
unfoldable pub row_skim_at : ℕ → List Extent → Reader (ℕ × List Extent)
row_skim_at least extents bytes = number_at w64 bytes >>= λ number.
    if nat_le least number.0 then (absorbs_at extents number.1 >>= λ x. Some ((number.0 + 1, x.0), x.1)) else None

unfoldable pub skims_at : ℕ → ℕ → List Extent → Reader (ℕ × List Extent)
skims_at zero least extents bytes = Some ((least, extents), bytes)
skims_at (suc n) least extents bytes = row_skim_at least extents bytes >>= λ x. skims_at n x.0.0 x.0.1 x.1

-- `next` is the number behind the last row's
pub record Sketch : Type 0 where
  pub number : ℕ
  pub count : ℕ
  pub first : ℕ
  pub next : ℕ
  pub extents : List Extent

unfoldable pub sketch_at : ℕ → Reader Sketch
sketch_at width bytes = number_at w64 bytes >>= λ number. row_count_at number.1 >>= λ count.
    number_at w64 count.1 >>= λ first. starts_at width first.1 >>= λ started.
    skims_at (count.0 - 1) (first.0 + 1) started.0 started.1 >>= λ x. Some (
      record { number = number.0; count = count.0; first = first.0; next = x.0.0; extents = x.0.1 },
      x.1,
    )

abbrev pub sketch_of : Partition → Sketch
sketch_of p = record {
  number = p.number;
  count = length p.rows;
  first = first_number p.rows;
  next = last_number p.rows + 1;
  extents = extents_of p.rows;
}
