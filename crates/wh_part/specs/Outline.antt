-- What is known of a partition without its rows, before it has a place.
--     ends_of, types_in            of each column: the least and the greatest value, and which types all values fit
--     types_fit, rows_fit          whether columns are of types that were found, and whether each row fits columns
--     IsOutlineOf                  what is said of a partition is so
--     IsSketchOf                   and what a pass says of it
use Rattle.std.specs.Prelude.{◌≡◌, ℕ, ◌<◌, Bool, true, false, ◌&&◌, List, [], ◌∷◌, map, length}
use Rattle.std.specs.List.{list_all}
use Rattle.wh_value.specs.Value.{Row}
use Rattle.wh_value.specs.Column.{Column}
use Rattle.wh_value.specs.Fits.{row_fits}
use Rattle.wh_frame.specs.Partition.{Partition}
use Rattle.wh_frame.specs.Spelling.{RisesFrom, partition_bytes}
use Rattle.wh_part.specs.declared.extent.Types.{Types}
use Rattle.wh_part.specs.declared.meta.PartMeta.{PartMeta}
use Rattle.wh_part.specs.Meta.{IsEven, IsMetaOf}
use Rattle.wh_part.specs.Holding.{Sides}
use Rattle.wh_part.specs.Extent.{Extent, extents_of, fits_by}
use Rattle.wh_part.specs.Skim.{Sketch, sketch_of}

abbrev pub ends_of : Extent → Sides
ends_of e = (e.least, e.greatest)

abbrev pub types_in : List Extent → List Types
types_in extents = map (λ e. e.types) extents

abbrev pub types_fit : List Column → List Types → Bool
types_fit [] [] = true
types_fit [] (t ∷ ts) = false
types_fit (c ∷ cs) [] = false
types_fit (c ∷ cs) (t ∷ ts) = fits_by t c.column_type && types_fit cs ts

abbrev pub rows_fit : List Column → List (ℕ × Row) → Bool
rows_fit columns rows = list_all (λ e. row_fits columns e.1) rows

pub record IsOutlineOf (meta : PartMeta) (types : List Types) (p : Partition) : Type 0 where
  pub says : IsMetaOf meta p
  pub size : meta.length ≡ length (partition_bytes p)
  pub some : 0 < length p.rows
  pub even : IsEven p.rows
  pub rising : RisesFrom 0 p.rows
  pub found : types ≡ types_in (extents_of p.rows)

pub record IsSketchOf (sketch : Sketch) (size : ℕ) (p : Partition) : Type 0 where
  pub same : sketch ≡ sketch_of p
  pub bytes : size ≡ length (partition_bytes p)
  pub some : 0 < length p.rows
  pub even : IsEven p.rows
  pub rising : RisesFrom 0 p.rows
