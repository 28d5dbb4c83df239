-- What the sources of a plan stand for.
--     parts_bag       the bag of the rows of partitions
--     bag_in          the bag of a source
--     instance_in     the bag of each source
--     filed_of, filed_in     the partitions of the file among those of a source, and of all sources
--     bag_found       the bag of the rows that are found; None where there are none
use Rattle.std.specs.Prelude.{List, [], ◌++◌, map, Option, option_map, Vec}
use Rattle.std.specs.List.{flat_map}
use Rattle.std.specs.Global.{Global}
use Rattle.wh_frame.specs.Partition.{Partition}
use Rattle.wh_filed.specs.Filed.{Filed, filed_at, partitions_at, loaded_of}
use Rattle.wh_meaning.specs.Bag.{Bag, bag_of}
use Rattle.wh_meaning.specs.Query.{Instance}
use Rattle.wh_algebra.specs.declared.tuple.Tuple.{Tuple}
use Rattle.wh_algebra.specs.Tuple.{rows_in}
use Rattle.wh_exec.specs.declared.source.Source.{Source}
use Rattle.wh_exec.specs.declared.source.Source.TheVariants.{Parts, Loaded, Rows}

abbrev pub parts_bag : List Partition → Bag
parts_bag ps = bag_of (map (λ e. e.1) (flat_map (λ p. p.rows) ps))

abbrev pub bag_in : Source → Bag
bag_in (Parts parts) = parts_bag (partitions_at parts.filed.now ++ parts.made.now)
bag_in (Loaded parts) = parts_bag (loaded_of parts.loaded.now ++ parts.made.now)
bag_in (Rows rows) = bag_of rows.now

abbrev pub instance_in : List Source → Instance
instance_in sources = map bag_in sources

abbrev pub filed_of : Source → List Filed
filed_of (Parts parts) = filed_at parts.filed.now
filed_of (Loaded parts) = []
filed_of (Rows rows) = []

abbrev pub filed_in : List Source → List Filed
filed_in sources = flat_map filed_of sources

abbrev pub bag_found : Option (Vec Tuple Global) → Option Bag
bag_found found = option_map (λ tuples. bag_of (rows_in tuples.items)) found
