-- What a pass over the bytes of a partition says of it, as the code has it.
use Rattle.std.specs.Prelude.{◌+◌, map}
use Rattle.wh_part.specs.Extent.{extent_of}
use Rattle.wh_part.specs.Skim.{Sketch}
use Rattle.wh_part.specs.declared.skimming.Sketch as declared

abbrev pub sketched : declared.Sketch → Sketch
sketched s = record {
  number = s.number;
  count = s.count;
  first = s.first;
  next = s.last + 1;
  extents = map extent_of s.extents.items;
}
