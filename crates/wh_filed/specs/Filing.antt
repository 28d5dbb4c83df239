-- Partitions that stand in the file one behind the other, and what bytes spell.
--     filed_one, filed_from     a partition of an object at a position, and several from there on
--     spelled_at, IsSpelledIn   the same of the bytes where a partition stands; it is the one that stands there
--     EndsBy                    its bytes end by a position
use Rattle.std.specs.Prelude.{◌≡◌, ℕ, ◌+◌, ◌≤◌, List, [], ◌∷◌, length, Option, Some}
use Rattle.wh_world.specs.Bytes.{part_at}
use Rattle.wh_frame.specs.Partition.{Partition}
use Rattle.wh_frame.specs.Spelling.{partition_bytes}
use Rattle.wh_part.specs.Meta.{width_of}
use Rattle.wh_fetch.specs.Place.{spelled}
use Rattle.wh_filed.specs.Filed.{Filed}

abbrev pub filed_one : ℕ → ℕ → Partition → Filed
filed_one object at p = record {
  object = object;
  at = at;
  length = length (partition_bytes p);
  width = width_of p.rows;
  partition = p;
}

abbrev pub filed_from : ℕ → ℕ → List Partition → List Filed
filed_from object at [] = []
filed_from object at (p ∷ ps) = filed_one object at p ∷ filed_from object (at + length (partition_bytes p)) ps

-- ---- what bytes spell

abbrev pub spelled_at : List ℕ → Filed → Option Partition
spelled_at bytes f = spelled f.width (part_at f.at f.length bytes)

abbrev pub IsSpelledIn : List ℕ → Filed → Type 0
IsSpelledIn bytes f = spelled_at bytes f ≡ Some f.partition

abbrev pub EndsBy : ℕ → Filed → Type 0
EndsBy n f = f.at + f.length ≤ n
