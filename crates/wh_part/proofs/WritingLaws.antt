-- Pieces that are written one after the other.
use Rattle.std.proofs.Common.{◌≡◌, ℕ, List, ◌++◌, length, ◌∙◌, append_assoc}
use Rattle.std.specs.List.{flat_map}
use Rattle.std.specs.Int.{w32, w64, to_be_bytes}
use Rattle.wh_frame.specs.Partition.{Partition}
use Rattle.wh_frame.specs.Spelling.{row_bytes, partition_bytes}

-- the number, the count and the rows are the partition
pub partition_written : (p : Partition) (count : ℕ) (before one two after rows : List ℕ)
    → one ≡ before ++ to_be_bytes w64 p.number → two ≡ one ++ to_be_bytes w32 count → after ≡ two ++ rows
    → count ≡ length p.rows → rows ≡ flat_map row_bytes p.rows → after ≡ before ++ partition_bytes p
unfolding partition_bytes
partition_written p count before one two after rows e f g n r =
    let whole : after ≡ ((before ++ to_be_bytes w64 p.number) ++ to_be_bytes w32 count) ++ rows = cc in
    whole ∙ rw (n, r) (simp append_assoc)
