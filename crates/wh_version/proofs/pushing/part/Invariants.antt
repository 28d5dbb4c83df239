use Rattle.std.proofs.Common.{◌≡◌, drop}
use Rattle.std.specs.Vec.{vec_len, vec_capacity}
use Rattle.wh_version.specs.Lasting.{partitions_in, parted}
use Rattle.wh_version.proofs.pushing.part.Given as goal

abbrev pub invariant-loop-number : goal.invariant-loop-number
invariant-loop-number l =
    (parted l.place (drop l.number-index l.removed) l.kept.items ≡ parted l.place l.removed l.initial.kept.items)
    × (partitions_in l.kept.items ≡ partitions_in l.initial.kept.items)
    × (vec_len l.kept ≡ vec_len l.initial.kept)
    × (vec_capacity l.kept ≡ vec_capacity l.initial.kept)
