use Rattle.std.proofs.Common.{◌≡◌, ◌+◌, ◌≤◌, ◌++◌, map, length}
use Rattle.std.specs.Vec.{vec_len, vec_capacity}
use Rattle.std.specs.Vec.Iter.{into_iter_items, into_iter_len}
use Rattle.wh_version.specs.Lasting.{fresh}
use Rattle.wh_version.proofs.pushing.append.Given as goal

abbrev pub invariant-loop-filed : goal.invariant-loop-filed
invariant-loop-filed l = (l.kept.items ++ map fresh (into_iter_items l.filed-iterator)
    ≡ l.initial.kept.items ++ map fresh (into_iter_items l.initial.filed-iterator))
    × (into_iter_len l.filed-iterator ≡ length (into_iter_items l.filed-iterator))
    × (vec_len l.kept + length (into_iter_items l.filed-iterator) ≤ vec_capacity l.kept)
