use Rattle.std.proofs.Common.{◌≡◌, ◌++◌, map, take}
use Rattle.wh_part.specs.View.{numbered_of}
use Rattle.wh_algebra.specs.Tuple.{rows_in}
use Rattle.wh_exec.proofs.pouring.put_numbered.Given as goal

abbrev pub invariant-loop-numbered : goal.invariant-loop-numbered
invariant-loop-numbered l =
    rows_in l.tuples.items ≡ rows_in l.initial.tuples.items ++ map (λ e. e.1) (map numbered_of (take l.numbered-index l.rows))
