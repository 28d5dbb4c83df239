use Rattle.std.proofs.Common.{◌≡◌, map, take}
use Rattle.std.specs.List.{flat_map}
use Rattle.wh_filed.specs.Filed.{loaded_of}
use Rattle.wh_algebra.specs.Tuple.{rows_in}
use Rattle.wh_exec.proofs.pouring.pour_loaded.Given as goal

abbrev pub invariant-loop-part : goal.invariant-loop-part
invariant-loop-part g l =
    rows_in l.kept.items ≡ map (λ e. e.1) (flat_map (λ p. p.rows) (take l.part-index (loaded_of l.parts)))
