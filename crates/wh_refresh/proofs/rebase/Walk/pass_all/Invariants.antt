use Rattle.std.proofs.Common.{◌≡◌, map, drop}
use Rattle.wh_part.specs.View.{numbered_of}
use Rattle.wh_refresh.specs.Walk.{walked, walk_of}
use Rattle.wh_refresh.proofs.rebase.Walk.pass_all.Given as goal

abbrev pub invariant-loop-entry : goal.invariant-loop-entry
invariant-loop-entry l = walked l.new (map numbered_of (drop l.entry-index l.rows)) (walk_of l.self)
    ≡ walked l.new (map numbered_of l.rows) (walk_of l.initial.self)
