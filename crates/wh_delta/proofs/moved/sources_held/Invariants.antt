use Rattle.std.proofs.Common.{◌≡◌, take}
use Rattle.wh_delta.specs.Moved.{views_of}
use Rattle.wh_delta.specs.Views.{views_held}
use Rattle.wh_delta.proofs.moved.sources_held.Given as goal

abbrev pub invariant-loop-one : goal.invariant-loop-one
invariant-loop-one l = views_of l.sources.items ≡ views_held (take l.one-index l.held)
