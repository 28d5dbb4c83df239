use Rattle.wh_algebra.specs.View.{calls_of}
use Rattle.wh_group.specs.Slots.{kept_groups}
use Rattle.wh_group.proofs.WalkLaws.{IsSettling}
use Rattle.wh_group.proofs.settling.settled.Given as goal

abbrev pub invariant-loop-key : goal.invariant-loop-key
invariant-loop-key l = IsSettling (calls_of l.calls) (kept_groups l.groups) l.initial.key-iterator l.key-iterator l.updated
