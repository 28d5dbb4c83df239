use Rattle.std.proofs.Common.{◌≡◌}
use Rattle.wh_aggregate.proofs.JoinLemmas.{with_groups}
use Rattle.wh_aggregate.proofs.groups.Groups.join.Given as goal

-- what is left, joined with the groups so far, gives what all gives
abbrev pub invariant-loop-key : goal.invariant-loop-key
invariant-loop-key l = with_groups l.initial.key-iterator l.initial.self ≡ with_groups l.key-iterator l.self
