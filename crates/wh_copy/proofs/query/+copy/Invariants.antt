use Rattle.std.proofs.Common.{◌≡◌, take}
use Rattle.wh_copy.proofs.query.+copy.Given as goal

abbrev pub invariant-copy_query-loop-core : goal.invariant-copy_query-loop-core
invariant-copy_query-loop-core l = l.copies ≡ take l.core-index l.cores

abbrev pub invariant-copy_joins-loop-join : goal.invariant-copy_joins-loop-join
invariant-copy_joins-loop-join l = l.copies ≡ take l.join-index l.joins
