use Rattle.std.proofs.Common.{sym, arith}
use Rattle.wh_version.proofs.Last.{first_alone, last_of_later}
use Rattle.wh_version.proofs.mark.last_mark.Goals as goal

pub returns-then-count-eq0 : goal.returns-then-count-eq0
returns-then-count-eq0 c = sym (first_alone c.args.first c.args.later.now (omega arith))

pub returns : goal.returns
returns c = sym (last_of_later c.args.first c.args.later.now _ (omega arith))
