use Rattle.wh_ddl_naming.specs.Statements.{bound}
use Rattle.wh_ddl_bind.specs.declared.bound.Bound.TheVariants as code
use Rattle.wh_ddl_bind.proofs.BoundLemmas.{plain_bound}
use Rattle.wh_ddl_bind.proofs.binding.bind.Goals as goal

pub returns-in-Begin : goal.returns-in-Begin
unfolding bound
returns-in-Begin c = rw c.in-Begin.is (plain_bound code.Begin)

pub returns-in-Commit : goal.returns-in-Commit
unfolding bound
returns-in-Commit c = rw c.in-Commit.is (plain_bound code.Commit)

pub returns-in-Rollback : goal.returns-in-Rollback
unfolding bound
returns-in-Rollback c = rw c.in-Rollback.is (plain_bound code.Rollback)
