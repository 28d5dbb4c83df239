use Rattle.wh_fetch.specs.DiskFetch.{goes_on}
use Rattle.wh_tick.proofs.condition.+holds.Goals as goal

pub returns-else-branch-clause-goes : goal.returns-else-branch-clause-goes
returns-else-branch-clause-goes g t c = goes_on g.D.Disk _ _ _ c.holds.ensures.goes c.holds-in-Or.ensures.goes

pub returns-else-not-branch-clause-goes : goal.returns-else-not-branch-clause-goes
returns-else-not-branch-clause-goes g t c =
    goes_on g.D.Disk _ _ _ c.holds-in-And.ensures.goes c.holds-in-And-2.ensures.goes
