use Rattle.wh_fetch.proofs.CacheLemmas.{hit, keeps-promoted}
use Rattle.wh_fetch.proofs.disk_fetch.DiskFetch.take.Goals as goal

pub returns-in-Some-clause-found : goal.returns-in-Some-clause-found
returns-in-Some-clause-found g c =
    let found = rw c.in-Some.is at c.in_ok-found.ensures.found in
    hit _ c.args.self.now.cache.entries c.args.part.now _ c.requires found

pub returns-in-Some-clause-keeps : goal.returns-in-Some-clause-keeps
returns-in-Some-clause-keeps g c =
    let found = rw c.in-Some.is at c.in_ok-found.ensures.found in
    keeps-promoted _ _ _ _ c.args.part.now _ _ found c.promote.ensures.entries
