use Rattle.std.proofs.Common.{rules, ◌≡◌, ◌∙◌, Err, refl, arith}
use Rattle.wh_fetch.specs.declared.fault.FetchFault.TheVariants.{OutOfMemory}
use Rattle.wh_fetch.proofs.CacheLemmas.{keeps-put, keeps-passed, keeps-none}
use Rattle.wh_fetch.proofs.disk_fetch.DiskFetch.load.Goals as goal

pub returns-clause-keeps : goal.returns-clause-keeps
returns-clause-keeps g c =
    let found = rw c.in-Some.is at c.in_ok-found.ensures.found in
    keeps-put _ _ _ _ c.args.part.now _ _ _ found refl c.len.ensures c.in_ok-shared.ensures.ok c.args.self.now.most
    (rw c.if-not-is_in_front.false at c.is_in_front.ensures.front) (c.reuse.ensures.kept ∙ c.in_ok-gone.ensures.entries)

pub returns-in_err-gone-clause-keeps : goal.returns-in_err-gone-clause-keeps
returns-in_err-gone-clause-keeps g c =
    let failed : c.from_residual-in_err-gone.result ≡ Err OutOfMemory = search rules in
    keeps-none _ _ _ _ _ _ _ failed c.in_err-gone.ensures.err
