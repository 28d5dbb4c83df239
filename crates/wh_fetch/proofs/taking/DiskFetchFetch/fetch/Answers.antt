use Rattle.std.proofs.Common.{ℕ, List, Option, Result, Ok, Err, IfOk, sym, subst}
use Rattle.std.specs.Global.{Global}
use Rattle.std.specs.Arc.{arc_value}
use Rattle.std.specs.declared.sync.Arc.{Arc}
use Rattle.wh_part.specs.declared.meta.PartMeta.{PartMeta}
use Rattle.wh_part.specs.declared.partition.Partition.{Partition}
use Rattle.wh_fetch.specs.declared.fault.FetchFault.{FetchFault}
use Rattle.wh_fetch.specs.Fetch.{IsTold}
use Rattle.wh_fetch.specs.Place.{contents_at, IsPartAt}
use Rattle.wh_fetch.specs.Cache.{Agrees, Within}
use Rattle.wh_fetch.proofs.DamageLemmas.{damages, is_told, undamaged}
use Rattle.wh_fetch.proofs.taking.DiskFetchFetch.fetch.Goals as goal

pub returns-clause-stays : goal.returns-clause-stays
returns-clause-stays g c =
    let take = c.take.ensures in
    let kept = c.take.new.self.cache.entries in
    record {
      only_read = take.only_read;
      reads = take.reads;
      damages = damages _ take.damaged;
      later = take.later;
      reach = take.reach;
      right = λ right. subst (λ (told : Option (List ℕ)). Agrees told kept) (sym take.only_read.bytes)
          (take.keeps.right right);
      within = λ within. subst (λ (n : ℕ). Within n kept) (sym take.reach)
          (take.keeps.within within);
    }

given : (told : Option (List ℕ)) (meta : PartMeta) (result : Result (Arc Partition Global) FetchFault)
    → IfOk result (λ found. IsPartAt told meta (arc_value found))
    → IfOk result (λ found. IsTold (contents_at told meta) (arc_value found))
given told meta (Ok found) there = is_told told meta (arc_value found) there
given told meta (Err fault) there = tt

pub returns-clause-contents : goal.returns-clause-contents
returns-clause-contents g c = given _ c.args.part.now c.take.result c.take.ensures.found

pub returns-clause-sound : goal.returns-clause-sound
returns-clause-sound g c here =
    undamaged g.D.Disk c.args.self.now _ c.args.part.now _ (g.met.D.Disk.spans c.args.self.now.disk) here
    c.take.ensures.damaged
