use Rattle.std.proofs.Common.{Contains}
use Rattle.wh_filed.specs.Filed.{filed_at}
use Rattle.wh_filed.specs.Fetching.{IsShownBy, IsCovered}
use Rattle.wh_filed.proofs.AskingLaws.{asks_each}
use Rattle.wh_table.specs.Table.{filed_of}
use Rattle.wh_table.proofs.Asked.{each_among}
use Rattle.wh_table.proofs.table.StoredTable.load_some.Goals as goal

pub fetch_all-requires : goal.fetch_all-requires
fetch_all-requires g c =
    each_among (IsCovered (g.F.Fetch.covers c.args.fetch.now)) (filed_at c.args.some.now) (filed_of c.args.self.now)
    c.requires.among c.requires.covered

pub returns-clause-loaded : goal.returns-clause-loaded
returns-clause-loaded g c = λ shown.
    c.fetch_all.ensures.loaded (each_among (IsShownBy (g.F.Fetch.contents c.args.fetch.now))
    (filed_at c.args.some.now) (filed_of c.args.self.now) c.requires.among shown)

pub returns-clause-sound : goal.returns-clause-sound
returns-clause-sound g c = λ shown.
    c.fetch_all.ensures.sound (each_among (IsShownBy (g.F.Fetch.contents c.args.fetch.now))
    (filed_at c.args.some.now) (filed_of c.args.self.now) c.requires.among shown)

pub returns-clause-asks : goal.returns-clause-asks
returns-clause-asks g c =
    asks_each (Contains (filed_of c.args.self.now)) (filed_at c.args.some.now) _ _ c.requires.among
    c.fetch_all.ensures.asks
