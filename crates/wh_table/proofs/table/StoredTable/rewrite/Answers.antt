use Rattle.wh_filed.specs.Filed.{contents_at}
use Rattle.wh_filed.specs.Fetching.{AllShownBy}
use Rattle.wh_version.specs.Edits.{edits_in, HaveTouched}
use Rattle.wh_table.specs.Table.{kept_table, filed_of}
use Rattle.wh_table.proofs.Asked.{still_among, at_hand}
use Rattle.wh_table.proofs.table.StoredTable.rewrite.Given.{Over}
use Rattle.wh_table.proofs.table.StoredTable.rewrite.Goals.{After-rewrite}
use Rattle.wh_table.proofs.table.StoredTable.rewrite.Goals as goal

module _ (g : Over) (c : After-rewrite g) where
  has : AllShownBy (g.F.Fetch.contents c.args.fetch.now) (filed_of c.args.self.now)
      → HaveTouched c.args.self.now.history (edits_in c.args.edits) (contents_at c.deref-3.result.now)
  has shown =
      at_hand c.args.self.now.history (edits_in c.args.edits) c.in_ok-candidates.candidates.items c.deref.result.now
      c.in_ok-loaded.loaded.items c.deref-2.result.now c.in_ok-at_hand.at_hand.items c.deref-3.result.now
      c.in_ok-candidates.ensures.touched c.deref.ensures.value (c.in_ok-loaded.ensures.loaded shown)
      c.deref-2.ensures.value c.in_ok-at_hand.ensures.partitions c.deref-3.ensures.value

pub returns-clause-fits : goal.returns-clause-fits
unfolding kept_table
returns-clause-fits g c = λ shown.
    c.in_ok-rewritten.ensures.fits (has g (goal.at.returns-clause-fits g c).After-rewrite shown)

pub returns-clause-removed : goal.returns-clause-removed
unfolding kept_table
returns-clause-removed g c = λ shown.
    c.in_ok-rewritten.ensures.removed (has g (goal.at.returns-clause-removed g c).After-rewrite shown)

pub returns-clause-added : goal.returns-clause-added
unfolding kept_table
returns-clause-added g c = λ shown.
    c.in_ok-rewritten.ensures.added (has g (goal.at.returns-clause-added g c).After-rewrite shown)

pub load_some-requires-clause-among : goal.load_some-requires-clause-among
load_some-requires-clause-among g c =
    still_among c.in_ok-candidates.candidates.items c.deref.result.now (filed_of c.args.self.now) c.deref.ensures.value
    c.in_ok-candidates.ensures.among
