use Rattle.std.proofs.Common.{◌∙◌, ap, refl, sym, subst}
use Rattle.std.specs.List.{AllByRecursion}
use Rattle.wh_filed.specs.Filed.{partitions_at, filed_at, AllShown}
use Rattle.wh_fetch.specs.DiskFetch.{told_of, goes_on}
use Rattle.wh_filed.proofs.AskingLaws.{asks_none, asks_on, asks_each}
use Rattle.wh_version.specs.Moved.{IsMoved}
use Rattle.wh_version.proofs.Among.{told_held}
use Rattle.wh_version.proofs.MovedLaws.{moved_among}
use Rattle.wh_table.proofs.MomentRows.{rows_meant}
use Rattle.wh_table.specs.Table.{table_of, filed_of}
use Rattle.wh_change.proofs.LoadedLaws.{shown_then, turned_so}
use Rattle.wh_change.proofs.turning.turned_over.Given.{Over}
use Rattle.wh_change.proofs.turning.turned_over.Goals.{After-load, After-load-2}
use Rattle.wh_change.proofs.turning.turned_over.Goals as goal

-- what is told of the table's partitions is so of those that went, and then of those that came
module _ (g : Over) (c : After-load g) where
  abbrev went_shown : AllShown (told_of g.D.Disk c.args.fetch.now) (filed_of c.args.table.now)
      → AllShown (told_of g.D.Disk c.args.fetch.now) (filed_at c.deref.result.now)
  went_shown shown =
      shown_then _ (told_of g.D.Disk c.args.fetch.now) (filed_of c.args.table.now) _ _
      (told_held _ _ (moved_among c.args.from c.args.to (table_of c.args.table.now).versions (filed_of c.args.table.now)
      _ c.in_ok-turnover.ensures.went)) c.deref.ensures.value refl shown

  -- each of them moved
  went_moved : AllByRecursion (IsMoved c.args.from c.args.to (table_of c.args.table.now).versions
      (filed_of c.args.table.now)) (filed_at c.deref.result.now)
  went_moved =
      subst (λ l. AllByRecursion (IsMoved c.args.from c.args.to (table_of c.args.table.now).versions
      (filed_of c.args.table.now)) (filed_at l)) (sym c.deref.ensures.value) c.in_ok-turnover.ensures.went

module _ (g : Over) (c : After-load-2 g) where
  abbrev came_shown : AllShown (told_of g.D.Disk c.args.fetch.now) (filed_of c.args.table.now)
      → AllShown (told_of g.D.Disk c.load.new.fetch) (filed_at c.deref-2.result.now)
  came_shown shown =
      shown_then _ _ (filed_of c.args.table.now) _ _
      (told_held _ _ (moved_among c.args.from c.args.to (table_of c.args.table.now).versions (filed_of c.args.table.now)
      _ c.in_ok-turnover.ensures.came)) c.deref-2.ensures.value c.in_ok-went.ensures.same shown

  came_moved : AllByRecursion (IsMoved c.args.from c.args.to (table_of c.args.table.now).versions
      (filed_of c.args.table.now)) (filed_at c.deref-2.result.now)
  came_moved =
      subst (λ l. AllByRecursion (IsMoved c.args.from c.args.to (table_of c.args.table.now).versions
      (filed_of c.args.table.now)) (filed_at l)) (sym c.deref-2.ensures.value) c.in_ok-turnover.ensures.came

pub returns-in_err-went-clause-sound : goal.returns-in_err-went-clause-sound
returns-in_err-went-clause-sound g c shown =
    let went = went_shown g (goal.at.returns-in_err-went-clause-sound g c).After-load shown in
    c.in_err-went.ensures.sound went

pub returns-in_err-came-clause-sound : goal.returns-in_err-came-clause-sound
returns-in_err-came-clause-sound g c shown =
    let went = went_shown g (goal.at.returns-in_err-came-clause-sound g c).After-load shown in
    let came = came_shown g (goal.at.returns-in_err-came-clause-sound g c).After-load-2 shown in
    c.in_err-came.ensures.sound came ∙ c.in_ok-went.ensures.sound went

pub returns-in_err-came-clause-goes : goal.returns-in_err-came-clause-goes
returns-in_err-came-clause-goes g c =
    goes_on g.D.Disk _ _ _ c.in_ok-went.ensures.goes c.in_err-came.ensures.goes

pub returns-clause-turned : goal.returns-clause-turned
returns-clause-turned g c shown =
    let t = table_of c.args.table.now in
    let went = went_shown g (goal.at.returns-clause-turned g c).After-load shown in
    let came = came_shown g (goal.at.returns-clause-turned g c).After-load-2 shown in
    turned_so _ _ _ _ _ _ _ _
    (c.in_ok-went.ensures.loaded went ∙ ap partitions_at c.deref.ensures.value)
    (c.in_ok-came.ensures.loaded came ∙ ap partitions_at c.deref-2.ensures.value)
    (rows_meant t c.args.from) (rows_meant t c.args.to) c.in_ok-turnover.ensures.turned

pub returns-clause-sound : goal.returns-clause-sound
returns-clause-sound g c shown =
    let went = went_shown g (goal.at.returns-clause-sound g c).After-load shown in
    let came = came_shown g (goal.at.returns-clause-sound g c).After-load-2 shown in
    c.in_ok-came.ensures.sound came ∙ c.in_ok-went.ensures.sound went

pub returns-clause-goes : goal.returns-clause-goes
returns-clause-goes g c = goes_on g.D.Disk _ _ _ c.in_ok-went.ensures.goes c.in_ok-came.ensures.goes

pub returns-in_err-turnover-clause-asks : goal.returns-in_err-turnover-clause-asks
returns-in_err-turnover-clause-asks g c = asks_none _ _

pub returns-in_err-went-clause-asks : goal.returns-in_err-went-clause-asks
returns-in_err-went-clause-asks g c =
    asks_each _ _ _ _ (went_moved g (goal.at.returns-in_err-went-clause-asks g c).After-load) c.in_err-went.ensures.asks

pub returns-in_err-came-clause-asks : goal.returns-in_err-came-clause-asks
returns-in_err-came-clause-asks g c =
    asks_on _ _ _ _
    (asks_each _ _ _ _ (went_moved g (goal.at.returns-in_err-came-clause-asks g c).After-load) c.in_ok-went.ensures.asks)
    (asks_each _ _ _ _ (came_moved g (goal.at.returns-in_err-came-clause-asks g c).After-load-2)
    c.in_err-came.ensures.asks)

pub returns-clause-asks : goal.returns-clause-asks
returns-clause-asks g c =
    asks_on _ _ _ _
    (asks_each _ _ _ _ (went_moved g (goal.at.returns-clause-asks g c).After-load) c.in_ok-went.ensures.asks)
    (asks_each _ _ _ _ (came_moved g (goal.at.returns-clause-asks g c).After-load-2) c.in_ok-came.ensures.asks)
