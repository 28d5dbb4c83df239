use Rattle.std.proofs.Common.{◌++◌, List, sym, ap, subst, ◌∙◌}
use denote.Ref.{Bor}
use Rattle.wh_fetch.specs.DiskFetch.{told_of, goes_on}
use Rattle.wh_frame.specs.Partition.{Partition}
use Rattle.wh_filed.specs.Filed.{Filed, filed_at, partitions_at, AllShown, AreAmong}
use Rattle.wh_bound_change.specs.View.{change_of}
use Rattle.wh_state.specs.State.{stamped}
use Rattle.wh_state.specs.Objects.{table_at}
use Rattle.wh_catalog.specs.Catalog.{state_of, filed_of}
use Rattle.wh_machine.specs.Transaction.{seen}
use Rattle.wh_machine.specs.Sessions.{transaction_in}
use Rattle.wh_txn.specs.View.{sessions_of}
use Rattle.wh_txn.specs.Touched.{LeavesOut}
use Rattle.wh_txn.specs.declared.seeing.TableSeen.{TableSeen}
use Rattle.wh_txn.proofs.ShownLemmas.{shows_touched, still_shown}
use Rattle.wh_txn.proofs.sessions.Sessions.seen_by.Given.{Over}
use Rattle.wh_txn.proofs.sessions.Sessions.seen_by.Goals.{After-load}
use Rattle.wh_txn.proofs.sessions.Sessions.seen_by.Goals as goal

module _ (g : Over) (c : After-load g) where
  among : AreAmong (filed_at c.in_ok-touched.touched.items) (filed_of c.args.catalog.now)
  among told shown = c.in_ok-touched.ensures.among told
      (subst (λ (fs : List (Bor Filed)). AllShown told (filed_at fs)) (sym c.deref.ensures.value)
      (c.in_ok-at.ensures.among told shown))

  there : AllShown (told_of g.D.Disk c.args.fetch.now) (filed_of c.args.catalog.now)
      → AllShown (told_of g.D.Disk c.at.new.fetch) (filed_at c.deref-2.result.now)
  there shown = still_shown (told_of g.D.Disk c.args.fetch.now) (told_of g.D.Disk c.at.new.fetch)
      (filed_of c.args.catalog.now) c.in_ok-touched.touched.items c.deref-2.result.now c.in_ok-at.ensures.same
      c.deref-2.ensures.value among shown

pub returns-clause-shows : goal.returns-clause-shows
returns-clause-shows g c = λ shown stamp.
    let at = c.in_ok-at.at in
    let change = change_of c.args.change.now in
    let touched = partitions_at c.in_ok-touched.touched.items in
    let loaded : TableSeen = record { stored = c.in_ok-stored.stored; made = at.made } in
    shows_touched change at loaded (table_at (seen (stamped (state_of c.args.catalog.now) stamp)
    (transaction_in (sessions_of c.args.self.now) c.args.session)).objects c.args.id) touched
    (ap (λ (ps : List Partition). ps ++ at.made.items)
    (c.in_ok-stored.ensures.loaded (there g (goal.at.returns-clause-shows g c).After-load shown)
    ∙ ap partitions_at c.deref-2.ensures.value))
    (subst (λ (fs : List (Bor Filed)). LeavesOut change (partitions_at fs) touched) c.deref.ensures.value
    c.in_ok-touched.ensures.touched)
    (c.in_ok-at.ensures.stands shown stamp)

pub returns-clause-sound : goal.returns-clause-sound
returns-clause-sound g c = λ shown.
    c.in_ok-stored.ensures.sound (there g (goal.at.returns-clause-sound g c).After-load shown)
    ∙ c.in_ok-at.ensures.sound shown

pub returns-in_err-stored-clause-sound : goal.returns-in_err-stored-clause-sound
returns-in_err-stored-clause-sound g c = λ shown.
    c.in_err-stored.ensures.sound (there g (goal.at.returns-in_err-stored-clause-sound g c).After-load shown)
    ∙ c.in_ok-at.ensures.sound shown

pub returns-clause-goes : goal.returns-clause-goes
returns-clause-goes g c = goes_on g.D.Disk _ _ _ c.in_ok-at.ensures.goes c.in_ok-stored.ensures.goes

pub returns-in_err-stored-clause-goes : goal.returns-in_err-stored-clause-goes
returns-in_err-stored-clause-goes g c = goes_on g.D.Disk _ _ _ c.in_ok-at.ensures.goes c.in_err-stored.ensures.goes
