use Rattle.std.proofs.Common.{◌≡◌, List, ◌∙◌, length, ap, sym, subst, refl}
use Rattle.wh_fetch.specs.DiskFetch.{told_of, goes_on}
use Rattle.wh_filed.specs.Filed.{partitions_at, filed_at, loaded_of, AllShown}
use Rattle.wh_table.specs.Table.{table_of, filed_of}
use Rattle.wh_change.specs.Appended.{arrivals_at, arrived_of, came_in, CameBetween, EachShown}
use Rattle.wh_change.proofs.CameLaws.{Came, alike_so}
use Rattle.wh_change.proofs.LoadedLaws.{shown_then, among_by, each_then}
use Rattle.wh_change.proofs.arriving.appended.Given.{Over}
use Rattle.wh_change.proofs.arriving.appended.Goals.{After-load, After-load_each}
use Rattle.wh_change.proofs.arriving.appended.Goals as goal

-- what is told of the table's partitions is so of those in front, and then of those behind
module _ (g : Over) (c : After-load g) where
  abbrev near_shown : AllShown (told_of g.D.Disk c.args.fetch.now) (filed_of c.args.table.now)
      → AllShown (told_of g.D.Disk c.args.fetch.now) (filed_at c.deref-3.result.now)
  near_shown shown =
      shown_then _ (told_of g.D.Disk c.args.fetch.now) (filed_of c.args.table.now) _ _
      (among_by _ _ _ (filed_of c.args.table.now) c.in_ok-near.ensures.among c.deref.ensures.value
      c.in_ok-front.ensures.among) c.deref-3.ensures.value refl shown

module _ (g : Over) (c : After-load_each g) where
  abbrev later_shown : AllShown (told_of g.D.Disk c.args.fetch.now) (filed_of c.args.table.now)
      → EachShown (told_of g.D.Disk c.load.new.fetch) c.deref-4.result.now
  later_shown shown =
      each_then _ _ (filed_of c.args.table.now) _ _ c.in_ok-arrivals.ensures.among c.deref-4.ensures.value
      c.in_ok-seen.ensures.same shown

pub returns-in_err-seen-clause-sound : goal.returns-in_err-seen-clause-sound
returns-in_err-seen-clause-sound g c shown =
    let near = near_shown g (goal.at.returns-in_err-seen-clause-sound g c).After-load shown in
    c.in_err-seen.ensures.sound near

pub returns-in_err-later-clause-sound : goal.returns-in_err-later-clause-sound
returns-in_err-later-clause-sound g c shown =
    let near = near_shown g (goal.at.returns-in_err-later-clause-sound g c).After-load shown in
    let later = later_shown g (goal.at.returns-in_err-later-clause-sound g c).After-load_each shown in
    c.in_err-later.ensures.sound later ∙ c.in_ok-seen.ensures.sound near

pub returns-in_err-later-clause-goes : goal.returns-in_err-later-clause-goes
returns-in_err-later-clause-goes g c =
    goes_on g.D.Disk _ _ _ c.in_ok-seen.ensures.goes c.in_err-later.ensures.goes

pub returns-clause-appended : goal.returns-clause-appended
returns-clause-appended g c shown =
    let front = c.in_ok-front.front in
    let near = near_shown g (goal.at.returns-clause-appended g c).After-load shown in
    let later = later_shown g (goal.at.returns-clause-appended g c).After-load_each shown in
    let is_seen : loaded_of c.in_ok-seen.seen.items ≡ partitions_at c.in_ok-near.near.items =
    c.in_ok-seen.ensures.loaded near ∙ ap partitions_at c.deref-3.ensures.value in
    let is_later : arrived_of c.in_ok-later.later.items ≡ arrivals_at c.in_ok-arrivals.arrivals.items =
    c.in_ok-later.ensures.loaded later ∙ ap arrivals_at c.deref-4.ensures.value in
    record {
      count = front.count;
      front = partitions_at front.came.items;
      is_front = c.in_ok-front.ensures.came;
      came = subst (λ (vs : List Came). CameBetween front.count (length (table_of c.args.table.now).versions) vs
          (table_of c.args.table.now).versions) (sym is_later) c.in_ok-arrivals.ensures.came;
      seen = alike_so _ _ _ _ _ _
          (ap came_in is_later ∙ ap (λ xs. came_in (arrivals_at xs)) (sym c.deref-2.ensures.value))
          is_seen (ap partitions_at (sym c.deref.ensures.value)) c.in_ok-near.ensures.seen;
    }

pub returns-clause-sound : goal.returns-clause-sound
returns-clause-sound g c shown =
    let near = near_shown g (goal.at.returns-clause-sound g c).After-load shown in
    let later = later_shown g (goal.at.returns-clause-sound g c).After-load_each shown in
    c.in_ok-later.ensures.sound later ∙ c.in_ok-seen.ensures.sound near

pub returns-clause-goes : goal.returns-clause-goes
returns-clause-goes g c = goes_on g.D.Disk _ _ _ c.in_ok-seen.ensures.goes c.in_ok-later.ensures.goes
