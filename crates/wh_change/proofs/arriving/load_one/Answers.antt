use Rattle.std.proofs.Common.{List, refl, sym, ap, subst, ◌∙◌}
use denote.Ref.{Bor}
use Rattle.wh_fetch.specs.DiskFetch.{told_of}
use Rattle.wh_filed.specs.Filed.{Filed, filed_at, partitions_at, AllShown}
use Rattle.wh_change.proofs.arriving.load_one.Given.{Over}
use Rattle.wh_change.proofs.arriving.load_one.Goals.{After-load}
use Rattle.wh_change.proofs.arriving.load_one.Goals as goal

-- the same partitions behind references
module _ (g : Over) (c : After-load g) where
  shown_there : AllShown (told_of g.D.Disk c.args.fetch.now) (filed_at c.args.arrivals.now.came.items)
      → AllShown (told_of g.D.Disk c.args.fetch.now) (filed_at c.deref.result.now)
  shown_there =
      subst (λ (l : List (Bor Filed)). AllShown (told_of g.D.Disk c.args.fetch.now) (filed_at l))
      (sym c.deref.ensures.value)

pub returns-in_err-came-clause-sound : goal.returns-in_err-came-clause-sound
returns-in_err-came-clause-sound g c shown =
    c.in_err-came.ensures.sound (shown_there g (goal.at.returns-in_err-came-clause-sound g c).After-load shown)

pub returns-clause-loaded : goal.returns-clause-loaded
returns-clause-loaded g c shown = (
  refl,
  c.in_ok-came.ensures.loaded (shown_there g (goal.at.returns-clause-loaded g c).After-load shown)
      ∙ ap partitions_at c.deref.ensures.value,
)

pub returns-clause-sound : goal.returns-clause-sound
returns-clause-sound g c shown =
    c.in_ok-came.ensures.sound (shown_there g (goal.at.returns-clause-sound g c).After-load shown)
