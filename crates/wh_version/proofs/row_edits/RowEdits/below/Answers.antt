use Rattle.std.proofs.Common.{◌≡◌, ◌∙◌, ap, sym, take, true}
use Rattle.std.specs.FinMap.{entries, is_sorted}
use Rattle.std.specs.Ordering.{nat_cmp}
use Rattle.wh_version.specs.RowEdits.{entries_in, below}
use Rattle.wh_version.proofs.RisingEdits.{below_rises}
use Rattle.wh_version.proofs.EditMaps.{listed}
use Rattle.wh_version.proofs.row_edits.RowEdits.below.Goals.{After-truncate}
use Rattle.wh_version.proofs.row_edits.RowEdits.below.Goals as goal

module _ (c : After-truncate) where
  front : entries_in c.truncate.new.self.items ≡ below c.args.number (entries_in c.self.inside.list.items)
  front =
      let number = c.args.number in
      ap entries_in (c.truncate.ensures.items ∙ ap (take c.place_of-count.result) (sym c.deref.ensures.value))
      ∙ c.place_of-count.ensures.front
      ∙ ap (λ l. below number (entries_in l)) c.deref.ensures.value

  rises : is_sorted nat_cmp (entries_in c.truncate.new.self.items) ≡ true
  rises =
      ap (is_sorted nat_cmp) front
      ∙ below_rises c.args.number (entries_in c.self.inside.list.items) c.self.invariant

pub invariant_of-result : goal.invariant_of-result
invariant_of-result c = rises (goal.at.invariant_of-result c).After-truncate

pub returns : goal.returns
returns c =
    let at = (goal.at.returns c).After-truncate in
    listed (entries_in c.truncate.new.self.items) (rises at)
    ∙ front at
    ∙ ap (below c.args.number) (sym (listed _ c.self.invariant) ∙ ap entries c.self.view_is)
