use Rattle.std.proofs.Common.{◌≡◌, ℕ, ◌∙◌, ap, sym, subst}
use Rattle.wh_filed.specs.Filed.{contents_at}
use Rattle.wh_state.specs.Commit.{NumberedFrom}
use Rattle.wh_state.specs.Edits.{Edits, touched}
use Rattle.wh_version.specs.Edits.{edits_in}
use Rattle.wh_version.specs.History.{versions_of, nexts_of, standing_in, next_in}
use Rattle.wh_version.proofs.Made.{made_for, made_numbered}
use Rattle.wh_version.proofs.history.History.edited.Goals.{After-made}
use Rattle.wh_version.proofs.history.History.edited.Goals as goal

module _ (c : After-made) where
  abbrev next : ℕ
  next = next_in (nexts_of c.args.self.now)

  abbrev e : Edits
  e = edits_in c.args.edits

  found : contents_at c.deref-2.result.now ≡ touched e.rows (contents_at c.args.loaded.now)
  found = ap contents_at c.deref-2.ensures.value ∙ c.in_ok-touched.ensures

pub returns-clause-added : goal.returns-clause-added
returns-clause-added c held =
    let at = (goal.at.returns-clause-added c).After-made in
    c.in_ok-added.ensures
    ∙ made_for c.next_partition.result (next at) c.args.next_row (e at) _ (standing_in (versions_of c.args.self.now))
    c.next_partition.ensures.number (found at ∙ held)

-- they are made of whatever is loaded
pub returns-clause-numbers : goal.returns-clause-numbers
returns-clause-numbers c =
    let at = (goal.at.returns-clause-numbers c).After-made in
    let loaded = contents_at c.args.loaded.now in
    subst (NumberedFrom (next at))
    (sym (c.in_ok-added.ensures
    ∙ made_for c.next_partition.result (next at) c.args.next_row (e at) _ loaded c.next_partition.ensures.number (found at)))
    (made_numbered (next at) c.args.next_row (e at) loaded)
