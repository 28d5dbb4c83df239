use Rattle.std.proofs.Common.{◌≡◌, ◌+◌, ◌∙◌, ◌∷◌, drop, sym, arith}
use Rattle.wh_version.specs.RowEdits.{entry_of, entries_in, not_below}
use Rattle.wh_version.proofs.RisingEdits.{found_none, found_first, found_other}
use Rattle.wh_version.proofs.EditMaps.{gotten}
use Rattle.wh_version.proofs.Places.{behind_one, behind_all}
use Rattle.wh_version.proofs.row_edits.RowEdits.edit_of.Goals.{After-index-found}
use Rattle.wh_version.proofs.row_edits.RowEdits.edit_of.Goals as goal

pub returns-then-len-place : goal.returns-then-len-place
returns-then-len-place c =
    let list = c.self.inside.list.items in
    let sized = c.self.inside.list.ok.0 in
    let none = behind_all c.args.number list c.deref.result.now c.place_near-place.result c.deref.ensures.value
    c.place_near-place.ensures.behind (omega arith) in
    sym (gotten _ _ c.args.number c.self.invariant c.self.view_is ∙ found_none c.args.number _ none)

-- the edit that is looked at is the first whose number isn't below
first : (c : After-index-found) → not_below c.args.number (entries_in c.self.inside.list.items)
    ≡ entry_of c.index-found.result.now ∷ entries_in (drop (c.place_near-place.result + 1) c.self.inside.list.items)
first c =
    let sized = c.self.inside.list.ok.0 in
    behind_one c.args.number c.self.inside.list.items c.deref.result.now c.place_near-place.result
    c.index-found.result.now c.deref.ensures.value c.place_near-place.ensures.behind (omega arith) c.index-found.ensures

pub returns-then-found-number : goal.returns-then-found-number
returns-then-found-number c =
    sym (gotten _ _ c.args.number c.self.invariant c.self.view_is
    ∙ found_other c.args.number _ _ _ c.self.invariant
    (first (goal.at.returns-then-found-number c).After-index-found) c.if-found-number.true)

pub returns : goal.returns
returns c =
    sym (gotten _ _ c.args.number c.self.invariant c.self.view_is
    ∙ found_first c.args.number _ _ _ (first (goal.at.returns c).After-index-found) c.if-found-number.false)
