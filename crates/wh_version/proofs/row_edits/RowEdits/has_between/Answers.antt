use Rattle.std.proofs.Common.{◌∙◌, arith}
use Rattle.wh_version.proofs.RisingEdits.{when_above, when_past, none_between, none_behind}
use Rattle.wh_version.proofs.EditMaps.{gotten}
use Rattle.wh_version.proofs.Places.{behind_one, behind_all}
use Rattle.wh_version.proofs.row_edits.RowEdits.has_between.Goals as goal

pub returns-then-place-len : goal.returns-then-place-len
returns-then-place-len c =
    let first = c.args.first in
    let edit = c.index.result.now in
    let sized = c.self.inside.list.ok.0 in
    let behind = behind_one first c.self.inside.list.items c.deref.result.now c.place_of-place.result edit
    c.deref.ensures.value c.place_of-place.ensures.behind (omega arith) c.index.ensures in
    when_above edit.number c.args.last (λ high number above under.
    gotten _ _ number c.self.invariant c.self.view_is
    ∙ none_between first c.args.last _ _ _ c.self.invariant behind high number above under)

pub returns-else-place-len : goal.returns-else-place-len
returns-else-place-len c =
    let first = c.args.first in
    let place = c.place_of-place.result in
    let sized = c.self.inside.list.ok.0 in
    let none = behind_all first c.self.inside.list.items c.deref.result.now place
    c.deref.ensures.value c.place_of-place.ensures.behind (omega arith) in
    when_past place c.len.result (λ past number above under.
    gotten _ _ number c.self.invariant c.self.view_is ∙ none_behind first _ none number above)
