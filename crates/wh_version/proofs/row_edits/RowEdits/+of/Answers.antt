use Rattle.std.proofs.Common.{◌≡◌, ◌∙◌, ap, sym, subst}
use Rattle.std.specs.FinMap.{entries, is_sorted}
use Rattle.std.specs.Ordering.{nat_cmp}
use Rattle.std.specs.Result.{IfOk}
use Rattle.wh_version.specs.RowEdits.{entries_in, put_all}
use Rattle.wh_version.proofs.EditMaps.{listed_in_turn, put_halves}
use Rattle.wh_version.proofs.Places.{both_halves}
use Rattle.wh_version.proofs.row_edits.RowEdits.+of.Goals as goal

pub returns-then-rises : goal.returns-then-rises
returns-then-rises t c = listed_in_turn (entries_in c.args.list.items)
    (ap (λ l. is_sorted nat_cmp (entries_in l)) (sym c.deref.ensures.value) ∙ c.if-rises.ensures.rising)

pub returns : goal.returns
returns t c =
    let list = c.args.list.items in
    let half = c.split_off.new.self.items in
    let other = c.in_ok-later.later.items in
    let whole = both_halves _ list half other c.in_ok-later.ensures.items c.in_ok-later.ensures.tail in
    let same = (λ i. put_all (c.in_ok-earlier.ensures i) (entries (c.in_ok-later-2.ensures i)))
    ∙ put_halves (entries_in half) (entries_in other) (entries_in list) whole in
    subst (λ m. IfOk c.with_all.result (λ edits. edits ≡ m)) same c.with_all.ensures
