use Rattle.std.proofs.Common.{◌∙◌, ap, sym}
use Rattle.std.specs.FinMap.{entries}
use Rattle.wh_version.specs.RowEdits.{entries_in, put_all}
use Rattle.wh_version.proofs.EditMaps.{listed, as_map}
use Rattle.wh_version.proofs.row_edits.RowEdits.with_all.Goals as goal

pub invariant_of-result : goal.invariant_of-result
invariant_of-result c =
    (as_map (entries_in c.self.inside.list.items) (entries_in c.later.inside.list.items)
    (entries_in c.in_ok-list.list.items) c.self.invariant c.in_ok-list.ensures).0

pub returns : goal.returns
returns c =
    let earlier = entries_in c.self.inside.list.items in
    let later = entries_in c.later.inside.list.items in
    (as_map earlier later (entries_in c.in_ok-list.list.items) c.self.invariant c.in_ok-list.ensures).1
    ∙ (λ i. put_all (c.self.view_is i) (sym (listed later c.later.invariant) i))
    ∙ ap (λ m. put_all c.args.self (entries m)) c.later.view_is
