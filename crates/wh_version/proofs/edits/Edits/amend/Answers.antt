use Rattle.std.proofs.Common.{◌≡◌, ◌++◌, ◌∙◌, ap}
use Rattle.std.specs.FinMap.{empty, entries}
use Rattle.wh_state.specs.Edits.{with_later, added_left, later_edits}
use Rattle.wh_version.specs.Edits.{edits_in}
use Rattle.wh_version.proofs.Amended.{none_later}
use Rattle.wh_version.proofs.edits.Edits.amend.Goals as goal

pub returns-then-is_empty-clause-ok : goal.returns-then-is_empty-clause-ok
returns-then-is_empty-clause-ok c =
    let none : c.args.later.rows ≡ empty = c.if-is_empty.ensures in
    (λ i. record { rows = c.args.self.now.rows; added = c.in_ok-append.ensures.items i })
    ∙ none_later c.args.next_row (edits_in c.args.self.now) (edits_in c.args.later) none

pub returns-clause-ok : goal.returns-clause-ok
unfolding later_edits
returns-clause-ok c =
    let next = c.args.next_row in
    let old = c.args.self.now in
    let later = c.args.later in
    let rows : c.in_ok-self.field-0 ≡ with_later next old.rows (entries later.rows) =
    c.in_ok-self.ensures ∙ ap (λ m. with_later next m (entries later.rows)) c.in_ok-staged.ensures in
    let added : c.append-2.new.self.items ≡ added_left next later.rows old.added.items ++ later.added.items =
    c.in_ok-append-2.ensures.items
    ∙ ap (λ l. l ++ later.added.items) (c.in_ok-left.ensures ∙ ap (added_left next later.rows) c.deref.ensures.value) in
    λ i. record { rows = rows i; added = added i }
