use Rattle.std.proofs.Common.{◌≡◌, Bool, true, false, sym, ap, ◌∙◌, arith}
use Rattle.std.specs.Prelude.{◌||◌, ◌&&◌, nat_lt, is_some}
use Rattle.std.proofs.lemmas.Bool.Decides.{nat_tests}
use Rattle.wh_state.specs.Stored.{table_meant}
use Rattle.wh_machine.specs.Brought.{edits_sought}
use Rattle.wh_table.specs.Table.{table_of}
use Rattle.wh_refresh.specs.Objects.{objects_in, stored_in}
use Rattle.wh_refresh.proofs.RefreshLemmas.{fresh_none, fresh_in, same_there, between_meant}
use Rattle.wh_refresh.proofs.sources.has_version_between.Goals as goal

pub returns-in_default : goal.returns-in_default
returns-in_default c stamp bs are above =
    sym (fresh_none stamp c.args.to bs (objects_in c.args.objects.now) above c.args.from c.args.id
    (sym c.in_default.ensures.meant))

pub returns-then-has_version_between : goal.returns-then-has_version_between
returns-then-has_version_between c stamp bs are above =
    let from = c.args.from in
    let to = c.args.to in
    let t = table_meant (table_of c.in-Some.table.now) in
    ap (λ (b : Bool). b || (nat_lt from to && is_some (edits_sought c.args.id bs)))
    (c.if-has_version_between.ensures ∙ between_meant from to (table_of c.in-Some.table.now))
    ∙ sym (fresh_in stamp to bs (objects_in c.args.objects.now) above from c.args.id t (sym c.in-Some.ensures.meant))

pub returns-then-from-to : goal.returns-then-from-to
returns-then-from-to c stamp bs are above =
    let from = c.args.from in
    let to = c.args.to in
    let t = table_meant (table_of c.in-Some.table.now) in
    let new : Bool = is_some (edits_sought c.args.id bs) in
    let above_from : nat_lt from to ≡ true = grind (arith, nat_tests, c.if-from-to.true) in
    c.is_some.ensures
    ∙ same_there (stored_in c.args.objects.now) c.args.id c.new_rows_of.result (edits_sought c.args.id bs)
    (c.new_rows_of.ensures.rows (stored_in c.args.objects.now) bs are)
    ∙ ap (λ (b : Bool). b && new) (sym above_from)
    ∙ ap (λ (b : Bool). b || (nat_lt from to && new))
    (c.if-has_version_between.ensures ∙ between_meant from to (table_of c.in-Some.table.now))
    ∙ sym (fresh_in stamp to bs (objects_in c.args.objects.now) above from c.args.id t (sym c.in-Some.ensures.meant))

pub returns-else-from-to : goal.returns-else-from-to
returns-else-from-to c stamp bs are above =
    let from = c.args.from in
    let to = c.args.to in
    let t = table_meant (table_of c.in-Some.table.now) in
    let new : Bool = is_some (edits_sought c.args.id bs) in
    let not_above : nat_lt from to ≡ false = grind (arith, nat_tests, c.if-from-to.false) in
    not_above
    ∙ ap (λ (b : Bool). b && new) (sym not_above)
    ∙ ap (λ (b : Bool). b || (nat_lt from to && new))
    (c.if-has_version_between.ensures ∙ between_meant from to (table_of c.in-Some.table.now))
    ∙ sym (fresh_in stamp to bs (objects_in c.args.objects.now) above from c.args.id t (sym c.in-Some.ensures.meant))
