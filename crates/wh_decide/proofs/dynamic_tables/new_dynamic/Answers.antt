use Rattle.std.proofs.Common.{◌≡◌, [], ◌++◌, map, List, ap, sym, subst, ◌∙◌}
use Rattle.std.specs.List.{AllByRecursion}
use Rattle.wh_state.specs.Commit.{Change, DynamicChange}
use Rattle.wh_state.specs.Dynamic.{IsQuerySpelled}
use Rattle.wh_state.specs.Spelling.{IsUnderstood}
use Rattle.wh_ddl_bind.specs.View.{new_dynamic_table_of}
use Rattle.wh_reply.specs.Reply.{CreatedDynamicTable}
use Rattle.wh_reply.specs.View.{refreshed_view}
use Rattle.wh_reply.specs.declared.reply.Refreshed.{Refreshed}
use Rattle.wh_record.specs.View.{change_of}
use Rattle.wh_machine.specs.Outcome.{commits}
use Rattle.wh_machine.specs.Dynamics.{dynamic_made, initialized, query_of}
use Rattle.wh_decide.specs.Sight.{machine_in}
use Rattle.wh_decide.proofs.OutcomeLemmas.{decides_as, comes_as}
use Rattle.wh_decide.proofs.dynamic_tables.new_dynamic.Goals as goal

pub returns-in_ok-created-in-OnSchedule-clause-comes : goal.returns-in_ok-created-in-OnSchedule-clause-comes
returns-in_ok-created-in-OnSchedule-clause-comes g c = λ shown sound may.
    let sight = c.args.sight.now in
    let m = machine_in sight in
    let n = new_dynamic_table_of c.args.table.now in
    let same : commits m (CreatedDynamicTable n.name (map refreshed_view c.new-lines.result.items))
    (dynamic_made n (query_of n) ++ []) ≡ initialized m n (query_of n) n.initialize =
    ap (λ (lines : List Refreshed).
    commits m (CreatedDynamicTable n.name (map refreshed_view lines)) (dynamic_made n (query_of n)))
    c.new-lines.ensures.items
    ∙ ap (initialized m n (query_of n)) (sym c.in-OnSchedule.is) in
    decides_as sight _ same
    (c.in_ok-created-in-OnSchedule.ensures.comes n [] c.in_ok-change.ensures
    (ap (map change_of) c.new-more.ensures.items))

pub returns-in-OnCreate-clause-comes : goal.returns-in-OnCreate-clause-comes
returns-in-OnCreate-clause-comes g c = λ shown sound may.
    let sight = c.args.sight.now in
    let n = new_dynamic_table_of c.args.table.now in
    comes_as sight c.initialized.result
    (ap (initialized (machine_in sight) n (query_of n)) (sym c.in-OnCreate.is))
    (c.initialized.ensures.comes shown sound may)

pub returns-in_ok-created-in-OnSchedule-clause-ready : goal.returns-in_ok-created-in-OnSchedule-clause-ready
returns-in_ok-created-in-OnSchedule-clause-ready g c = λ spelled.
    c.in_ok-created-in-OnSchedule.ensures.ready
    (subst IsQuerySpelled (sym (ap (λ (d : DynamicChange). d.query) c.in_ok-change.ensures)) spelled)
    (subst (λ (cs : List Change). AllByRecursion IsUnderstood cs)
    (sym (ap (map change_of) c.new-more.ensures.items)) tt)
