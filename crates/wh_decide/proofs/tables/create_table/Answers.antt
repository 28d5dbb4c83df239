use Rattle.std.proofs.Common.{◌≡◌, ℕ, List, ◌+◌, ◌≤◌, [], ◌∷◌, ◌++◌, length, map, Some, None, option_map}
use Rattle.std.proofs.Common.{ap, sym, ◌∙◌, arith}
use Rattle.wh_value.specs.Limit.{bound}
use Rattle.wh_value.specs.declared.limit.Limit.TheVariants as limits
use Rattle.wh_ddl_bind.specs.View.{new_table_of}
use Rattle.wh_reply.specs.Reply.{CreatedTable, DdlInTransaction, Locked}
use Rattle.wh_reply.specs.View.{refusal_view}
use Rattle.wh_record.specs.View.{change_of}
use Rattle.wh_state.specs.Commit.{CreatesTable}
use Rattle.wh_state.specs.Written.{written}
use Rattle.wh_machine.specs.Sessions.{number_in}
use Rattle.wh_machine.specs.Outcome.{commits}
use Rattle.wh_machine.specs.Definitions.{holder_of}
use Rattle.wh_machine.specs.Tables.{table_refusal, table_made, retention_of}
use Rattle.wh_catalog.specs.Catalog.{stored_of, state_of}
use Rattle.wh_txn.specs.View.{sessions_of}
use Rattle.wh_decide.specs.Definitions.{drops_written}
use Rattle.wh_decide.specs.Sight.{machine_in}
use Rattle.wh_decide.proofs.CatalogLemmas.{count_is}
use Rattle.wh_decide.proofs.OutcomeLemmas.{decides_as}
use Rattle.wh_decide.proofs.DefineLemmas.{none_past}
use Rattle.wh_decide.proofs.TableLemmas.{defines_table, within_limits, creation_written}
use Rattle.wh_decide.proofs.tables.create_table.Goals.{In_default}
use Rattle.wh_decide.proofs.tables.create_table.Goals as goal

pub returns-in-Some : goal.returns-in-Some
returns-in-Some c =
    let sight = c.args.sight.now in
    let why = refusal_view c.in-Some.why in
    defines_table (state_of sight.catalog.now) sight.stamp (sessions_of sight.sessions.now) sight.session
    (new_table_of c.args.table) _ (Some why) c.table_refusal-wrong.ensures
    (sym (ap (option_map refusal_view) c.in-Some.is) ∙ c.definition_refusal.ensures)

-- what a table that isn't refused keeps
within : (c : In_default)
    → (length (state_of c.args.sight.now.catalog.now).objects + 1 ≤ bound limits.ObjectIds)
    × (retention_of (new_table_of c.args.table) ≤ bound limits.Retention)
within c =
    let sight = c.args.sight.now in
    let n = new_table_of c.args.table in
    let passed : table_refusal (state_of sight.catalog.now) None n ≡ None =
    sym c.table_refusal-wrong.ensures ∙ none_past
    (option_map DdlInTransaction (number_in (sessions_of sight.sessions.now) sight.session))
    (option_map refusal_view c.table_refusal-wrong.result)
    (option_map Locked (holder_of (sessions_of sight.sessions.now) n.replaced))
    (sym c.definition_refusal.ensures ∙ ap (option_map refusal_view) c.in_default.is) in
    within_limits (state_of sight.catalog.now) n passed

pub overflow_add-id : goal.overflow_add-id
overflow_add-id c =
    let kept = within (goal.at.overflow_add-id c).In_default in
    omega (arith, kept.0, c.object_count.ensures.count, count_is c.args.sight.now.catalog.now)

pub creation-requires : goal.creation-requires
creation-requires c = (within (goal.at.creation-requires c).In_default).1

pub returns : goal.returns
returns c =
    let sight = c.args.sight.now in
    let n = new_table_of c.args.table in
    let objects = (stored_of sight.catalog.now).objects in
    let items : map change_of c.in_ok-changes.changes.items ≡ written sight.stamp objects (table_made n) =
    c.in_ok-changes.ensures
    ∙ ap (λ (count : ℕ). drops_written n.replaced ++ CreatesTable (record {
      id = count + 1;
      name = n.name;
      retention = retention_of n;
      columns = n.columns;
    }) ∷ []) c.object_count.ensures.count
    ∙ creation_written sight.stamp objects n.replaced n.name n.columns (retention_of n) in
    decides_as sight c.defined.result
    (ap (λ (name : List ℕ). commits (machine_in sight) (CreatedTable name) (table_made n)) c.in_ok-copy.ensures
    ∙ sym (defines_table (state_of sight.catalog.now) sight.stamp (sessions_of sight.sessions.now) sight.session n _
    None c.table_refusal-wrong.ensures
    (sym (ap (option_map refusal_view) c.in_default.is) ∙ c.definition_refusal.ensures)))
    (c.defined.ensures.comes (table_made n) items)
