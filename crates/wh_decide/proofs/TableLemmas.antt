-- CREATE TABLE and DROP TABLE: their tests, and their outcomes.
--     refusal_by           the first test that a new table fails, from each
--     defines_table        the outcome of CREATE TABLE
--     within_limits        what a table that passes all tests keeps
--     creation_written     what is written for it
use Rattle.std.proofs.Common.{◌≡◌, ℕ, ◌+◌, ◌-◌, ◌≤◌, List, [], ◌∷◌, ◌++◌, length, Option, Some, None, option_map, refl}
use Rattle.std.proofs.Common.{ap, sym, ◌∙◌}
use Rattle.std.specs.List.{list_any}
use Rattle.wh_value.specs.Column.{Column}
use Rattle.wh_value.specs.Limit.{bound}
use Rattle.wh_value.specs.declared.limit.Limit.TheVariants as limits
use Rattle.wh_ddl_naming.specs.Tables.{NewTable, column_names}
use Rattle.wh_reply.specs.Reply.{Refusal, OverLimit, DdlInTransaction, Locked, CreatedTable}
use Rattle.wh_state.specs.State.{State, dropped, live_count, stamped}
use Rattle.wh_state.specs.Act.{MakesTable}
use Rattle.wh_state.specs.Stored.{StoredObject}
use Rattle.wh_state.specs.Commit.{CreatesTable, Drops, changed}
use Rattle.wh_state.specs.Written.{written}
use Rattle.wh_machine.specs.Tests.{refused_if, refused_past, first_of}
use Rattle.wh_machine.specs.Sessions.{Sessions, number_in}
use Rattle.wh_machine.specs.Outcome.{Machine, commits, unless}
use Rattle.wh_machine.specs.Definitions.{drops, is_long, count_refusals, holder_of, defines}
use Rattle.wh_machine.specs.Tables.{one_if, retention_of, table_refusal, table_made, create_table}
use Rattle.wh_decide.specs.Decision.{machine_at}
use Rattle.wh_decide.specs.Definitions.{drops_written}
use Rattle.wh_decide.proofs.ListLemmas.{length_changed_at}
use Rattle.wh_decide.proofs.DefineLemmas.{tests_flat, counts_none, not_past, defines_by}

-- ---- CREATE TABLE: its tests

pub refusal_by : (s : State) (n : NewTable) (a b c d : Option Refusal)
    → a ≡ first_of (count_refusals s (one_if n.replaced))
    → b ≡ refused_if (list_any is_long (n.name ∷ column_names n.columns)) (OverLimit limits.Name)
    → c ≡ refused_past limits.Columns (length n.columns) → d ≡ refused_past limits.Retention (retention_of n)
    → first_of (a ∷ b ∷ c ∷ d ∷ []) ≡ table_refusal s None n
unfolding table_refusal
refusal_by s n a b c d at_a at_b at_c at_d =
    (λ i. first_of (at_a i ∷ at_b i ∷ at_c i ∷ at_d i ∷ []))
    ∙ tests_flat
    (refused_past limits.ObjectIds (length s.objects + 1))
    (refused_past limits.Objects (live_count s.objects + 1 - one_if n.replaced))
    (refused_if (list_any is_long (n.name ∷ column_names n.columns)) (OverLimit limits.Name)
    ∷ refused_past limits.Columns (length n.columns) ∷ refused_past limits.Retention (retention_of n) ∷ [])

last_none : (a b c : Option Refusal) → first_of (a ∷ b ∷ c ∷ []) ≡ None → c ≡ None
last_none None None c is = last c is
  where
    last : (c : Option Refusal) → first_of (c ∷ []) ≡ None → c ≡ None
    last None is = refl
    last (Some why) is = absurd cc
last_none None (Some why) c is = absurd cc
last_none (Some why) b c is = absurd cc

pub within_limits : (s : State) (n : NewTable) → table_refusal s None n ≡ None
    → (length s.objects + 1 ≤ bound limits.ObjectIds) × (retention_of n ≤ bound limits.Retention)
unfolding table_refusal
within_limits s n none =
    let h = counts_none
    (refused_past limits.ObjectIds (length s.objects + 1))
    (refused_past limits.Objects (live_count s.objects + 1 - one_if n.replaced))
    (refused_if (list_any is_long (n.name ∷ column_names n.columns)) (OverLimit limits.Name)
    ∷ refused_past limits.Columns (length n.columns) ∷ refused_past limits.Retention (retention_of n) ∷ []) none in
    let last = last_none
    (refused_if (list_any is_long (n.name ∷ column_names n.columns)) (OverLimit limits.Name))
    (refused_past limits.Columns (length n.columns))
    (refused_past limits.Retention (retention_of n)) h.1 in
    (not_past limits.ObjectIds (length s.objects + 1) h.0, not_past limits.Retention (retention_of n) last)

-- ---- CREATE TABLE: its outcome

refusal_stamped : (s : State) (stamp : ℕ) (n : NewTable)
    → table_refusal (stamped s stamp) None n ≡ table_refusal s None n
unfolding table_refusal
refusal_stamped s stamp n = refl

create_is : (m : Machine) (n : NewTable) (wrong : Option Refusal) → table_refusal m.state None n ≡ wrong
    → create_table m None n ≡ unless wrong (commits m (CreatedTable n.name) (table_made n))
unfolding create_table
create_is m n wrong is =
    ap (λ (found : Option Refusal). unless found (commits m (CreatedTable n.name) (table_made n))) is

pub defines_table : (s : State) (stamp : ℕ) (sessions : Sessions) (session : ℕ) (n : NewTable)
    (wrong found : Option Refusal) → wrong ≡ table_refusal s None n
    → found ≡ first_of (option_map DdlInTransaction (number_in sessions session) ∷ wrong
    ∷ option_map Locked (holder_of sessions n.replaced) ∷ [])
    → defines (machine_at (stamped s stamp) sessions) session n.replaced
    (create_table (machine_at (stamped s stamp) sessions) None n)
    ≡ unless found (commits (machine_at (stamped s stamp) sessions) (CreatedTable n.name) (table_made n))
defines_table s stamp sessions session n wrong found test is =
    ap (defines (machine_at (stamped s stamp) sessions) session n.replaced)
    (create_is (machine_at (stamped s stamp) sessions) n wrong (refusal_stamped s stamp n ∙ sym test))
    ∙ defines_by (machine_at (stamped s stamp) sessions) session n.replaced wrong found (CreatedTable n.name)
    (table_made n) is

-- ---- what is written for it

after_drop : (stamp id : ℕ) (objects : List StoredObject) → length (changed stamp objects (Drops id)) ≡ length objects
unfolding changed
after_drop stamp id objects = length_changed_at objects id dropped

-- behind the drop of what it replaces
pub creation_written : (stamp : ℕ) (objects : List StoredObject) (replaced : Option ℕ) (name : List ℕ)
    (columns : List Column) (retention : ℕ)
    → drops_written replaced ++ CreatesTable (record {
      id = length objects + 1;
      name = name;
      retention = retention;
      columns = columns;
    }) ∷ [] ≡ written stamp objects (drops replaced ++ MakesTable name columns retention ∷ [])
creation_written stamp objects None name columns retention = refl
creation_written stamp objects (Some id) name columns retention =
    ap (λ (n : ℕ). Drops id
    ∷ CreatesTable (record { id = n + 1; name = name; retention = retention; columns = columns }) ∷ [])
    (sym (after_drop stamp id objects))
