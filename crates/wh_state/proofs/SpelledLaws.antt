-- What a text that spells a changing statement has, and commits of acts whose texts are understood.
--     spelled_change         tokens of that statement
--     IsUnderstood           the texts of a task that an act makes spell what it runs
--     understood_written     so it is of what is written for acts
use Rattle.std.proofs.Common.{ℕ, List, [], ◌∷◌, Option, Some, None}
use Rattle.std.specs.List.{AllByRecursion}
use Rattle.wh_ast.specs.declared.dml.Dml.{Dml}
use Rattle.wh_ast.specs.declared.statement.Statement.TheVariants as st
use Rattle.wh_grammar.specs.Token.{Token}
use Rattle.wh_grammar.specs.Changing.{IsDml}
use Rattle.wh_grammar.specs.Spelled.{Spells, IsStatement, plain, IsPlain, dml}
use Rattle.wh_grammar.specs.Spelled.{of_table, of_stream, of_task, of_dynamic_table, of_transaction, most_nested}
use Rattle.wh_state.specs.Task.{IsSpelled}
use Rattle.wh_state.specs.State.{TableKind, StreamKind, TaskKind, DynamicKind, at_id}
use Rattle.wh_state.specs.Edits.{Edits}
use Rattle.wh_state.specs.Act.{Act, MakesTable, DropsObject, EditsRows, MakesStream, MovesOffset, MakesTask, PutsTask}
use Rattle.wh_state.specs.Act.{BeginsRun, EndsTask, MakesDynamic, PutsDynamic, RefreshesRows}
use Rattle.wh_state.specs.Dynamic.{IsQuerySpelled, GroupsChange}
use Rattle.wh_state.specs.Stored.{StoredKind, StoredObject}
use Rattle.wh_state.specs.Commit.{Change, all_changed}
use Rattle.wh_state.specs.Spelling as spelling
use Rattle.wh_state.specs.Written.{version_written_to, groups_written, act_written, written}
use Rattle.wh_state.proofs.AllLaws.{all_append}

abbrev pub HasTokensOf : Dml → Type 0
HasTokensOf x = (ts : List Token) × IsDml most_nested ts x []

plain_change : {ts : List Token} {x : Dml} → IsPlain ts (st.Dml x) → HasTokensOf x
plain_change {ts = ts} (dml d) = (ts, d)
plain_change (of_table p) = elim p [ ]
plain_change (of_stream p) = elim p [ ]
plain_change (of_task p) = elim p [ ]
plain_change (of_dynamic_table p) = elim p [ ]
plain_change (of_transaction p) = elim p [ ]

pub spelled_change : (text : List ℕ) (x : Dml) → Spells text (st.Dml x) → HasTokensOf x
spelled_change text x spells = of_statement spells.is_statement
  where
    of_statement : IsStatement text spells.placed (st.Dml x) → HasTokensOf x
    of_statement (plain p) = plain_change p

-- ---- commits

abbrev pub IsUnderstood : Act → Type 0
IsUnderstood (MakesTask name minutes after runs) = IsSpelled runs
IsUnderstood (MakesDynamic name lag is_incremental query columns) = IsQuerySpelled query
IsUnderstood _ = Unit {0}

abbrev pub IsUnderstoodChange : Change → Type 0
IsUnderstoodChange c = spelling.IsUnderstood c

edit_understood : (stamp id : ℕ) (e : Edits) (found : Option StoredObject)
    → AllByRecursion IsUnderstoodChange (version_written_to stamp id e found)
edit_understood stamp id e None = tt
edit_understood stamp id e (Some o) = by_kind o.kind
  where
    by_kind : (k : StoredKind)
        → AllByRecursion IsUnderstoodChange (version_written_to stamp id e (Some (record o { kind = k })))
    by_kind (TableKind t) = (tt, tt)
    by_kind (StreamKind s) = tt
    by_kind (TaskKind t) = tt
    by_kind (DynamicKind d t) = (tt, tt)

act_understood : (stamp : ℕ) (objects : List StoredObject) (act : Act) → IsUnderstood act
    → AllByRecursion IsUnderstoodChange (act_written stamp objects act)
act_understood stamp objects (MakesTable name columns retention) is = (tt, tt)
act_understood stamp objects (DropsObject id) is = (tt, tt)
act_understood stamp objects (EditsRows id e) is = edit_understood stamp id e (at_id objects id)
act_understood stamp objects (MakesStream name source is_append_only) is = (tt, tt)
act_understood stamp objects (MovesOffset id offset) is = (tt, tt)
act_understood stamp objects (MakesTask name minutes after runs) is = (is, tt)
act_understood stamp objects (PutsTask id state) is = (tt, tt)
act_understood stamp objects (BeginsRun root tasks) is = (tt, tt)
act_understood stamp objects (EndsTask root task ending) is = (tt, tt)
act_understood stamp objects (MakesDynamic name lag is_incremental query columns) is = (is, tt)
act_understood stamp objects (PutsDynamic id state) is = (tt, tt)
act_understood stamp objects (RefreshesRows id moment e c) is =
    all_append IsUnderstoodChange (version_written_to moment id e (at_id objects id)) (groups_written id c)
    (edit_understood moment id e (at_id objects id)) (by_groups c)
  where
    by_groups : (c : Option GroupsChange) → AllByRecursion IsUnderstoodChange (groups_written id c)
    by_groups None = tt
    by_groups (Some c) = (tt, tt)

pub understood_written : (stamp : ℕ) (objects : List StoredObject) (acts : List Act) → AllByRecursion IsUnderstood acts
    → AllByRecursion IsUnderstoodChange (written stamp objects acts)
understood_written stamp objects [] are = tt
understood_written stamp objects (act ∷ acts) are =
    all_append IsUnderstoodChange (act_written stamp objects act)
    (written stamp (all_changed stamp objects (act_written stamp objects act)) acts)
    (act_understood stamp objects act are.0)
    (understood_written stamp (all_changed stamp objects (act_written stamp objects act)) acts are.1)
