-- What CREATE and DROP of each kind of object have in common.
--     drops_written     the drop of an object, where there is one
--     in_transaction    the refusal of one in a transaction
--     earlier_refusal   what a statement is refused for before its names are looked at
--     reads_rows        a statement that is bound and reads rows, or may
--     IsBoundOver       a statement that is bound over these objects
--     IsMeantRead       what a statement that is bound keeps of texts is understood
use Rattle.std.specs.Prelude.{ℕ, Bool, true, false, List, [], ◌∷◌, Option, Some, None, option_map}
use Rattle.wh_ast.specs.declared.statement.Statement.{Statement}
use Rattle.wh_ast.specs.declared.statement.Statement.TheVariants as st
use Rattle.wh_ddl_naming.specs.Statements as ddl
use Rattle.wh_ddl_naming.specs.Statements.{Bound}
use Rattle.wh_reply.specs.Reply.{Refusal, DdlInTransaction}
use Rattle.wh_state.specs.State.{Object}
use Rattle.wh_state.specs.Commit.{Change, Drops}
use Rattle.wh_state.specs.Dynamic.{IsQuerySpelled}
use Rattle.wh_machine.specs.Sessions.{number_in}
use Rattle.wh_machine.specs.Outcome.{Machine}
use Rattle.wh_machine.specs.Dynamics.{query_of}
use Rattle.wh_machine.specs.Statements.{carried_out}
use Rattle.wh_txn.specs.Recording.{IsRead}
use Rattle.wh_decide.specs.declared.sight.Sight.{Sight}
use Rattle.wh_decide.specs.Sight.{machine_in, commit_meant}
use Rattle.wh_decide.specs.Dynamics.{IsBoundAs}

abbrev pub drops_written : Option ℕ → List Change
drops_written None = []
drops_written (Some id) = Drops id ∷ []

abbrev pub in_transaction : Machine → ℕ → Option Refusal
in_transaction m session = option_map DdlInTransaction (number_in m.sessions session)

abbrev pub earlier_refusal : Machine → ℕ → Statement → Option Refusal
earlier_refusal m session (st.CreateTable t) = in_transaction m session
earlier_refusal m session (st.DropTable name) = in_transaction m session
earlier_refusal m session (st.CreateStream name table is_append_only) = in_transaction m session
earlier_refusal m session (st.DropStream name) = in_transaction m session
earlier_refusal m session (st.CreateTask t) = in_transaction m session
earlier_refusal m session (st.ResumeTask name) = in_transaction m session
earlier_refusal m session (st.SuspendTask name) = in_transaction m session
earlier_refusal m session (st.ExecuteTask name) = in_transaction m session
earlier_refusal m session (st.DropTask name) = in_transaction m session
earlier_refusal m session (st.Select query sorts) = None
earlier_refusal m session (st.HasData stream) = None
earlier_refusal m session (st.Dml statement) = None
earlier_refusal m session st.Begin = None
earlier_refusal m session st.Commit = None
earlier_refusal m session st.Rollback = None
earlier_refusal m session (st.CreateDynamicTable t) = in_transaction m session
earlier_refusal m session (st.ResumeDynamicTable name) = in_transaction m session
earlier_refusal m session (st.SuspendDynamicTable name) = in_transaction m session
earlier_refusal m session (st.RefreshDynamicTable name) = in_transaction m session
earlier_refusal m session (st.SetTargetLag name lag) = in_transaction m session
earlier_refusal m session (st.DropDynamicTable name) = in_transaction m session

-- ---- a statement that is bound

abbrev pub reads_rows : Bound → Bool
reads_rows ddl.Commit = true
reads_rows (ddl.Change b) = true
reads_rows (ddl.Select b) = true
reads_rows (ddl.HasData stream) = true
reads_rows (ddl.CreateDynamicTable n) = true
reads_rows (ddl.RefreshDynamicTable id) = true
reads_rows _ = false

-- a new dynamic table's query is what its text binds to
abbrev pub IsBoundOver : List Object → Bound → Type 0
IsBoundOver objects (ddl.CreateDynamicTable n) = IsBoundAs objects n
IsBoundOver objects _ = Unit {0}

-- the text of a new dynamic table spells its query
abbrev pub IsBoundSpelled : Bound → Type 0
IsBoundSpelled (ddl.CreateDynamicTable n) = IsQuerySpelled (query_of n)
IsBoundSpelled _ = Unit {0}

-- and the commit that it is meant to make
pub record IsMeantRead (sight : Sight) (b : Bound) : Type 0 where
  pub commit : IsRead (commit_meant sight (carried_out (machine_in sight) sight.session None b))
  pub query : IsBoundSpelled b
