-- The texts of the tasks and the dynamic tables that commands make.
--     text_spells       a text that asks for a statement spells it
--     meant_read        what a statement that a text spells keeps of texts is understood
use Rattle.std.proofs.Common.{◌≡◌, List, ℕ, Option, Some, None, option_map, refl, sym, subst}
use Rattle.wh_ast.specs.declared.statement.Statement.{Statement}
use Rattle.wh_ast.specs.declared.statement.Statement.TheVariants as st
use Rattle.wh_grammar.specs.Spelled.{Request, TooLong, Unreadable, Asked, Spells, Asks, is_long, spells_none, spells}
use Rattle.wh_stmt_parse.specs.Request.{request_of}
use Rattle.wh_stmt_parse.proofs.Reading.{requests_read}
use Rattle.wh_ddl_naming.specs.Objects.{Names}
use Rattle.wh_ddl_naming.specs.Statements.{bound}
use Rattle.wh_ddl_bind.specs.View.{bound_of}
use Rattle.wh_ddl_bind.specs.Binds.{IsBound}
use Rattle.wh_ddl_bind.specs.declared.bound.Bound.{Bound}
use Rattle.wh_state.specs.Act.{Act}
use Rattle.wh_state.specs.Stored.{Stored}
use Rattle.wh_state.specs.Written.{commit_for}
use Rattle.wh_state.proofs.SpelledLaws.{understood_written}
use Rattle.wh_state.proofs.KeptLaws.{task_spelled}
use Rattle.wh_state.proofs.KeptQueries.{query_spelled}
use Rattle.wh_machine.specs.Outcome.{Outcome, acts_in}
use Rattle.wh_machine.specs.Statements.{carried_out}
use Rattle.wh_machine.specs.Step.{Command, commanded}
use Rattle.wh_machine.proofs.UnderstoodLaws.{AreUnderstood, IsSpelledStatement, outcome_understood}
use Rattle.wh_catalog.specs.Catalog.{stored_of}
use Rattle.wh_txn.specs.Recording.{IsRead}
use Rattle.wh_decide.specs.declared.sight.Sight.{Sight}
use Rattle.wh_decide.specs.Definitions.{IsBoundSpelled, IsMeantRead}
use Rattle.wh_decide.specs.Sight.{machine_in, commit_meant}

-- ---- a text

abbrev SpellsAsked : List ℕ → Request → Type 0
SpellsAsked text (Asked tree) = Spells text tree
SpellsAsked text TooLong = Unit {0}
SpellsAsked text Unreadable = Unit {0}

asked_spells : (text : List ℕ) (r : Request) → Asks text r → SpellsAsked text r
asked_spells text r (is_long past) = tt
asked_spells text r (spells_none within none) = tt
asked_spells text r (spells s within is) = is

pub text_spells : (text : List ℕ) (tree : Statement) → request_of text ≡ Asked tree → Spells text tree
text_spells text tree is =
    subst (SpellsAsked text) is (asked_spells text (request_of text) ((requests_read text (request_of text)).0 refl))

-- ---- a statement

statement_spelled : (text : List ℕ) (s : Statement) → Spells text s → IsSpelledStatement s
statement_spelled text (st.Select q sorts) is = tt
statement_spelled text (st.HasData stream) is = tt
statement_spelled text (st.Dml statement) is = tt
statement_spelled text (st.CreateTable t) is = tt
statement_spelled text (st.CreateStream name table is_append_only) is = tt
statement_spelled text (st.DropTable name) is = tt
statement_spelled text (st.DropStream name) is = tt
statement_spelled text st.Begin is = tt
statement_spelled text st.Commit is = tt
statement_spelled text st.Rollback is = tt
statement_spelled text (st.CreateTask t) is = task_spelled text t is
statement_spelled text (st.ResumeTask name) is = tt
statement_spelled text (st.SuspendTask name) is = tt
statement_spelled text (st.ExecuteTask name) is = tt
statement_spelled text (st.DropTask name) is = tt
statement_spelled text (st.CreateDynamicTable t) is = query_spelled text t is
statement_spelled text (st.ResumeDynamicTable name) is = tt
statement_spelled text (st.SuspendDynamicTable name) is = tt
statement_spelled text (st.RefreshDynamicTable name) is = tt
statement_spelled text (st.SetTargetLag name lag) is = tt
statement_spelled text (st.DropDynamicTable name) is = tt

-- by what it may name
bound_spelled : (names : Names) (tree : Statement) → IsSpelledStatement tree
    → IsBoundSpelled (bound names tree).value
unfolding bound
bound_spelled names (st.Select q sorts) spelled = tt
bound_spelled names (st.HasData stream) spelled = tt
bound_spelled names (st.Dml statement) spelled = tt
bound_spelled names (st.CreateTable t) spelled = tt
bound_spelled names (st.CreateStream name table is_append_only) spelled = tt
bound_spelled names (st.DropTable name) spelled = tt
bound_spelled names (st.DropStream name) spelled = tt
bound_spelled names st.Begin spelled = tt
bound_spelled names st.Commit spelled = tt
bound_spelled names st.Rollback spelled = tt
bound_spelled names (st.CreateTask t) spelled = tt
bound_spelled names (st.ResumeTask name) spelled = tt
bound_spelled names (st.SuspendTask name) spelled = tt
bound_spelled names (st.ExecuteTask name) spelled = tt
bound_spelled names (st.DropTask name) spelled = tt
bound_spelled names (st.CreateDynamicTable t) spelled = spelled
bound_spelled names (st.ResumeDynamicTable name) spelled = tt
bound_spelled names (st.SuspendDynamicTable name) spelled = tt
bound_spelled names (st.RefreshDynamicTable name) spelled = tt
bound_spelled names (st.SetTargetLag name lag) spelled = tt
bound_spelled names (st.DropDynamicTable name) spelled = tt

-- ---- the commit that is meant

commit_read : (s : Stored) (stamp : ℕ) (acts : Option (List Act)) → AreUnderstood acts
    → IsRead (option_map (commit_for s stamp) acts)
commit_read s stamp None are = tt
commit_read s stamp (Some acts) are = understood_written stamp s.objects acts are

pub meant_read : (sight : Sight) (text : List ℕ) (tree : Statement) (names : Names) (b : Bound) → Spells text tree
    → carried_out (machine_in sight) sight.session None (bound_of b)
    ≡ commanded (machine_in sight) sight.session (Asked tree)
    → IsBound b (bound names tree)
    → IsMeantRead sight (bound_of b)
meant_read sight text tree names b is same h =
    let m = machine_in sight in
    let spelled : IsSpelledStatement tree = statement_spelled text tree is in
    record {
      commit = subst (λ (o : Outcome). IsRead (commit_meant sight o)) (sym same)
          (commit_read (stored_of sight.catalog.now) sight.stamp (acts_in (commanded m sight.session (Asked tree)))
          (outcome_understood m (Command 0 sight.session (Asked tree)) spelled));
      query = subst IsBoundSpelled (sym h.bound) (bound_spelled names tree spelled);
    }
