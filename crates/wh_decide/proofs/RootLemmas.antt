-- The roots of tasks.
--     spares_roots      a statement that asks for none stands for the same whatever they are
--     roots_are         those of a catalog's live tasks are those of its objects
use Rattle.std.proofs.Common.{◌≡◌, ℕ, suc, Bool, true, false, cond, List, [], ◌∷◌, ◌++◌, None, refl, sym, ap, ◌∙◌}
use Rattle.wh_ast.specs.declared.statement.Statement.{Statement}
use Rattle.wh_ast.specs.declared.statement.Statement.TheVariants as st
use Rattle.wh_naming.specs.Scope.{Named}
use Rattle.wh_ddl_naming.specs.Objects.{TaskRoot}
use Rattle.wh_ddl_naming.specs.Statements.{bound}
use Rattle.wh_state.specs.State.{Object, task_in}
use Rattle.wh_state.specs.Objects.{live_task, live_tasks}
use Rattle.wh_catalog.specs.Catalog.{stored_of, state_of}
use Rattle.wh_catalog.specs.declared.catalog.Catalog.{Catalog}
use Rattle.wh_machine.specs.Names.{root_told, roots_from}
use Rattle.wh_decide.specs.Names.{over, asks_roots, roots_told}
use Rattle.wh_decide.proofs.CatalogLemmas.{tasks_are}

pub spares_roots : (s : Statement) (objects : List Named) (a b : List TaskRoot) → asks_roots s ≡ false
    → bound (over objects a) s ≡ bound (over objects b) s
unfolding bound
spares_roots (st.Select q sorts) objects a b none = refl
spares_roots (st.HasData stream) objects a b none = refl
spares_roots (st.Dml statement) objects a b none = refl
spares_roots (st.CreateTable t) objects a b none = refl
spares_roots (st.CreateStream name table is_append_only) objects a b none = refl
spares_roots (st.DropTable name) objects a b none = refl
spares_roots (st.DropStream name) objects a b none = refl
spares_roots st.Begin objects a b none = refl
spares_roots st.Commit objects a b none = refl
spares_roots st.Rollback objects a b none = refl
spares_roots (st.CreateTask t) objects a b none = absurd cc
spares_roots (st.ResumeTask name) objects a b none = refl
spares_roots (st.SuspendTask name) objects a b none = refl
spares_roots (st.ExecuteTask name) objects a b none = absurd cc
spares_roots (st.CreateDynamicTable t) objects a b none = refl
spares_roots (st.ResumeDynamicTable name) objects a b none = refl
spares_roots (st.SuspendDynamicTable name) objects a b none = refl
spares_roots (st.RefreshDynamicTable name) objects a b none = refl
spares_roots (st.SetTargetLag name lag) objects a b none = refl
spares_roots (st.DropTask name) objects a b none = refl
spares_roots (st.DropDynamicTable name) objects a b none = refl

-- ---- of objects

root_same : (id : ℕ) (o : Object)
    → root_told id (live_task o) ≡ cond o.is_live (root_told id (task_in o.kind)) []
root_same id o = by_live o.is_live
  where
    by_live : (live : Bool) → root_told id (cond live (task_in o.kind) None)
        ≡ cond live (root_told id (task_in o.kind)) []
    by_live true = refl
    by_live false = refl

roots_same : (id : ℕ) (objects : List Object) → roots_told id (live_tasks objects) ≡ roots_from id objects
roots_same id [] = refl
roots_same id (o ∷ os) = λ i. root_same id o i ++ roots_same (suc id) os i

-- ---- of a catalog

pub roots_are : (c : Catalog) → roots_told 1 (live_tasks (stored_of c).objects) ≡ roots_from 1 (state_of c).objects
roots_are c = ap (roots_told 1) (sym (tasks_are c)) ∙ roots_same 1 (state_of c).objects
