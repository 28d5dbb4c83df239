-- Objects that a statement may name.
--     over               what may be named, of objects and of the roots of tasks
--     asks_roots         whether a statement asks for roots
--     roots_told         the roots of live tasks by their ids, from one on
use Rattle.std.specs.Prelude.{ℕ, suc, Bool, true, false, List, [], ◌∷◌, ◌++◌}
use Rattle.wh_ast.specs.declared.statement.Statement.{Statement}
use Rattle.wh_ast.specs.declared.statement.Statement.TheVariants as st
use Rattle.wh_naming.specs.Scope.{Named}
use Rattle.wh_ddl_naming.specs.Objects.{Names, TaskRoot}
use Rattle.wh_graph.specs.Graph.{Tasks}
use Rattle.wh_machine.specs.Names.{root_told}

abbrev pub over : List Named → List TaskRoot → Names
over objects roots = record { objects = objects; roots = roots }

-- AFTER and EXECUTE TASK look for roots
abbrev pub asks_roots : Statement → Bool
asks_roots (st.CreateTask t) = true
asks_roots (st.ExecuteTask name) = true
asks_roots _ = false

abbrev pub roots_told : ℕ → Tasks → List TaskRoot
roots_told id [] = []
roots_told id (t ∷ ts) = root_told id t ++ roots_told (suc id) ts
