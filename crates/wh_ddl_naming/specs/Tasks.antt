-- CREATE TASK and EXECUTE TASK.
--     NewTask         the task, with its predecessors' ids; WHEN and the body are bound when it runs
--     predecessors    AFTER takes tasks of one root, that of the first name
--     bound_task      of a statement as it is written
--     root_task       EXECUTE TASK takes a root
use Rattle.std.specs.Prelude.{ℕ, List, [], ◌∷◌, map, Option, Some, None}
use Rattle.wh_ast.specs.declared.dml.Dml.{Dml}
use Rattle.wh_ast.specs.declared.statement.CreateTask.{CreateTask}
use Rattle.wh_ast.specs.declared.statement.When.{When}
use Rattle.wh_naming.specs.Findings.{Name, Findings, nothing_found, followed}
use Rattle.wh_naming.specs.Scope.{Named, named}
use Rattle.wh_ddl_naming.specs.Meant.{Meant}
use Rattle.wh_ddl_naming.specs.Objects.{Names, root_of, is_task_of, is_root, found_where, taken_name}

pub record NewTask : Type 0 where
  pub name : Name
  pub minutes : Option ℕ
  pub after : List ℕ
  pub when : Option When
  pub body : Dml
  pub body_text : Name

-- a task of that root
abbrev pub predecessor : Names → ℕ → Name → Meant ℕ
predecessor names root name = found_where (is_task_of names.roots root) name (named names.objects name)

abbrev pub root_at : Names → Option Named → ℕ
root_at names None = 0
root_at names (Some object) = root_of names.roots object.id

abbrev pub first_root : Names → List Name → ℕ
first_root names [] = 0
first_root names (name ∷ others) = root_at names (named names.objects name)

abbrev pub predecessor_findings : Names → ℕ → List Name → Findings
predecessor_findings names root [] = nothing_found
predecessor_findings names root (name ∷ others) =
    followed (predecessor names root name).findings (predecessor_findings names root others)

abbrev pub predecessors : Names → ℕ → List Name → Meant (List ℕ)
predecessors names root after = record {
  value = map (λ name. (predecessor names root name).value) after;
  taken_object = None;
  findings = predecessor_findings names root after;
}

abbrev pub new_task : CreateTask → List ℕ → NewTask
new_task t after = record {
  name = t.name;
  minutes = t.minutes;
  after = after;
  when = t.when;
  body = t.body;
  body_text = t.body_text;
}

abbrev pub bound_task : Names → CreateTask → Meant NewTask
bound_task names t = behind (predecessors names (first_root names t.after) t.after)
  where
    behind : Meant (List ℕ) → Meant NewTask
    behind after =
        record { value = new_task t after.value; taken_object = taken_name names t.name; findings = after.findings }

abbrev pub root_task : Names → Name → Meant ℕ
root_task names name = found_where (is_root names.roots) name (named names.objects name)
