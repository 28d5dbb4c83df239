-- Tasks, and the runs of their graphs.
--     TaskTexts, TaskBody           what a task runs: texts in a file, texts with their trees in the machine
--     IsSpelled                     each text spells its tree
--     Ending, TaskRun, Run          how a task ended; a task in a run; a run of a graph
--     TaskState, Task               what ALTER TASK and runs move of a task; a task
--     with_state, with_run, with_ended     a task in another state, and a root with another run
use Rattle.std.specs.Prelude.{ℕ, Bool, false, List, [], ◌∷◌, map, Option, Some, None, nat_eq, if◌then◌else◌, IsUtf8}
use Rattle.std.specs.Option.{option_map_or}
use Rattle.wh_ast.specs.declared.dml.Dml.{Dml}
use Rattle.wh_ast.specs.declared.statement.When.{When}
use Rattle.wh_ast.specs.declared.statement.WhenCondition.{WhenCondition}
use Rattle.wh_ast.specs.declared.statement.Statement.TheVariants as st
use Rattle.wh_grammar.specs.Token.{Placed}
use Rattle.wh_grammar.specs.Lexing.{HasTokens}
use Rattle.wh_grammar.specs.Parts.{IsCondition}
use Rattle.wh_grammar.specs.Spelled.{Spells, tokens_of, most_nested}

-- ---- texts and trees

-- an empty text stands for no condition
pub record TaskTexts : Type 0 where
  pub when : List ℕ
  pub body : List ℕ

pub record TaskBody : Type 0 where
  pub when : Option When
  pub body : Dml
  pub body_text : List ℕ

abbrev pub texts_of : TaskBody → TaskTexts
texts_of b = record { when = option_map_or (λ w. w.text) b.when []; body = b.body_text }

-- the text of a condition by itself
pub record SpellsCondition (text : List ℕ) (condition : WhenCondition) : Type 0 where
  pub utf8 : IsUtf8 text
  pub placed : List Placed
  pub tokens : HasTokens text placed
  pub is_condition : IsCondition most_nested (tokens_of placed) condition []

abbrev pub IsWhenSpelled : Option When → Type 0
IsWhenSpelled None = Unit {0}
IsWhenSpelled (Some w) = SpellsCondition w.text w.condition

pub record IsSpelled (b : TaskBody) : Type 0 where
  pub when : IsWhenSpelled b.when
  pub body : Spells b.body_text (st.Dml b.body)

-- ---- runs

pub data Ending : Type 0 where
  Succeeded : Ending
  Failed : Ending
  Skipped : Ending

-- a task in a run; None while it waits
pub record TaskRun : Type 0 where
  pub task : ℕ
  pub ending : Option Ending

-- by rising ids; the last run of a root stays until the next one, and nothing of it waits then
abbrev pub Run : Type 0
Run = List TaskRun

abbrev pub waiting : ℕ → TaskRun
waiting task = record { task = task; ending = None }

abbrev pub ended_as : ℕ → Ending → TaskRun → TaskRun
ended_as task ending r = if nat_eq r.task task then record r { ending = Some ending } else r

abbrev pub ended_in : ℕ → Ending → Run → Run
ended_in task ending run = map (ended_as task ending) run

-- ---- tasks

-- the base is the stamp of the last RESUME of a root, from which its schedule counts; the last start is the stamp of
-- the last run that the schedule began
pub record TaskState : Type 0 where
  pub is_resumed : Bool
  pub base : ℕ
  pub last_start : ℕ
  pub failures : ℕ

-- so many failed runs in a row suspend a root, and are counted
abbrev pub most_failures : ℕ
most_failures = 10

abbrev pub first_task_state : TaskState
first_task_state = record { is_resumed = false; base = 0; last_start = 0; failures = 0 }

-- 0 minutes are no schedule; a root is its own root, and a run is its root's
pub record Task : Type 0 where
  pub minutes : ℕ
  pub after : List ℕ
  pub root : ℕ
  pub runs : TaskBody
  pub state : TaskState
  pub run : Run

abbrev pub new_task : ℕ → List ℕ → ℕ → TaskBody → Task
new_task minutes after root runs = record {
  minutes = minutes;
  after = after;
  root = root;
  runs = runs;
  state = first_task_state;
  run = [];
}

abbrev pub with_state : TaskState → Task → Task
with_state state t = record t { state = state }

-- a run that begins: each of its tasks waits
abbrev pub with_run : List ℕ → Task → Task
with_run tasks t = record t { run = map waiting tasks }

abbrev pub with_ended : ℕ → Ending → Task → Task
with_ended task ending t = record t { run = ended_in task ending t.run }

-- the root of a task that follows others is that of the first; one that follows none is its own
abbrev pub root_by : (ℕ → Option Task) → ℕ → List ℕ → ℕ
root_by found id [] = id
root_by found id (first ∷ others) = option_map_or (λ t. t.root) (found first) id
