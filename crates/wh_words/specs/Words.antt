-- What words ask for.
--     run_app, bench_app       the arguments that each command takes, as `clap` reads them
--     run_of, bench_of         the task of what was given for these, if each value is in its range
--     run_meant, bench_meant   the task of words that `clap` takes
--     asked                    by the first word
use Rattle.std.specs.Prelude.{ℕ, Bool, true, false, if◌then◌else◌}
use Rattle.std.specs.Prelude.{List, [], ◌∷◌, Option, Some, None, option_map, option_and_then, codes}
use Rattle.std.specs.Str.{bytes_eq}
use Rattle.clap.specs.Words.{App, Row, Rule, Text, Kinds, fault_of, matches_of, first_of, new_app, new_rule, with_rule}
use Rattle.clap.specs.declared.builder.ArgAction.TheVariants.{Set}
use Rattle.wh_words.specs.declared.task.Task.{Task}
use Rattle.wh_words.specs.declared.task.Task.TheVariants.{Run, Bench}
use Rattle.wh_words.specs.Number.{given_number}

-- ---- the arguments

-- a command that has no help
abbrev pub plain_app : List ℕ → App
plain_app name = let app = new_app name in record app { top = record app.top { disable_help_flag = true } }

abbrev pub workers_rule : Rule
workers_rule =
    record (new_rule (codes "workers")) { long = Some (codes "workers"); action = Some Set; defaults = codes "1" ∷ [] }

abbrev pub clock_rule : Rule
clock_rule = record (new_rule (codes "clock")) { long = Some (codes "clock"); action = Some Set }

-- a word that is to stand behind the command
abbrev pub wanted_rule : List ℕ → Rule
wanted_rule name = record (new_rule name) { action = Some Set; required = true }

abbrev pub run_app : App
run_app = with_rule (with_rule (plain_app (codes "run")) workers_rule) clock_rule

abbrev pub bench_app : App
bench_app = with_rule (with_rule (with_rule (plain_app (codes "bench")) workers_rule) (wanted_rule (codes "N")))
    (wanted_rule (codes "SEED"))

-- ---- their values

abbrev pub workers_in : Option Text → Option ℕ
workers_in = given_number 1 64

-- whether the system's clock is asked for
abbrev pub clock_in : Option Text → Option Bool
clock_in None = Some false
clock_in (Some text) = if bytes_eq text (codes "system") then Some true else None

abbrev pub run_of : List Row → Option Task
run_of rows = option_and_then (λ workers. option_map (λ clock. Run workers clock)
    (clock_in (first_of (codes "clock") rows))) (workers_in (first_of (codes "workers") rows))

abbrev pub bench_of : List Row → Option Task
bench_of rows = option_and_then (λ workers. option_and_then (λ count. option_map (λ seed. Bench workers count seed)
    (given_number 1 2147483646 (first_of (codes "SEED") rows))) (given_number 0 200000 (first_of (codes "N") rows)))
    (workers_in (first_of (codes "workers") rows))

-- ---- the words

-- where `clap` finds no fault
abbrev pub where_none : Kinds → Option Task → Option Task
where_none [] task = task
where_none (k ∷ ks) task = None

abbrev pub run_meant : List Text → Option Task
run_meant words = where_none (fault_of run_app words) (run_of (matches_of run_app words))

abbrev pub bench_meant : List Text → Option Task
bench_meant words = where_none (fault_of bench_app words) (bench_of (matches_of bench_app words))

abbrev pub asked_behind : Text → List Text → Option Task
asked_behind first words = if bytes_eq first (codes "run") then run_meant words
    else (if bytes_eq first (codes "bench") then bench_meant words else None)

-- the words are in the grammar exactly where there is a task
abbrev pub asked : List Text → Option Task
asked [] = None
asked (first ∷ rest) = asked_behind first (first ∷ rest)
