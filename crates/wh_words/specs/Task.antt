-- What contracts say of a `Task`.
--     IsInRange     its numbers are in their ranges
--     Reads         the task that is meant was read, or usage exactly where there is none
use Rattle.std.specs.Prelude.{◌≡◌, ◌≤◌, Option, Some, None, Result, Ok, Err}
use Rattle.wh_words.specs.declared.task.Task.{Task}
use Rattle.wh_words.specs.declared.task.Task.TheVariants.{Run, Bench}
use Rattle.wh_words.specs.declared.task.Misread.{Misread}
use Rattle.wh_words.specs.declared.task.Misread.TheVariants.{Usage, OutOfMemory}

abbrev pub IsInRange : Task → Type 0
IsInRange (Run workers system_clock) = (1 ≤ workers) × (workers ≤ 64)
IsInRange (Bench workers rows seed) =
    (1 ≤ workers) × (workers ≤ 64) × (rows ≤ 200000) × (1 ≤ seed) × (seed ≤ 2147483646)

-- memory may always be wanting
abbrev pub Reads : Result Task Misread → Option Task → Type 0
Reads (Ok task) meant = meant ≡ Some task
Reads (Err Usage) meant = meant ≡ None
Reads (Err OutOfMemory) meant = Unit {0}
