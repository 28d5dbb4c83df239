-- The changes that say what a refresh does to one table.
--     rows_written, one_written     of its rows and groups, and with its state
--     StaysUnderstood               changes whose texts are understood become others of which that is so
use Rattle.std.specs.Prelude.{ℕ, List, [], ◌∷◌, ◌++◌, Option, Some, None}
use Rattle.std.specs.List.{AllByRecursion}
use Rattle.wh_state.specs.State.{at_id}
use Rattle.wh_state.specs.Stored.{StoredObject}
use Rattle.wh_state.specs.Edits.{Edits}
use Rattle.wh_state.specs.Commit.{Change, SetsDynamic}
use Rattle.wh_state.specs.Dynamic.{GroupsChange}
use Rattle.wh_state.specs.Written.{version_written_to, groups_written}
use Rattle.wh_state.specs.Spelling.{IsUnderstood}
use Rattle.wh_machine.specs.Refresh.{Brought}

abbrev pub rows_written : List StoredObject → ℕ → ℕ → Option Edits → Option GroupsChange → List Change
rows_written stored moment id None groups = []
rows_written stored moment id (Some e) groups =
    version_written_to moment id e (at_id stored id) ++ groups_written id groups

abbrev pub one_written : List StoredObject → ℕ → Brought → List Change
one_written stored moment b = rows_written stored moment b.id b.edits b.groups ++ SetsDynamic b.id b.state ∷ []

abbrev pub StaysUnderstood : List Change → List Change → Type 0
StaysUnderstood old new = AllByRecursion IsUnderstood old → AllByRecursion IsUnderstood new
