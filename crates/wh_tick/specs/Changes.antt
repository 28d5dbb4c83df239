-- Changes of a commit.
--     AreRead     each text of them spells what it stands for
use Rattle.std.specs.Prelude.{List}
use Rattle.std.specs.List.{AllByRecursion}
use Rattle.wh_state.specs.Commit.{Change}
use Rattle.wh_state.specs.Spelling.{IsUnderstood}

abbrev pub AreRead : List Change → Type 0
AreRead changes = AllByRecursion IsUnderstood changes
