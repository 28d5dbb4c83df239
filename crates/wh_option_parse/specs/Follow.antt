-- What may follow, so that no token is left that goes on, and what stands there with such an end.
--     IsConditionAt       a condition, and neither OR nor AND behind it
--     AreTaskOptionsAt    the options of a task, each at most once, and none behind them
--     AreTableOptionsAt   the options of a dynamic table, each at most once, with a lag, and none behind them
use Rattle.std.specs.Prelude.{◌≡◌, ℕ, Bool, true, not, ◌||◌, List, ◌∷◌, Option, codes, bytes_eq}
use Rattle.wh_ast.specs.declared.statement.WhenCondition.{WhenCondition}
use Rattle.wh_ast.specs.declared.statement.Lag.{Lag}
use Rattle.wh_ast.specs.declared.statement.RefreshMode.{RefreshMode}
use Rattle.wh_ast.specs.declared.statement.Initialize.{Initialize}
use Rattle.wh_grammar.specs.Token.{Token, Word}
use Rattle.wh_grammar.specs.Parts.{IsCondition, TaskOption, AreTaskOptions, TaskOptionsGive, TableOption}
use Rattle.wh_grammar.specs.Parts.{AreTableOptions, TableOptionsGive}

-- neither OR nor AND comes next
abbrev pub ends_condition : List Token → Bool
ends_condition (Word w ∷ us) = not (bytes_eq w (codes "OR") || bytes_eq w (codes "AND"))
ends_condition _ = true

-- neither WAREHOUSE nor SCHEDULE does
abbrev pub ends_task_options : List Token → Bool
ends_task_options (Word w ∷ us) = not (bytes_eq w (codes "WAREHOUSE") || bytes_eq w (codes "SCHEDULE"))
ends_task_options _ = true

-- none of TARGET_LAG, WAREHOUSE, REFRESH_MODE and INITIALIZE does
abbrev pub ends_table_options : List Token → Bool
ends_table_options (Word w ∷ us) =
    not (bytes_eq w (codes "TARGET_LAG") || bytes_eq w (codes "WAREHOUSE") || bytes_eq w (codes "REFRESH_MODE")
    || bytes_eq w (codes "INITIALIZE"))
ends_table_options _ = true

pub record IsConditionAt (d : ℕ) (ts : List Token) (x : WhenCondition) (us : List Token) : Type 0 where
  pub condition : IsCondition d ts x us
  pub ends : ends_condition us ≡ true

pub record AreTaskOptionsAt (ts : List Token) (minutes : Option ℕ) (us : List Token) : Type 0 where
  pub options : List TaskOption
  pub are : AreTaskOptions ts options us
  pub give : TaskOptionsGive options minutes
  pub ends : ends_task_options us ≡ true

pub record AreTableOptionsAt (ts : List Token)
    (l : Lag) (m : RefreshMode) (i : Initialize) (us : List Token) : Type 0 where
  pub options : List TableOption
  pub are : AreTableOptions ts options us
  pub give : TableOptionsGive options l m i
  pub ends : ends_table_options us ≡ true
