-- What holds of options, lags and conditions among tokens.
--     ReadsLags, ReadsAsked, ReadsConditions, ReadsTaskOptions, ReadsTableOptions
--                         reading gives what the tokens begin with, exactly where they begin with one
--     ConditionFrame      a condition is a front of the tokens, and is one by itself
--     ConditionBack       and before any tokens
--     TaskOptionsFrame, TableOptionsFrame
--                         options are a front of the tokens, and are the same before any tokens but a `(`
use Rattle.std.specs.Prelude.{◌≡◌, ◌↔◌, ℕ, false, List, [], ◌++◌, Option, Some}
use Rattle.wh_ast.specs.declared.statement.WhenCondition.{WhenCondition}
use Rattle.wh_ast.specs.declared.statement.Lag.{Lag}
use Rattle.wh_ast.specs.declared.statement.RefreshMode.{RefreshMode}
use Rattle.wh_ast.specs.declared.statement.Initialize.{Initialize}
use Rattle.wh_grammar.specs.Token.{Token}
use Rattle.wh_grammar.specs.Name.{opens}
use Rattle.wh_grammar.specs.Parts.{IsLag, AsksForData, IsCondition, TaskOption, AreTaskOptions, TableOption}
use Rattle.wh_grammar.specs.Parts.{AreTableOptions}
use Rattle.wh_option_parse.specs.Follow.{IsConditionAt, AreTaskOptionsAt, AreTableOptionsAt}
use Rattle.wh_option_parse.specs.Read.{read_lag, read_asked, read_condition, read_task_options, read_table_options}

abbrev pub ReadsLags : Type 0
ReadsLags = (ts : List Token) (l : Lag) (us : List Token) → (read_lag ts ≡ Some (l, us)) ↔ IsLag ts l us

abbrev pub ReadsAsked : Type 0
ReadsAsked = (ts : List Token) (name : List ℕ) (us : List Token)
    → (read_asked ts ≡ Some (name, us)) ↔ AsksForData ts name us

abbrev pub ReadsConditions : Type 0
ReadsConditions = (d : ℕ) (ts : List Token) (x : WhenCondition) (us : List Token)
    → (read_condition d ts ≡ Some (x, us)) ↔ IsConditionAt d ts x us

abbrev pub ReadsTaskOptions : Type 0
ReadsTaskOptions = (ts : List Token) (minutes : Option ℕ) (us : List Token)
    → (read_task_options ts ≡ Some (minutes, us)) ↔ AreTaskOptionsAt ts minutes us

abbrev pub ReadsTableOptions : Type 0
ReadsTableOptions = (ts : List Token) (l : Lag) (m : RefreshMode) (i : Initialize) (us : List Token)
    → (read_table_options ts ≡ Some ((l, (m, i)), us)) ↔ AreTableOptionsAt ts l m i us

abbrev pub ConditionFrame : Type 0
ConditionFrame = (d : ℕ) (ts : List Token) (x : WhenCondition) (us : List Token) → IsCondition d ts x us
    → (front : List Token) × (ts ≡ front ++ us) × IsCondition d front x []

abbrev pub ConditionBack : Type 0
ConditionBack = (d : ℕ) (front : List Token) (x : WhenCondition) (us : List Token) → IsCondition d front x []
    → IsCondition d (front ++ us) x us

abbrev pub TaskOptionsFrame : Type 0
TaskOptionsFrame = (ts : List Token) (options : List TaskOption) (us : List Token) → AreTaskOptions ts options us
    → (front : List Token) × (ts ≡ front ++ us)
    × ((vs : List Token) → opens vs ≡ false → AreTaskOptions (front ++ vs) options vs)

abbrev pub TableOptionsFrame : Type 0
TableOptionsFrame = (ts : List Token) (options : List TableOption) (us : List Token) → AreTableOptions ts options us
    → (front : List Token) × (ts ≡ front ++ us)
    × ((vs : List Token) → opens vs ≡ false → AreTableOptions (front ++ vs) options vs)
