-- The texts of options: a schedule, a lag, and a stream's name.
--     IsSpan          digits, blanks, and a unit
--     IsNameText      one name, and nothing around it
use Rattle.std.specs.Prelude.{◌≡◌, ℕ, ◌*◌, ◌<◌, ◌≤◌, IsTrue, false, List, [], ◌++◌, length, map, codes}
use Rattle.std.specs.List.{list_all}
use Rattle.wh_ast.specs.declared.statement.Lag.{Lag}
use Rattle.wh_ast.specs.declared.statement.Lag.TheVariants as lag
use Rattle.wh_grammar.specs.Bytes.{is_blank, is_digit, upper, number_behind}
use Rattle.wh_grammar.specs.Words.{is_reserved}
use Rattle.wh_grammar.specs.Token.{Word, Quoted}
use Rattle.wh_grammar.specs.Lexing.{IsToken}

-- 1 to 9 digits, a blank or more, and a unit of these letters in any case
pub record IsSpan (bytes unit : List ℕ) (n : ℕ) : Type 0 where
  pub digits : List ℕ
  pub blanks : List ℕ
  pub letters : List ℕ
  pub spelled : bytes ≡ digits ++ blanks ++ letters
  pub some_digit : 0 < length digits
  pub few_digits : length digits ≤ 9
  pub are_digits : IsTrue (list_all is_digit digits)
  pub some_blank : 0 < length blanks
  pub are_blanks : IsTrue (list_all is_blank blanks)
  pub is_unit : map upper letters ≡ unit
  pub number : n ≡ number_behind 0 digits

-- of a schedule, in minutes
pub data IsSchedule : List ℕ → ℕ → Type 0 where
  minute : {bytes : List ℕ} {n : ℕ} → IsSpan bytes (codes "MINUTE") n → IsSchedule bytes n
  minutes : {bytes : List ℕ} {n : ℕ} → IsSpan bytes (codes "MINUTES") n → IsSchedule bytes n

-- how many seconds a unit has
pub data IsUnit : List ℕ → ℕ → Type 0 where
  second : IsUnit (codes "SECOND") 1
  seconds : IsUnit (codes "SECONDS") 1
  a_minute : IsUnit (codes "MINUTE") 60
  some_minutes : IsUnit (codes "MINUTES") 60
  hour : IsUnit (codes "HOUR") 3600
  hours : IsUnit (codes "HOURS") 3600
  day : IsUnit (codes "DAY") 86400
  days : IsUnit (codes "DAYS") 86400

pub data IsLagText : List ℕ → Lag → Type 0 where
  span : {bytes unit : List ℕ} {n factor : ℕ}
      → IsSpan bytes unit n
      → IsUnit unit factor
      → IsLagText bytes (lag.Seconds (n * factor))

pub data IsNameText : List ℕ → List ℕ → Type 0 where
  word_text : {bytes w : List ℕ} → IsToken bytes (Word w) [] → is_reserved w ≡ false → IsNameText bytes w
  quoted_text : {bytes name : List ℕ} → IsToken bytes (Quoted name) [] → IsNameText bytes name
