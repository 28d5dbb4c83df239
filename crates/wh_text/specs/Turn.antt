-- One turn of reading a script.
--     ahead_and      what is still to be read: what was taken ahead, and what the source has left
--     Gives, Ends    a turn gives the first line of what is still to be read, or there is none
--     IsTurn         one of the two, by the line that was found, if one was
--     IsReadable     a line's number is below 2^62
use Rattle.std.specs.Prelude.{◌≡◌, ℕ, ◌<◌, ◌^◌, List, [], ◌∷◌, ◌++◌, Option, Some, None, option_map, MatchOption}
use Rattle.wh_grammar.specs.Script.{Line, lines_of}
use Rattle.wh_text.specs.View.{line_view}
use Rattle.wh_text.specs.declared.line.Line as code
use Rattle.wh_text.specs.declared.line.Line.TheVariants.{Command, Session, Tick}

abbrev pub ahead_and : List ℕ → Option (List ℕ) → Option (List ℕ)
ahead_and ahead left = option_map (λ rest. ahead ++ rest) left

pub record Gives (old : Option (List ℕ)) (line : Line) (new : Option (List ℕ)) : Type 0 where
  pub each : (script : List ℕ)
      → old ≡ Some script
      → (rest : List ℕ) × (new ≡ Some rest) × (lines_of script ≡ line ∷ lines_of rest)

pub record Ends (old new : Option (List ℕ)) : Type 0 where
  pub each : (script : List ℕ) → old ≡ Some script → (new ≡ Some []) × (lines_of script ≡ [])

abbrev pub IsTurn : Option (List ℕ) → Option (List ℕ) → Option code.Line → Type 0
IsTurn old new found = MatchOption found (Ends old new) (λ line. Gives old (line_view line) new)

abbrev pub IsReadable : code.Line → Type 0
IsReadable (Command text) = Unit {0}
IsReadable (Session session) = session < 2 ^ 62
IsReadable (Tick None) = Unit {0}
IsReadable (Tick (Some reading)) = reading < 2 ^ 62
