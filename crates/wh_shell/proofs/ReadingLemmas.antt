-- What is unread where no line is left.
use Rattle.std.proofs.Common.{◌≡◌, ℕ, List, [], ◌∷◌, Option, Some, None, refl, sym, ap, ◌∙◌, option_map}
use Rattle.wh_grammar.specs.Script.{lines_of, lines_from}
use Rattle.wh_machine.specs.Step as machine
use Rattle.wh_text.specs.Turn.{ahead_and, Ends}
use Rattle.wh_shell.specs.Events.{events_from}
use Rattle.wh_shell.specs.Reading.{EndsEvents, PassesOn}

-- what is unread of some bytes
abbrev rest_of : ℕ → ℕ → Option (List ℕ) → Option (List machine.Event)
rest_of session reading bytes = option_map (λ b. events_from session reading (lines_of b)) bytes

-- the bytes of what is unread
known : (session reading : ℕ) (bytes : Option (List ℕ)) (es : List machine.Event) →
    rest_of session reading bytes ≡ Some es →
    (b : List ℕ) × (bytes ≡ Some b) × (events_from session reading (lines_of b) ≡ es)
known session reading None es told = cc
known session reading (Some b) es told = (b, refl, cc)

-- an empty script has no lines
no_lines : lines_of [] ≡ []
unfolding lines_from
no_lines = refl

-- where nothing is unread, the source has nothing left
nothing_left : (ahead : List ℕ) (left : Option (List ℕ)) → ahead_and ahead left ≡ Some [] → left ≡ Some []
nothing_left ahead None none = cc
nothing_left [] (Some rest) none = none
nothing_left (b ∷ ahead) (Some rest) none = cc

-- no line is left
pub ends_events : (session reading session_new reading_new : ℕ) (first : Option (List machine.Event))
    (old : Option (List ℕ)) (ahead : List ℕ)
    (left : Option (List ℕ)) → PassesOn first (rest_of session reading old) → Ends old (ahead_and ahead left) →
    EndsEvents first (rest_of session_new reading_new (ahead_and ahead left)) left
ends_events session reading session_new reading_new first old ahead left passes ends = record {
  each = λ es told.
      let bytes = known session reading old es (passes.each es told) in
      let found = ends.each bytes.0 bytes.1 in (
        ap (rest_of session_new reading_new) found.0
            ∙ ap (λ lines. Some (events_from session_new reading_new lines)) no_lines,
        nothing_left ahead left found.0,
        sym bytes.2 ∙ ap (events_from session reading) found.1,
      );
}
