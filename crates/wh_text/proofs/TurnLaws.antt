-- One turn over bytes that may be untold: from the script at its start to the place and the text so far.
use Rattle.std.proofs.Common.{◌≡◌, ℕ, ◌≤◌, Bool, true, false, ◌==◌, List, [], ◌∷◌, length, ◌++◌, Option, Some, None}
use Rattle.std.proofs.Common.{option_map, nat_lt, MatchOption, refl, sym, ap, ◌∙◌, arith, ltb-true, length-append}
use Rattle.wh_grammar.specs.Script.{Line, lines_from, lines_of}
use Rattle.wh_text.specs.View.{line_view}
use Rattle.wh_text.specs.declared.line.Line as code
use Rattle.wh_text.specs.Turn.{ahead_and, Gives, Ends}
use Rattle.wh_text.specs.ScriptPlace.{lines_at, line_at, last_line_at, next, with_byte, kept, most, begun}
use Rattle.wh_text.specs.declared.place.ScriptPlace.{ScriptPlace}
use Rattle.wh_text.specs.declared.place.ScriptPlace.TheVariants.{Gap, GapComment, Marked, Opening, Command}
use Rattle.wh_text.proofs.PlaceLaws.{goes, one_step, at_end}

-- a byte moves the place
pub goes_on : (place after : ScriptPlace) (text : List ℕ) (b : ℕ) (start mid rest : Option (List ℕ))
    → next place b ≡ Some after → option_map lines_of start ≡ option_map (lines_at place text) mid
    → mid ≡ option_map (λ bytes. b ∷ bytes) rest
    → option_map lines_of start ≡ option_map (lines_at after (kept place text b)) rest
goes_on place after text b start mid None moved same first = same ∙ ap (λ m. option_map (lines_at place text) m) first
goes_on place after text b start mid (Some bytes) moved same first =
    same ∙ ap (λ m. option_map (lines_at place text) m) first
    ∙ ap Some (one_step place text b bytes ∙ ap (λ o. goes o (line_at place text) (kept place text b) bytes) moved)

-- a run of bytes leaves the place
pub runs_on : (place : ScriptPlace) (text after old new : List ℕ) (start left : Option (List ℕ))
    → ((rest : List ℕ) → lines_at place after (new ++ rest) ≡ lines_at place text (old ++ rest))
    → option_map lines_of start ≡ option_map (lines_at place text) (ahead_and old left)
    → option_map lines_of start ≡ option_map (lines_at place after) (ahead_and new left)
runs_on place text after old new start None run same = same
runs_on place text after old new start (Some rest) run same = same ∙ ap Some (sym (run rest))

gives_by : (line : Line) (start rest : Option (List ℕ))
    → option_map lines_of start ≡ option_map (λ bytes. line ∷ lines_of bytes) rest
    → Gives start line rest
gives_by line None rest same = record { each = λ script is. absurd (cc) }
gives_by line (Some script) None same = record { each = λ whole is. absurd (cc) }
gives_by line (Some script) (Some bytes) same = record {
  each = λ whole is.
      let the_script : script ≡ whole = cc in
      let here : lines_of script ≡ line ∷ lines_of bytes = cc in
      (bytes, refl, ap lines_of (sym the_script) ∙ here);
}

ended_lines : (place : ScriptPlace) (text : List ℕ) (b : ℕ) (line : Line) (start mid rest : Option (List ℕ))
    → next place b ≡ None → line ≡ line_at place text → option_map lines_of start ≡ option_map (lines_at place text) mid
    → mid ≡ option_map (λ bytes. b ∷ bytes) rest
    → option_map lines_of start ≡ option_map (λ bytes. line ∷ lines_of bytes) rest
ended_lines place text b line start mid None ended is same first =
    same ∙ ap (λ m. option_map (lines_at place text) m) first
ended_lines place text b line start mid (Some bytes) ended is same first =
    same ∙ ap (λ m. option_map (lines_at place text) m) first
    ∙ ap Some (one_step place text b bytes ∙ ap (λ o. goes o (line_at place text) (kept place text b) bytes) ended
    ∙ ap (λ given. given ∷ lines_of bytes) (sym is))

-- a byte ends a line
pub gives_line : (place : ScriptPlace) (text : List ℕ) (b : ℕ) (line : Line) (start mid rest : Option (List ℕ))
    → next place b ≡ None → line ≡ line_at place text → option_map lines_of start ≡ option_map (lines_at place text) mid
    → mid ≡ option_map (λ bytes. b ∷ bytes) rest
    → Gives start line rest
gives_line place text b line start mid rest ended is same first =
    gives_by line start rest (ended_lines place text b line start mid rest ended is same first)

no_lines : lines_of [] ≡ []
unfolding lines_from
no_lines = refl

last_lines : (place : ScriptPlace) (text : List ℕ) (line : Line) (start mid : Option (List ℕ))
    → ((script : List ℕ) → mid ≡ Some script → script ≡ []) → last_line_at place text ≡ line ∷ []
    → option_map lines_of start ≡ option_map (lines_at place text) mid
    → option_map lines_of start ≡ option_map (λ bytes. line ∷ lines_of bytes) mid
last_lines place text line start None end last same = same
last_lines place text line start (Some bytes) end last same =
    let none : bytes ≡ [] = end bytes refl in
    same ∙ ap (λ xs. Some (lines_at place text xs)) none
    ∙ ap Some (at_end place text ∙ last ∙ ap (λ others. line ∷ others) (sym no_lines))
    ∙ ap (λ xs. Some (line ∷ lines_of xs)) (sym none)

-- the end of the script ends a line
pub gives_last : (place : ScriptPlace) (text : List ℕ) (line : Line) (start mid rest : Option (List ℕ))
    → ((script : List ℕ) → mid ≡ Some script → script ≡ []) → last_line_at place text ≡ line ∷ []
    → option_map lines_of start ≡ option_map (lines_at place text) mid → rest ≡ mid
    → Gives start line rest
gives_last place text line start mid rest end last same kept_there =
    gives_by line start rest
    (last_lines place text line start mid end last same
    ∙ ap (λ m. option_map (λ bytes. line ∷ lines_of bytes) m) (sym kept_there))

-- or none is left
pub ends_there : (place : ScriptPlace) (text : List ℕ) (start mid rest : Option (List ℕ))
    → ((script : List ℕ) → mid ≡ Some script → script ≡ []) → last_line_at place text ≡ []
    → option_map lines_of start ≡ option_map (lines_at place text) mid → rest ≡ mid
    → Ends start rest
ends_there place text None mid rest end last same kept_there = record { each = λ script is. absurd (cc) }
ends_there place text (Some script) None rest end last same kept_there = record { each = λ whole is. absurd (cc) }
ends_there place text (Some script) (Some bytes) rest end last same kept_there =
    let none : bytes ≡ [] = end bytes refl in
    let here : lines_of script ≡ lines_at place text bytes = cc in
    record {
      each = λ whole is.
          let the_script : script ≡ whole = cc in (
            kept_there ∙ ap Some none,
            ap lines_of (sym the_script) ∙ here ∙ ap (λ xs. lines_at place text xs) none
                ∙ at_end place text ∙ last,
          );
    }

-- a turn at the end of the script
pub last_turn : (place : ScriptPlace) (text : List ℕ) (found : Option code.Line) (start mid rest : Option (List ℕ))
    → ((script : List ℕ) → mid ≡ Some script → script ≡ [])
    → MatchOption found
    (last_line_at place text ≡ []) (λ line. (last_line_at place text ≡ line_view line ∷ []) × (begun place ≡ 1))
    → option_map lines_of start ≡ option_map (lines_at place text) mid → rest ≡ mid
    → MatchOption found (Ends start rest) (λ line. Gives start (line_view line) rest)
last_turn place text None start mid rest end last same kept_there =
    ends_there place text start mid rest end last same kept_there
last_turn place text (Some line) start mid rest end last same kept_there =
    gives_last place text (line_view line) start mid rest end last.0 same kept_there

-- ---- how long the text is, and where a line has begun

pub begun_once : (place : ScriptPlace) → begun place ≤ 1
begun_once Gap = omega arith
begun_once GapComment = omega arith
begun_once Marked = omega arith
begun_once (Opening area) = omega arith
begun_once (Command area) = omega arith

most_least : (place : ScriptPlace) → 65537 ≤ most place
most_least Gap = omega arith
most_least GapComment = omega arith
most_least Marked = omega arith
most_least (Opening area) = omega arith
most_least (Command area) = omega arith

with_byte_cases : (limit : ℕ) (text : List ℕ) (b : ℕ) (v : Bool) → nat_lt (length text) limit ≡ v → length text ≤ limit
    → length (with_byte limit text b) ≤ limit
with_byte_cases limit text b true e short =
    rw e (omega (arith, ltb-true (length text) limit e, length-append text (b ∷ [])))
with_byte_cases limit text b false e short = rw e short

with_byte_fits : (limit : ℕ) (text : List ℕ) (b : ℕ) → length text ≤ limit → length (with_byte limit text b) ≤ limit
with_byte_fits limit text b short = with_byte_cases limit text b (nat_lt (length text) limit) refl short

marked_fits : (b : ℕ) (after : ScriptPlace) (v : Bool) → (b == 10) ≡ v → next Marked b ≡ Some after → 65538 ≤ most after
marked_fits b after true e moved =
    let ended : next Marked b ≡ None = rw e refl in absurd (cc)
marked_fits b after false e moved =
    let goes_on_there : next Marked b ≡ Some Marked = rw e refl in
    let same : after ≡ Marked = cc in rw same (omega arith)

-- the text stays within its limit
pub kept_fits : (place after : ScriptPlace) (text : List ℕ) (b : ℕ) → next place b ≡ Some after →
    length text ≤ most place
    → length (kept place text b) ≤ most after
kept_fits Gap after text b moved short = omega (arith, most_least after)
kept_fits GapComment after text b moved short = omega (arith, most_least after)
kept_fits Marked after text b moved short =
    omega (arith, with_byte_fits 65538 text b short, marked_fits b after (b == 10) refl moved)
kept_fits (Opening area) after text b moved short = omega (arith, with_byte_fits 65537 text b short, most_least after)
kept_fits (Command area) after text b moved short = omega (arith, with_byte_fits 65537 text b short, most_least after)
