-- One byte of a script, by the places of its definition and by a `ScriptPlace`.
use Rattle.std.proofs.Common.{◌≡◌, ℕ, ◌≤◌, Bool, true, false, ◌==◌, List, [], ◌∷◌, ◌++◌, length, drop, Option, Some}
use Rattle.std.proofs.Common.{None, nat_lt, if◌then◌else◌, refl, sym, ap, ◌∙◌, eqb-true, ltb-false, append_assoc}
use Rattle.std.proofs.Common.{append-nil}
use Rattle.std.specs.List.{list_all}
use Rattle.std.proofs.lemmas.Bool.{and_parts}
use Rattle.std.proofs.lemmas.List.{take-append-le}
use Rattle.wh_grammar.specs.Lexing.{begins_with, is_byte, has_comment_end}
use Rattle.wh_grammar.specs.Script as scripts
use Rattle.wh_grammar.specs.Script.{Line, CommandLine, lines_from, place_behind, area_behind, gap_at, ends_command}
use Rattle.wh_grammar.specs.Script.{command_line, marked_line, without_return}
use Rattle.wh_text.specs.Area.{area_of, behind_plain, behind_comment, behind, ends, is_plain}
use Rattle.wh_text.specs.ScriptPlace.{closes, lines_at, line_at, last_line_at, is_gap, behind_gap, behind_command}
use Rattle.wh_text.specs.ScriptPlace.{behind_opening, next, with_byte, kept}
use Rattle.wh_text.specs.declared.area.Area.{Area}
use Rattle.wh_text.specs.declared.area.Area.TheVariants as areas
use Rattle.wh_text.specs.declared.place.ScriptPlace.{ScriptPlace}
use Rattle.wh_text.specs.declared.place.ScriptPlace.TheVariants.{Gap, GapComment, Marked, Opening, Command}
use Rattle.wh_text.proofs.AreaLaws.{swapped, otherwise, plain_step, area_step, ends_same}
use Rattle.wh_text.proofs.MarkedLaws.{marked_front, returned_front}

-- ---- what follows the bytes that are kept

command_long_step : (b : ℕ) (bytes : List ℕ) (area : scripts.Area) (text more : List ℕ) → 65537 ≤ length text
    → ((next : scripts.Area) (more : List ℕ)
    → lines_from (scripts.InCommand next (text ++ more)) bytes ≡ lines_from (scripts.InCommand next text) bytes)
    → (v : Bool) → ends_command area b ≡ v
    → lines_from (scripts.InCommand area (text ++ more)) (b ∷ bytes)
    ≡ lines_from (scripts.InCommand area text) (b ∷ bytes)
unfolding lines_from
command_long_step b bytes area text more long again true e =
    rw e (ap (λ t. CommandLine t ∷ lines_from scripts.Gap bytes) (take-append-le 65537 text more long))
command_long_step b bytes area text more long again false e =
    let after = area_behind area b bytes in
    rw e (ap (λ t. lines_from (scripts.InCommand after t) bytes) (append_assoc text more (b ∷ []))
    ∙ again after (more ++ b ∷ []) ∙ sym (again after (b ∷ [])))

command_long : (bytes : List ℕ) (area : scripts.Area) (text more : List ℕ) → 65537 ≤ length text
    → lines_from (scripts.InCommand area (text ++ more)) bytes ≡ lines_from (scripts.InCommand area text) bytes
unfolding lines_from
command_long [] area text more long = ap (λ t. CommandLine t ∷ []) (take-append-le 65537 text more long)
command_long (b ∷ bytes) area text more long =
    command_long_step b bytes area text more long (λ after others. command_long bytes after text others long)
    (ends_command area b) refl

command_kept_step : (bytes : List ℕ) (area : scripts.Area) (text : List ℕ) (b : ℕ) (v : Bool)
    → nat_lt (length text) 65537 ≡ v
    → lines_from (scripts.InCommand area (text ++ b ∷ [])) bytes
    ≡ lines_from (scripts.InCommand area (with_byte 65537 text b)) bytes
command_kept_step bytes area text b true e = rw e refl
command_kept_step bytes area text b false e =
    rw e (command_long bytes area text (b ∷ []) (ltb-false (length text) 65537 e))

command_kept : (bytes : List ℕ) (area : scripts.Area) (text : List ℕ) (b : ℕ)
    → lines_from (scripts.InCommand area (text ++ b ∷ [])) bytes
    ≡ lines_from (scripts.InCommand area (with_byte 65537 text b)) bytes
command_kept bytes area text b = command_kept_step bytes area text b (nat_lt (length text) 65537) refl

marked_long_step : (b : ℕ) (bytes text more : List ℕ) → 65538 ≤ length text
    → ((more : List ℕ) → lines_from (scripts.InMarked (text ++ more)) bytes ≡ lines_from (scripts.InMarked text) bytes)
    → (v : Bool) → (b == 10) ≡ v
    → lines_from (scripts.InMarked (text ++ more)) (b ∷ bytes) ≡ lines_from (scripts.InMarked text) (b ∷ bytes)
unfolding lines_from
marked_long_step b bytes text more long again true e =
    rw e (ap (λ line. line ∷ lines_from scripts.Gap bytes) (returned_front text more long))
marked_long_step b bytes text more long again false e =
    rw e (ap (λ t. lines_from (scripts.InMarked t) bytes) (append_assoc text more (b ∷ []))
    ∙ again (more ++ b ∷ []) ∙ sym (again (b ∷ [])))

marked_long : (bytes text more : List ℕ) → 65538 ≤ length text
    → lines_from (scripts.InMarked (text ++ more)) bytes ≡ lines_from (scripts.InMarked text) bytes
unfolding lines_from
marked_long [] text more long = ap (λ line. line ∷ []) (marked_front text more long)
marked_long (b ∷ bytes) text more long =
    marked_long_step b bytes text more long (λ others. marked_long bytes text others long) (b == 10) refl

marked_kept_step : (bytes text : List ℕ) (b : ℕ) (v : Bool) → nat_lt (length text) 65538 ≡ v
    → lines_from (scripts.InMarked (text ++ b ∷ [])) bytes
    ≡ lines_from (scripts.InMarked (with_byte 65538 text b)) bytes
marked_kept_step bytes text b true e = rw e refl
marked_kept_step bytes text b false e = rw e (marked_long bytes text (b ∷ []) (ltb-false (length text) 65538 e))

marked_kept : (bytes text : List ℕ) (b : ℕ)
    → lines_from (scripts.InMarked (text ++ b ∷ [])) bytes
    ≡ lines_from (scripts.InMarked (with_byte 65538 text b)) bytes
marked_kept bytes text b = marked_kept_step bytes text b (nat_lt (length text) 65538) refl

-- ---- one byte

-- the lines from the next place on, or the line that ends and those behind it
abbrev pub goes : Option ScriptPlace → Line → List ℕ → List ℕ → List Line
goes (Some after) line text bytes = lines_at after text bytes
goes None line text bytes = line ∷ lines_from scripts.Gap bytes

command_cases : (area : Area) (text : List ℕ) (b : ℕ) (bytes : List ℕ) (v : Bool) → ends area b ≡ v
    → lines_from (scripts.InCommand (area_of area (b ∷ bytes)) text) (b ∷ bytes)
    ≡ goes (behind_command area b) (command_line text) (with_byte 65537 text b) bytes
unfolding lines_from
command_cases area text b bytes true e =
    let ended = ends_same area b bytes ∙ e in rw (ended, e) refl
command_cases area text b bytes false e =
    let goes_on = ends_same area b bytes ∙ e in
    rw (goes_on, e) (ap (λ after. lines_from (scripts.InCommand after (text ++ b ∷ [])) bytes) (area_step area b bytes)
    ∙ command_kept bytes (area_of (behind area b) bytes) text b)

command_step : (area : Area) (text : List ℕ) (b : ℕ) (bytes : List ℕ)
    → lines_from (scripts.InCommand (area_of area (b ∷ bytes)) text) (b ∷ bytes)
    ≡ goes (behind_command area b) (command_line text) (with_byte 65537 text b) bytes
command_step area text b bytes = command_cases area text b bytes (ends area b) refl

-- what may be a comment goes on
opening_goes_on : (closed : Bool) (area after : scripts.Area) (text : List ℕ) (b : ℕ) (bytes : List ℕ)
    → ends_command area b ≡ false → area_behind area b bytes ≡ after → gap_at after ≡ scripts.GapComment after
    → (if closed then lines_from (scripts.GapComment area) (b ∷ bytes)
    else lines_from (scripts.InCommand area text) (b ∷ bytes))
    ≡ (if closed then lines_from (scripts.GapComment after) bytes
    else lines_from (scripts.InCommand after (with_byte 65537 text b)) bytes)
unfolding lines_from
opening_goes_on true area after text b bytes goes_on moved inside =
    ap (λ a. lines_from (gap_at a) bytes) moved ∙ ap (λ place. lines_from place bytes) inside
opening_goes_on false area after text b bytes goes_on moved inside =
    rw goes_on
    (ap (λ a. lines_from (scripts.InCommand a (text ++ b ∷ [])) bytes) moved ∙ command_kept bytes after text b)

star_inside : (v : Bool)
    → gap_at (if v then scripts.CommentSlash else scripts.Comment)
    ≡ scripts.GapComment (if v then scripts.CommentSlash else scripts.Comment)
star_inside true = refl
star_inside false = refl

comment_cases : (text : List ℕ) (b : ℕ) (bytes : List ℕ) (v : Bool) → (b == 42) ≡ v
    → lines_at (Opening areas.Comment) text (b ∷ bytes)
    ≡ lines_at (Opening (behind_comment b)) (with_byte 65537 text b) bytes
unfolding area_behind
comment_cases text b bytes true e =
    rw (eqb-true b 42 e)
    (opening_goes_on (has_comment_end (42 ∷ bytes)) scripts.Comment (area_of areas.Star bytes) text 42 bytes refl refl
    (star_inside (begins_with (is_byte 47) bytes)))
comment_cases text b bytes false e =
    let moved : area_behind scripts.Comment b bytes ≡ scripts.Comment = rw e refl in
    rw e (opening_goes_on (has_comment_end bytes) scripts.Comment scripts.Comment text b bytes refl moved refl)

comment_opening : (text : List ℕ) (b : ℕ) (bytes : List ℕ)
    → lines_at (Opening areas.Comment) text (b ∷ bytes)
    ≡ lines_at (Opening (behind_comment b)) (with_byte 65537 text b) bytes
comment_opening text b bytes = comment_cases text b bytes (b == 42) refl

minus_cases : (text : List ℕ) (b : ℕ) (bytes : List ℕ) (v : Bool) → (b == 45) ≡ v
    → lines_at (Opening areas.Minus) text (b ∷ bytes)
    ≡ goes (behind_opening areas.Minus b) (command_line text) (with_byte 65537 text b) bytes
unfolding lines_from area_behind
minus_cases text b bytes true e = rw (eqb-true b 45 e) refl
minus_cases text b bytes false e =
    otherwise (45 == b) _ _ (swapped 45 b false e)
    ∙ command_step areas.Minus text b bytes
    ∙ ap (λ after. goes after (command_line text) (with_byte 65537 text b) bytes)
    (sym (otherwise (b == 45) (Some GapComment) (behind_command areas.Minus b) e))

slash_cases : (text : List ℕ) (b : ℕ) (bytes : List ℕ) (v : Bool) → (b == 42) ≡ v
    → lines_at (Opening areas.Slash) text (b ∷ bytes)
    ≡ goes (behind_opening areas.Slash b) (command_line text) (with_byte 65537 text b) bytes
unfolding area_behind
slash_cases text b bytes true e =
    rw (eqb-true b 42 e)
    (opening_goes_on (has_comment_end bytes) scripts.CommentStar scripts.Comment text 42 bytes refl refl refl)
slash_cases text b bytes false e =
    let apart : closes areas.Slash (b ∷ bytes) ≡ false = rw (swapped 42 b false e) refl in
    otherwise (closes areas.Slash (b ∷ bytes)) _ _ apart
    ∙ command_step areas.Slash text b bytes
    ∙ ap (λ after. goes after (command_line text) (with_byte 65537 text b) bytes)
    (sym (otherwise (b == 42) (Some (Opening areas.Comment)) (behind_command areas.Slash b) e))

star_cases : (text : List ℕ) (b : ℕ) (bytes : List ℕ) (v : Bool) → (b == 47) ≡ v
    → lines_at (Opening areas.Star) text (b ∷ bytes)
    ≡ goes (behind_opening areas.Star b) (command_line text) (with_byte 65537 text b) bytes
unfolding lines_from area_behind
star_cases text b bytes true e = rw (eqb-true b 47 e) refl
star_cases text b bytes false e = rw (swapped 47 b false e, e) (comment_opening text b bytes)

opening_step : (area : Area) (text : List ℕ) (b : ℕ) (bytes : List ℕ)
    → lines_at (Opening area) text (b ∷ bytes)
    ≡ goes (behind_opening area b) (command_line text) (with_byte 65537 text b) bytes
opening_step areas.Plain text b bytes = command_step areas.Plain text b bytes
opening_step areas.Minus text b bytes = minus_cases text b bytes (b == 45) refl
opening_step areas.Slash text b bytes = slash_cases text b bytes (b == 42) refl
opening_step (areas.Between quote) text b bytes = command_step (areas.Between quote) text b bytes
opening_step areas.LineComment text b bytes = command_step areas.LineComment text b bytes
opening_step areas.Comment text b bytes = comment_opening text b bytes
opening_step areas.Star text b bytes = star_cases text b bytes (b == 47) refl

minus_gap : (bytes : List ℕ) (v : Bool) → begins_with (is_byte 45) bytes ≡ v
    → lines_from (place_behind 45 bytes) bytes ≡ lines_at (Opening areas.Minus) (45 ∷ []) bytes
unfolding place_behind area_behind
minus_gap bytes true e = rw e refl
minus_gap bytes false e = rw e refl

slash_gap : (bytes : List ℕ) (v w : Bool) → begins_with (is_byte 42) bytes ≡ v → has_comment_end (drop 1 bytes) ≡ w
    → lines_from (place_behind 47 bytes) bytes ≡ lines_at (Opening areas.Slash) (47 ∷ []) bytes
unfolding place_behind area_behind
slash_gap bytes true true e f = rw (e, f) refl
slash_gap bytes true false e f = rw (e, f) refl
slash_gap bytes false w e f = rw e refl

gap_cases : (b : ℕ) (bytes : List ℕ) (g m h s : Bool) → is_gap b ≡ g → (b == 33) ≡ m → (b == 45) ≡ h → (b == 47) ≡ s
    → lines_from (place_behind b bytes) bytes ≡ lines_at (behind_gap b) (b ∷ []) bytes
unfolding place_behind
gap_cases b bytes true m h s eg em eh es = rw eg refl
gap_cases b bytes false true h s eg em eh es = rw (eg, em) refl
gap_cases b bytes false false true s eg em eh es =
    rw (eqb-true b 45 eh) (minus_gap bytes (begins_with (is_byte 45) bytes) refl)
gap_cases b bytes false false false true eg em eh es =
    rw (eqb-true b 47 es) (slash_gap bytes (begins_with (is_byte 42) bytes) (has_comment_end (drop 1 bytes)) refl refl)
gap_cases b bytes false false false false eg em eh es =
    let begins : place_behind b bytes ≡ scripts.InCommand (area_behind scripts.Plain b bytes) (b ∷ []) =
    rw (eg, em, eh, es) refl in
    let same : behind_gap b ≡ Command (behind_plain b) = rw (eg, em, eh, es) refl in
    ap (λ place. lines_from place bytes) begins
    ∙ ap (λ area. lines_from (scripts.InCommand area (b ∷ [])) bytes) (plain_step b bytes)
    ∙ ap (λ place. lines_at place (b ∷ []) bytes) (sym same)

gap_step : (b : ℕ) (bytes : List ℕ) → lines_from scripts.Gap (b ∷ bytes) ≡ lines_at (behind_gap b) (b ∷ []) bytes
unfolding lines_from
gap_step b bytes = gap_cases b bytes (is_gap b) (b == 33) (b == 45) (b == 47) refl refl refl refl

line_cases : (line : Line) (text : List ℕ) (b : ℕ) (bytes : List ℕ) (v : Bool) → (b == 10) ≡ v
    → lines_at GapComment text (b ∷ bytes) ≡ goes (next GapComment b) line text bytes
unfolding lines_from area_behind
line_cases line text b bytes true e =
    let moved : area_behind scripts.LineComment b bytes ≡ scripts.Plain = rw e refl in
    let same : next GapComment b ≡ Some Gap = rw e refl in
    ap (λ area. lines_from (gap_at area) bytes) moved ∙ ap (λ after. goes after line text bytes) (sym same)
line_cases line text b bytes false e =
    let moved : area_behind scripts.LineComment b bytes ≡ scripts.LineComment = rw e refl in
    let same : next GapComment b ≡ Some GapComment = rw e refl in
    ap (λ area. lines_from (gap_at area) bytes) moved ∙ ap (λ after. goes after line text bytes) (sym same)

marked_cases : (text : List ℕ) (b : ℕ) (bytes : List ℕ) (v : Bool) → (b == 10) ≡ v
    → lines_at Marked text (b ∷ bytes) ≡ goes (next Marked b) (line_at Marked text) (with_byte 65538 text b) bytes
unfolding lines_from
marked_cases text b bytes true e = rw e refl
marked_cases text b bytes false e = rw e (marked_kept bytes text b)

-- a byte moves the place, or ends a line
pub one_step : (place : ScriptPlace) (text : List ℕ) (b : ℕ) (bytes : List ℕ)
    → lines_at place text (b ∷ bytes) ≡ goes (next place b) (line_at place text) (kept place text b) bytes
one_step Gap text b bytes = gap_step b bytes
one_step GapComment text b bytes = line_cases (line_at GapComment text) text b bytes (b == 10) refl
one_step Marked text b bytes = marked_cases text b bytes (b == 10) refl
one_step (Opening area) text b bytes = opening_step area text b bytes
one_step (Command area) text b bytes = command_step area text b bytes

opening_ends : (area : Area) (text : List ℕ) → lines_at (Opening area) text [] ≡ command_line text ∷ []
unfolding lines_from
opening_ends areas.Plain text = refl
opening_ends areas.Minus text = refl
opening_ends areas.Slash text = refl
opening_ends (areas.Between quote) text = refl
opening_ends areas.LineComment text = refl
opening_ends areas.Comment text = refl
opening_ends areas.Star text = refl

-- the end of the script ends the last line
pub at_end : (place : ScriptPlace) (text : List ℕ) → lines_at place text [] ≡ last_line_at place text
unfolding lines_from
at_end Gap text = refl
at_end GapComment text = refl
at_end Marked text = refl
at_end (Opening area) text = opening_ends area text
at_end (Command area) text = refl

-- ---- plain bytes

plain_cases : (text : List ℕ) (b : ℕ) (bytes : List ℕ) (q d m s e : Bool) → (b == 39) ≡ q → (b == 34) ≡ d
    → (b == 45) ≡ m → (b == 47) ≡ s → (b == 59) ≡ e → is_plain b ≡ true
    → lines_from (scripts.InCommand scripts.Plain text) (b ∷ bytes)
    ≡ lines_from (scripts.InCommand scripts.Plain (text ++ b ∷ [])) bytes
unfolding lines_from area_behind
plain_cases text b bytes true d m s e eq ed em es ee plain =
    let other : is_plain b ≡ false = rw eq refl in absurd (cc)
plain_cases text b bytes false true m s e eq ed em es ee plain =
    let other : is_plain b ≡ false = rw (eq, ed) refl in absurd (cc)
plain_cases text b bytes false false true s e eq ed em es ee plain =
    let other : is_plain b ≡ false = rw (eq, ed, em) refl in absurd (cc)
plain_cases text b bytes false false false true e eq ed em es ee plain =
    let other : is_plain b ≡ false = rw (eq, ed, em, es) refl in absurd (cc)
plain_cases text b bytes false false false false true eq ed em es ee plain =
    let other : is_plain b ≡ false = rw (eq, ed, em, es, ee) refl in absurd (cc)
plain_cases text b bytes false false false false false eq ed em es ee plain = rw (eq, ed, em, es, ee) refl

plain_byte : (text : List ℕ) (b : ℕ) (bytes : List ℕ) → is_plain b ≡ true
    → lines_from (scripts.InCommand scripts.Plain text) (b ∷ bytes)
    ≡ lines_from (scripts.InCommand scripts.Plain (text ++ b ∷ [])) bytes
plain_byte text b bytes plain =
    plain_cases text b bytes (b == 39) (b == 34) (b == 45) (b == 47) (b == 59) refl refl refl refl refl plain

-- a command goes on over plain bytes
pub plain_run : (run text rest : List ℕ) → list_all is_plain run ≡ true
    → lines_at (Command areas.Plain) (text ++ run) rest ≡ lines_at (Command areas.Plain) text (run ++ rest)
plain_run [] text rest all = ap (λ t. lines_at (Command areas.Plain) t rest) (append-nil text)
plain_run (b ∷ run) text rest all =
    let both = and_parts (is_plain b) (list_all is_plain run) all in
    ap (λ t. lines_at (Command areas.Plain) t rest) (sym (append_assoc text (b ∷ []) run))
    ∙ plain_run run (text ++ b ∷ []) rest both.1
    ∙ sym (plain_byte text b (run ++ rest) both.0)
