-- What a `ScriptPlace` stands for, with the text so far.
--     lines_at    the lines from a place on
--     line_at     the line that ends at a place
--     next        the next place, where no line ends
--     kept        the text with one byte more
--     most        how many bytes the text has at most
--     begun       1 where a line has begun
use Rattle.std.specs.Prelude.{ℕ, Bool, false, ◌&&◌, ◌||◌, List, [], ◌∷◌, ◌++◌, length, drop, Option, Some, None, nat_lt}
use Rattle.std.specs.Prelude.{◌==◌, if◌then◌else◌}
use Rattle.wh_grammar.specs.Bytes.{is_blank}
use Rattle.wh_grammar.specs.Lexing.{begins_with, is_byte, has_comment_end}
use Rattle.wh_grammar.specs.Script as scripts
use Rattle.wh_text.specs.Area.{area_of, behind, ends}
use Rattle.wh_text.specs.declared.area.Area.{Area}
use Rattle.wh_text.specs.declared.area.Area.TheVariants as areas
use Rattle.wh_text.specs.declared.place.ScriptPlace.{ScriptPlace}
use Rattle.wh_text.specs.declared.place.ScriptPlace.TheVariants.{Gap, GapComment, Marked, Opening, Command}

-- whether the bytes end what may be a comment between commands
abbrev pub closes : Area → List ℕ → Bool
closes areas.Plain bytes = false
closes areas.Minus bytes = begins_with (is_byte 45) bytes
closes areas.Slash bytes = begins_with (is_byte 42) bytes && has_comment_end (drop 1 bytes)
closes (areas.Between quote) bytes = false
closes areas.LineComment bytes = false
closes areas.Comment bytes = has_comment_end bytes
closes areas.Star bytes = has_comment_end (42 ∷ bytes)

abbrev pub lines_at : ScriptPlace → List ℕ → List ℕ → List scripts.Line
lines_at Gap text bytes = scripts.lines_from scripts.Gap bytes
lines_at GapComment text bytes = scripts.lines_from (scripts.GapComment scripts.LineComment) bytes
lines_at Marked text bytes = scripts.lines_from (scripts.InMarked text) bytes
lines_at (Opening area) text bytes =
    if closes area bytes then scripts.lines_from (scripts.GapComment (area_of area bytes)) bytes
    else scripts.lines_from (scripts.InCommand (area_of area bytes) text) bytes
lines_at (Command area) text bytes = scripts.lines_from (scripts.InCommand (area_of area bytes) text) bytes

abbrev pub line_at : ScriptPlace → List ℕ → scripts.Line
line_at Gap text = scripts.command_line text
line_at GapComment text = scripts.command_line text
line_at Marked text = scripts.marked_line (scripts.without_return text)
line_at (Opening area) text = scripts.command_line text
line_at (Command area) text = scripts.command_line text

-- the line that the end of the script ends, if one does
abbrev pub last_line_at : ScriptPlace → List ℕ → List scripts.Line
last_line_at Gap text = []
last_line_at GapComment text = []
last_line_at Marked text = scripts.marked_line text ∷ []
last_line_at (Opening area) text = scripts.command_line text ∷ []
last_line_at (Command area) text = scripts.command_line text ∷ []

abbrev pub is_gap : ℕ → Bool
is_gap b = is_blank b || b == 59

abbrev pub behind_gap : ℕ → ScriptPlace
behind_gap b =
    if is_gap b then Gap
    else if b == 33 then Marked
    else if b == 45 then Opening areas.Minus
    else if b == 47 then Opening areas.Slash
    else Command (behind areas.Plain b)

abbrev pub behind_command : Area → ℕ → Option ScriptPlace
behind_command area b = if ends area b then None else Some (Command (behind area b))

abbrev pub behind_opening : Area → ℕ → Option ScriptPlace
behind_opening areas.Plain b = behind_command areas.Plain b
behind_opening areas.Minus b = if b == 45 then Some GapComment else behind_command areas.Minus b
behind_opening areas.Slash b = if b == 42 then Some (Opening areas.Comment) else behind_command areas.Slash b
behind_opening (areas.Between quote) b = behind_command (areas.Between quote) b
behind_opening areas.LineComment b = behind_command areas.LineComment b
behind_opening areas.Comment b = Some (Opening (behind areas.Comment b))
behind_opening areas.Star b = if b == 47 then Some Gap else Some (Opening (behind areas.Star b))

abbrev pub next : ScriptPlace → ℕ → Option ScriptPlace
next Gap b = Some (behind_gap b)
next GapComment b = if b == 10 then Some Gap else Some GapComment
next Marked b = if b == 10 then None else Some Marked
next (Opening area) b = behind_opening area b
next (Command area) b = behind_command area b

-- a text with one byte more, where it has not so many yet
abbrev pub with_byte : ℕ → List ℕ → ℕ → List ℕ
with_byte most text b = if nat_lt (length text) most then text ++ b ∷ [] else text

abbrev pub kept : ScriptPlace → List ℕ → ℕ → List ℕ
kept Gap text b = b ∷ []
kept GapComment text b = text
kept Marked text b = with_byte 65538 text b
kept (Opening area) text b = with_byte 65537 text b
kept (Command area) text b = with_byte 65537 text b

-- how many bytes the text has at most
abbrev pub most : ScriptPlace → ℕ
most Marked = 65538
most _ = 65537

-- 1 where a line has begun
abbrev pub begun : ScriptPlace → ℕ
begun Gap = 0
begun GapComment = 0
begun Marked = 1
begun (Opening area) = 1
begun (Command area) = 1
