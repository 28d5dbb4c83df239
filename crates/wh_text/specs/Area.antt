-- What an `Area` stands for. It remembers the byte before, where the definition of a script looks one byte ahead.
--     area_of     the area in which the first of the bytes stands
--     behind      the next area
--     ends        whether a byte ends the command
--     is_plain    whether a byte outside quotes and comments leaves the next one there, and ends nothing
use Rattle.std.specs.Prelude.{ℕ, Bool, false, not, ◌||◌, List, ◌==◌, if◌then◌else◌}
use Rattle.wh_grammar.specs.Lexing.{begins_with, is_byte}
use Rattle.wh_grammar.specs.Script as scripts
use Rattle.wh_text.specs.declared.area.Area.{Area}
use Rattle.wh_text.specs.declared.area.Area.TheVariants.{Plain, Minus, Slash, Between, LineComment, Comment, Star}

abbrev pub area_of : Area → List ℕ → scripts.Area
area_of Plain bytes = scripts.Plain
area_of Minus bytes = if begins_with (is_byte 45) bytes then scripts.LineComment else scripts.Plain
area_of Slash bytes = if begins_with (is_byte 42) bytes then scripts.CommentStar else scripts.Plain
area_of (Between quote) bytes = scripts.Between quote
area_of LineComment bytes = scripts.LineComment
area_of Comment bytes = scripts.Comment
area_of Star bytes = if begins_with (is_byte 47) bytes then scripts.CommentSlash else scripts.Comment

abbrev pub behind_plain : ℕ → Area
behind_plain b =
    if b == 39 || b == 34 then Between b
    else if b == 45 then Minus
    else if b == 47 then Slash
    else Plain

abbrev pub behind_comment : ℕ → Area
behind_comment b = if b == 42 then Star else Comment

abbrev pub behind : Area → ℕ → Area
behind Plain b = behind_plain b
behind Minus b = if b == 45 then LineComment else behind_plain b
behind Slash b = if b == 42 then Comment else behind_plain b
behind (Between quote) b = if b == quote then Plain else Between quote
behind LineComment b = if b == 10 then Plain else LineComment
behind Comment b = behind_comment b
behind Star b = if b == 47 then Plain else behind_comment b

abbrev pub ends : Area → ℕ → Bool
ends Plain b = b == 59
ends Minus b = b == 59
ends Slash b = b == 59
ends (Between quote) b = false
ends LineComment b = false
ends Comment b = false
ends Star b = false

abbrev pub is_plain : ℕ → Bool
is_plain b = not (b == 39 || b == 34 || b == 45 || b == 47 || b == 59)
