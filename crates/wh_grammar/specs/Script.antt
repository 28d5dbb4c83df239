-- The lines of a script.
--     Line         a command's text, a session's number, or a tick with its reading if one is written
--     lines_of     the lines of a script
use Rattle.std.specs.Prelude.{ℕ, Bool, false, ◌&&◌, ◌||◌, List, [], ◌∷◌, ◌++◌, ◌==◌, if◌then◌else◌, length, take, drop}
use Rattle.std.specs.Prelude.{Option, Some, None, nat_le, nat_eq, codes, bytes_eq}
use Rattle.std.specs.List.{list_all, starts_with}
use Rattle.wh_grammar.specs.Bytes.{is_blank, is_digit, number_behind}
use Rattle.wh_grammar.specs.Lexing.{begins_with, is_byte, has_comment_end}

pub data Line : Type 0 where
  CommandLine : (text : List ℕ) → Line
  SessionLine : (session : ℕ) → Line
  TickLine : (reading : Option ℕ) → Line

-- ---- lines that begin with `!`

-- the number of 1 to so many digits behind a word
abbrev pub number_after : List ℕ → ℕ → List ℕ → Option ℕ
number_after word most text =
    if starts_with nat_eq text word && nat_le 1 (length digits) && nat_le (length digits) most
    && list_all is_digit digits
    then Some (number_behind 0 digits) else None
  where
    digits : List ℕ
    digits = drop (length word) text

-- of a longer text its first 65,537 bytes are handed on
abbrev pub command_line : List ℕ → Line
command_line text = CommandLine (take 65537 text)

abbrev pub tick_or : Option ℕ → Line → Line
tick_or None other = other
tick_or (Some reading) other = TickLine (Some reading)

abbrev pub session_or : Option ℕ → Line → Line
session_or None other = other
session_or (Some session) other = SessionLine session

-- `!tick`, `!tick MS`, `!session N`, with one space before the number; any other is a command
unfoldable pub marked_line : List ℕ → Line
marked_line text =
    if bytes_eq text (codes "!tick") then TickLine None
    else tick_or (number_after (codes "!tick ") 18 text)
    (session_or (number_after (codes "!session ") 9 text) (command_line text))

-- a CR before the end of the line is dropped
unfoldable pub without_return : List ℕ → List ℕ
without_return [] = []
without_return (b ∷ []) = if b == 13 then [] else b ∷ []
without_return (b ∷ c ∷ bytes) = b ∷ without_return (c ∷ bytes)

-- ---- commands

-- where a byte of a command stands: outside quotes and comments, between quotes of that byte, in a comment to the end
-- of the line, at the star that a comment opens with, inside it, and at the slash that it closes with
pub data Area : Type 0 where
  Plain : Area
  Between : (quote : ℕ) → Area
  LineComment : Area
  CommentStar : Area
  Comment : Area
  CommentSlash : Area

-- where the next byte stands, behind one in an area and before the others
unfoldable pub area_behind : Area → ℕ → List ℕ → Area
area_behind Plain b bytes =
    if b == 39 || b == 34 then Between b
    else if b == 45 && begins_with (is_byte 45) bytes then LineComment
    else if b == 47 && begins_with (is_byte 42) bytes then CommentStar
    else Plain
area_behind (Between quote) b bytes = if b == quote then Plain else Between quote
area_behind LineComment b bytes = if b == 10 then Plain else LineComment
area_behind CommentStar b bytes = Comment
area_behind Comment b bytes = if b == 42 && begins_with (is_byte 47) bytes then CommentSlash else Comment
area_behind CommentSlash b bytes = Plain

-- a `;` outside quotes and comments ends a command
abbrev pub ends_command : Area → ℕ → Bool
ends_command Plain b = b == 59
ends_command (Between quote) b = false
ends_command LineComment b = false
ends_command CommentStar b = false
ends_command Comment b = false
ends_command CommentSlash b = false

-- ---- whole scripts

-- where a byte of a script stands: between commands, there but in a comment, or behind so many bytes
-- of a marked line or of a command
pub data ScriptPlace : Type 0 where
  Gap : ScriptPlace
  GapComment : Area → ScriptPlace
  InMarked : (text : List ℕ) → ScriptPlace
  InCommand : Area → (text : List ℕ) → ScriptPlace

-- behind a comment between commands
abbrev pub gap_at : Area → ScriptPlace
gap_at Plain = Gap
gap_at (Between quote) = Gap
gap_at LineComment = GapComment LineComment
gap_at CommentStar = GapComment CommentStar
gap_at Comment = GapComment Comment
gap_at CommentSlash = GapComment CommentSlash

-- between commands: blanks and `;` are passed over, and comments that end; a `!` begins a
-- line, and any other byte a command
unfoldable pub place_behind : ℕ → List ℕ → ScriptPlace
place_behind b bytes =
    if is_blank b || b == 59 then Gap
    else if b == 33 then InMarked (b ∷ [])
    else if b == 45 && begins_with (is_byte 45) bytes then GapComment LineComment
    else if b == 47 && begins_with (is_byte 42) bytes && has_comment_end (drop 1 bytes) then GapComment CommentStar
    else InCommand (area_behind Plain b bytes) (b ∷ [])

-- the lines from a place on
unfoldable pub lines_from : ScriptPlace → List ℕ → List Line
lines_from Gap [] = []
lines_from (GapComment area) [] = []
lines_from (InMarked text) [] = marked_line text ∷ []
lines_from (InCommand area text) [] = command_line text ∷ []
lines_from Gap (b ∷ bytes) = lines_from (place_behind b bytes) bytes
lines_from (GapComment area) (b ∷ bytes) = lines_from (gap_at (area_behind area b bytes)) bytes
lines_from (InMarked text) (b ∷ bytes) =
    if b == 10 then marked_line (without_return text) ∷ lines_from Gap bytes
    else lines_from (InMarked (text ++ b ∷ [])) bytes
lines_from (InCommand area text) (b ∷ bytes) =
    if ends_command area b then command_line text ∷ lines_from Gap bytes
    else lines_from (InCommand (area_behind area b bytes) (text ++ b ∷ [])) bytes

abbrev pub lines_of : List ℕ → List Line
lines_of script = lines_from Gap script
