-- What lines of the code stand for.
use Rattle.wh_grammar.specs.Script as scripts
use Rattle.wh_text.specs.declared.line.Line.{Line}
use Rattle.wh_text.specs.declared.line.Line.TheVariants as lines

abbrev pub line_view : Line → scripts.Line
line_view (lines.Command text) = scripts.CommandLine text
line_view (lines.Session session) = scripts.SessionLine session
line_view (lines.Tick reading) = scripts.TickLine reading
