-- What a command's text asks for, read from its bytes.
--     request_of     too long, unreadable, or a statement
use Rattle.std.specs.Prelude.{ℕ, List, Option, Some, None, length, nat_lt, if◌then◌else◌}
use Rattle.wh_value.specs.Limit.{bound}
use Rattle.wh_value.specs.declared.limit.Limit.TheVariants as limits
use Rattle.wh_ast.specs.declared.statement.Statement.{Statement}
use Rattle.wh_grammar.specs.Spelled.{Request, TooLong, Unreadable, Asked}
use Rattle.wh_stmt_parse.specs.Read.{read_statement}

abbrev pub request_by : Option Statement → Request
request_by None = Unreadable
request_by (Some s) = Asked s

unfoldable pub request_of : List ℕ → Request
request_of text = if nat_lt (bound limits.Statement) (length text) then TooLong else request_by (read_statement text)
