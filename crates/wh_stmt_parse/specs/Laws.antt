-- What holds of texts and statements.
--     ReadsTexts            read_statement gives the statement that the text spells, exactly where it spells one
--     TextFixesStatement    no text spells two
--     ReadsRequests         request_of gives what the text asks for
use Rattle.std.specs.Prelude.{◌≡◌, ◌↔◌, ℕ, List, Some}
use Rattle.wh_ast.specs.declared.statement.Statement.{Statement}
use Rattle.wh_grammar.specs.Spelled.{Spells, Request, Asks}
use Rattle.wh_stmt_parse.specs.Read.{read_statement}
use Rattle.wh_stmt_parse.specs.Request.{request_of}

abbrev pub ReadsTexts : Type 0
ReadsTexts = (text : List ℕ) (s : Statement) → (read_statement text ≡ Some s) ↔ Spells text s

abbrev pub TextFixesStatement : Type 0
TextFixesStatement = (text : List ℕ) (s t : Statement) → Spells text s → Spells text t → s ≡ t

abbrev pub ReadsRequests : Type 0
ReadsRequests = (text : List ℕ) (r : Request) → (request_of text ≡ r) ↔ Asks text r
