-- What a command's text asks for, case by case.
use Rattle.std.proofs.Common.{◌≡◌, ℕ, ◌<◌, ◌≤◌, List, Option, true, false, ltb, length, ap, ◌∙◌}
use Rattle.std.proofs.lemmas.Bool.{lt-ltb, le-ltb}
use Rattle.wh_ast.specs.declared.statement.Statement as tree
use Rattle.wh_grammar.specs.Spelled.{TooLong}
use Rattle.wh_stmt_parse.specs.Read.{read_statement}
use Rattle.wh_stmt_parse.specs.Request.{request_by, request_of}

abbrev Tree : Type 0
Tree = tree.Statement

pub long_request : (text : List ℕ) → 65536 < length text → request_of text ≡ TooLong
unfolding request_of
long_request text h =
    let test : ltb 65536 (length text) ≡ true = lt-ltb _ _ h in
    rw test

as_read : (text : List ℕ) → length text ≤ 65536 → request_of text ≡ request_by (read_statement text)
unfolding request_of
as_read text h =
    let test : ltb 65536 (length text) ≡ false = le-ltb _ _ h in
    rw test

pub short_request : (text : List ℕ) (found : Option Tree) → length text ≤ 65536 → read_statement text ≡ found
    → request_of text ≡ request_by found
short_request text found h is = as_read text h ∙ ap request_by is
