-- A function value that reads the query in parentheses, to a depth.
use Rattle.std.specs.Prelude.{ℕ, List, Result}
use Rattle.std.specs.declared.alloc.Global.{Global}
use denote.Ref.{MutBor}
use Rattle.wh_ast.specs.declared.query.Query.{Query}
use Rattle.wh_grammar.specs.Token.{Token}
use Rattle.wh_cursor.specs.declared.fault.ParseFault.{ParseFault}
use Rattle.wh_cursor.specs.Gives.{Reads}
use Rattle.wh_query_parse.specs.Read.{nested}

pub record Nests (depth : ℕ) (pre : Global → MutBor (List Token) → ℕ → Type 0)
    (post : Global → MutBor (List Token) → ℕ → Result Query ParseFault → MutBor (List Token) → Type 0) : Type 0 where
  pub callable : (alloc : Global) (old : MutBor (List Token)) → pre alloc old depth
  pub reads : (alloc : Global) (old new : MutBor (List Token)) (r : Result Query ParseFault)
      → post alloc old depth r new
      → Reads (nested depth old.now) r new.now
