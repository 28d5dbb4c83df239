-- What a function value reads.
--     Nests          what stands inside a condition, to a depth
--     ReadsOption    one option more, if one comes next
use Rattle.std.specs.Prelude.{ℕ, List, Option, Result}
use Rattle.std.specs.declared.alloc.Global.{Global}
use denote.Ref.{MutBor}
use Rattle.wh_ast.specs.declared.statement.WhenCondition.{WhenCondition}
use Rattle.wh_grammar.specs.Token.{Token}
use Rattle.wh_cursor.specs.declared.fault.ParseFault.{ParseFault}
use Rattle.wh_cursor.specs.Gives.{Reads}
use Rattle.wh_cursor.specs.Steps.{Reader}
use Rattle.wh_option_parse.specs.declared.levels.Level.{Level}
use Rattle.wh_option_parse.specs.Read.{nested}

pub record Nests (depth : ℕ) (pre : Global → MutBor (List Token) → ℕ → Level → Type 0)
    (post : Global → MutBor (List Token) → ℕ → Level → Result WhenCondition ParseFault → MutBor (List Token)
    → Type 0) : Type 0 where
  pub callable : (alloc : Global) (old : MutBor (List Token)) (level : Level) → pre alloc old depth level
  pub reads : (alloc : Global) (old new : MutBor (List Token)) (level : Level) (r : Result WhenCondition ParseFault)
      → post alloc old depth level r new
      → Reads (nested depth level old.now) r new.now

pub record ReadsOption {P : Type 0} (option : P → Reader (Option P))
    (post : Global → MutBor (List Token) → P → Result (Option P) ParseFault → MutBor (List Token) → Type 0)
    : Type 0 where
  pub reads : (alloc : Global) (old new : MutBor (List Token)) (parts : P) (r : Result (Option P) ParseFault)
      → post alloc old parts r new
      → Reads (option parts old.now) r new.now
