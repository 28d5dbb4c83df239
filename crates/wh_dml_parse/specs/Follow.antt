-- What may follow a statement that changes rows, and what may follow names.
--     IsDmlAt        a statement that changes rows, which takes all tokens
--     ends_names     whether no comma comes next
--     AreNamesAt     names, where no comma behind them goes on with them
use Rattle.std.specs.Prelude.{◌≡◌, ℕ, Bool, true, false, List, [], ◌∷◌}
use Rattle.wh_ast.specs.declared.dml.Dml.{Dml}
use Rattle.wh_grammar.specs.Token.{Token, SignToken, Comma}
use Rattle.wh_grammar.specs.Changing.{AreNames, IsDml}

pub record IsDmlAt (d : ℕ) (ts : List Token) (x : Dml) (us : List Token) : Type 0 where
  pub dml : IsDml d ts x us
  pub ends : us ≡ []

abbrev pub ends_names : List Token → Bool
ends_names (SignToken Comma ∷ us) = false
ends_names _ = true

pub record AreNamesAt (ts : List Token) (found : List (List ℕ)) (us : List Token) : Type 0 where
  pub names : AreNames ts found us
  pub ends : ends_names us ≡ true
