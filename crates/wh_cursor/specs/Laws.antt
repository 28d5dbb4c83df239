-- What holds of names among tokens.
--     ReadsNames     read_name gives the name that the tokens begin with, exactly where they begin with one
--     NameIsFront    a name is a front of the tokens, and not empty
use Rattle.std.specs.Prelude.{◌≡◌, ◌↔◌, ℕ, List, ◌∷◌, ◌++◌, Some}
use Rattle.wh_grammar.specs.Token.{Token}
use Rattle.wh_grammar.specs.Name.{IsName}
use Rattle.wh_cursor.specs.Steps.{read_name}

-- us are what is left of ts behind one token or more
pub record Follows (ts us : List Token) : Type 0 where
  pub first : Token
  pub more : List Token
  pub is : ts ≡ first ∷ (more ++ us)

abbrev pub ReadsNames : Type 0
ReadsNames = (ts : List Token) (name : List ℕ) (us : List Token) → (read_name ts ≡ Some (name, us)) ↔ IsName ts name us

abbrev pub NameIsFront : Type 0
NameIsFront = (ts : List Token) (name : List ℕ) (us : List Token) → IsName ts name us → Follows ts us
