-- What an expression is read from, and the steps that every rule is made of.
use Rattle.std.specs.Prelude.{ℕ, ◌-◌, Bool, ◌==◌, List, Option, Some, None, refl, if◌then◌else◌}
use Rattle.std.specs.Coded.{Coded, code_by, coded×, coded_ℕ, coded_list}
use Rattle.wh_grammar.specs.Token.{Token, coded_token}
use Rattle.wh_cursor.specs.declared.key.TokenClass.{TokenClass}
use Rattle.wh_cursor.specs.Keys.{key_of}
use Rattle.wh_cursor.specs.Steps.{ReaderOf, tail, sees}

-- the tokens that are left, and how many operators and IN items the expression may still have
pub record State : Type 0 where
  pub left : List Token
  pub room : ℕ

abbrev pub coded_state : Coded State
coded_state = code_by (List Token × ℕ) (coded× (coded_list coded_token) coded_ℕ) (λ s. (s.left, s.room))
    (λ p. record { left = p.0; room = p.1 }) (λ _. refl)

abbrev pub at : List Token → ℕ → State
at ts room = record { left = ts; room = room }

abbrev pub Reader : Type 0 → Type 0
Reader A = ReaderOf State A

abbrev pub peek : Reader TokenClass
peek = λ s. Some (key_of s.left, s)

abbrev pub next : State → State
next s = at (tail s.left) s.room

-- takes the token, whatever it is
abbrev pub skip : Reader (Unit {0})
skip = λ s. Some (tt, next s)

-- takes a token of this kind, if it comes next
abbrev pub eat : TokenClass → Reader Bool
eat key = λ s. Some (sees key s.left, if sees key s.left then next s else s)

unfoldable pub expect : TokenClass → Reader (Unit {0})
expect key = λ s. if sees key s.left then Some (tt, next s) else None

-- counts one operator or IN item
unfoldable pub spend : Reader (Unit {0})
spend = λ s. if s.room == 0 then None else Some (tt, at s.left (s.room - 1))

-- reads what takes no operator
abbrev pub moved : {A : Type 0} → ℕ → Option (A × List Token) → Option (A × State)
moved room None = None
moved room (Some p) = Some (p.0, at p.1 room)

abbrev pub plainly : {A : Type 0} → (List Token → Option (A × List Token)) → Reader A
plainly read = λ s. moved s.room (read s.left)
