-- Tokens of a text.
use Rattle.std.specs.Prelude.{◌≡◌, ℕ, zero, suc, List, [], ◌∷◌, slice_get, unwrap_or, refl}
use Rattle.std.specs.Coded.{Coded, code_by, coded_ℕ, coded_list, coded×}

pub data Sign : Type 0 where
  LParen : Sign
  RParen : Sign
  Comma : Sign
  Dot : Sign
  Star : Sign
  Plus : Sign
  Minus : Sign
  Equal : Sign
  Unequal : Sign
  Less : Sign
  AtMost : Sign
  Greater : Sign
  AtLeast : Sign
  Arrow : Sign

-- a word in upper case, a quoted name and a text without their quotes, a number, or a sign
pub data Token : Type 0 where
  Word : List ℕ → Token
  Quoted : List ℕ → Token
  TextToken : List ℕ → Token
  NumberToken : ℕ → Token
  SignToken : Sign → Token

-- a token, how many bytes of the text are left where it begins, and how many where it ends
pub record Placed : Type 0 where
  pub token : Token
  pub from : ℕ
  pub behind : ℕ

-- ---- so that a token can be what contracts see of a struct

abbrev sign_number : Sign → ℕ
sign_number LParen = 0
sign_number RParen = 1
sign_number Comma = 2
sign_number Dot = 3
sign_number Star = 4
sign_number Plus = 5
sign_number Minus = 6
sign_number Equal = 7
sign_number Unequal = 8
sign_number Less = 9
sign_number AtMost = 10
sign_number Greater = 11
sign_number AtLeast = 12
sign_number Arrow = 13

abbrev all_signs : List Sign
all_signs = LParen ∷ RParen ∷ Comma ∷ Dot ∷ Star ∷ Plus ∷ Minus ∷ Equal ∷ Unequal ∷ Less ∷ AtMost ∷ Greater
    ∷ AtLeast ∷ Arrow ∷ []

abbrev sign_at : ℕ → Sign
sign_at n = unwrap_or (slice_get all_signs n) Arrow

abbrev parts : Token → ℕ × (ℕ × List ℕ)
parts (Word bytes) = (0, (0, bytes))
parts (Quoted bytes) = (1, (0, bytes))
parts (TextToken bytes) = (2, (0, bytes))
parts (NumberToken n) = (3, (n, []))
parts (SignToken s) = (4, (sign_number s, []))

abbrev whole_at : ℕ → ℕ → List ℕ → Token
whole_at zero n bytes = Word bytes
whole_at (suc zero) n bytes = Quoted bytes
whole_at (suc (suc zero)) n bytes = TextToken bytes
whole_at (suc (suc (suc zero))) n bytes = NumberToken n
whole_at (suc (suc (suc (suc more)))) n bytes = SignToken (sign_at n)

abbrev whole : ℕ × (ℕ × List ℕ) → Token
whole p = whole_at p.0 p.1.0 p.1.1

pub whole_parts : (t : Token) → whole (parts t) ≡ t
whole_parts (Word bytes) = refl
whole_parts (Quoted bytes) = refl
whole_parts (TextToken bytes) = refl
whole_parts (NumberToken n) = refl
whole_parts (SignToken LParen) = refl
whole_parts (SignToken RParen) = refl
whole_parts (SignToken Comma) = refl
whole_parts (SignToken Dot) = refl
whole_parts (SignToken Star) = refl
whole_parts (SignToken Plus) = refl
whole_parts (SignToken Minus) = refl
whole_parts (SignToken Equal) = refl
whole_parts (SignToken Unequal) = refl
whole_parts (SignToken Less) = refl
whole_parts (SignToken AtMost) = refl
whole_parts (SignToken Greater) = refl
whole_parts (SignToken AtLeast) = refl
whole_parts (SignToken Arrow) = refl

abbrev pub coded_token : Coded Token
coded_token = code_by (ℕ × (ℕ × List ℕ)) (coded× coded_ℕ (coded× coded_ℕ (coded_list coded_ℕ))) parts whole whole_parts

abbrev pub coded_placed : Coded Placed
coded_placed = code_by (Token × (ℕ × ℕ)) (coded× coded_token (coded× coded_ℕ coded_ℕ))
    (λ p. (p.token, (p.from, p.behind))) (λ p. record { token = p.0; from = p.1.0; behind = p.1.1 }) (λ _. refl)
