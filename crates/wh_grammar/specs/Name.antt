-- Names among tokens.
use Rattle.std.specs.Prelude.{◌≡◌, ℕ, Bool, true, false, ◌&&◌, List, ◌∷◌}
use Rattle.wh_grammar.specs.Words.{is_reserved, is_call}
use Rattle.wh_grammar.specs.Token.{Token, Word, Quoted, SignToken, LParen}

abbrev pub opens : List Token → Bool
opens (SignToken LParen ∷ us) = true
opens _ = false

-- any word that isn't reserved, or a quoted name; but SUM and COUNT before a parenthesis begin a call
pub data IsName : List Token → List ℕ → List Token → Type 0 where
  word : {w : List ℕ} {us : List Token}
      → is_reserved w ≡ false
      → (is_call w && opens us) ≡ false
      → IsName (Word w ∷ us) w us
  quoted : {name : List ℕ} {us : List Token} → IsName (Quoted name ∷ us) name us
