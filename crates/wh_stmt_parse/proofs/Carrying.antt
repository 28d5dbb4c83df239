-- What holds of tokens, carried to tokens that are the same.
use Rattle.std.proofs.Common.{◌≡◌, List, ◌∷◌, sym, ap, ◌∙◌, subst}
use Rattle.wh_grammar.specs.Token.{Token}

-- what holds of tokens holds of equal ones
pub stand : (P : List Token → Type 0) {ts us : List Token} → ts ≡ us → P us → P ts
stand P e h = subst P (sym e) h

pub cons : (t : Token) {ts us : List Token} → ts ≡ us → t ∷ ts ≡ t ∷ us
cons t e = ap (λ (l : List Token). t ∷ l) e

-- a token at the front, and what follows it
pub then_is : {t : Token} {ts us vs : List Token} → ts ≡ t ∷ us → us ≡ vs → ts ≡ t ∷ vs
then_is {t} e f = e ∙ cons t f
