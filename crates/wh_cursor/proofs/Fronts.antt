-- What is left behind some tokens, and that a name is a front of the tokens.
use Rattle.std.proofs.Common.{◌≡◌, ℕ, List, [], ◌∷◌, ◌++◌, refl, sym, ap, ◌∙◌, append_assoc}
use Rattle.wh_grammar.specs.Token.{Token}
use Rattle.wh_grammar.specs.Name.{IsName, word, quoted}
use Rattle.wh_cursor.specs.Laws as laws
use Rattle.wh_cursor.specs.Laws.{Follows}

abbrev pub Behind : List Token → List Token → Type 0
Behind ts us = (front : List Token) × (ts ≡ front ++ us)

pub loose : {ts us : List Token} → Follows ts us → Behind ts us
loose h = (h.first ∷ h.more, h.is)

pub cons : (t : Token) {ts us : List Token} → Behind ts us → Behind (t ∷ ts) us
cons t h = (t ∷ h.0, ap (λ (l : List Token). t ∷ l) h.1)

pub on : {ts us vs : List Token} → Follows ts us → Behind us vs → Follows ts vs
on {vs = vs} h l = record {
  first = h.first;
  more = h.more ++ l.0;
  is = h.is ∙ ap (λ (us : List Token). h.first ∷ (h.more ++ us)) l.1
      ∙ ap (λ (us : List Token). h.first ∷ us) (sym (append_assoc h.more l.0 vs));
}

pub onto : {ts us vs : List Token} → Behind ts us → Behind us vs → Behind ts vs
onto {vs = vs} h l = (h.0 ++ l.0, h.1 ∙ ap (λ (us : List Token). h.0 ++ us) l.1 ∙ sym (append_assoc h.0 l.0 vs))

pub first : (t : Token) {ts us : List Token} → Behind ts us → Follows (t ∷ ts) us
first t h = record { first = t; more = h.0; is = ap (λ (us : List Token). t ∷ us) h.1 }

pub here : (ts : List Token) → Behind ts ts
here ts = ([], refl)

pub name-front : {ts us : List Token} {name : List ℕ} → IsName ts name us → Follows ts us
name-front (word {us = us} r c) = first _ (here us)
name-front (quoted {us = us}) = first _ (here us)

pub name_is_front : laws.NameIsFront
name_is_front ts name us h = name-front h
