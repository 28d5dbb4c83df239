-- What is read as a name is one, and each name is read.
use Rattle.std.proofs.Common.{◌≡◌, ℕ, Bool, true, false, not, ◌&&◌, List, [], ◌∷◌, Some, None, refl, sym, if◌then◌else◌}
use Rattle.std.proofs.lemmas.Bool.{and_parts}
use Rattle.wh_grammar.specs.Words.{is_reserved, is_call}
use Rattle.wh_grammar.specs.Token.{Token, Word, Quoted, TextToken, NumberToken, SignToken}
use Rattle.wh_grammar.specs.Name.{IsName, opens, word, quoted}
use Rattle.wh_cursor.specs.Steps.{is_name, read_name}
use Rattle.wh_cursor.specs.Laws as laws
use Rattle.wh_cursor.proofs.Yields.{Is, Yields, yields, nothing, yielded}

not_true : (b : Bool) → not b ≡ true → b ≡ false
not_true true e = sym e
not_true false e = refl

pub name-sound : (ts : List Token) → Yields (read_name ts) (IsName ts)
unfolding read_name
name-sound [] = nothing
name-sound (Word w ∷ us) = record { is = by (is_name w us) refl }
  where
    by : (r : Bool) → is_name w us ≡ r → Is (IsName (Word w ∷ us)) (if r then Some (w, us) else None)
    by true h =
        let both = and_parts (not (is_reserved w)) (not (is_call w && opens us)) h in
        word (not_true _ both.0) (not_true _ both.1)
    by false h = tt
name-sound (Quoted name ∷ us) = yields name us quoted
name-sound (TextToken bytes ∷ us) = nothing
name-sound (NumberToken n ∷ us) = nothing
name-sound (SignToken s ∷ us) = nothing

pub name_sound : (ts : List Token) (name : List ℕ) (us : List Token) → read_name ts ≡ Some (name, us)
    → IsName ts name us
name_sound ts = yielded (name-sound ts)

pub name-complete : {ts us : List Token} {name : List ℕ} → IsName ts name us → read_name ts ≡ Some (name, us)
unfolding read_name
name-complete (word r c) = rw (r, c) refl
name-complete quoted = refl

pub reads_names : laws.ReadsNames
reads_names ts name us = (name_sound ts name us, name-complete)
