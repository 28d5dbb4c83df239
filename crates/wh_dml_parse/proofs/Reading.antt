-- What is read is what stands there.
use Rattle.std.proofs.Common.{◌≡◌, ℕ, Bool, true, false, ◌&&◌, List, [], ◌∷◌, ◌++◌, refl, sym, ap, ◌∙◌}
use Rattle.std.proofs.lemmas.Option.{same_Some}
use Rattle.wh_ast.specs.declared.dml.Dml.{Dml}
use Rattle.wh_grammar.specs.Words.{is_call}
use Rattle.wh_grammar.specs.Token as token
use Rattle.wh_grammar.specs.Token.{Token, Word, Quoted, SignToken}
use Rattle.wh_grammar.specs.Name.{IsName, opens, word, quoted}
use Rattle.wh_grammar.specs.Changing as g
use Rattle.wh_grammar.specs.Changing.{AreNames}
use Rattle.wh_cursor.proofs.Yields.{yielded}
use Rattle.wh_dml_parse.specs.Laws.{ReadsDml, ReadsNames, TokensFixDml, NamesFrame, NamesFront}
use Rattle.wh_dml_parse.proofs.Sound.{names-sound, dml-sound}
use Rattle.wh_dml_parse.proofs.Complete.{names-read, dml-reads}

pub names_read : ReadsNames
names_read ts names us = (yielded (names-sound ts) names us, λ h. names-read h.names h.ends)

pub dml_read : ReadsDml
dml_read d ts x us = (yielded (dml-sound d ts) x us, λ h. dml-reads h)

pub tokens_fix_dml : TokensFixDml
tokens_fix_dml d ts x y us vs h l =
    let same : (x, us) ≡ (y, vs) = same_Some _ _ (sym (dml-reads h) ∙ dml-reads l) in
    (ap (λ (p : Dml × List Token). p.0) same, ap (λ (p : Dml × List Token). p.1) same)

-- ---- names before other tokens

no_call : (r : Bool) (vs : List Token) → opens vs ≡ false → (r && opens vs) ≡ false
no_call true vs e = e
no_call false vs e = refl

-- the one token that a name is
record NameFront (ts : List Token) (name : List ℕ) (us : List Token) : Type 0 where
  token : Token
  is : ts ≡ token ∷ us
  stands : (vs : List Token) → opens vs ≡ false → IsName (token ∷ vs) name vs

name_frame : {ts us : List Token} {name : List ℕ} → IsName ts name us → NameFront ts name us
name_frame (word {w} r c) = record { token = Word w; is = refl; stands = λ vs e. word r (no_call (is_call w) vs e) }
name_frame (quoted {name}) = record { token = Quoted name; is = refl; stands = λ vs e. quoted }

frame : {ts us : List Token} {names : List (List ℕ)} → AreNames ts names us → NamesFront ts names us
frame (g.last_name h) =
    let one = name_frame h in
    record { front = one.token ∷ []; is = one.is; stands = λ vs e. g.last_name (one.stands vs e) }
frame (g.more_names h more) =
    let one = name_frame h in
    let all = frame more in
    record {
      front = one.token ∷ SignToken token.Comma ∷ all.front;
      is = one.is ∙ ap (λ (us : List Token). one.token ∷ SignToken token.Comma ∷ us) all.is;
      stands = λ vs e. g.more_names (one.stands (SignToken token.Comma ∷ (all.front ++ vs)) refl) (all.stands vs e);
    }

pub names_frame : NamesFrame
names_frame ts names us h = frame h
