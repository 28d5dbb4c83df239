-- A text is a stream's name where it is one token that names, and nothing else.
use Rattle.std.proofs.Common.{◌≡◌, ℕ, ◌≤◌, ◌==◌, Bool, true, false, not, ◌&&◌, if◌then◌else◌, List, [], ◌∷◌, length}
use Rattle.std.proofs.Common.{Option, Some, None, option_map, Result, Ok, Err, IfOk, refl, sym, ap, ◌∙◌, subst}
use Rattle.std.proofs.Common.{eqb-true, arith, rules}
use Rattle.std.specs.Prelude.{IsErrOf}
use Rattle.std.proofs.lemmas.Bool.{and_parts}
use Rattle.std.proofs.lemmas.Option.{same_Some}
use Rattle.wh_grammar.specs.Words.{is_reserved, is_call}
use Rattle.wh_grammar.specs.Token.{Token, Word, Quoted, TextToken, NumberToken, SignToken, Placed}
use Rattle.wh_grammar.specs.Lexing.{IsToken, HasTokens, end, gap, token}
use Rattle.wh_grammar.specs.OptionText.{IsNameText, word_text, quoted_text}
use Rattle.wh_grammar.specs.Spelled.{tokens_of}
use Rattle.wh_lex.specs.Front.{front_of}
use Rattle.wh_lex.proofs.GapLemmas.{gap_is_read}
use Rattle.wh_lex.proofs.Standing.{Stands}
use Rattle.wh_lex.proofs.FrontLaws.{front-stands, token_is_read}
use Rattle.wh_lex.proofs.TokenLaws.{front-shorter, text_fixes_tokens}
use Rattle.wh_cursor.specs.declared.fault.ParseFault.{ParseFault}
use Rattle.wh_cursor.specs.declared.fault.ParseFault.TheVariants as faults
use Rattle.wh_cursor.specs.Gives.{Reads}
use Rattle.wh_cursor.specs.Steps.{read_name}
use Rattle.wh_option_parse.specs.Alone.{is_alone}
use Rattle.wh_option_parse.specs.Read.{named_by, name_text_by, name_text_of}

stands : (bytes : List ℕ) (t : Token) (rest : List ℕ) → front_of bytes ≡ Some (Some t, rest) → IsToken bytes t rest
stands [] t rest e = absurd (cc)
stands (b ∷ bytes) t rest e = subst (Stands (b ∷ bytes)) e (front-stands b bytes)

-- the token that names
record Names (bytes name : List ℕ) : Type 0 where
  by_token : Token
  is : IsToken bytes by_token []
  names : named_by by_token ≡ Some name

names : (bytes name : List ℕ) → name_text_of bytes ≡ Some name → Names bytes name
unfolding name_text_of
names bytes name h = by (front_of bytes) refl h
  where
    by : (o : Option (Option Token × List ℕ)) → front_of bytes ≡ o → name_text_by o ≡ Some name → Names bytes name
    by None e h = absurd (cc)
    by (Some (None, rest)) e h = absurd (cc)
    by (Some (Some t, [])) e h = record { by_token = t; is = stands bytes t [] e; names = h }
    by (Some (Some t, (b ∷ rest))) e h = absurd (cc)

named-text : (bytes : List ℕ) (t : Token) (name : List ℕ) → IsToken bytes t [] → named_by t ≡ Some name
    → IsNameText bytes name
named-text bytes (Word w) name k h = by (is_reserved w) refl h
  where
    by : (r : Bool) → is_reserved w ≡ r → if◌then◌else◌ {A = Option (List ℕ)} r None (Some w) ≡ Some name
        → IsNameText bytes name
    by true e h = absurd (cc)
    by false e h = subst (IsNameText bytes) (same_Some _ _ h) (word_text k e)
named-text bytes (Quoted n) name k h = subst (IsNameText bytes) (same_Some _ _ h) (quoted_text k)
named-text bytes (TextToken b) name k h = absurd (cc)
named-text bytes (NumberToken n) name k h = absurd (cc)
named-text bytes (SignToken s) name k h = absurd (cc)

pub name_text-sound : (bytes name : List ℕ) → name_text_of bytes ≡ Some name → IsNameText bytes name
name_text-sound bytes name h = let n = names bytes name h in named-text bytes n.by_token name n.is n.names

name-at : (bytes : List ℕ) (t : Token) → IsToken bytes t [] → name_text_of bytes ≡ named_by t
unfolding name_text_of
name-at bytes t k = ap name_text_by (token_is_read bytes t [] k)

pub name_text-complete : {bytes name : List ℕ} → IsNameText bytes name → name_text_of bytes ≡ Some name
name_text-complete (word_text {bytes} {w} k free) = name-at bytes (Word w) k ∙ rw free refl
name_text-complete (quoted_text {bytes} {name} k) = name-at bytes (Quoted name) k

-- ---- by the tokens of the text

alone : (bytes name : List ℕ) → Names bytes name → (ts : List Placed) → HasTokens bytes ts
    → is_alone (length bytes) ts ≡ true
alone bytes name n ts h =
    let only : HasTokens bytes ((record { token = n.by_token; from = length bytes; behind = 0 }) ∷ []) =
    token n.is end in
    let same = text_fixes_tokens bytes _ ts only h in
    subst (λ (us : List Placed). is_alone (length bytes) us ≡ true) same (search rules)

pub none_named : (bytes : List ℕ) → ((ts : List Placed) → HasTokens bytes ts → ⊥) → name_text_of bytes ≡ None
none_named bytes none = by (name_text_of bytes) refl
  where
    by : (o : Option (List ℕ)) → name_text_of bytes ≡ o → o ≡ None
    by None e = refl
    by (Some name) e =
        let n = names bytes name e in
        absurd (none ((record { token = n.by_token; from = length bytes; behind = 0 }) ∷ []) (token n.is end))

pub part_named : (bytes : List ℕ) (ts : List Placed) → HasTokens bytes ts → is_alone (length bytes) ts ≡ false
    → name_text_of bytes ≡ None
part_named bytes ts h part = by (name_text_of bytes) refl
  where
    by : (o : Option (List ℕ)) → name_text_of bytes ≡ o → o ≡ None
    by None e = refl
    by (Some name) e = absurd (let whole = alone bytes name (names bytes name e) ts h in cc)

from_within : {bytes : List ℕ} {ts : List Placed} → HasTokens bytes ts → (p : Placed) (us : List Placed) → ts ≡ p ∷ us
    → p.from ≤ length bytes
from_within end p us e = absurd (cc)
from_within (gap {bytes} {rest} g h) p us e =
    let less = front-shorter bytes None rest (gap_is_read bytes rest g) in
    let within = from_within h p us e in
    omega (arith, less, within)
from_within (token {bytes} {rest} {t} {ts} k h) p us e =
    let same : length bytes ≡ p.from = ap (first_from (length bytes)) e in
    omega (arith, same)
  where
    first_from : ℕ → List Placed → ℕ
    first_from n [] = n
    first_from n (q ∷ qs) = q.from

first_of_all : Placed → List Placed → Placed
first_of_all p [] = p
first_of_all p (q ∷ qs) = q

no_length : (rest : List ℕ) → length rest ≡ 0 → rest ≡ []
no_length [] e = refl
no_length (b ∷ rest) e = absurd (omega (arith, e))

whole-token : {bytes : List ℕ} {ts : List Placed} → HasTokens bytes ts → (p : Placed) → ts ≡ p ∷ []
    → p.from ≡ length bytes → p.behind ≡ 0 → IsToken bytes p.token []
unfolding first_of_all
whole-token end p e from behind = absurd (cc)
whole-token (gap {bytes} {rest} g h) p e from behind =
    let less = front-shorter bytes None rest (gap_is_read bytes rest g) in
    let within = from_within h p [] e in
    absurd (omega (arith, less, within, from))
whole-token (token {bytes} {rest} {t} {ts} k h) p e from behind =
    let same = ap (first_of_all p) e in
    let none = no_length rest (ap (λ (q : Placed). q.behind) same ∙ behind) in
    subst (λ (u : Token). IsToken bytes u []) (ap (λ (q : Placed). q.token) same) (subst (IsToken bytes t) none k)

named-read : (t : Token) → read_name (t ∷ []) ≡ option_map (λ (w : List ℕ). (w, [])) (named_by t)
unfolding read_name
named-read (Word w) = by (is_reserved w) (is_call w)
  where
    by : (a b : Bool) → if◌then◌else◌ {A = Option (List ℕ × List Token)} (not a && not (b && false)) (Some (w, [])) None
        ≡ option_map (λ (w : List ℕ). (w, [])) (if a then None else Some w)
    by true true = refl
    by true false = refl
    by false true = refl
    by false false = refl
named-read (Quoted name) = refl
named-read (TextToken bytes) = refl
named-read (NumberToken n) = refl
named-read (SignToken s) = refl

pub alone_named : (bytes : List ℕ) (ts : List Placed) → HasTokens bytes ts → is_alone (length bytes) ts ≡ true
    → read_name (tokens_of ts) ≡ option_map (λ (w : List ℕ). (w, [])) (name_text_of bytes)
alone_named bytes [] h whole = absurd (cc)
alone_named bytes (p ∷ []) h whole =
    let both = and_parts (p.from == length bytes) (p.behind == 0) whole in
    let is = whole-token h p refl (eqb-true p.from (length bytes) both.0) (eqb-true p.behind 0 both.1) in
    named-read p.token ∙ ap (option_map (λ (w : List ℕ). (w, []))) (sym (name-at bytes p.token is))
alone_named bytes (p ∷ q ∷ ts) h whole = absurd (cc)

-- ---- for what reading the name returned

pub name_found : (o : Option (List ℕ)) (read : Option (List ℕ × List Token))
    → read ≡ option_map (λ (w : List ℕ). (w, [])) o → (r : Result (List ℕ) ParseFault) (us : List Token)
    → Reads read r us
    → IfOk r (λ name. o ≡ Some name)
name_found None read e (Ok x) us h = absurd (let k = sym e ∙ h in cc)
name_found (Some w) read e (Ok x) us h = let same : (w, []) ≡ (x, us) = same_Some _ _ (sym e ∙ h) in
    ap (λ (q : List ℕ × List Token). Some q.0) same
name_found o read e (Err fault) us h = tt

pub name_none : (o : Option (List ℕ)) (read : Option (List ℕ × List Token))
    → read ≡ option_map (λ (w : List ℕ). (w, [])) o → (r : Result (List ℕ) ParseFault) (us : List Token)
    → Reads read r us → IsErrOf r faults.SyntaxError
    → o ≡ None
name_none o read e (Ok x) us h failed = absurd (cc)
name_none None read e (Err fault) us h failed = refl
name_none (Some w) read e (Err faults.SyntaxError) us h failed = absurd (let k = sym e ∙ h in cc)
name_none (Some w) read e (Err faults.OutOfMemory) us h failed = absurd (cc)
