-- The tokens of a text, from one front to the next.
use Rattle.std.proofs.Common.{◌≡◌, ◌≢◌, ℕ, ◌<◌, List, [], ◌∷◌, ◌++◌, length, Option, Some, None, option_map, IfSome}
use Rattle.std.proofs.Common.{refl, sym, ap, ◌∙◌, subst, append_assoc, append-nil, length-append, arith}
use Rattle.std.proofs.lemmas.Option.{same_Some}
use Rattle.wh_grammar.specs.Token.{Sign, LParen, Token, Placed}
use Rattle.wh_grammar.specs.Lexing.{IsGap, blank, line_comment, last_comment, comment, IsToken, word, number, text}
use Rattle.wh_grammar.specs.Lexing.{quoted, sign, other_unequal, bare, enclosed, signed, sign_bytes, doubled, HasTokens}
use Rattle.wh_grammar.specs.Lexing.{end, gap, token}
use Rattle.wh_lex.specs.Front.{Front, front_of, placed_at}
use Rattle.wh_lex.specs.declared.fault.LexFault.{LexFault}
use Rattle.wh_lex.specs.declared.fault.LexFault.TheVariants.{SyntaxError, OutOfMemory}
use Rattle.wh_lex.specs.declared.token.Kind.{Kind}
use Rattle.wh_lex.specs.View.{token_of, IsWithin}
use Rattle.wh_lex.specs.Gives.{Fails}
use Rattle.wh_lex.proofs.GapLemmas.{gap_is_read}
use Rattle.wh_lex.proofs.Standing.{IsRead, Stands}
use Rattle.wh_lex.proofs.FrontLaws.{front-stands, token_is_read}

-- ---- what follows a front

-- the text has tokens behind what was read at its front, and these with it
pub record Follows (bytes : List ℕ) (vs : List Placed) (t : Option Token) (rest : List ℕ) : Type 0 where
  pub tokens : List Placed
  pub has : HasTokens rest tokens
  pub is : vs ≡ placed_at t (length bytes) (length rest) ++ tokens

-- what is read at the front of a text that has tokens, and what follows it; or the end of the text
data Goes (bytes : List ℕ) (vs : List Placed) : Type 0 where
  at_end : bytes ≡ [] → vs ≡ [] → Goes bytes vs
  reads : (t : Option Token) (rest : List ℕ) → front_of bytes ≡ Some (t, rest) → Follows bytes vs t rest → Goes bytes vs

goes : {bytes : List ℕ} {vs : List Placed} → HasTokens bytes vs → Goes bytes vs
goes end = at_end refl refl
goes (gap {bytes} {rest} {ts} g h) =
    reads None rest (gap_is_read bytes rest g) (record { tokens = ts; has = h; is = refl })
goes (token {bytes} {rest} {t} {ts} k h) =
    reads (Some t) rest (token_is_read bytes t rest k) (record { tokens = ts; has = h; is = refl })

-- it is what is read
follows_by : (bytes : List ℕ) (vs : List Placed) (t : Option Token) (rest : List ℕ) → front_of bytes ≡ Some (t, rest)
    → Goes bytes vs → Follows bytes vs t rest
follows_by bytes vs t rest e (at_end none _) = absurd (let k = sym (ap front_of none) ∙ e in cc)
follows_by bytes vs t rest e (reads u after read f) =
    let same : (t, rest) ≡ (u, after) = same_Some _ _ (sym e ∙ read) in
    subst (λ (p : Front). Follows bytes vs p.0 p.1) (sym same) f

pub follows : (bytes : List ℕ) (vs : List Placed) (t : Option Token) (rest : List ℕ) → front_of bytes ≡ Some (t, rest)
    → HasTokens bytes vs → Follows bytes vs t rest
follows bytes vs t rest e h = follows_by bytes vs t rest e (goes h)

-- where nothing is read, and the text doesn't end, it has no tokens
none_by : (bytes : List ℕ) (vs : List Placed) → 0 < length bytes → front_of bytes ≡ None → Goes bytes vs → ⊥
none_by bytes vs long e (at_end none _) = omega (arith, ap length none)
none_by bytes vs long e (reads t rest read f) = let k = sym e ∙ read in cc

pub no_tokens : (bytes : List ℕ) (vs : List Placed) → 0 < length bytes → front_of bytes ≡ None → HasTokens bytes vs → ⊥
no_tokens bytes vs long e h = none_by bytes vs long e (goes h)

-- ---- a text has at most one list of tokens

end_by : (bytes : List ℕ) (vs : List Placed) → bytes ≡ [] → Goes bytes vs → vs ≡ []
end_by bytes vs e (at_end none is) = is
end_by bytes vs e (reads t rest read f) = absurd (let k = sym (ap front_of e) ∙ read in cc)

one_list : {bytes : List ℕ} {ts : List Placed} → HasTokens bytes ts → (us : List Placed) → HasTokens bytes us → ts ≡ us
one_list end us h = sym (end_by [] us refl (goes h))
one_list (gap {bytes} {rest} g k) us h =
    let f = follows bytes us None rest (gap_is_read bytes rest g) h in
    one_list k f.tokens f.has ∙ sym f.is
one_list (token {bytes} {rest} {t} k l) us h =
    let f = follows bytes us (Some t) rest (token_is_read bytes t rest k) h in
    ap (λ (vs : List Placed). placed_at (Some t) (length bytes) (length rest) ++ vs) (one_list l f.tokens f.has)
    ∙ sym f.is

pub text_fixes_tokens : (bytes : List ℕ) (ts us : List Placed) → HasTokens bytes ts → HasTokens bytes us → ts ≡ us
text_fixes_tokens bytes ts us h k = one_list h us k

-- ---- the turns of the loop: behind the tokens so far the rest of the text is left

pub record Left (ts : List Placed) (rest whole : List ℕ) : Type 0 where
  pub on : (us : List Placed) → HasTokens rest us → HasTokens whole (ts ++ us)
  pub back : (vs : List Placed) → HasTokens whole vs → (us : List Placed) × HasTokens rest us × (vs ≡ ts ++ us)

pub left-start : (whole : List ℕ) → Left [] whole whole
left-start whole = record { on = λ us h. h; back = λ vs h. (vs, h, refl) }

-- tokens before those of the rest
pub before : (bytes : List ℕ) (t : Option Token) (rest : List ℕ) (us : List Placed) → IsRead bytes t rest
    → HasTokens rest us
    → HasTokens bytes (placed_at t (length bytes) (length rest) ++ us)
before bytes None rest us g h = gap g h
before bytes (Some t) rest us k h = token k h

pub front_is_read : (bytes : List ℕ) (t : Option Token) (rest : List ℕ) → front_of bytes ≡ Some (t, rest)
    → IsRead bytes t rest
front_is_read [] t rest e = absurd (cc)
front_is_read (b ∷ bytes) t rest e = subst (Stands (b ∷ bytes)) e (front-stands b bytes)

pub left-more : (ts us : List Placed) (rest whole : List ℕ) (t : Option Token) (after : List ℕ) → Left ts rest whole
    → front_of rest ≡ Some (t, after) → us ≡ ts ++ placed_at t (length rest) (length after)
    → Left us after whole
left-more ts us rest whole t after left e more =
    let piece = placed_at t (length rest) (length after) in
    record {
      on = λ vs h. subst (HasTokens whole) (sym (append_assoc ts piece vs) ∙ ap (λ l. l ++ vs) (sym more))
          (left.on (piece ++ vs) (before rest t after vs (front_is_read rest t after e) h));
      back = λ vs h.
          let b = left.back vs h in
          let f = follows rest b.0 t after e b.1 in (
            f.tokens,
            f.has,
            b.2 ∙ ap (λ l. ts ++ l) f.is ∙ sym (append_assoc ts piece f.tokens)
                ∙ ap (λ l. l ++ f.tokens) (sym more),
          );
    }

-- ---- each front is of some bytes

gap-shorter : (bytes rest : List ℕ) → IsGap bytes rest → length rest < length bytes
gap-shorter bytes rest (blank b e h) = omega (arith, ap length e)
gap-shorter bytes rest (line_comment inside e all) = omega (arith, ap length e, length-append inside (10 ∷ rest))
gap-shorter bytes rest (last_comment inside e none all) = omega (arith, ap length e, ap length none)
gap-shorter bytes rest (comment inside e none) = omega (arith, ap length e, length-append inside (42 ∷ 47 ∷ rest))

some-long : (bytes : List ℕ) → bytes ≢ [] → 0 < length bytes
some-long [] h = absurd (h refl)
some-long (b ∷ bytes) h = omega arith

sign-long : (s : Sign) → 0 < length (sign_bytes s)
sign-long LParen = omega arith
sign-long _ = omega arith

token-shorter : (bytes : List ℕ) (t : Token) (rest : List ℕ) → IsToken bytes t rest → length rest < length bytes
token-shorter bytes t rest (bare (word b more e h all stop made is)) =
    omega (arith, ap length e, length-append more rest)
token-shorter bytes t rest (bare (number digits e some all small stop is)) =
    omega (arith, ap length e, length-append digits rest, some-long digits some)
token-shorter bytes t rest (enclosed (text inside e utf8 plain stop is)) =
    omega (arith, ap length e, length-append (doubled 39 inside) (39 ∷ rest))
token-shorter bytes t rest (enclosed (quoted inside e utf8 some stop is)) =
    omega (arith, ap length e, length-append (doubled 34 inside) (34 ∷ rest))
token-shorter bytes t rest (signed (sign s e stop is)) =
    omega (arith, ap length e, length-append (sign_bytes s) rest, sign-long s)
token-shorter bytes t rest (signed (other_unequal e is)) = omega (arith, ap length e)

read-shorter : (bytes : List ℕ) (t : Option Token) (rest : List ℕ) → IsRead bytes t rest → length rest < length bytes
read-shorter bytes None rest g = gap-shorter bytes rest g
read-shorter bytes (Some t) rest k = token-shorter bytes t rest k

pub front-shorter : (bytes : List ℕ) (t : Option Token) (rest : List ℕ) → front_of bytes ≡ Some (t, rest)
    → length rest < length bytes
front-shorter bytes t rest e = read-shorter bytes t rest (front_is_read bytes t rest e)

-- ---- numbers are of at most 18 digits

token-IsWithin : (bytes : List ℕ) (t : Token) (rest : List ℕ) → IsToken bytes t rest → IsWithin t
token-IsWithin bytes t rest (bare (word b more e h all stop made is)) = subst IsWithin (sym is) tt
token-IsWithin bytes t rest (bare (number digits e some all small stop is)) = subst IsWithin (sym is) small
token-IsWithin bytes t rest (enclosed (text inside e utf8 plain stop is)) = subst IsWithin (sym is) tt
token-IsWithin bytes t rest (enclosed (quoted inside e utf8 some stop is)) = subst IsWithin (sym is) tt
token-IsWithin bytes t rest (signed (sign s e stop is)) = subst IsWithin (sym is) tt
token-IsWithin bytes t rest (signed (other_unequal e is)) = subst IsWithin (sym is) tt

pub front-IsWithin : (bytes : List ℕ) (kind : Option Kind) (rest : List ℕ)
    → front_of bytes ≡ Some (option_map token_of kind, rest)
    → IfSome kind (λ k. IsWithin (token_of k))
front-IsWithin bytes None rest e = tt
front-IsWithin bytes (Some k) rest e =
    token-IsWithin bytes (token_of k) rest (front_is_read bytes (Some (token_of k)) rest e)

-- ---- the end of the loop

-- a syntax error is for what isn't read
pub not_read : {X : Type 0} (o : Option X) (fault : LexFault) → SyntaxError ≡ fault → Fails fault o → o ≡ None
not_read o SyntaxError e h = h
not_read o OutOfMemory e h = cc

pub left-end : (ts : List Placed) (rest whole : List ℕ) → Left ts rest whole → length rest ≡ 0 → HasTokens whole ts
left-end ts [] whole left none = subst (HasTokens whole) (append-nil ts) (left.on [] end)
left-end ts (b ∷ rest) whole left none = absurd (omega arith)

pub left-none : (ts : List Placed) (rest whole : List ℕ) (vs : List Placed) → Left ts rest whole → 0 < length rest
    → front_of rest ≡ None → HasTokens whole vs → ⊥
left-none ts rest whole vs left long e h = let b = left.back vs h in no_tokens rest b.0 long e b.1
