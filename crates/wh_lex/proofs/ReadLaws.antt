-- What is read of a whole text is what it has.
use Rattle.std.proofs.Common.{◌≡◌, ℕ, zero, suc, ◌≤◌, List, [], ◌∷◌, ◌++◌, length, Option, Some, None, option_map}
use Rattle.std.proofs.Common.{Result, Ok, Err, refl, subst, arith}
use Rattle.std.specs.Result.{IsErr, IsErrAnd}
use Rattle.std.proofs.lemmas.Option.{same_Some}
use Rattle.wh_grammar.specs.Token.{Token, Placed}
use Rattle.wh_grammar.specs.Lexing.{HasTokens, end, gap, token}
use Rattle.wh_lex.specs.Front.{Front, front_of, placed_at}
use Rattle.wh_lex.specs.Read.{behind_front, read_from, read_tokens}
use Rattle.wh_lex.specs.Laws as laws
use Rattle.wh_lex.specs.declared.fault.LexFault.{LexFault}
use Rattle.wh_lex.specs.declared.fault.LexFault.TheVariants.{SyntaxError, OutOfMemory}
use Rattle.wh_lex.specs.Gives.{Gives}
use Rattle.wh_lex.proofs.GapLemmas.{gap_is_read}
use Rattle.wh_lex.proofs.FrontLaws.{token_is_read}
use Rattle.wh_lex.proofs.TokenLaws.{before, front_is_read, front-shorter}

-- ---- what is read stands there

from-sound : (n : ℕ) (bytes : List ℕ) (ts : List Placed) → read_from n bytes ≡ Some ts → HasTokens bytes ts
unfolding read_from
from-sound zero [] ts h = subst (HasTokens []) (same_Some _ _ h) end
from-sound zero (b ∷ bytes) ts h = absurd (cc)
from-sound (suc n) [] ts h = subst (HasTokens []) (same_Some _ _ h) end
from-sound (suc n) (b ∷ bytes) ts h = by (λ rest us k. from-sound n rest us k) (front_of (b ∷ bytes)) refl h
  where
    Sound : Type 0
    Sound = (rest : List ℕ) (us : List Placed) → read_from n rest ≡ Some us → HasTokens rest us

    behind : Sound → (p : Front) → front_of (b ∷ bytes) ≡ Some p → (o : Option (List Placed)) → read_from n p.1 ≡ o
        → option_map (λ us. placed_at p.0 (length (b ∷ bytes)) (length p.1) ++ us) o ≡ Some ts
        → HasTokens (b ∷ bytes) ts
    behind sound p e None k h = absurd (cc)
    behind sound p e (Some us) k h = subst (HasTokens (b ∷ bytes)) (same_Some _ _ h)
        (before (b ∷ bytes) p.0 p.1 us (front_is_read (b ∷ bytes) p.0 p.1 e) (sound p.1 us k))

    by : Sound → (o : Option Front) → front_of (b ∷ bytes) ≡ o
        → behind_front (read_from n) (length (b ∷ bytes)) o ≡ Some ts
        → HasTokens (b ∷ bytes) ts
    by sound None e h = absurd (cc)
    by sound (Some p) e h = behind sound p e (read_from n p.1) refl h

-- ---- what stands there is read

one_more : (n : ℕ) (bytes : List ℕ) (t : Option Token) (rest : List ℕ) (ts : List Placed)
    → front_of bytes ≡ Some (t, rest) → length bytes ≤ n → ((m : ℕ) → length rest ≤ m → read_from m rest ≡ Some ts)
    → read_from n bytes ≡ Some (placed_at t (length bytes) (length rest) ++ ts)
unfolding read_from
one_more n [] t rest ts e long more = absurd (cc)
one_more zero (b ∷ bytes) t rest ts e long more = absurd (omega (arith, long))
one_more (suc n) (b ∷ bytes) t rest ts e long more =
    let shorter = front-shorter (b ∷ bytes) t rest e in
    let read = more n (omega (arith, long, shorter)) in
    rw (e, read) refl

nothing_left : (n : ℕ) → read_from n [] ≡ Some []
unfolding read_from
nothing_left zero = refl
nothing_left (suc n) = refl

from-complete : {bytes : List ℕ} {ts : List Placed} → HasTokens bytes ts → (n : ℕ) → length bytes ≤ n
    → read_from n bytes ≡ Some ts
from-complete end n long = nothing_left n
from-complete (gap {bytes} {rest} {ts} g h) n long =
    one_more n bytes None rest ts (gap_is_read bytes rest g) long (from-complete h)
from-complete (token {bytes} {rest} {t} {ts} k h) n long =
    one_more n bytes (Some t) rest ts (token_is_read bytes t rest k) long (from-complete h)

pub tokens_read : laws.ReadsTokens
unfolding read_tokens
tokens_read bytes ts = (from-sound (length bytes) bytes ts, λ h. from-complete h (length bytes) (omega arith))

-- where the text has no tokens, none are read
pub none_read : (bytes : List ℕ) → ((ts : List Placed) → HasTokens bytes ts → ⊥) → read_tokens bytes ≡ None
none_read bytes none = by (read_tokens bytes) refl
  where
    by : (o : Option (List Placed)) → read_tokens bytes ≡ o → o ≡ None
    by None e = refl
    by (Some ts) e = absurd (none ts ((tokens_read bytes ts).0 e))

-- what a call that failed says
pub gives_err : {X Y : Type 0} (view : X → Y) (r : Result X LexFault) (fault : LexFault) (o : Option Y) → IsErr r
    → IsErrAnd r (λ e. e ≡ fault) → (SyntaxError ≡ fault → o ≡ None)
    → Gives view r o
gives_err view (Ok x) fault o failed is none = absurd (cc)
gives_err view (Err SyntaxError) fault o failed is none = none is
gives_err view (Err OutOfMemory) fault o failed is none = tt
