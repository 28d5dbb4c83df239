-- What the steps of rules of statements read, and where.
--     expect_.., sees_.., read_..        `_some`: where it reads, the token stands there;
--                                        `_reads`, `_is`: it reads the token
--     then_.., if_eaten_..               the step in front of the others, and behind a token that may stand there
--     not_that_key, other_word, .._no_.. a word or a sign isn't seen where another token stands, or none
--     given-.., end-..                   what takes nothing
--     name_..                            names, and that each takes a token at least
use Rattle.std.proofs.Common.{◌≡◌, ℕ, ◌<◌, Bool, true, false, if◌then◌else◌, List, [], ◌∷◌, length, Option, Some, None}
use Rattle.std.proofs.Common.{refl, sym, ap, ◌∙◌, subst, length-append, arith}
use Rattle.std.specs.Prelude.{bytes_eq}
use Rattle.std.proofs.lemmas.Option.{same_Some}
use Rattle.std.proofs.lemmas.Slice.Eq.{bytes_eq-Decides}
use Rattle.wh_grammar.specs.Words.{is_reserved}
use Rattle.wh_grammar.specs.Token as token
use Rattle.wh_grammar.specs.Token.{Token, Word, Quoted, TextToken, NumberToken, SignToken}
use Rattle.wh_grammar.specs.Name.{IsName}
use Rattle.wh_cursor.specs.declared.key.TokenClass.{TokenClass}
use Rattle.wh_cursor.specs.declared.key.TokenClass.TheVariants as k
use Rattle.wh_cursor.specs.Keys.{same_key, key_of}
use Rattle.wh_cursor.specs.Steps.{Reader, and_then, tail, sees, sees_word, expect_word, expect_key, read_word}
use Rattle.wh_cursor.specs.Steps.{read_text, read_number, read_name, given, read_end}
use Rattle.wh_cursor.specs.Laws.{Follows}
use Rattle.wh_cursor.proofs.KeyLemmas.{fixed, Heads, heads}
use Rattle.wh_cursor.proofs.Yields.{pure_some, Yields, yields, nothing, yields_law, follow}
use Rattle.wh_cursor.proofs.Names.{name-complete, name_sound}
use Rattle.wh_cursor.proofs.Fronts.{name-front}

-- ---- a word

same-word : (v w : List ℕ) → bytes_eq v w ≡ true → Word v ≡ Word w
same-word v w h = ap Word ((bytes_eq-Decides v w).0 h)

pub sees_word_some : (w : List ℕ) (ts : List Token) → sees_word w ts ≡ true → ts ≡ Word w ∷ tail ts
unfolding sees_word
sees_word_some w [] h = absurd (cc)
sees_word_some w (Word v ∷ us) h = ap (λ (t : Token). t ∷ us) (same-word v w h)
sees_word_some w (Quoted name ∷ us) h = absurd (cc)
sees_word_some w (TextToken bytes ∷ us) h = absurd (cc)
sees_word_some w (NumberToken n ∷ us) h = absurd (cc)
sees_word_some w (SignToken s ∷ us) h = absurd (cc)

pub sees_word_is : (w : List ℕ) (us : List Token) → sees_word w (Word w ∷ us) ≡ true
unfolding sees_word
sees_word_is w us = (bytes_eq-Decides w w).1 refl

expect_by : (r : Bool) (ts : List Token) {u : Unit {0}} {us : List Token}
    → if◌then◌else◌ {A = Option (Unit {0} × List Token)} r (Some (tt, tail ts)) None ≡ Some (u, us)
    → (r ≡ true) × (tail ts ≡ us)
expect_by true ts h = (refl, (pure_some h).1)
expect_by false ts h = absurd (cc)

pub expect_word_some : (w : List ℕ) (ts : List Token) {u : Unit {0}} {us : List Token} → expect_word w ts ≡ Some (u, us)
    → ts ≡ Word w ∷ us
unfolding expect_word
expect_word_some w ts h =
    let both = expect_by (sees_word w ts) ts h in
    sees_word_some w ts both.0 ∙ ap (λ (us : List Token). Word w ∷ us) both.1

pub expect_word_reads : (w : List ℕ) (us : List Token) → expect_word w (Word w ∷ us) ≡ Some (tt, us)
unfolding expect_word
expect_word_reads w us = rw (sees_word_is w us) refl

pub then_expect_word : {B : Type 0} (w : List ℕ) (ts : List Token)
    (f : Unit {0} → Reader B) {Q : B → List Token → Type 0}
    → (ts ≡ Word w ∷ tail ts → Yields (f tt (tail ts)) Q)
    → Yields (and_then (expect_word w ts) f) Q
then_expect_word w ts f {Q} g = follow {P = λ _ us. ts ≡ Word w ∷ us} (yields_law (λ _ us h. expect_word_some w ts h))
    (λ _ us h. let same = ap tail h in
    subst (λ (us : List Token). Yields (f tt us) Q) same (g (h ∙ ap (λ (us : List Token). Word w ∷ us) (sym same))))

-- behind a word that may stand there
pub if_eaten_word : {B : Type 0} (w : List ℕ) (ts : List Token) (f : Bool → Reader B) {Q : B → List Token → Type 0}
    → (ts ≡ Word w ∷ tail ts → Yields (f true (tail ts)) Q) → (sees_word w ts ≡ false → Yields (f false ts) Q)
    → Yields (f (sees_word w ts) (if sees_word w ts then tail ts else ts)) Q
if_eaten_word w ts f {Q} g h = by (sees_word w ts) (λ r. g (sees_word_some w ts r)) h
  where
    by : (r : Bool) → (r ≡ true → Yields (f true (tail ts)) Q) → (r ≡ false → Yields (f false ts) Q)
        → Yields (f r (if r then tail ts else ts)) Q
    by true g h = g refl
    by false g h = h refl

-- ---- a token by its key

pub sees_key_some : (key : TokenClass) (t : Token) (ts : List Token) → fixed key ≡ Some t → sees key ts ≡ true
    → ts ≡ t ∷ tail ts
sees_key_some key t ts is h = subst (λ (o : Option Token). Heads o ts) is (heads key ts h)

pub then_expect_key : {B : Type 0} (key : TokenClass) (ts : List Token) (f : Unit {0} → Reader B)
    {Q : B → List Token → Type 0}
    → (Heads (fixed key) ts → Yields (f tt (tail ts)) Q) → Yields (and_then (expect_key key ts) f) Q
unfolding expect_key
then_expect_key key ts f {Q} g = by (sees key ts) (λ r. g (heads key ts r))
  where
    by : (r : Bool) → (r ≡ true → Yields (f tt (tail ts)) Q)
        → Yields (and_then (if r then Some (tt, tail ts) else None) f) Q
    by true g = record { is = (g refl).is }
    by false g = nothing

-- behind a token that may stand there
pub if_eaten_key : {B : Type 0} (key : TokenClass) (ts : List Token) (f : Bool → Reader B) {Q : B → List Token → Type 0}
    → (Heads (fixed key) ts → Yields (f true (tail ts)) Q) → (sees key ts ≡ false → Yields (f false ts) Q)
    → Yields (f (sees key ts) (if sees key ts then tail ts else ts)) Q
if_eaten_key key ts f {Q} g h = by (sees key ts) (λ r. g (heads key ts r)) h
  where
    by : (r : Bool) → (r ≡ true → Yields (f true (tail ts)) Q) → (r ≡ false → Yields (f false ts) Q)
        → Yields (f r (if r then tail ts else ts)) Q
    by true g h = g refl
    by false g h = h refl

-- each of them is seen where it stands
pub sees_key_is : (key : TokenClass) (t : Token) (us : List Token) → fixed key ≡ Some t → sees key (t ∷ us) ≡ true
unfolding sees same_key key_of is_reserved
sees_key_is k.End t us is = absurd (cc)
sees_key_is k.Or t us is = rw (sym (same_Some _ _ is)) refl
sees_key_is k.And t us is = rw (sym (same_Some _ _ is)) refl
sees_key_is k.Not t us is = rw (sym (same_Some _ _ is)) refl
sees_key_is k.Is t us is = rw (sym (same_Some _ _ is)) refl
sees_key_is k.In t us is = rw (sym (same_Some _ _ is)) refl
sees_key_is k.Between t us is = rw (sym (same_Some _ _ is)) refl
sees_key_is k.Null t us is = rw (sym (same_Some _ _ is)) refl
sees_key_is k.True t us is = rw (sym (same_Some _ _ is)) refl
sees_key_is k.False t us is = rw (sym (same_Some _ _ is)) refl
sees_key_is k.Reserved t us is = absurd (cc)
sees_key_is k.Sum t us is = rw (sym (same_Some _ _ is)) refl
sees_key_is k.Count t us is = rw (sym (same_Some _ _ is)) refl
sees_key_is k.Name t us is = absurd (cc)
sees_key_is k.Text t us is = absurd (cc)
sees_key_is k.Number t us is = absurd (cc)
sees_key_is k.LParen t us is = rw (sym (same_Some _ _ is)) refl
sees_key_is k.RParen t us is = rw (sym (same_Some _ _ is)) refl
sees_key_is k.Comma t us is = rw (sym (same_Some _ _ is)) refl
sees_key_is k.Dot t us is = rw (sym (same_Some _ _ is)) refl
sees_key_is k.Star t us is = rw (sym (same_Some _ _ is)) refl
sees_key_is k.Plus t us is = rw (sym (same_Some _ _ is)) refl
sees_key_is k.Minus t us is = rw (sym (same_Some _ _ is)) refl
sees_key_is k.Equal t us is = rw (sym (same_Some _ _ is)) refl
sees_key_is k.Unequal t us is = rw (sym (same_Some _ _ is)) refl
sees_key_is k.Less t us is = rw (sym (same_Some _ _ is)) refl
sees_key_is k.AtMost t us is = rw (sym (same_Some _ _ is)) refl
sees_key_is k.Greater t us is = rw (sym (same_Some _ _ is)) refl
sees_key_is k.AtLeast t us is = rw (sym (same_Some _ _ is)) refl
sees_key_is k.Arrow t us is = absurd (cc)

pub expect_key_reads : (key : TokenClass) (t : Token) (us : List Token) → fixed key ≡ Some t
    → expect_key key (t ∷ us) ≡ Some (tt, us)
unfolding expect_key
expect_key_reads key t us is = rw (sees_key_is key t us is) refl

pub lparen_reads : (us : List Token) → expect_key k.LParen (SignToken token.LParen ∷ us) ≡ Some (tt, us)
lparen_reads us = expect_key_reads k.LParen _ us refl

pub rparen_reads : (us : List Token) → expect_key k.RParen (SignToken token.RParen ∷ us) ≡ Some (tt, us)
rparen_reads us = expect_key_reads k.RParen _ us refl

pub equal_reads : (us : List Token) → expect_key k.Equal (SignToken token.Equal ∷ us) ≡ Some (tt, us)
equal_reads us = expect_key_reads k.Equal _ us refl

-- ---- what takes nothing

pub given-yields : {A : Type 0} (o : Option A) (ts : List Token) {Q : A → List Token → Type 0}
    → ((x : A) → o ≡ Some x → Q x ts) → Yields (given o ts) Q
given-yields None ts k = nothing
given-yields (Some x) ts k = yields x ts (k x refl)

pub then_given : {A B : Type 0} (o : Option A) (ts : List Token) (f : A → Reader B) {Q : B → List Token → Type 0}
    → ((x : A) → o ≡ Some x → Yields (f x ts) Q)
    → Yields (and_then (given o ts) f) Q
then_given None ts f k = nothing
then_given (Some x) ts f k = k x refl

pub given-reads : {A : Type 0} (o : Option A) (x : A) (ts : List Token) → o ≡ Some x → given o ts ≡ Some (x, ts)
given-reads o x ts h = rw h refl

pub end-yields : (ts : List Token) → Yields (read_end ts) (λ _ us. (ts ≡ []) × (us ≡ []))
unfolding read_end
end-yields [] = yields tt [] (refl, refl)
end-yields (t ∷ us) = nothing

pub end-reads : (us : List Token) → us ≡ [] → read_end us ≡ Some (tt, us)
unfolding read_end
end-reads us e = subst (λ (us : List Token). read_end us ≡ Some (tt, us)) (sym e) refl

-- ---- what isn't seen

-- the next token isn't that one
abbrev pub Lacks : Token → List Token → Type 0
Lacks t ts = ts ≡ t ∷ tail ts → ⊥

false_unless : (r : Bool) → (r ≡ true → ⊥) → r ≡ false
false_unless true h = absurd (h refl)
false_unless false h = refl

pub not_that_key : (key : TokenClass) (t : Token) (ts : List Token) → fixed key ≡ Some t → Lacks t ts →
    sees key ts ≡ false
not_that_key key t ts is h = false_unless (sees key ts) (λ r. h (sees_key_some key t ts is r))

-- another word; the test is decided for two known words
pub other_word : (w v : List ℕ) (us : List Token) → bytes_eq v w ≡ false → sees_word w (Word v ∷ us) ≡ false
unfolding sees_word
other_word w v us h = h

pub end_no_word : (w : List ℕ) → sees_word w [] ≡ false
unfolding sees_word
end_no_word w = refl

pub text_no_word : (w bytes : List ℕ) (us : List Token) → sees_word w (TextToken bytes ∷ us) ≡ false
unfolding sees_word
text_no_word w bytes us = refl

pub sign_no_word : (w : List ℕ) (s : token.Sign) (us : List Token) → sees_word w (SignToken s ∷ us) ≡ false
unfolding sees_word
sign_no_word w s us = refl

-- a word is no sign, and another word isn't that one
pub word_no_sign : (key : TokenClass) (s : token.Sign) (v : List ℕ) (us : List Token) → fixed key ≡ Some (SignToken s)
    → sees key (Word v ∷ us) ≡ false
word_no_sign key s v us is = not_that_key key (SignToken s) (Word v ∷ us) is (λ e. cc)

-- ---- a token that carries something

pub read_word_some : (ts : List Token) {w : List ℕ} {us : List Token} → read_word ts ≡ Some (w, us) → ts ≡ Word w ∷ us
unfolding read_word
read_word_some [] h = absurd (cc)
read_word_some (Word v ∷ vs) h = let same = pure_some h in rw (same.0, same.1) refl
read_word_some (Quoted name ∷ vs) h = absurd (cc)
read_word_some (TextToken bytes ∷ vs) h = absurd (cc)
read_word_some (NumberToken n ∷ vs) h = absurd (cc)
read_word_some (SignToken s ∷ vs) h = absurd (cc)

pub read_word_reads : (w : List ℕ) (us : List Token) → read_word (Word w ∷ us) ≡ Some (w, us)
unfolding read_word
read_word_reads w us = refl

pub read_text_some : (ts : List Token) {bytes : List ℕ} {us : List Token} → read_text ts ≡ Some (bytes, us)
    → ts ≡ TextToken bytes ∷ us
unfolding read_text
read_text_some [] h = absurd (cc)
read_text_some (Word v ∷ vs) h = absurd (cc)
read_text_some (Quoted name ∷ vs) h = absurd (cc)
read_text_some (TextToken inside ∷ vs) h = let same = pure_some h in rw (same.0, same.1) refl
read_text_some (NumberToken n ∷ vs) h = absurd (cc)
read_text_some (SignToken s ∷ vs) h = absurd (cc)

pub read_text_reads : (bytes : List ℕ) (us : List Token) → read_text (TextToken bytes ∷ us) ≡ Some (bytes, us)
unfolding read_text
read_text_reads bytes us = refl

pub read_number_some : (ts : List Token) {n : ℕ} {us : List Token} → read_number ts ≡ Some (n, us)
    → ts ≡ NumberToken n ∷ us
unfolding read_number
read_number_some [] h = absurd (cc)
read_number_some (Word v ∷ vs) h = absurd (cc)
read_number_some (Quoted name ∷ vs) h = absurd (cc)
read_number_some (TextToken bytes ∷ vs) h = absurd (cc)
read_number_some (NumberToken m ∷ vs) h = let same = pure_some h in rw (same.0, same.1) refl
read_number_some (SignToken s ∷ vs) h = absurd (cc)

pub read_number_reads : (n : ℕ) (us : List Token) → read_number (NumberToken n ∷ us) ≡ Some (n, us)
unfolding read_number
read_number_reads n us = refl

pub word-yields : (ts : List Token) → Yields (read_word ts) (λ w us. ts ≡ Word w ∷ us)
word-yields ts = yields_law (λ w us h. read_word_some ts h)

pub text-yields : (ts : List Token) → Yields (read_text ts) (λ bytes us. ts ≡ TextToken bytes ∷ us)
text-yields ts = yields_law (λ bytes us h. read_text_some ts h)

pub number-yields : (ts : List Token) → Yields (read_number ts) (λ n us. ts ≡ NumberToken n ∷ us)
number-yields ts = yields_law (λ n us h. read_number_some ts h)

-- ---- names

pub name_reads : {ts us : List Token} {name : List ℕ} → IsName ts name us → read_name ts ≡ Some (name, us)
name_reads h = name-complete h

pub name-yields : (ts : List Token) → Yields (read_name ts) (λ name us. IsName ts name us)
name-yields ts = yields_law (λ name us h. name_sound ts name us h)

-- a token at least is taken
pub follows-shorter : {ts us : List Token} → Follows ts us → length us < length ts
follows-shorter {us = us} h = omega (arith, ap length h.is, length-append h.more us)

pub name_shorter : {ts us : List Token} {name : List ℕ} → IsName ts name us → length us < length ts
name_shorter h = follows-shorter (name-front h)
