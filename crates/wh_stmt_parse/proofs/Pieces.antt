-- A piece of a text that begins and ends where tokens do is a text.
use Rattle.std.proofs.Common.{◌≡◌, ℕ, ◌+◌, ◌-◌, ◌<◌, ◌≤◌, true, List, [], ◌∷◌, ◌++◌, length, take, drop, get_or, refl}
use Rattle.std.proofs.Common.{sym, ap, ◌∙◌, subst, append_assoc, arith, length-append, IsUtf8, IsCharBoundary}
use Rattle.std.specs.List.{list_all}
use Rattle.std.proofs.lemmas.Bool.{and_parts}
use Rattle.std.proofs.lemmas.Bool.Decides.{nat_tests}
use Rattle.std.proofs.lemmas.List.{get_or-append-add}
use Rattle.std.proofs.lemmas.Str.{IsUtf8-between, IsUtf8-nil}
use Rattle.wh_grammar.specs.Bytes.{is_blank, is_digit, begins_word}
use Rattle.wh_grammar.specs.Token.{Token, Sign, LParen, RParen, Comma, Dot, Star, Plus, Minus, Equal, Unequal, Less}
use Rattle.wh_grammar.specs.Token.{AtMost, Greater, AtLeast, Arrow, Placed}
use Rattle.wh_grammar.specs.Lexing as lex
use Rattle.wh_grammar.specs.Lexing.{IsGap, IsToken, HasTokens, doubled, sign_bytes}
use Rattle.wh_grammar.specs.Spelled.{end_of, written}

-- ---- what stands at the front

-- the rest is what is left behind a front, and the first byte is of ASCII
pub record Begins (bytes rest : List ℕ) : Type 0 where
  pub front : List ℕ
  pub is : bytes ≡ front ++ rest
  pub first : get_or bytes 0 0 < 128

begins : {bytes rest : List ℕ} (b : ℕ) (more : List ℕ) → bytes ≡ (b ∷ more) ++ rest → b < 128 → Begins bytes rest
begins {bytes} {rest} b more e small =
    record { front = b ∷ more; is = e; first = subst (λ (bytes : List ℕ). get_or bytes 0 0 < 128) (sym e) small }

blank-small : (b : ℕ) → is_blank b ≡ true → b < 128
blank-small b h = grind (arith, nat_tests)

letter-small : (b : ℕ) → begins_word b ≡ true → b < 128
letter-small b h = grind (arith, nat_tests)

digit-small : (b : ℕ) → is_digit b ≡ true → b < 128
digit-small b h = grind (arith, nat_tests)

gap-begins : (bytes rest : List ℕ) → IsGap bytes rest → Begins bytes rest
gap-begins bytes rest (lex.blank b e h) = begins b [] e (blank-small b h)
gap-begins bytes rest (lex.line_comment inside e h) =
    begins 45 (45 ∷ (inside ++ 10 ∷ []))
    (e ∙ ap (λ (l : List ℕ). 45 ∷ 45 ∷ l) (sym (append_assoc inside (10 ∷ []) rest))) (omega arith)
gap-begins bytes rest (lex.last_comment inside e none h) =
    begins 45 (45 ∷ inside) (e ∙ ap (λ (l : List ℕ). 45 ∷ 45 ∷ l) (sym (all_of inside rest none))) (omega arith)
  where
    all_of : (inside rest : List ℕ) → rest ≡ [] → inside ++ rest ≡ inside
    all_of [] rest none = none
    all_of (b ∷ inside) rest none = ap (λ (l : List ℕ). b ∷ l) (all_of inside rest none)
gap-begins bytes rest (lex.comment inside e h) =
    begins 47 (42 ∷ (inside ++ 42 ∷ 47 ∷ []))
    (e ∙ ap (λ (l : List ℕ). 47 ∷ 42 ∷ l) (sym (append_assoc inside (42 ∷ 47 ∷ []) rest))) (omega arith)

number-begins : (bytes digits rest : List ℕ) → bytes ≡ digits ++ rest → (digits ≡ [] → ⊥)
    → list_all is_digit digits ≡ true → Begins bytes rest
number-begins bytes [] rest e some all = absurd (some refl)
number-begins bytes (d ∷ digits) rest e some all =
    begins d digits e (digit-small d (and_parts (is_digit d) (list_all is_digit digits) all).0)

sign-begins : (s : Sign) (bytes rest : List ℕ) → bytes ≡ sign_bytes s ++ rest → Begins bytes rest
sign-begins LParen bytes rest e = begins 40 [] e (omega arith)
sign-begins RParen bytes rest e = begins 41 [] e (omega arith)
sign-begins Comma bytes rest e = begins 44 [] e (omega arith)
sign-begins Dot bytes rest e = begins 46 [] e (omega arith)
sign-begins Star bytes rest e = begins 42 [] e (omega arith)
sign-begins Plus bytes rest e = begins 43 [] e (omega arith)
sign-begins Minus bytes rest e = begins 45 [] e (omega arith)
sign-begins Equal bytes rest e = begins 61 [] e (omega arith)
sign-begins Unequal bytes rest e = begins 60 (62 ∷ []) e (omega arith)
sign-begins Less bytes rest e = begins 60 [] e (omega arith)
sign-begins AtMost bytes rest e = begins 60 (61 ∷ []) e (omega arith)
sign-begins Greater bytes rest e = begins 62 [] e (omega arith)
sign-begins AtLeast bytes rest e = begins 62 (61 ∷ []) e (omega arith)
sign-begins Arrow bytes rest e = begins 61 (62 ∷ []) e (omega arith)

quotes-begin : (quote : ℕ) (bytes inside rest : List ℕ) → bytes ≡ quote ∷ (inside ++ quote ∷ rest) → quote < 128
    → Begins bytes rest
quotes-begin quote bytes inside rest e small =
    begins quote (inside ++ quote ∷ [])
    (e ∙ ap (λ (l : List ℕ). quote ∷ l) (sym (append_assoc inside (quote ∷ []) rest))) small

token-begins : (bytes : List ℕ) (t : Token) (rest : List ℕ) → IsToken bytes t rest → Begins bytes rest
token-begins bytes t rest (lex.bare (lex.word b more e h all stop made is)) = begins b more e (letter-small b h)
token-begins bytes t rest (lex.bare (lex.number digits e some all small stop is)) =
    number-begins bytes digits rest e some all
token-begins bytes t rest (lex.enclosed (lex.text inside e utf8 plain stop is)) =
    quotes-begin 39 bytes (doubled 39 inside) rest e (omega arith)
token-begins bytes t rest (lex.enclosed (lex.quoted inside e utf8 some stop is)) =
    quotes-begin 34 bytes (doubled 34 inside) rest e (omega arith)
token-begins bytes t rest (lex.signed (lex.sign s e stop is)) = sign-begins s bytes rest e
token-begins bytes t rest (lex.signed (lex.other_unequal e is)) = begins 33 (61 ∷ []) e (omega arith)

first-small : {bytes : List ℕ} {ts : List Placed} → HasTokens bytes ts → get_or bytes 0 0 < 128
first-small lex.end = omega arith
first-small (lex.gap {bytes} {rest} g h) = (gap-begins bytes rest g).first
first-small (lex.token {bytes} {rest} {t} k h) = (token-begins bytes t rest k).first

-- ---- where tokens begin and end

-- where so many bytes are left, a character begins
pub record Cut (text : List ℕ) (left : ℕ) : Type 0 where
  pub within : left ≤ length text
  pub boundary : IsCharBoundary text (length text - left)

cut : (text front bytes : List ℕ) → text ≡ front ++ bytes → get_or bytes 0 0 < 128 → Cut text (length bytes)
cut text front bytes e small =
    let long : length text ≡ length front + length bytes = ap length e ∙ length-append front bytes in
    let at : length text - length bytes ≡ length front = omega (arith, long) in
    let byte : get_or text (length front + 0) 0 ≡ get_or bytes 0 0 =
    ap (λ (l : List ℕ). get_or l (length front + 0) 0) e ∙ get_or-append-add front bytes 0 0 in
    let byte_there : get_or text (length text - length bytes) 0 ≡ get_or bytes 0 0 =
    ap (λ (n : ℕ). get_or text n 0) (at ∙ omega arith) ∙ byte in
    record {
      within = omega (arith, long);
      boundary = (omega arith, λ _ high. absurd (omega (arith, byte_there, high, small)));
    }

-- so do all of them, one behind the other, where at most so many bytes are left
abbrev pub Cuts : List ℕ → ℕ → List Placed → Type 0
Cuts text n [] = Unit {0}
Cuts text n (t ∷ ts) = (t.from ≤ n) × Cut text t.from × (t.behind ≤ t.from) × Cut text t.behind × Cuts text t.behind ts

cuts-more : (text : List ℕ) (m n : ℕ) (ts : List Placed) → m ≤ n → Cuts text m ts → Cuts text n ts
cuts-more text m n [] few h = tt
cuts-more text m n (t ∷ ts) few h = (omega (arith, few, h.0), h.1, h.2, h.3, h.4)

-- the text before the bytes, and what stands at their front
longer : (text front bytes rest : List ℕ) → text ≡ front ++ bytes → (b : Begins bytes rest)
    → text ≡ (front ++ b.front) ++ rest
longer text front bytes rest e b = e ∙ ap (λ (l : List ℕ). front ++ l) b.is ∙ sym (append_assoc front b.front rest)

shorter : (bytes rest : List ℕ) → Begins bytes rest → length rest ≤ length bytes
shorter bytes rest b = let long : length bytes ≡ length b.front + length rest = ap length b.is
    ∙ length-append b.front rest in omega (arith, long)

cuts-by : (text front : List ℕ) {bytes : List ℕ} {ts : List Placed} → text ≡ front ++ bytes → HasTokens bytes ts
    → Cuts text (length bytes) ts
cuts-by text front e lex.end = tt
cuts-by text front e (lex.gap {bytes} {rest} {ts} g h) =
    let b = gap-begins bytes rest g in
    cuts-more text (length rest) (length bytes) ts (shorter bytes rest b)
    (cuts-by text (front ++ b.front) (longer text front bytes rest e b) h)
cuts-by text front e (lex.token {bytes} {rest} {t} {ts} k h) =
    let b = token-begins bytes t rest k in (
      omega arith,
      cut text front bytes e b.first,
      shorter bytes rest b,
      cut text (front ++ b.front) rest (longer text front bytes rest e b) (first-small h),
      cuts-by text (front ++ b.front) (longer text front bytes rest e b) h,
    )

-- those behind the first of them
pub record Behind (text : List ℕ) (ts : List Placed) : Type 0 where
  pub left : ℕ
  pub cuts : Cuts text left ts

behind : (text : List ℕ) (n : ℕ) (head ts : List Placed) → Cuts text n (head ++ ts) → Behind text ts
behind text n [] ts h = record { left = n; cuts = h }
behind text n (t ∷ head) ts h = behind text t.behind head ts h.4

pub record Ends (text : List ℕ) (t : Placed) (more : List Placed) : Type 0 where
  pub at : Cut text (end_of t more)
  pub before : end_of t more ≤ t.from

ends : (text : List ℕ) (n : ℕ) (t : Placed) (more tail : List Placed) → Cuts text n (t ∷ (more ++ tail))
    → Ends text t more
ends text n t [] tail h = record { at = h.3; before = h.2 }
ends text n t (u ∷ more) tail h =
    let later = ends text t.behind u more tail h.4 in
    record { at = later.at; before = omega (arith, later.before, h.4.0, h.2) }

-- ---- the piece

between-cuts : (text : List ℕ) (from to : ℕ) → IsUtf8 text → Cut text from → Cut text to → to ≤ from
    → IsUtf8 (take (from - to) (drop (length text - from) text))
between-cuts text from to utf8 a b before =
    let a_within = a.within in
    let b_within = b.within in
    let width : (length text - to) - (length text - from) ≡ from - to = omega (arith, a_within, b_within, before) in
    subst (λ (n : ℕ). IsUtf8 (take n (drop (length text - from) text))) width
    (IsUtf8-between text (length text - from) (length text - to) utf8 (omega (arith, before)) a.boundary b.boundary)

pub piece_is : (text : List ℕ) (placed head ts tail : List Placed) → IsUtf8 text → HasTokens text placed
    → placed ≡ head ++ (ts ++ tail) → IsUtf8 (written text ts)
piece_is text placed head [] tail utf8 h e = IsUtf8-nil
piece_is text placed head (t ∷ ts) tail utf8 h e =
    let all = subst (Cuts text (length text)) e (cuts-by text [] refl h) in
    let from = behind text (length text) head (t ∷ (ts ++ tail)) all in
    let last = ends text from.left t ts tail from.cuts in
    between-cuts text t.from (end_of t ts) utf8 from.cuts.1 last.at last.before
