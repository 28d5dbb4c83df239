-- A part of a text from one token to another, by itself.
--     part_is     it is a text, with just these tokens
use Rattle.std.proofs.Common.{◌≡◌, ◌≢◌, ℕ, ◌+◌, ◌-◌, ◌<◌, Bool, true, false, List, [], ◌∷◌, ◌++◌, length, take, drop}
use Rattle.std.proofs.Common.{get_or, refl, sym, ap, ◌∙◌, subst, append_assoc, append-nil, arith, length-append}
use Rattle.std.proofs.Common.{drop_at, take_at, IsUtf8, IsCharBoundary}
use Rattle.std.specs.List.{list_all}
use Rattle.std.proofs.lemmas.Bool.{and_parts}
use Rattle.std.proofs.lemmas.Bool.Decides.{nat_tests}
use Rattle.std.proofs.lemmas.Str.{IsUtf8-nil, IsUtf8-take, IsUtf8-drop, IsCharBoundary-end, IsCharBoundary-before_ascii}
use Rattle.std.proofs.Math.Seq.{get_or-append_seam}
use Rattle.wh_grammar.specs.Bytes.{is_blank, is_digit, begins_word, is_word_byte}
use Rattle.wh_grammar.specs.Token.{Token, Sign, LParen, Placed}
use Rattle.wh_grammar.specs.Lexing as lex
use Rattle.wh_grammar.specs.Lexing.{IsGap, IsToken, HasTokens, begins_with, doubled, extends, is_byte, sign_bytes}
use Rattle.wh_grammar.specs.Spelled.{tokens_of, end_of, written}

-- ---- without what stands behind

-- the bytes before those behind, at whose front the same stands
record Shorn (Stands : List ℕ → List ℕ → Type 0) (bytes front behind : List ℕ) : Type 0 where
  pub left : List ℕ
  pub is : bytes ≡ left ++ behind
  pub stands : Stands left front

neither : (front behind : List ℕ) → front ++ behind ≡ [] → (front ≡ []) × (behind ≡ [])
neither [] behind e = (refl, e)
neither (b ∷ front) behind e = absurd (cc)

gap-shorn : (bytes front behind : List ℕ) → IsGap bytes (front ++ behind) → Shorn IsGap bytes front behind
gap-shorn bytes front behind (lex.blank b e h) =
    record { left = b ∷ front; is = e; stands = lex.blank b refl h }
gap-shorn bytes front behind (lex.line_comment inside e h) = record {
  left = 45 ∷ 45 ∷ (inside ++ 10 ∷ front);
  is = e ∙ ap (λ (l : List ℕ). 45 ∷ 45 ∷ l) (sym (append_assoc inside (10 ∷ front) behind));
  stands = lex.line_comment inside refl h;
}
gap-shorn bytes front behind (lex.last_comment inside e none h) =
    let both = neither front behind none in record {
      left = 45 ∷ 45 ∷ inside;
      is = e ∙ ap (λ (l : List ℕ). 45 ∷ 45 ∷ l) (sym (ap (λ (l : List ℕ). inside ++ l) both.1 ∙ append-nil inside));
      stands = lex.last_comment inside refl both.0 h;
    }
gap-shorn bytes front behind (lex.comment inside e h) = record {
  left = 47 ∷ 42 ∷ (inside ++ 42 ∷ 47 ∷ front);
  is = e ∙ ap (λ (l : List ℕ). 47 ∷ 42 ∷ l) (sym (append_assoc inside (42 ∷ 47 ∷ front) behind));
  stands = lex.comment inside refl h;
}

-- where less follows, nothing more passes
none_begins : (test : ℕ → Bool) (front behind : List ℕ) → begins_with test (front ++ behind) ≡ false
    → begins_with test front ≡ false
none_begins test [] behind h = refl
none_begins test (b ∷ front) behind h = h

abbrev Stands : Token → List ℕ → List ℕ → Type 0
Stands t bytes rest = IsToken bytes t rest

token-shorn : (bytes : List ℕ) (t : Token) (front behind : List ℕ) → IsToken bytes t (front ++ behind)
    → Shorn (Stands t) bytes front behind
token-shorn bytes t front behind (lex.bare (lex.word b more e h all stop made is)) = record {
  left = b ∷ (more ++ front);
  is = e ∙ ap (λ (l : List ℕ). b ∷ l) (sym (append_assoc more front behind));
  stands = lex.bare (lex.word b more refl h all (none_begins is_word_byte front behind stop) made is);
}
token-shorn bytes t front behind (lex.bare (lex.number digits e some all small stop is)) = record {
  left = digits ++ front;
  is = e ∙ sym (append_assoc digits front behind);
  stands = lex.bare (lex.number digits refl some all small (none_begins is_word_byte front behind stop) is);
}
token-shorn bytes t front behind (lex.enclosed (lex.text inside e made plain stop is)) = record {
  left = 39 ∷ (doubled 39 inside ++ 39 ∷ front);
  is = e ∙ ap (λ (l : List ℕ). 39 ∷ l) (sym (append_assoc (doubled 39 inside) (39 ∷ front) behind));
  stands = lex.enclosed (lex.text inside refl made plain (none_begins (is_byte 39) front behind stop) is);
}
token-shorn bytes t front behind (lex.enclosed (lex.quoted inside e made some stop is)) = record {
  left = 34 ∷ (doubled 34 inside ++ 34 ∷ front);
  is = e ∙ ap (λ (l : List ℕ). 34 ∷ l) (sym (append_assoc (doubled 34 inside) (34 ∷ front) behind));
  stands = lex.enclosed (lex.quoted inside refl made some (none_begins (is_byte 34) front behind stop) is);
}
token-shorn bytes t front behind (lex.signed (lex.sign s e stop is)) = record {
  left = sign_bytes s ++ front;
  is = e ∙ sym (append_assoc (sign_bytes s) front behind);
  stands = lex.signed (lex.sign s refl (none_begins (extends s) front behind stop) is);
}
token-shorn bytes t front behind (lex.signed (lex.other_unequal e is)) =
    record { left = 33 ∷ 61 ∷ front; is = e; stands = lex.signed (lex.other_unequal refl is) }

-- ---- a text with tokens begins with a byte of ASCII, if with any

abbrev IsSmall : List ℕ → Type 0
IsSmall bytes = get_or bytes 0 0 < 128

first-small : (bytes : List ℕ) (b : ℕ) (more : List ℕ) → bytes ≡ b ∷ more → b < 128 → IsSmall bytes
first-small bytes b more e small = subst IsSmall (sym e) small

blank-small : (b : ℕ) → is_blank b ≡ true → b < 128
blank-small b h = grind (arith, nat_tests)

letter-small : (b : ℕ) → begins_word b ≡ true → b < 128
letter-small b h = grind (arith, nat_tests)

digit-small : (b : ℕ) → is_digit b ≡ true → b < 128
digit-small b h = grind (arith, nat_tests)

gap-small : (bytes rest : List ℕ) → IsGap bytes rest → IsSmall bytes
gap-small bytes rest (lex.blank b e h) = first-small bytes b _ e (blank-small b h)
gap-small bytes rest (lex.line_comment inside e h) = first-small bytes 45 _ e (omega arith)
gap-small bytes rest (lex.last_comment inside e none h) = first-small bytes 45 _ e (omega arith)
gap-small bytes rest (lex.comment inside e h) = first-small bytes 47 _ e (omega arith)

digits-small : (bytes digits rest : List ℕ) → bytes ≡ digits ++ rest → digits ≢ [] → list_all is_digit digits ≡ true
    → IsSmall bytes
digits-small bytes [] rest e some all = absurd (some refl)
digits-small bytes (d ∷ digits) rest e some all =
    first-small bytes d _ e (digit-small d (and_parts (is_digit d) (list_all is_digit digits) all).0)

sign-small : (s : Sign) (rest : List ℕ) → IsSmall (sign_bytes s ++ rest)
sign-small LParen rest = omega arith
sign-small _ rest = omega arith

token-small : (bytes : List ℕ) (t : Token) (rest : List ℕ) → IsToken bytes t rest → IsSmall bytes
token-small bytes t rest (lex.bare (lex.word b more e h all stop made is)) = first-small bytes b _ e (letter-small b h)
token-small bytes t rest (lex.bare (lex.number digits e some all small stop is)) =
    digits-small bytes digits rest e some all
token-small bytes t rest (lex.enclosed (lex.text inside e made plain stop is)) = first-small bytes 39 _ e (omega arith)
token-small bytes t rest (lex.enclosed (lex.quoted inside e made some stop is)) = first-small bytes 34 _ e (omega arith)
token-small bytes t rest (lex.signed (lex.sign s e stop is)) = subst IsSmall (sym e) (sign-small s rest)
token-small bytes t rest (lex.signed (lex.other_unequal e is)) = first-small bytes 33 _ e (omega arith)

all-small : {bytes : List ℕ} {placed : List Placed} → HasTokens bytes placed → IsSmall bytes
all-small lex.end = omega arith
all-small (lex.gap {bytes} {rest} g h) = gap-small bytes rest g
all-small (lex.token {bytes} {rest} {t} k h) = token-small bytes t rest k

-- ---- the bytes from one token to another

same_first : {t u : Placed} {ts us : List Placed} → t ∷ ts ≡ u ∷ us → t ≡ u
same_first e = cc

same_rest : {t u : Placed} {ts us : List Placed} → t ∷ ts ≡ u ∷ us → ts ≡ us
same_rest e = cc

-- what a text has from a token on
record Reached (text : List ℕ) (t : Placed) (more : List Placed) : Type 0 where
  pub skipped : List ℕ
  pub bytes : List ℕ
  pub is : text ≡ skipped ++ bytes
  pub begins : t.from ≡ length bytes
  pub has : HasTokens bytes (t ∷ more)

further : (text rest : List ℕ) (t : Placed) (more : List Placed) (front : List ℕ) → text ≡ front ++ rest
    → Reached rest t more → Reached text t more
further text rest t more front e r = record {
  skipped = front ++ r.skipped;
  bytes = r.bytes;
  is = e ∙ ap (λ (l : List ℕ). front ++ l) r.is ∙ sym (append_assoc front r.skipped r.bytes);
  begins = r.begins;
  has = r.has;
}

reached : {text : List ℕ} {placed : List Placed} → HasTokens text placed → (head : List Placed) (t : Placed)
    (more : List Placed) → placed ≡ head ++ t ∷ more → Reached text t more
reached lex.end [] t more e = absurd (cc)
reached lex.end (p ∷ head) t more e = absurd (cc)
reached (lex.gap {bytes} {rest} g h) head t more e =
    let s = gap-shorn bytes [] rest g in further bytes rest t more s.left s.is (reached h head t more e)
reached (lex.token {bytes} {rest} {t = u} k h) [] t more e = record {
  skipped = [];
  bytes = bytes;
  is = refl;
  begins = sym (ap (λ (p : Placed). p.from) (same_first e));
  has = subst (HasTokens bytes) e (lex.token k h);
}
reached (lex.token {bytes} {rest} {t = u} k h) (p ∷ head) t more e =
    let s = token-shorn bytes u [] rest k in
    further bytes rest t more s.left s.is (reached h head t more (same_rest e))

-- what it has to the end of another
record Ended (bytes : List ℕ) (t : Placed) (ts : List Placed) : Type 0 where
  pub front : List ℕ
  pub behind : List ℕ
  pub is : bytes ≡ front ++ behind
  pub ends : end_of t ts ≡ length behind
  pub small : IsSmall behind
  pub placed : List Placed
  pub has : HasTokens front placed
  pub same : tokens_of placed ≡ tokens_of (t ∷ ts)

ended : {bytes : List ℕ} {placed : List Placed} → HasTokens bytes placed → (t : Placed) (ts tail : List Placed)
    → placed ≡ t ∷ (ts ++ tail) → Ended bytes t ts
ended lex.end t ts tail e = absurd (cc)
ended (lex.gap {bytes} {rest} g h) t ts tail e =
    let c = ended h t ts tail e in
    let s = gap-shorn bytes c.front c.behind (subst (IsGap bytes) c.is g) in record {
      front = s.left;
      behind = c.behind;
      is = s.is;
      ends = c.ends;
      small = c.small;
      placed = c.placed;
      has = lex.gap s.stands c.has;
      same = c.same;
    }
ended (lex.token {bytes} {rest} {t = u} k h) t [] tail e =
    let s = token-shorn bytes u [] rest k in record {
      front = s.left;
      behind = rest;
      is = s.is;
      ends = sym (ap (λ (p : Placed). p.behind) (same_first e));
      small = all-small h;
      placed = (record { token = u; from = length s.left; behind = 0 }) ∷ [];
      has = lex.token s.stands lex.end;
      same = ap (λ (p : Placed). p.token ∷ []) (same_first e);
    }
ended (lex.token {bytes} {rest} {t = u} k h) t (v ∷ ts) tail e =
    let c = ended h v ts tail (same_rest e) in
    let s = token-shorn bytes u c.front c.behind (subst (Stands u bytes) c.is k) in record {
      front = s.left;
      behind = c.behind;
      is = s.is;
      ends = c.ends;
      small = c.small;
      placed = (record { token = u; from = length s.left; behind = length c.front }) ∷ c.placed;
      has = lex.token s.stands c.has;
      same = ap (λ (p : Placed). p.token ∷ tokens_of c.placed) (same_first e)
          ∙ ap (λ (l : List Token). t.token ∷ l) c.same;
    }

-- ---- a part of a text

-- a text of its own, with such tokens
pub record IsPart (text : List ℕ) (ts : List Placed) : Type 0 where
  pub utf8 : IsUtf8 text
  pub placed : List Placed
  pub has : HasTokens text placed
  pub same : tokens_of placed ≡ tokens_of ts

seam : (front bytes : List ℕ) → IsSmall bytes → IsCharBoundary (front ++ bytes) (length front)
seam front [] small =
    rw (append-nil front) (IsCharBoundary-end front)
seam front (b ∷ bytes) small =
    IsCharBoundary-before_ascii (front ++ b ∷ bytes) (length front) (omega (arith, length-append front (b ∷ bytes)))
    (rw (get_or-append_seam front b bytes 0) small)

utf8-behind : (front bytes : List ℕ) → IsUtf8 (front ++ bytes) → IsSmall bytes → IsUtf8 bytes
utf8-behind front bytes utf8 small = subst IsUtf8 (drop_at front bytes (length front) refl)
    (IsUtf8-drop (front ++ bytes) (length front) utf8 (seam front bytes small))

utf8-front : (front bytes : List ℕ) → IsUtf8 (front ++ bytes) → IsSmall bytes → IsUtf8 front
utf8-front front bytes utf8 small = subst IsUtf8 (take_at front bytes (length front) refl)
    (IsUtf8-take (front ++ bytes) (length front) utf8 (seam front bytes small))

middle : (text skipped front behind : List ℕ) (from to : ℕ) → text ≡ skipped ++ (front ++ behind)
    → from ≡ length (front ++ behind) → to ≡ length behind
    → front ≡ take (from - to) (drop (length text - from) text)
middle text skipped front behind from to e begins ends =
    let long : length text ≡ length skipped + length (front ++ behind) =
    ap length e ∙ length-append skipped (front ++ behind) in
    let at : length text - from ≡ length skipped = omega (arith, long, begins) in
    let width : from - to ≡ length front = omega (arith, begins, ends, length-append front behind) in
    sym (ap (λ (n : ℕ). take n (drop (length text - from) text)) width
    ∙ ap (λ (n : ℕ). take (length front) (drop n text)) at
    ∙ ap (λ (l : List ℕ). take (length front) (drop (length skipped) l)) e
    ∙ ap (λ (l : List ℕ). take (length front) l) (drop_at skipped (front ++ behind) (length skipped) refl)
    ∙ take_at front behind (length front) refl)

pub part_is : (text : List ℕ) (placed head ts tail : List Placed) → IsUtf8 text → HasTokens text placed
    → placed ≡ head ++ (ts ++ tail) → IsPart (written text ts) ts
part_is text placed head [] tail utf8 h e = record { utf8 = IsUtf8-nil; placed = []; has = lex.end; same = refl }
part_is text placed head (t ∷ ts) tail utf8 h e =
    let r = reached h head t (ts ++ tail) e in
    let c = ended r.has t ts tail refl in
    let within = utf8-behind r.skipped r.bytes (subst IsUtf8 r.is utf8) (all-small r.has) in
    subst (λ (l : List ℕ). IsPart l (t ∷ ts))
    (middle text r.skipped c.front c.behind t.from (end_of t ts) (r.is ∙ ap (λ (l : List ℕ). r.skipped ++ l) c.is)
    (r.begins ∙ ap length c.is) c.ends)
    (record {
      utf8 = utf8-front c.front c.behind (subst IsUtf8 c.is within) c.small;
      placed = c.placed;
      has = c.has;
      same = c.same;
    })
