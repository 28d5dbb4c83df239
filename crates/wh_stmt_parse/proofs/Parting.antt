-- Placed tokens in parts, and where the parts stand.
use Rattle.std.proofs.Common.{◌≡◌, ℕ, suc, ◌+◌, ◌-◌, List, [], ◌∷◌, ◌++◌, Some, length, take, drop, slice_get, refl}
use Rattle.std.proofs.Common.{sym, ap, ◌∙◌, arith, length-append, take_at, drop_at}
use Rattle.wh_grammar.specs.Token.{Token, Placed}
use Rattle.std.proofs.lemmas.Option.{same_Some}
use Rattle.wh_grammar.specs.Spelled.{tokens_of, end_of}
use Rattle.wh_stmt_parse.specs.KeptText.{between}

-- in two, where the tokens are two lists
pub record Parted (placed : List Placed) (fronts backs : List Token) : Type 0 where
  pub head : List Placed
  pub body : List Placed
  pub is : placed ≡ head ++ body
  pub head_is : tokens_of head ≡ fronts
  pub body_is : tokens_of body ≡ backs

first_of : {t u : Token} {ts us : List Token} → t ∷ ts ≡ u ∷ us → t ≡ u
first_of {t} e = ap (λ (l : List Token). first l t) e
  where
    first : List Token → Token → Token
    first [] d = d
    first (x ∷ xs) d = x

rest_of : {t u : Token} {ts us : List Token} → t ∷ ts ≡ u ∷ us → ts ≡ us
rest_of e = ap (λ (l : List Token). drop 1 l) e

pub parted : (placed : List Placed) (fronts backs : List Token) → tokens_of placed ≡ fronts ++ backs
    → Parted placed fronts backs
parted placed [] backs e = record { head = []; body = placed; is = refl; head_is = refl; body_is = e }
parted [] (t ∷ fronts) backs e = absurd (cc)
parted (p ∷ placed) (t ∷ fronts) backs e =
    let more = parted placed fronts backs (rest_of e) in
    record {
      head = p ∷ more.head;
      body = more.body;
      is = ap (λ (l : List Placed). p ∷ l) more.is;
      head_is = ap (λ (u : Token). u ∷ tokens_of more.head) (first_of e) ∙ ap (λ (l : List Token). t ∷ l) more.head_is;
      body_is = more.body_is;
    }

-- the first of them, and those behind it
pub record Linked (placed : List Placed) (t : Token) (backs : List Token) : Type 0 where
  pub link : Placed
  pub body : List Placed
  pub is : placed ≡ link ∷ body
  pub link_is : link.token ≡ t
  pub body_is : tokens_of body ≡ backs

pub linked : (placed : List Placed) (t : Token) (backs : List Token) → tokens_of placed ≡ t ∷ backs
    → Linked placed t backs
linked [] t backs e = absurd (cc)
linked (p ∷ placed) t backs e = record { link = p; body = placed; is = refl; link_is = first_of e; body_is = rest_of e }

-- ---- the tokens between two places

mid_of : (head mid tail : List Placed) (placed : List Placed) (from to : ℕ) → placed ≡ head ++ (mid ++ tail)
    → from ≡ length (mid ++ tail) → to ≡ length tail → between placed from to ≡ mid
mid_of head mid tail placed from to e f t =
    let long : length placed ≡ length head + length (mid ++ tail) = ap length e ∙ length-append head (mid ++ tail) in
    let at : length placed - from ≡ length head = omega (arith, long, f) in
    let width : from - to ≡ length mid = omega (arith, f, t, length-append mid tail) in
    ap (λ (n : ℕ). take n (drop (length placed - from) placed)) width
    ∙ ap (λ (n : ℕ). take (length mid) (drop n placed)) at
    ∙ ap (λ (l : List Placed). take (length mid) (drop (length head) l)) e
    ∙ ap (λ (l : List Placed). take (length mid) l) (drop_at head (mid ++ tail) (length head) refl)
    ∙ take_at mid tail (length mid) refl

-- as many places as tokens
many : (ts : List Placed) {us : List Token} → tokens_of ts ≡ us → length us ≡ length ts
many ts e = ap length (sym e) ∙ counted ts
  where
    counted : (ts : List Placed) → length (tokens_of ts) ≡ length ts
    counted [] = refl
    counted (t ∷ ts) = omega (arith, counted ts)

-- where so many tokens are left before the part, and so many behind it
pub between_is : (head mid tail : List Placed) {placed : List Placed} {us vs : List Token}
    → placed ≡ head ++ (mid ++ tail) → tokens_of (mid ++ tail) ≡ us → tokens_of tail ≡ vs
    → between placed (length us) (length vs) ≡ mid
between_is head mid tail {placed} {us} {vs} e f t =
    mid_of head mid tail placed (length us) (length vs) e (many (mid ++ tail) f) (many tail t)

pub nothing_behind : (l : List Placed) → l ++ [] ≡ l
nothing_behind [] = refl
nothing_behind (t ∷ l) = ap (λ (l : List Placed). t ∷ l) (nothing_behind l)

-- to the end
pub last_is : (head body : List Placed) {placed : List Placed} {us : List Token} → placed ≡ head ++ body
    → tokens_of body ≡ us
    → between placed (length us) 0 ≡ body
last_is head body {placed} {us} e f =
    mid_of head body [] placed (length us) 0 (e ∙ ap (λ (l : List Placed). head ++ l) (sym (nothing_behind body)))
    (many body f ∙ ap length (sym (nothing_behind body))) refl

pub tokens-append : (head body : List Placed) → tokens_of (head ++ body) ≡ tokens_of head ++ tokens_of body
tokens-append [] body = refl
tokens-append (t ∷ head) body = ap (λ (l : List Token). t.token ∷ l) (tokens-append head body)

-- where the last of some tokens ends
pub end_at : (t : Placed) (more : List Placed) (u : Placed) → Some u ≡ slice_get more (length more - 1)
    → u.behind ≡ end_of t more
end_at t [] u e = absurd (cc)
end_at t (v ∷ []) u e = ap (λ (p : Placed). p.behind) (same_Some _ _ e)
end_at t (v ∷ w ∷ more) u e = end_at v (w ∷ more) u (e ∙ last_later v w more)
  where
    last_later : (v w : Placed) (more : List Placed)
        → slice_get (v ∷ w ∷ more) (length (v ∷ w ∷ more) - 1) ≡ slice_get (w ∷ more) (length (w ∷ more) - 1)
    last_later v w more =
        let place : length (v ∷ w ∷ more) - 1 ≡ suc (length (w ∷ more) - 1) = omega arith in
        ap (λ (n : ℕ). slice_get (v ∷ w ∷ more) n) place
