-- What a key says of the token that comes next.
use Rattle.std.proofs.Common.{◌≡◌, ℕ, Bool, true, false, List, [], ◌∷◌, Option, Some, None, refl, ap}
use Rattle.std.proofs.Common.{subst, rules, if◌then◌else◌}
use Rattle.std.specs.Prelude.{codes, bytes_eq}
use Rattle.std.proofs.lemmas.Slice.Eq.{bytes_eq-Decides}
use denote.Enum.Bare.{same_true}
use Rattle.wh_grammar.specs.Words.{is_reserved}
use Rattle.wh_grammar.specs.Token as token
use Rattle.wh_grammar.specs.Token.{Token, Word, Quoted, TextToken, NumberToken, SignToken}
use Rattle.wh_cursor.specs.Binds.{binds, word_binds}
use Rattle.wh_cursor.specs.declared.key.TokenClass.{TokenClass}
use Rattle.wh_cursor.specs.declared.key.TokenClass.TheVariants as k
use Rattle.wh_cursor.specs.contracts.key.TokenClass.{the_type}
use Rattle.wh_cursor.specs.Keys.{same_key, key_of, word_key, reserved_key, key_binds}
use Rattle.wh_cursor.specs.Steps.{tail, sees}

-- the one token that has it, where there is only one
abbrev pub fixed : TokenClass → Option Token
fixed k.Or = Some (Word (codes "OR"))
fixed k.And = Some (Word (codes "AND"))
fixed k.Not = Some (Word (codes "NOT"))
fixed k.Is = Some (Word (codes "IS"))
fixed k.In = Some (Word (codes "IN"))
fixed k.Between = Some (Word (codes "BETWEEN"))
fixed k.Null = Some (Word (codes "NULL"))
fixed k.True = Some (Word (codes "TRUE"))
fixed k.False = Some (Word (codes "FALSE"))
fixed k.Sum = Some (Word (codes "SUM"))
fixed k.Count = Some (Word (codes "COUNT"))
fixed k.LParen = Some (SignToken token.LParen)
fixed k.RParen = Some (SignToken token.RParen)
fixed k.Comma = Some (SignToken token.Comma)
fixed k.Dot = Some (SignToken token.Dot)
fixed k.Star = Some (SignToken token.Star)
fixed k.Plus = Some (SignToken token.Plus)
fixed k.Minus = Some (SignToken token.Minus)
fixed k.Equal = Some (SignToken token.Equal)
fixed k.Unequal = Some (SignToken token.Unequal)
fixed k.Less = Some (SignToken token.Less)
fixed k.AtMost = Some (SignToken token.AtMost)
fixed k.Greater = Some (SignToken token.Greater)
fixed k.AtLeast = Some (SignToken token.AtLeast)
fixed _ = None

-- the tokens begin with it
abbrev pub Heads : Option Token → List Token → Type 0
Heads None ts = Unit {0}
Heads (Some t) ts = ts ≡ t ∷ tail ts

pub by_test : (P : TokenClass → Type 0) (r : Bool) (a b : TokenClass) → (r ≡ true → P a) → (r ≡ false → P b) →
    P (if r then a else b)
by_test P true a b f g = f refl
by_test P false a b f g = g refl

by_word : (P : TokenClass → Type 0) (w c : List ℕ) (a b : TokenClass) → (w ≡ c → P a) → P b →
    P (if bytes_eq w c then a else b)
by_word P w c a b f g = by_test P (bytes_eq w c) a b (λ r. f ((bytes_eq-Decides w c).0 r)) (λ _. g)

word-heads : (w : List ℕ) (us : List Token) → Heads (fixed (word_key w)) (Word w ∷ us)
word-heads w us =
    let P : TokenClass → Type 0 = λ key. Heads (fixed key) (Word w ∷ us) in
    let is : (c : List ℕ) → w ≡ c → Word w ∷ us ≡ Word c ∷ us = λ c e. ap (λ (v : List ℕ). Word v ∷ us) e in
    by_test P (is_reserved w) _ _
    (λ _. by_word P w (codes "OR") k.Or _ (is _)
    (by_word P w (codes "AND") k.And _ (is _)
    (by_word P w (codes "NOT") k.Not _ (is _)
    (by_word P w (codes "IS") k.Is _ (is _)
    (by_word P w (codes "IN") k.In _ (is _)
    (by_word P w (codes "BETWEEN") k.Between _ (is _)
    (by_word P w (codes "NULL") k.Null _ (is _)
    (by_word P w (codes "TRUE") k.True _ (is _)
    (by_word P w (codes "FALSE") k.False k.Reserved (is _) tt)))))))))
    (λ _. by_word P w (codes "SUM") k.Sum _ (is _)
    (by_word P w (codes "COUNT") k.Count k.Name (is _) tt))

pub key-heads : (ts : List Token) → Heads (fixed (key_of ts)) ts
unfolding key_of
key-heads [] = tt
key-heads (Word w ∷ us) = word-heads w us
key-heads (Quoted name ∷ us) = tt
key-heads (TextToken bytes ∷ us) = tt
key-heads (NumberToken n ∷ us) = tt
key-heads (SignToken token.LParen ∷ us) = refl
key-heads (SignToken token.RParen ∷ us) = refl
key-heads (SignToken token.Comma ∷ us) = refl
key-heads (SignToken token.Dot ∷ us) = refl
key-heads (SignToken token.Star ∷ us) = refl
key-heads (SignToken token.Plus ∷ us) = refl
key-heads (SignToken token.Minus ∷ us) = refl
key-heads (SignToken token.Equal ∷ us) = refl
key-heads (SignToken token.Unequal ∷ us) = refl
key-heads (SignToken token.Less ∷ us) = refl
key-heads (SignToken token.AtMost ∷ us) = refl
key-heads (SignToken token.Greater ∷ us) = refl
key-heads (SignToken token.AtLeast ∷ us) = refl
key-heads (SignToken token.Arrow ∷ us) = tt

pub heads_at : (key : TokenClass) (ts : List Token) → key_of ts ≡ key → Heads (fixed key) ts
heads_at key ts e = subst (λ (q : TokenClass). Heads (fixed q) ts) e (key-heads ts)

pub heads : (key : TokenClass) (ts : List Token) → sees key ts ≡ true → Heads (fixed key) ts
unfolding sees same_key
heads key ts r = heads_at key ts (same_true the_type (search rules) (key_of ts) key r)

-- ---- what binds

-- a word that isn't reserved is none of those
pub unreserved : (w c : List ℕ) → is_reserved c ≡ true → is_reserved w ≡ false → bytes_eq w c ≡ false
unreserved w c r n = by (bytes_eq w c) refl
  where
    by : (b : Bool) → bytes_eq w c ≡ b → b ≡ false
    by false e = refl
    by true e = absurd (let same = ap is_reserved ((bytes_eq-Decides w c).0 e) in cc)

word_by : (w : List ℕ) (r : Bool) → is_reserved w ≡ r
    → key_binds (if r then reserved_key w else if bytes_eq w (codes "SUM") then k.Sum else if bytes_eq w (codes "COUNT")
    then k.Count else k.Name) ≡ word_binds w
unfolding is_reserved
word_by w true e = six (bytes_eq w (codes "OR")) (bytes_eq w (codes "AND")) (bytes_eq w (codes "NOT"))
    (bytes_eq w (codes "IS")) (bytes_eq w (codes "IN")) (bytes_eq w (codes "BETWEEN")) _
    (three (bytes_eq w (codes "NULL")) (bytes_eq w (codes "TRUE")) (bytes_eq w (codes "FALSE")))
  where
    three : (a b c : Bool)
        → key_binds (if a then k.Null else if b then k.True else if c then k.False else k.Reserved) ≡ 0
    three true b c = refl
    three false true c = refl
    three false false true = refl
    three false false false = refl

    six : (a b c d e f : Bool) (key : TokenClass) → key_binds key ≡ 0
        → key_binds (if a then k.Or else if b then k.And else if c then k.Not else if d then k.Is else if e then k.In
        else if f then k.Between else key)
        ≡ (if a then 1 else if b then 2 else if c then 3 else if d then 3 else if e then 3 else if f then 3 else 0)
    six true b c d e f key h = refl
    six false true c d e f key h = refl
    six false false true d e f key h = refl
    six false false false true e f key h = refl
    six false false false false true f key h = refl
    six false false false false false true key h = refl
    six false false false false false false key h = h
word_by w false e =
    let none : (c : List ℕ) → is_reserved c ≡ true → bytes_eq w c ≡ false = λ c r. unreserved w c r e in
    rw (
      none (codes "OR") refl,
      none (codes "AND") refl,
      none (codes "NOT") refl,
      none (codes "IS") refl,
      none (codes "IN") refl,
      none (codes "BETWEEN") refl,
    )
    (two (bytes_eq w (codes "SUM")) (bytes_eq w (codes "COUNT")))
  where
    two : (a b : Bool) → key_binds (if a then k.Sum else if b then k.Count else k.Name) ≡ 0
    two true b = refl
    two false true = refl
    two false false = refl

pub binds_key : (ts : List Token) → key_binds (key_of ts) ≡ binds ts
unfolding key_of
binds_key [] = refl
binds_key (Word w ∷ us) = word_by w (is_reserved w) refl
binds_key (Quoted name ∷ us) = refl
binds_key (TextToken bytes ∷ us) = refl
binds_key (NumberToken n ∷ us) = refl
binds_key (SignToken token.LParen ∷ us) = refl
binds_key (SignToken token.RParen ∷ us) = refl
binds_key (SignToken token.Comma ∷ us) = refl
binds_key (SignToken token.Dot ∷ us) = refl
binds_key (SignToken token.Star ∷ us) = refl
binds_key (SignToken token.Plus ∷ us) = refl
binds_key (SignToken token.Minus ∷ us) = refl
binds_key (SignToken token.Equal ∷ us) = refl
binds_key (SignToken token.Unequal ∷ us) = refl
binds_key (SignToken token.Less ∷ us) = refl
binds_key (SignToken token.AtMost ∷ us) = refl
binds_key (SignToken token.Greater ∷ us) = refl
binds_key (SignToken token.AtLeast ∷ us) = refl
binds_key (SignToken token.Arrow ∷ us) = refl
