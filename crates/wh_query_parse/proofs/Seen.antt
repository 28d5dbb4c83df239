-- What it says of tokens that a word or a sign is seen, or that none is.
use Rattle.std.proofs.Common.{◌≡◌, ℕ, Bool, true, false, not, ◌&&◌, if◌then◌else◌, List, [], ◌∷◌, refl, sym, ap, ◌∙◌}
use Rattle.std.specs.Prelude.{codes, bytes_eq}
use Rattle.wh_grammar.specs.Words.{is_reserved}
use Rattle.wh_grammar.specs.Token as token
use Rattle.wh_grammar.specs.Token.{Token, Word, Quoted, TextToken, NumberToken, SignToken}
use Rattle.wh_cursor.specs.Binds.{binds}
use Rattle.wh_cursor.specs.declared.key.TokenClass.TheVariants as k
use Rattle.wh_cursor.specs.Keys.{key_of, reserved_key, key_binds}
use Rattle.wh_cursor.specs.Steps.{sees_word}
use Rattle.wh_cursor.proofs.KeyLemmas.{binds_key}
use Rattle.wh_query_parse.specs.Follow.{ends_alias, names_key}

-- ---- words that aren't reserved

pub name_binds : (w : List ℕ) (us : List Token) → is_reserved w ≡ false → binds (Word w ∷ us) ≡ 0
unfolding key_of
name_binds w us r = sym (binds_key (Word w ∷ us)) ∙ rw (r) (two (bytes_eq w (codes "SUM")) (bytes_eq w (codes "COUNT")))
  where
    two : (a b : Bool) → key_binds (if a then k.Sum else if b then k.Count else k.Name) ≡ 0
    two true b = refl
    two false true = refl
    two false false = refl

-- ---- the keys of names

reserved-by : (w : List ℕ) → names_key (reserved_key w) ≡ false
reserved-by w = by (bytes_eq w (codes "OR")) (bytes_eq w (codes "AND")) (bytes_eq w (codes "NOT"))
    (bytes_eq w (codes "IS")) (bytes_eq w (codes "IN"))
    (bytes_eq w (codes "BETWEEN")) (bytes_eq w (codes "NULL")) (bytes_eq w (codes "TRUE")) (bytes_eq w (codes "FALSE"))
  where
    by : (a b c d e f g h i : Bool)
        → names_key (if a then k.Or else if b then k.And else if c then k.Not else if d then k.Is else if e then k.In
        else if f then k.Between else if g then k.Null else if h then k.True else if i then k.False else k.Reserved)
        ≡ false
    by true b c d e f g h i = refl
    by false true c d e f g h i = refl
    by false false true d e f g h i = refl
    by false false false true e f g h i = refl
    by false false false false true f g h i = refl
    by false false false false false true g h i = refl
    by false false false false false false true h i = refl
    by false false false false false false false true i = refl
    by false false false false false false false false true = refl
    by false false false false false false false false false = refl

word-by : (w : List ℕ) (r : Bool) → is_reserved w ≡ r
    → names_key (if r then reserved_key w else if bytes_eq w (codes "SUM") then k.Sum else if bytes_eq w (codes "COUNT")
    then k.Count else k.Name) ≡ not r
word-by w true e = reserved-by w
word-by w false e = two (bytes_eq w (codes "SUM")) (bytes_eq w (codes "COUNT"))
  where
    two : (a b : Bool) → names_key (if a then k.Sum else if b then k.Count else k.Name) ≡ true
    two true b = refl
    two false true = refl
    two false false = refl

twice : (a b : Bool) → (if b then false else not (not a)) ≡ (a && not b)
twice true true = refl
twice true false = refl
twice false true = refl
twice false false = refl

-- what the code asks
pub asked_alias : (ts : List Token)
    → (if sees_word (codes "AS") ts then false else not (names_key (key_of ts))) ≡ ends_alias ts
unfolding sees_word key_of
asked_alias [] = refl
asked_alias (Word w ∷ us) = ap (λ (b : Bool). if bytes_eq w (codes "AS") then false else not b)
    (word-by w (is_reserved w) refl) ∙ twice (is_reserved w) (bytes_eq w (codes "AS"))
asked_alias (Quoted name ∷ us) = refl
asked_alias (TextToken bytes ∷ us) = refl
asked_alias (NumberToken n ∷ us) = refl
asked_alias (SignToken token.LParen ∷ us) = refl
asked_alias (SignToken _ ∷ us) = refl

pub as_alias : (ts : List Token) → sees_word (codes "AS") ts ≡ true → false ≡ ends_alias ts
as_alias ts e = ap (λ (b : Bool). if b then false else not (names_key (key_of ts))) (sym e) ∙ asked_alias ts

pub named_alias : (ts : List Token) → sees_word (codes "AS") ts ≡ false → not (names_key (key_of ts)) ≡ ends_alias ts
named_alias ts e = ap (λ (b : Bool). if b then false else not (names_key (key_of ts))) (sym e) ∙ asked_alias ts
