-- What follows one of several.
use Rattle.std.proofs.Common.{◌≡◌, ℕ, suc, true, false, List, [], ◌∷◌, ◌++◌, Some, refl, ap}
use Rattle.std.specs.Prelude.{codes}
use Rattle.wh_grammar.specs.Token as token
use Rattle.wh_grammar.specs.Token.{Token, Word, Quoted, TextToken, NumberToken, SignToken}
use Rattle.wh_cursor.specs.declared.key.TokenClass.TheVariants as k
use Rattle.wh_cursor.specs.Keys.{key_of, same_key}
use Rattle.wh_cursor.specs.Steps.{sees, Reader, sees_word}
use Rattle.wh_cursor.specs.Lists.{some_from}
use Rattle.wh_cursor.proofs.Combine.{not_that_key}
use Rattle.wh_dml_parse.specs.Follow.{ends_names}
use Rattle.wh_dml_parse.specs.Read.{peek_word}

pub one_clause : {A : Type 0} (item : Reader A) (n : ℕ) (found : List A) (ts us : List Token) (x : A)
    → item ts ≡ Some (x, us) → sees_word (codes "WHEN") us ≡ true
    → some_from item (peek_word (codes "WHEN")) (suc n) found ts
    ≡ some_from item (peek_word (codes "WHEN")) n (found ++ x ∷ []) us
unfolding some_from
one_clause item n found ts us x one when = rw (one, when) refl

pub comma-none : (us : List Token) → ends_names us ≡ true → sees k.Comma us ≡ false
comma-none us e = not_that_key k.Comma (SignToken token.Comma) us refl (λ is. let no_end = ap ends_names is in cc)

pub none-ends : (us : List Token) → sees k.Comma us ≡ false → ends_names us ≡ true
unfolding sees same_key key_of
none-ends [] r = refl
none-ends (Word w ∷ us) r = refl
none-ends (Quoted name ∷ us) r = refl
none-ends (TextToken bytes ∷ us) r = refl
none-ends (NumberToken n ∷ us) r = refl
none-ends (SignToken token.LParen ∷ us) r = refl
none-ends (SignToken token.RParen ∷ us) r = refl
none-ends (SignToken token.Comma ∷ us) r = absurd (cc)
none-ends (SignToken token.Dot ∷ us) r = refl
none-ends (SignToken token.Star ∷ us) r = refl
none-ends (SignToken token.Plus ∷ us) r = refl
none-ends (SignToken token.Minus ∷ us) r = refl
none-ends (SignToken token.Equal ∷ us) r = refl
none-ends (SignToken token.Unequal ∷ us) r = refl
none-ends (SignToken token.Less ∷ us) r = refl
none-ends (SignToken token.AtMost ∷ us) r = refl
none-ends (SignToken token.Greater ∷ us) r = refl
none-ends (SignToken token.AtLeast ∷ us) r = refl
none-ends (SignToken token.Arrow ∷ us) r = refl
