-- One or more: what is read one after another, and what is read wherever it stands.
--     some-sound, listed-sound           what is read, from what one is
--     GivesSome, gives-last, gives-more  what is read, where each stands; GivesListed,
--                                        listed-last, listed-more with commas
use Rattle.std.proofs.Common.{◌≡◌, ℕ, zero, suc, ◌<◌, ◌≤◌, Bool, true, false, if◌then◌else◌, List, [], ◌∷◌, ◌++◌, Some}
use Rattle.std.proofs.Common.{length, refl, sym, ap, ◌∙◌, subst, append_assoc, arith}
use Rattle.wh_grammar.specs.Token as token
use Rattle.wh_grammar.specs.Token.{Token, SignToken}
use Rattle.wh_cursor.specs.declared.key.TokenClass.TheVariants as k
use Rattle.wh_cursor.specs.Steps.{tail, sees, Reader, pure, eat_key}
use Rattle.wh_cursor.specs.Lists.{some_from, listed}
use Rattle.wh_cursor.proofs.KeyLemmas.{heads}
use Rattle.wh_cursor.proofs.Yields.{Yields, yields, nothing, follow, mapped}
use Rattle.wh_cursor.proofs.Combine.{sees_key_is}

-- P: what one is; N: what stands where it is asked whether one more follows; Q: what all are
pub some-sound : {A : Type 0} (item : Reader A) (again : Reader Bool) (P : List Token → A → List Token → Type 0)
    (N : Bool → List Token → List Token → Type 0)
    (Q : List Token → List A → List Token → Type 0)
    → ((ts : List Token) → Yields (item ts) (P ts)) → ((ts : List Token) → Yields (again ts) (λ b us. N b ts us))
    → ((ts us vs : List Token) (x : A) → P ts x us → N false us vs → Q ts (x ∷ []) vs)
    → ((ts us vs ws : List Token) (x : A) (xs : List A) → P ts x us → N true us vs → Q vs xs ws → Q ts (x ∷ xs) ws)
    → (fuel : ℕ) (found : List A) (ts : List Token)
    → Yields (some_from item again fuel found ts) (λ ys us. (xs : List A) × (ys ≡ found ++ xs) × Q ts xs us)
unfolding some_from
some-sound item again P N Q items asks last more zero found ts = nothing
some-sound {A} item again P N Q items asks last more (suc n) found ts =
    follow (items ts) (λ x us h. follow (asks us) (λ b vs i.
    by (λ found ts. some-sound item again P N Q items asks last more n found ts) x us vs b h i))
  where
    by : ((found : List A) (ts : List Token)
        → Yields (some_from item again n found ts) (λ ys us. (xs : List A) × (ys ≡ found ++ xs) × Q ts xs us))
        → (x : A) (us vs : List Token) (b : Bool) → P ts x us → N b us vs
        → Yields ((if b then some_from item again n (found ++ x ∷ []) else pure (found ++ x ∷ [])) vs)
        (λ ys ws. (xs : List A) × (ys ≡ found ++ xs) × Q ts xs ws)
    by rest x us vs true h i = mapped (rest (found ++ x ∷ []) vs)
        (λ ys ws l. (x ∷ l.0, l.1 ∙ append_assoc found (x ∷ []) l.0, more ts us vs ws x l.0 h i l.2))
    by rest x us vs false h i = yields (found ++ x ∷ []) vs (x ∷ [], refl, last ts us vs x h i)

pub record GivesSome {A : Type 0} (item : Reader A) (again : Reader Bool) (ts : List Token) (xs : List A)
    (us : List Token) : Type 0 where
  pub run : (fuel : ℕ) (found : List A) → length ts ≤ fuel → some_from item again fuel found ts ≡ Some (found ++ xs, us)

pub gives-last : {A : Type 0} {item : Reader A} {again : Reader Bool} {ts us vs : List Token} {x : A}
    → item ts ≡ Some (x, us) → length us < length ts → again us ≡ Some (false, vs)
    → GivesSome item again ts (x ∷ []) vs
unfolding some_from
gives-last {A} {item} {again} {ts} {us} {vs} {x} one shorter end = record { run = by }
  where
    by : (fuel : ℕ) (found : List A) → length ts ≤ fuel
        → some_from item again fuel found ts ≡ Some (found ++ x ∷ [], vs)
    by zero found few = absurd (omega (arith, shorter, few))
    by (suc fuel) found few = rw (one, end) refl

pub gives-more : {A : Type 0} {item : Reader A} {again : Reader Bool} {ts us vs ws : List Token} {x : A} {xs : List A}
    → item ts ≡ Some (x, us) → length us < length ts → again us ≡ Some (true, vs) → length vs ≤ length us
    → GivesSome item again vs xs ws
    → GivesSome item again ts (x ∷ xs) ws
unfolding some_from
gives-more {A} {item} {again} {ts} {us} {vs} {ws} {x} {xs} one shorter next behind l = record { run = by }
  where
    by : (fuel : ℕ) (found : List A) → length ts ≤ fuel
        → some_from item again fuel found ts ≡ Some (found ++ x ∷ xs, ws)
    by zero found few = absurd (omega (arith, shorter, few))
    by (suc fuel) found few =
        rw (one, next) (l.run fuel (found ++ x ∷ []) (omega (arith, shorter, behind, few))
        ∙ ap (λ (ys : List A). Some (ys, ws)) (append_assoc found (x ∷ []) xs))

-- ---- with commas between them

abbrev AtComma : Bool → List Token → List Token → Type 0
AtComma true us vs = us ≡ SignToken token.Comma ∷ vs
AtComma false us vs = (us ≡ vs) × (sees k.Comma vs ≡ false)

comma-sound : (ts : List Token) → Yields (eat_key k.Comma ts) (λ b us. AtComma b ts us)
comma-sound ts = by (sees k.Comma ts) refl
  where
    by : (r : Bool) → sees k.Comma ts ≡ r → Yields (Some (r, if r then tail ts else ts)) (λ b us. AtComma b ts us)
    by true r = yields true (tail ts) (heads k.Comma ts r)
    by false r = yields false ts (refl, r)

-- P: what one is; Q: what all are
pub listed-sound : {A : Type 0} (item : Reader A) (P : List Token → A → List Token → Type 0)
    (Q : List Token → List A → List Token → Type 0)
    → ((ts : List Token) → Yields (item ts) (P ts))
    → ((ts us : List Token) (x : A) → P ts x us → sees k.Comma us ≡ false → Q ts (x ∷ []) us)
    → ((ts us vs : List Token) (x : A) (xs : List A) → P ts x (SignToken token.Comma ∷ us)
    → Q us xs vs → Q ts (x ∷ xs) vs)
    → (ts : List Token)
    → Yields (listed item ts) (Q ts)
listed-sound {A} item P Q items last more ts = mapped
    (some-sound item (eat_key k.Comma) P AtComma Q items comma-sound
    (λ ts us vs x h end. last ts vs x (subst (λ (us : List Token). P ts x us) end.0 h) end.1)
    (λ ts us vs ws x xs h comma l. more ts vs ws x xs (subst (λ (us : List Token). P ts x us) comma h) l)
    (length ts) [] ts)
    (λ ys us r. subst (λ (l : List A). Q ts l us) (sym r.1) r.2)

abbrev pub GivesListed : {A : Type 0} → Reader A → List Token → List A → List Token → Type 0
GivesListed item ts xs us = GivesSome item (eat_key k.Comma) ts xs us

pub listed-last : {A : Type 0} {item : Reader A} {ts us : List Token} {x : A} → item ts ≡ Some (x, us)
    → length us < length ts → sees k.Comma us ≡ false → GivesListed item ts (x ∷ []) us
listed-last one shorter end = gives-last one shorter (rw end refl)

pub listed-more : {A : Type 0} {item : Reader A} {ts us vs : List Token} {x : A} {xs : List A}
    → item ts ≡ Some (x, SignToken token.Comma ∷ us) → length (SignToken token.Comma ∷ us) < length ts
    → GivesListed item us xs vs
    → GivesListed item ts (x ∷ xs) vs
listed-more {us = us} one shorter l =
    gives-more one shorter (rw (sees_key_is k.Comma (SignToken token.Comma) us refl) refl) (omega arith) l

pub listed-reads : {A : Type 0} {item : Reader A} {ts us : List Token} {xs : List A} → GivesListed item ts xs us
    → listed item ts ≡ Some (xs, us)
listed-reads {ts = ts} l = l.run (length ts) [] (omega arith)

-- one turn of the loop
pub one_turn : {A : Type 0} (item : Reader A) (n : ℕ) (found : List A) (ts us : List Token) (x : A)
    → item ts ≡ Some (x, us) → sees k.Comma us ≡ true
    → some_from item (eat_key k.Comma) (suc n) found ts ≡ some_from item (eat_key k.Comma) n (found ++ x ∷ []) (tail us)
unfolding some_from
one_turn item n found ts us x one comma = rw (one, comma) refl
