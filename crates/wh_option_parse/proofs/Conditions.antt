-- Conditions: what is read stands there, and what stands there is read.
use Rattle.std.proofs.Common.{◌≡◌, ℕ, zero, suc, ◌<◌, ◌≤◌, Bool, true, false, not, ◌||◌, if◌then◌else◌, List, [], ◌∷◌}
use Rattle.std.proofs.Common.{length, Option, Some, None, refl, sym, ap, ◌∙◌, subst, bytes_eq, arith}
use Rattle.std.specs.Prelude.{codes}
use Rattle.wh_ast.specs.declared.statement.WhenCondition.{WhenCondition}
use Rattle.wh_ast.specs.declared.statement.WhenCondition.TheVariants as c
use Rattle.wh_grammar.specs.Words.{is_reserved}
use Rattle.wh_grammar.specs.Token as token
use Rattle.wh_grammar.specs.Token.{Token, Word, Quoted, TextToken, NumberToken, SignToken}
use Rattle.wh_grammar.specs.Parts.{AsksForData, asks, IsCondition, one_cand, or_condition, IsAndCondition, one_cnot}
use Rattle.wh_grammar.specs.Parts.{and_condition, IsNotCondition, not_condition, inner_condition, has_data}
use Rattle.wh_cursor.specs.declared.key.TokenClass.TheVariants as k
use Rattle.wh_cursor.specs.Keys.{same_key, key_of}
use Rattle.wh_cursor.specs.Steps.{tail, sees, Reader, and_then, sees_word}
use Rattle.wh_cursor.proofs.KeyLemmas.{heads}
use Rattle.wh_option_parse.specs.declared.levels.Connective.{Connective}
use Rattle.wh_option_parse.specs.declared.levels.Connective.TheVariants.{Or, And}
use Rattle.wh_option_parse.specs.declared.levels.Level.{Level}
use Rattle.wh_option_parse.specs.declared.levels.Level.TheVariants.{Whole, Negation}
use Rattle.wh_option_parse.specs.Follow.{ends_condition, IsConditionAt}
use Rattle.wh_option_parse.specs.Laws as laws
use Rattle.wh_option_parse.specs.Read as read
use Rattle.wh_option_parse.specs.Read.{word_of, connected, read_connective, links, chain, negated, parenthesized}
use Rattle.wh_option_parse.specs.Read.{negation_by, negation, conjunction, whole, nested, no_operator, read_condition}
use Rattle.wh_cursor.proofs.ChainLemmas as chains
use Rattle.wh_cursor.proofs.ChainLemmas.{Joins}
use Rattle.wh_cursor.proofs.Yields.{Yields, yields, nothing, follow, mapped, yielded}
use Rattle.wh_cursor.proofs.Combine.{sees_word_some, sees_word_is, then_expect_key, rparen_reads}
use Rattle.wh_option_parse.proofs.LagLemmas.{asked_yields, asked_given}
use Rattle.wh_option_parse.proofs.Frames.{cand-frame, cnot-frame, rest-short}

-- ---- what is read stands there

connective-turn : (k : Connective) (item : Reader WhenCondition)
    (P Q : List Token → WhenCondition → List Token → Type 0)
    → ((ts us : List Token) (x y : WhenCondition) (vs : List Token) → P ts x (Word (word_of k) ∷ us) → Q us y vs
    → P ts (connected k x y) vs)
    → ((ts : List Token) → Yields (item ts) (Q ts)) →
    (ts₀ : List Token) (x : WhenCondition) (ts : List Token) → P ts₀ x ts
    → Yields (read_connective k ts) (Joins (links k item) (P ts₀) x)
unfolding read_connective
connective-turn k item P Q joined items ts₀ x ts h = by (sees_word (word_of k) ts) refl
  where
    by : (r : Bool) → sees_word (word_of k) ts ≡ r
        → Yields (Some (if◌then◌else◌ {A = Option Connective} r (Some k) None, if r then tail ts else ts))
        (Joins (links k item) (P ts₀) x)
    by false e = yields None ts h
    by true e = yields (Some k) (tail ts) (mapped (items (tail ts)) (λ y vs i.
        joined ts₀ (tail ts) x y vs (subst (λ (us : List Token). P ts₀ x us) (sees_word_some (word_of k) ts e) h) i))

chain-sound : (k : Connective) (item : Reader WhenCondition) (P Q : List Token → WhenCondition → List Token → Type 0)
    → ((ts : List Token) (x : WhenCondition) (us : List Token) → Q ts x us → P ts x us)
    → ((ts us : List Token) (x y : WhenCondition) (vs : List Token) → P ts x (Word (word_of k) ∷ us) → Q us y vs
    → P ts (connected k x y) vs)
    → ((ts : List Token) → Yields (item ts) (Q ts)) → (ts : List Token)
    → Yields (chain k item ts) (P ts)
chain-sound k item P Q one joined items ts =
    chains.chain-sound (links k item) (P ts) (connective-turn k item P Q joined items ts) length ts
    (mapped (items ts) (one ts))

record Inside (inner : Level → Reader WhenCondition) (d : ℕ) : Type 0 where
  whole : (ts : List Token) → Yields (inner Whole ts) (IsCondition d ts)
  negation : (ts : List Token) → Yields (inner Negation ts) (IsNotCondition d ts)

module _ (inner : Level → Reader WhenCondition) (d : ℕ) (inside : Inside inner d) where
  negated-sound : (ts : List Token) → ts ≡ Word (codes "NOT") ∷ tail ts
      → Yields (negated inner ts) (IsNotCondition (suc d) ts)
  unfolding negated
  negated-sound ts is = follow (inside.negation (tail ts)) (λ x us h.
      yields (c.Not x) us
      (subst (λ (vs : List Token). IsNotCondition (suc d) vs (c.Not x) us) (sym is) (not_condition h)))

  parenthesized-sound : (ts : List Token) → ts ≡ SignToken token.LParen ∷ tail ts
      → Yields (parenthesized inner ts) (IsNotCondition (suc d) ts)
  unfolding parenthesized
  parenthesized-sound ts is = follow (inside.whole (tail ts)) (λ x us h. then_expect_key k.RParen us _ (λ close.
      yields x (tail us) (subst (λ (vs : List Token). IsNotCondition (suc d) vs x (tail us)) (sym is)
      (inner_condition (subst (λ (vs : List Token). IsCondition d (tail ts) x vs) close h)))))

  has_data-sound : (ts : List Token) → Yields (read.has_data inner ts) (IsNotCondition (suc d) ts)
  unfolding read.has_data
  has_data-sound ts = follow (asked_yields ts) (λ name us h. yields (c.HasData name) us (has_data h))

  negation-sound : (ts : List Token) → Yields (negation inner ts) (IsNotCondition (suc d) ts)
  unfolding negation
  negation-sound ts =
      by (sees_word (codes "NOT") ts) (sees k.LParen ts) (sees_word_some (codes "NOT") ts) (heads k.LParen ts)
    where
      by : (a b : Bool) → (a ≡ true → ts ≡ Word (codes "NOT") ∷ tail ts)
          → (b ≡ true → ts ≡ SignToken token.LParen ∷ tail ts)
          → Yields (negation_by inner a b ts) (IsNotCondition (suc d) ts)
      by true b f g = negated-sound ts (f refl)
      by false true f g = parenthesized-sound ts (g refl)
      by false false f g = has_data-sound ts

  conjunction-sound : (ts : List Token) → Yields (conjunction inner ts) (IsAndCondition (suc d) ts)
  unfolding conjunction
  conjunction-sound = chain-sound And (negation inner) (IsAndCondition (suc d)) (IsNotCondition (suc d))
      (λ ts x us. one_cnot) (λ ts us x y vs. and_condition) negation-sound

  whole-sound : (ts : List Token) → Yields (whole inner ts) (IsCondition (suc d) ts)
  unfolding whole
  whole-sound = chain-sound Or (conjunction inner) (IsCondition (suc d)) (IsAndCondition (suc d))
      (λ ts x us. one_cand) (λ ts us x y vs. or_condition) conjunction-sound

nested-sound : (d : ℕ) → Inside (nested d) d
unfolding nested
nested-sound zero = record { whole = λ ts. nothing; negation = λ ts. nothing }
nested-sound (suc d) = record {
  whole = whole-sound (nested d) d (nested-sound d);
  negation = negation-sound (nested d) d (nested-sound d);
}

-- ---- what may follow

ends-by : (us : List Token) → (sees_word (codes "OR") us || sees_word (codes "AND") us) ≡ not (ends_condition us)
unfolding sees_word
ends-by [] = refl
ends-by (Word w ∷ us) = not-not (bytes_eq w (codes "OR") || bytes_eq w (codes "AND"))
  where
    not-not : (b : Bool) → b ≡ not (not b)
    not-not true = refl
    not-not false = refl
ends-by (Quoted name ∷ us) = refl
ends-by (TextToken bytes ∷ us) = refl
ends-by (NumberToken n ∷ us) = refl
ends-by (SignToken s ∷ us) = refl

not_false : (b : Bool) → not b ≡ false → b ≡ true
not_false true e = refl
not_false false e = absurd (cc)

condition_yields : (d : ℕ) (ts : List Token) → Yields (read_condition d ts) (IsConditionAt d ts)
unfolding read_condition no_operator
condition_yields d ts = follow ((nested-sound d).whole ts)
    (λ x us h. by x us h (sees_word (codes "OR") us || sees_word (codes "AND") us) refl)
  where
    by : (x : WhenCondition) (us : List Token) → IsCondition d ts x us → (r : Bool)
        → (sees_word (codes "OR") us || sees_word (codes "AND") us) ≡ r
        → Yields (and_then (if◌then◌else◌ {A = Option (Unit {0} × List Token)} r None (Some (tt, us)))
        (λ _ vs. Some (x, vs))) (IsConditionAt d ts)
    by x us h true e = nothing
    by x us h false e =
        yields x us (record { condition = h; ends = not_false (ends_condition us) (sym (ends-by us) ∙ e) })

-- ---- what stands there is read

-- the turns have come to x
record Comes (k : Connective) (item r : Reader WhenCondition) (ts : List Token)
    (x : WhenCondition) (us : List Token) : Type 0 where
  run : chains.Comes (links k item) (r ts) (length us) x us

connective-reads : (k : Connective) (us : List Token) → read_connective k (Word (word_of k) ∷ us) ≡ Some (Some k, us)
unfolding read_connective
connective-reads k us = rw (sees_word_is (word_of k) us) refl

none-reads : (k : Connective) (us : List Token) → sees_word (word_of k) us ≡ false
    → read_connective k us ≡ Some (None, us)
unfolding read_connective
none-reads k us end = rw end refl

comes-next : (k : Connective) {item r : Reader WhenCondition} {ts us vs : List Token} {x y : WhenCondition}
    → Comes k item r ts x (Word (word_of k) ∷ us) → item us ≡ Some (y, vs) → length vs ≤ length us
    → Comes k item r ts (connected k x y) vs
comes-next k {us = us} h l short =
    record { run = chains.comes-next h.run (connective-reads k us) l (omega (arith, short)) }

comes-ends : (k : Connective) {item r : Reader WhenCondition} {ts us : List Token} {x : WhenCondition}
    → Comes k item r ts x us → sees_word (word_of k) us ≡ false → r ts ≡ Some (x, us)
comes-ends k {us = us} h end = chains.comes-ends h.run (none-reads k us end)

abbrev before : ℕ → ℕ
before zero = zero
before (suc d) = d

mutual
  cond-deep : {d : ℕ} {ts us : List Token} {x : WhenCondition} → IsCondition d ts x us → 0 < d
  cond-deep (one_cand h) = and-deep h
  cond-deep (or_condition h l) = and-deep l

  and-deep : {d : ℕ} {ts us : List Token} {x : WhenCondition} → IsAndCondition d ts x us → 0 < d
  and-deep (one_cnot h) = not-deep h
  and-deep (and_condition h l) = not-deep l

  not-deep : {d : ℕ} {ts us : List Token} {x : WhenCondition} → IsNotCondition d ts x us → 0 < d
  not-deep (not_condition h) = omega arith
  not-deep (inner_condition h) = omega arith
  not-deep (has_data h) = omega arith

inner-whole : (d : ℕ) (ts : List Token) → 0 < d → nested d Whole ts ≡ whole (nested (before d)) ts
unfolding nested
inner-whole zero ts some = absurd (omega (arith, some))
inner-whole (suc d) ts some = refl

inner-negation : (d : ℕ) (ts : List Token) → 0 < d → nested d Negation ts ≡ negation (nested (before d)) ts
unfolding nested
inner-negation zero ts some = absurd (omega (arith, some))
inner-negation (suc d) ts some = refl

module _ (inner : Level → Reader WhenCondition) where
  whole-first : {ts us : List Token} {x : WhenCondition} → conjunction inner ts ≡ Some (x, us)
      → Comes Or (conjunction inner) (whole inner) ts x us
  unfolding whole
  whole-first h = record { run = chains.comes-first (links Or (conjunction inner)) length h }

  and-first : {ts us : List Token} {x : WhenCondition} → negation inner ts ≡ Some (x, us)
      → Comes And (negation inner) (conjunction inner) ts x us
  unfolding conjunction
  and-first h = record { run = chains.comes-first (links And (negation inner)) length h }

  not-seen : (us : List Token) → sees_word (codes "NOT") (Word (codes "NOT") ∷ us) ≡ true
  unfolding sees_word
  not-seen us = refl

  open-seen : (us : List Token) → sees k.LParen (SignToken token.LParen ∷ us) ≡ true
  unfolding sees same_key key_of
  open-seen us = refl

  open-other : (us : List Token) → sees_word (codes "NOT") (SignToken token.LParen ∷ us) ≡ false
  unfolding sees_word
  open-other us = refl

  asks-other : (us : List Token) → sees_word (codes "NOT") (Word (codes "SYSTEM$STREAM_HAS_DATA") ∷ us) ≡ false
  unfolding sees_word
  asks-other us = refl

  asks-unopened : (us : List Token) → sees k.LParen (Word (codes "SYSTEM$STREAM_HAS_DATA") ∷ us) ≡ false
  unfolding sees same_key key_of is_reserved
  asks-unopened us = refl

  not-gives : {ts us : List Token} {x : WhenCondition} → inner Negation ts ≡ Some (x, us)
      → negation inner (Word (codes "NOT") ∷ ts) ≡ Some (c.Not x, us)
  unfolding negation negated
  not-gives {ts = ts} h = rw (not-seen ts, h) refl

  inner-gives : {ts us : List Token} {x : WhenCondition} → inner Whole ts ≡ Some (x, SignToken token.RParen ∷ us)
      → negation inner (SignToken token.LParen ∷ ts) ≡ Some (x, us)
  unfolding negation parenthesized
  inner-gives {ts = ts} {us = us} h = rw (open-other ts, open-seen ts, h, rparen_reads us) refl

  asks-gives : {ts us : List Token} {name : List ℕ} → AsksForData ts name us
      → negation inner ts ≡ Some (c.HasData name, us)
  unfolding negation read.has_data
  asks-gives (asks {us} {bytes} {name} h) =
      let rest : List Token = SignToken token.LParen ∷ TextToken bytes ∷ SignToken token.RParen ∷ us in
      rw (asks-other rest, asks-unopened rest, asked_given (asks {us = us} {bytes = bytes} {name = name} h)) refl

or-other : (us : List Token) → sees_word (codes "AND") (Word (codes "OR") ∷ us) ≡ false
unfolding sees_word
or-other us = refl

close-or : (us : List Token) → sees_word (codes "OR") (SignToken token.RParen ∷ us) ≡ false
unfolding sees_word
close-or us = refl

close-and : (us : List Token) → sees_word (codes "AND") (SignToken token.RParen ∷ us) ≡ false
unfolding sees_word
close-and us = refl

mutual
  whole-run : {d : ℕ} {ts us : List Token} {x : WhenCondition} → IsCondition d ts x us →
      sees_word (codes "AND") us ≡ false
      → Comes Or (conjunction (nested (before d))) (whole (nested (before d))) ts x us
  whole-run (one_cand h) end = whole-first _ (comes-ends And (and-run h) end)
  whole-run (or_condition h l) end =
      comes-next Or (whole-run h (or-other _)) (comes-ends And (and-run l) end) (rest-short (cand-frame l))

  and-run : {d : ℕ} {ts us : List Token} {x : WhenCondition} → IsAndCondition d ts x us
      → Comes And (negation (nested (before d))) (conjunction (nested (before d))) ts x us
  and-run (one_cnot h) = and-first _ (not-run h)
  and-run (and_condition h l) = comes-next And (and-run h) (not-run l) (rest-short (cnot-frame l))

  not-run : {d : ℕ} {ts us : List Token} {x : WhenCondition} → IsNotCondition d ts x us
      → negation (nested (before d)) ts ≡ Some (x, us)
  not-run (not_condition {d} {ts} h) = not-gives (nested d) (inner-negation d ts (not-deep h) ∙ not-run h)
  not-run (inner_condition {d} {ts} {us} h) =
      inner-gives (nested d) (inner-whole d ts (cond-deep h) ∙ comes-ends Or (whole-run h (close-and us)) (close-or us))
  not-run (has_data {d} h) = asks-gives (nested d) h

no_either : (a b : Bool) → (a || b) ≡ false → (a ≡ false) × (b ≡ false)
no_either true b h = absurd (cc)
no_either false b h = (refl, h)

condition_given : (d : ℕ) (ts : List Token) (x : WhenCondition) (us : List Token) → IsConditionAt d ts x us
    → read_condition d ts ≡ Some (x, us)
unfolding read_condition no_operator
condition_given d ts x us h =
    let none : (sees_word (codes "OR") us || sees_word (codes "AND") us) ≡ false = ends-by us ∙ ap not h.ends in
    let apart = no_either (sees_word (codes "OR") us) (sees_word (codes "AND") us) none in
    let read = inner-whole d ts (cond-deep h.condition) ∙ comes-ends Or (whole-run h.condition apart.1) apart.0 in
    rw (read, none) refl

pub conditions_read : laws.ReadsConditions
conditions_read d ts x us = (λ e. yielded (condition_yields d ts) x us e, condition_given d ts x us)
