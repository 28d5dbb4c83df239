-- What stands inside quotes: what is read stands there, and what stands there is read.
use Rattle.std.proofs.Common.{◌≡◌, ℕ, Bool, true, false, List, [], ◌∷◌, ◌++◌, Option, Some, None, refl, sym, ap, ◌∙◌}
use Rattle.std.proofs.Common.{eqb, eqb-true, eq-eqb}
use Rattle.wh_grammar.specs.Lexing.{begins_with, is_byte, doubled}
use Rattle.wh_lex.specs.Front.{onto, quoted_of}

abbrev pub IsQuoted : ℕ → List ℕ → Option (List ℕ × List ℕ) → Type 0
IsQuoted quote bytes None = Unit {0}
IsQuoted quote bytes (Some p) = (bytes ≡ doubled quote p.0 ++ quote ∷ p.1) × (begins_with (is_byte quote) p.1 ≡ false)

other_inside : (quote b : ℕ) (bytes : List ℕ) (o : Option (List ℕ × List ℕ)) → eqb b quote ≡ false
    → IsQuoted quote bytes o
    → IsQuoted quote (b ∷ bytes) (onto b o)
other_inside quote b bytes None e h = tt
other_inside quote b bytes (Some p) e h = (rw e (ap (λ l. b ∷ l) h.0), h.1)

quote_inside : (quote b c : ℕ) (bytes : List ℕ) (o : Option (List ℕ × List ℕ)) → b ≡ quote → quote ≡ c
    → IsQuoted quote bytes o
    → IsQuoted quote (b ∷ c ∷ bytes) (onto quote o)
quote_inside quote b c bytes None e f h = tt
quote_inside quote b c bytes (Some p) e f h =
    let same = eq-eqb quote quote refl in
    (rw (e, ← f, same) (ap (λ l. quote ∷ quote ∷ l) h.0), h.1)

quoted_by : (quote b c : ℕ) (bytes : List ℕ) (r s : Bool) → eqb b quote ≡ r → eqb quote c ≡ s
    → IsQuoted quote bytes (quoted_of quote bytes) → IsQuoted quote (c ∷ bytes) (quoted_of quote (c ∷ bytes))
    → IsQuoted quote (b ∷ c ∷ bytes) (quoted_of quote (b ∷ c ∷ bytes))
unfolding quoted_of
quoted_by quote b c bytes true true e f h k =
    simp (e, f) (quote_inside quote b c bytes _ (eqb-true b quote e) (eqb-true quote c f) h)
quoted_by quote b c bytes true false e f h k = simp (e, f) (ap (λ x. x ∷ c ∷ bytes) (eqb-true b quote e), refl)
quoted_by quote b c bytes false s e f h k = simp e (other_inside quote b (c ∷ bytes) _ e k)

last_by : (quote b : ℕ) (r : Bool) → eqb b quote ≡ r → IsQuoted quote (b ∷ []) (quoted_of quote (b ∷ []))
unfolding quoted_of
last_by quote b true e = simp e (ap (λ x. x ∷ []) (eqb-true b quote e), refl)
last_by quote b false e = simp e tt

-- what is read inside quotes stands there
pub quoted-stands : (quote : ℕ) (bytes : List ℕ) → IsQuoted quote bytes (quoted_of quote bytes)
unfolding quoted_of
quoted-stands quote [] = tt
quoted-stands quote (b ∷ []) = last_by quote b _ refl
quoted-stands quote (b ∷ c ∷ bytes) =
    quoted_by quote b c bytes _ _ refl refl (quoted-stands quote bytes) (quoted-stands quote (c ∷ bytes))

quoted_of-other : (quote b : ℕ) (bytes : List ℕ) → eqb b quote ≡ false
    → quoted_of quote (b ∷ bytes) ≡ onto b (quoted_of quote bytes)
unfolding quoted_of
quoted_of-other quote b [] e = rw e refl
quoted_of-other quote b (c ∷ bytes) e = rw e refl

quoted_of-quotes : (quote : ℕ) (bytes : List ℕ)
    → quoted_of quote (quote ∷ quote ∷ bytes) ≡ onto quote (quoted_of quote bytes)
unfolding quoted_of
quoted_of-quotes quote bytes = let same = eq-eqb quote quote refl in rw same refl

inside_by : (quote b : ℕ) (inside rest : List ℕ) (r : Bool) → eqb b quote ≡ r
    → quoted_of quote (doubled quote inside ++ quote ∷ rest) ≡ Some (inside, rest)
    → quoted_of quote (doubled quote (b ∷ inside) ++ quote ∷ rest) ≡ Some (b ∷ inside, rest)
inside_by quote b inside rest true e ih =
    rw e (quoted_of-quotes quote _ ∙ ap (onto quote) ih
    ∙ ap (λ (x : ℕ). Some (x ∷ inside, rest)) (sym (eqb-true b quote e)))
inside_by quote b inside rest false e ih = rw e (quoted_of-other quote b _ e ∙ ap (onto b) ih)

-- what stands inside quotes is read
pub quoted-read : (quote : ℕ) (inside rest : List ℕ) → begins_with (is_byte quote) rest ≡ false
    → quoted_of quote (doubled quote inside ++ quote ∷ rest) ≡ Some (inside, rest)
unfolding quoted_of
quoted-read quote [] [] h = let same = eq-eqb quote quote refl in rw same refl
quoted-read quote [] (c ∷ rest) h = let same = eq-eqb quote quote refl in rw (same, h) refl
quoted-read quote (b ∷ inside) rest h = inside_by quote b inside rest _ refl (quoted-read quote inside rest h)
