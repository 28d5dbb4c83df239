-- Lemmas on what stands inside quotes.
use Rattle.std.proofs.Common.{◌≡◌, ℕ, Bool, true, false, List, [], ◌∷◌, ◌++◌, Option, Some, None, refl, sym, ap, ◌∙◌}
use Rattle.std.proofs.Common.{append_assoc, append-nil, eqb}
use Rattle.wh_lex.specs.Front.{inside_behind, inside_first, onto, quoted_of}

-- ---- one byte after the other

-- what is inside so far before what is still to be read
abbrev pub grown : List ℕ → Option (List ℕ × List ℕ) → Option (List ℕ × List ℕ)
grown front None = None
grown front (Some p) = Some (front ++ p.0, p.1)

pub grown-nil : (p : Option (List ℕ × List ℕ)) → grown [] p ≡ p
grown-nil None = refl
grown-nil (Some p) = refl

grown-onto : (front : List ℕ) (b : ℕ) (p : Option (List ℕ × List ℕ))
    → grown front (onto b p) ≡ grown (front ++ b ∷ []) p
grown-onto front b None = refl
grown-onto front b (Some p) = ap (λ (l : List ℕ). Some (l, p.1)) (sym (append_assoc front (b ∷ []) p.0))

-- what is inside behind its first byte, if there is one
abbrev at_first : ℕ → Option ℕ → List ℕ → Option (List ℕ × List ℕ)
at_first quote None rest = Some ([], rest)
at_first quote (Some b) rest = onto b (quoted_of quote rest)

abbrev by_first : ℕ → Option (Option ℕ × List ℕ) → Option (List ℕ × List ℕ)
by_first quote None = None
by_first quote (Some p) = at_first quote p.0 p.1

second_by : (quote b c : ℕ) (bytes : List ℕ) (r s : Bool) → eqb b quote ≡ r → eqb quote c ≡ s
    → by_first quote (inside_behind quote b (c ∷ bytes)) ≡ quoted_of quote (b ∷ c ∷ bytes)
unfolding quoted_of
second_by quote b c bytes true true e f = rw (e, f) refl
second_by quote b c bytes true false e f = rw (e, f) refl
second_by quote b c bytes false s e f = rw e refl

first_by : (quote b : ℕ) (r : Bool) → eqb b quote ≡ r
    → by_first quote (inside_behind quote b []) ≡ quoted_of quote (b ∷ [])
unfolding quoted_of
first_by quote b true e = rw e refl
first_by quote b false e = rw e refl

quoted_of-first : (quote : ℕ) (bytes : List ℕ) → by_first quote (inside_first quote bytes) ≡ quoted_of quote bytes
unfolding quoted_of
quoted_of-first quote [] = refl
quoted_of-first quote (b ∷ []) = first_by quote b _ refl
quoted_of-first quote (b ∷ c ∷ bytes) = second_by quote b c bytes _ _ refl refl

-- ---- the turns of the loop: behind what is inside so far the rest is left

pub quoted-open : (quote : ℕ) (inside rest bytes : List ℕ) → grown inside (quoted_of quote rest) ≡ quoted_of quote bytes
    → None ≡ inside_first quote rest → quoted_of quote bytes ≡ None
quoted-open quote inside rest bytes left e = sym left
    ∙ ap (grown inside) (sym (quoted_of-first quote rest) ∙ ap (by_first quote) (sym e))

pub quoted-end : (quote : ℕ) (inside rest bytes after : List ℕ)
    → grown inside (quoted_of quote rest) ≡ quoted_of quote bytes → Some (None, after) ≡ inside_first quote rest
    → quoted_of quote bytes ≡ Some (inside, after)
quoted-end quote inside rest bytes after left e =
    sym left ∙ ap (grown inside) (sym (quoted_of-first quote rest) ∙ ap (by_first quote) (sym e))
    ∙ ap (λ (l : List ℕ). Some (l, after)) (append-nil inside)

pub quoted-more : (quote b : ℕ) (inside rest bytes after made : List ℕ)
    → grown inside (quoted_of quote rest) ≡ quoted_of quote bytes → Some (Some b, after) ≡ inside_first quote rest
    → made ≡ inside ++ b ∷ []
    → grown made (quoted_of quote after) ≡ quoted_of quote bytes
quoted-more quote b inside rest bytes after made left e more =
    ap (λ l. grown l (quoted_of quote after)) more ∙ sym (grown-onto inside b (quoted_of quote after))
    ∙ ap (grown inside) (ap (by_first quote) e ∙ quoted_of-first quote rest) ∙ left
