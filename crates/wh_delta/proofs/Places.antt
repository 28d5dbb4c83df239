-- A partition sought by its number.
--     has_there     one that stands at a place has the number
--     has_none      none has it
--     place_told    so a place is found exactly where it stands
--     only_more, only_less, seen_next     the walk: a partition whose number no other one has, and one whose number
--                                         another has
use Rattle.std.specs.Prelude.{◌≡◌, ℕ, zero, suc, ◌+◌, ◌<◌, Bool, true, false, not, ◌||◌, cond, List, [], ◌∷◌, ◌++◌}
use Rattle.std.specs.Prelude.{length, take, Option, Some, None, is_some, OnSome}
use Rattle.std.proofs.Common.{arith, refl, sym, ap, ◌∙◌, get_or, append-nil}
use Rattle.std.proofs.lemmas.Bool.{eq-eqb}
use Rattle.std.proofs.lemmas.List.{take_more, map-append}
use Rattle.wh_filed.specs.Filed.{Filed, filed_at}
use denote.Ref.{Bor}
use Rattle.wh_maintenance.specs.Parts.{has}
use Rattle.wh_delta.specs.Moved.{same_number, only_in}

or_true : (a b : Bool) → b ≡ true → a || b ≡ true
or_true true b e = refl
or_true false b e = e

pub has_there : (fs : List (Bor Filed)) (f : Filed) (i : ℕ) (g : Bor Filed) → i < length fs → g ≡ get_or fs i g
    → same_number f g.now ≡ true → has same_number (filed_at fs) f ≡ true
has_there [] f i g within at e = absurd (omega arith)
has_there (x ∷ xs) f zero g within at e =
    ap (λ y. same_number f y.now || has same_number (filed_at xs) f) (sym at)
    ∙ ap (λ t. t || has same_number (filed_at xs) f) e
has_there (x ∷ xs) f (suc i) g within at e =
    or_true (same_number f x.now) (has same_number (filed_at xs) f) (has_there xs f i g (omega arith) at e)

pub both_false : (a b : Bool) → a ≡ false → b ≡ false → a || b ≡ false
both_false true b e f = e
both_false false b e f = f

abbrev pub NoneBelow : Filed → List (Bor Filed) → ℕ → Type 0
NoneBelow f fs n = (k : ℕ) (d : Bor Filed) → k < n → same_number f (get_or fs k d).now ≡ false

pub has_none : (fs : List (Bor Filed)) (f : Filed) → NoneBelow f fs (length fs)
    → has same_number (filed_at fs) f ≡ false
has_none [] f none = refl
has_none (x ∷ xs) f none = both_false (same_number f x.now) (has same_number (filed_at xs) f)
    (none zero x (omega arith)) (has_none xs f (λ k d below. none (suc k) d (omega arith)))

pub same_numbers : (f g : Filed) (n m : ℕ) → n ≡ f.partition.number → m ≡ g.partition.number → n ≡ m
    → same_number f g ≡ true
same_numbers f g n m f_is g_is e = eq-eqb f.partition.number g.partition.number (sym f_is ∙ e ∙ g_is)

pub place_told : (r : Option ℕ) (h : Bool) → OnSome r (h ≡ true) → (r ≡ None → h ≡ false) → is_some r ≡ h
place_told None h a b = sym (b refl)
place_told (Some place) h a b = sym a

-- ---- the walk over a list

only_push : (fs gs : List Filed) (f : Filed) (t : Bool) → has same_number gs f ≡ t
    → only_in (fs ++ f ∷ []) gs ≡ only_in fs gs ++ cond t [] (f ∷ [])
only_push [] gs f t is = ap (λ s. cond (not s) (f ∷ []) []) is
    ∙ elim t as (λ (s : Bool). ◌≡◌ {A = List Filed} (cond (not s) (f ∷ []) []) (cond s [] (f ∷ []))) [
      | true ↦ refl
      | false ↦ refl
    ]
only_push (x ∷ xs) gs f t is =
    ap (λ rest. cond (not (has same_number gs x)) (x ∷ rest) rest) (only_push xs gs f t is)
    ∙ elim (not (has same_number gs x)) as (λ (s : Bool). cond s (x ∷ only_in xs gs ++ cond t [] (f ∷ []))
    (only_in xs gs ++ cond t [] (f ∷ [])) ≡ cond s (x ∷ only_in xs gs) (only_in xs gs) ++ cond t [] (f ∷ [])) [
      | true ↦ refl
      | false ↦ refl
    ]

pub only_more : (seen gs : List Filed) (found found' : List (Bor Filed)) (f : Bor Filed)
    → filed_at found ≡ only_in seen gs → has same_number gs f.now ≡ false → found' ≡ found ++ f ∷ []
    → filed_at found' ≡ only_in (seen ++ f.now ∷ []) gs
only_more seen gs found found' f so none put =
    ap filed_at put ∙ map-append (λ (g : Bor Filed). g.now) found (f ∷ [])
    ∙ ap (λ fs. fs ++ f.now ∷ []) so ∙ sym (only_push seen gs f.now false none)

pub only_less : (seen gs : List Filed) (found : List (Bor Filed)) (f : Bor Filed)
    → filed_at found ≡ only_in seen gs → has same_number gs f.now ≡ true
    → filed_at found ≡ only_in (seen ++ f.now ∷ []) gs
only_less seen gs found f so has = so ∙ sym (append-nil (only_in seen gs)) ∙ sym (only_push seen gs f.now true has)

pub seen_next : (fs : List (Bor Filed)) (i : ℕ) (f : Bor Filed) → i < length fs → f ≡ get_or fs i f
    → filed_at (take i fs) ++ f.now ∷ [] ≡ filed_at (take (i + 1) fs)
seen_next fs i f within at =
    sym (ap filed_at (take_more fs i f within ∙ ap (λ g. take i fs ++ g ∷ []) (sym at))
    ∙ map-append (λ (g : Bor Filed). g.now) (take i fs) (f ∷ []))
