-- An area behind one byte, by the definition of a script and by an `Area`.
use Rattle.std.proofs.Common.{◌≡◌, ℕ, Bool, true, false, ◌||◌, ◌==◌, List, ◌∷◌, if◌then◌else◌, refl, sym, ap, ◌∙◌}
use Rattle.std.proofs.Common.{eq-eqb, eqb-true, arith}
use Rattle.wh_grammar.specs.Script as scripts
use Rattle.wh_grammar.specs.Script.{area_behind, ends_command}
use Rattle.wh_text.specs.Area.{area_of, behind_plain, behind_comment, behind, ends}
use Rattle.wh_text.specs.declared.area.Area.{Area}
use Rattle.wh_text.specs.declared.area.Area.TheVariants.{Plain, Minus, Slash, Between, LineComment, Comment, Star}

swapped_step : (a b : ℕ) (v w : Bool) → (b == a) ≡ v → (a == b) ≡ w → w ≡ v
swapped_step a b true true e f = refl
swapped_step a b false false e f = refl
swapped_step a b true false e f =
    let other : (a == b) ≡ true = eq-eqb a b (sym (eqb-true b a e)) in absurd (cc)
swapped_step a b false true e f =
    let other : (b == a) ≡ true = eq-eqb b a (sym (eqb-true a b f)) in absurd (cc)

-- the definition has the two sides of a test the other way round
pub swapped : (a b : ℕ) (v : Bool) → (b == a) ≡ v → (a == b) ≡ v
swapped a b v e = swapped_step a b v (a == b) e refl

pub otherwise : {A : Type 0} (v : Bool) (x y : A) → v ≡ false → (if v then x else y) ≡ y
otherwise v x y e = rw e refl

plain_cases : (b : ℕ) (bytes : List ℕ) (q m s : Bool) → (b == 39 || b == 34) ≡ q → (b == 45) ≡ m → (b == 47) ≡ s
    → area_behind scripts.Plain b bytes ≡ area_of (behind_plain b) bytes
unfolding area_behind
plain_cases b bytes true m s eq em es = rw eq refl
plain_cases b bytes false true true eq em es = absurd (omega (arith, eqb-true b 45 em, eqb-true b 47 es))
plain_cases b bytes false true false eq em es = rw (eq, em, es) refl
plain_cases b bytes false false true eq em es = rw (eq, em, es) refl
plain_cases b bytes false false false eq em es = rw (eq, em, es) refl

pub plain_step : (b : ℕ) (bytes : List ℕ) → area_behind scripts.Plain b bytes ≡ area_of (behind_plain b) bytes
plain_step b bytes = plain_cases b bytes (b == 39 || b == 34) (b == 45) (b == 47) refl refl refl

comment_cases : (b : ℕ) (bytes : List ℕ) (v : Bool) → (b == 42) ≡ v
    → area_behind scripts.Comment b bytes ≡ area_of (behind_comment b) bytes
unfolding area_behind
comment_cases b bytes true e = rw e refl
comment_cases b bytes false e = rw e refl

pub comment_step : (b : ℕ) (bytes : List ℕ) → area_behind scripts.Comment b bytes ≡ area_of (behind_comment b) bytes
comment_step b bytes = comment_cases b bytes (b == 42) refl

minus_cases : (b : ℕ) (bytes : List ℕ) (v : Bool) → (b == 45) ≡ v
    → area_behind (area_of Minus (b ∷ bytes)) b bytes ≡ area_of (behind Minus b) bytes
unfolding area_behind
minus_cases b bytes true e = rw (eqb-true b 45 e) refl
minus_cases b bytes false e =
    ap (λ area. area_behind area b bytes) (otherwise (45 == b) scripts.LineComment scripts.Plain (swapped 45 b false e))
    ∙ plain_step b bytes
    ∙ ap (λ area. area_of area bytes) (sym (otherwise (b == 45) LineComment (behind_plain b) e))

slash_cases : (b : ℕ) (bytes : List ℕ) (v : Bool) → (b == 42) ≡ v
    → area_behind (area_of Slash (b ∷ bytes)) b bytes ≡ area_of (behind Slash b) bytes
unfolding area_behind
slash_cases b bytes true e = rw (eqb-true b 42 e) refl
slash_cases b bytes false e = rw (swapped 42 b false e, e) (plain_step b bytes)

star_cases : (b : ℕ) (bytes : List ℕ) (v : Bool) → (b == 47) ≡ v
    → area_behind (area_of Star (b ∷ bytes)) b bytes ≡ area_of (behind Star b) bytes
unfolding area_behind
star_cases b bytes true e = rw (eqb-true b 47 e) refl
star_cases b bytes false e = rw (swapped 47 b false e, e) (comment_step b bytes)

between_cases : (quote b : ℕ) (bytes : List ℕ) (v : Bool) → (b == quote) ≡ v
    → area_behind (scripts.Between quote) b bytes ≡ area_of (behind (Between quote) b) bytes
unfolding area_behind
between_cases quote b bytes true e = rw e refl
between_cases quote b bytes false e = rw e refl

line_cases : (b : ℕ) (bytes : List ℕ) (v : Bool) → (b == 10) ≡ v
    → area_behind scripts.LineComment b bytes ≡ area_of (behind LineComment b) bytes
unfolding area_behind
line_cases b bytes true e = rw e refl
line_cases b bytes false e = rw e refl

-- the byte behind stands where the code says
pub area_step : (area : Area) (b : ℕ) (bytes : List ℕ)
    → area_behind (area_of area (b ∷ bytes)) b bytes ≡ area_of (behind area b) bytes
area_step Plain b bytes = plain_step b bytes
area_step Minus b bytes = minus_cases b bytes (b == 45) refl
area_step Slash b bytes = slash_cases b bytes (b == 42) refl
area_step (Between quote) b bytes = between_cases quote b bytes (b == quote) refl
area_step LineComment b bytes = line_cases b bytes (b == 10) refl
area_step Comment b bytes = comment_step b bytes
area_step Star b bytes = star_cases b bytes (b == 47) refl

minus_ends : (b : ℕ) (bytes : List ℕ) (v : Bool) → (b == 45) ≡ v
    → ends_command (area_of Minus (b ∷ bytes)) b ≡ (b == 59)
minus_ends b bytes true e = rw (eqb-true b 45 e) refl
minus_ends b bytes false e = rw (swapped 45 b false e) refl

slash_ends : (b : ℕ) (bytes : List ℕ) (v : Bool) → (b == 42) ≡ v
    → ends_command (area_of Slash (b ∷ bytes)) b ≡ (b == 59)
slash_ends b bytes true e = rw (eqb-true b 42 e) refl
slash_ends b bytes false e = rw (swapped 42 b false e) refl

star_ends : (b : ℕ) (bytes : List ℕ) (v : Bool) → (47 == b) ≡ v → ends_command (area_of Star (b ∷ bytes)) b ≡ false
star_ends b bytes true e = rw e refl
star_ends b bytes false e = rw e refl

-- and it ends the command where the code says
pub ends_same : (area : Area) (b : ℕ) (bytes : List ℕ) → ends_command (area_of area (b ∷ bytes)) b ≡ ends area b
ends_same Plain b bytes = refl
ends_same Minus b bytes = minus_ends b bytes (b == 45) refl
ends_same Slash b bytes = slash_ends b bytes (b == 42) refl
ends_same (Between quote) b bytes = refl
ends_same LineComment b bytes = refl
ends_same Comment b bytes = refl
ends_same Star b bytes = star_ends b bytes (47 == b) refl
